-- The proofs of the crate `levels`: for each module of src a room of its name, and beside these three rooms.

-- laws about the definitions, for any reader of them
pub mod theory
-- the terms of the theorems, a file for each file of specs/theorems, of the same name
pub mod theorems
-- examples that meet the hypotheses of the theorems
pub mod examples
