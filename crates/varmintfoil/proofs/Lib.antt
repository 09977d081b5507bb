-- The proofs of the functions. Laws that the operations share stand in their room; the others are those of placing and coding.

-- the terms of the theorems, a file for each file of specs/theorems, of the same name
mod theorems
