-- The statements of the theorems. Each has one proof, a term of exactly this type, in proofs/theorems.
pub mod Refused
pub mod Parsing
pub mod Cut
pub mod Outputs
pub mod RoundTrip
pub mod Examples
pub mod Worked
