-- The statements of the theorems. Each has one proof, a term of exactly this type, in proofs/theorems.
pub mod Faults
pub mod Words
pub mod Refused
pub mod Writing
pub mod Reading
pub mod Recovery
pub mod Examples
