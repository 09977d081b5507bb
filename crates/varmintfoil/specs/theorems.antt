-- The statements of the theorems. Each has one proof, a term of exactly this type, in proofs/theorems.
pub mod Results
pub mod Verdict
