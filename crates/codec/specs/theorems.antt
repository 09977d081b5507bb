-- The statements of the theorems. Each has one proof, a term of exactly this type, in proofs/theorems.
pub mod Values
pub mod Refused
pub mod Plan
pub mod Payload
pub mod Writing
pub mod Reading
pub mod Recovery
pub mod Erasures
pub mod Windows
pub mod Undamaged
pub mod Told
pub mod Bound
pub mod Examples
pub mod Worked
