-- The statements of the theorems. Each has one proof, a term of exactly this type, in proofs/theorems.
pub mod Numbering
pub mod Clusters
pub mod Refused
pub mod Classes
pub mod Distance
pub mod Labels
pub mod Windows
pub mod Used
pub mod Capacity
pub mod Order
pub mod Testing
pub mod Examples
