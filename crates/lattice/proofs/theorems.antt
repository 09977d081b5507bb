-- The terms of the theorems: a file for each file of specs/theorems, of the same name.
pub mod Numbering
pub mod Clusters
pub mod Refused
mod Classes
pub mod Distance
pub mod Labels
pub mod Windows
pub mod Used
pub mod Capacity
mod Order
mod Testing
mod Examples
