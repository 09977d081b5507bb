-- Examples that meet the hypotheses of the theorems.
pub mod Coding
mod Stack
pub mod Erased
pub mod Windows
mod Codes
