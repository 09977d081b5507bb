-- Examples that meet the hypotheses of the theorems.
pub mod ThreeCells
pub mod Placing
pub mod Stack
pub mod Windows
mod Testing
