-- Examples that meet the hypotheses of the theorems.
pub mod Levels
