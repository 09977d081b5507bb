-- The terms of the theorems: a file for each file of specs/theorems, of the same name.
mod Refused
pub mod Parsing
mod Cut
pub mod Outputs
pub mod RoundTrip
mod Examples
mod Worked
