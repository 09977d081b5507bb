-- The terms of the theorems: a file for each file of specs/theorems, of the same name.
pub mod Faults
pub mod Words
pub mod Refused
pub mod Writing
pub mod Reading
pub mod Recovery
pub mod Examples
