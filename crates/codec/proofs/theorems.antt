-- The terms of the theorems: a file for each file of specs/theorems, of the same name.
mod Values
mod Refused
pub mod Plan
pub mod Payload
pub mod Writing
pub mod Reading
pub mod Recovery
pub mod Erasures
pub mod Windows
pub mod Undamaged
mod Told
pub mod Bound
mod Examples
pub mod Worked
