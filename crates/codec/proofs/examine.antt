-- What the tests of a field use alone.
mod Cells
mod Reach
mod Data
mod Corrected
mod Padding
