-- What the crate `varmintfoil` promises: the structs that C is given.
pub mod Boundary
-- theorems
pub mod theorems
