-- What the crate `codec` promises: the definitions that its contracts cite, and the statements of its theorems.

-- definitions
pub mod Field
pub mod Hamming
pub mod Erasure
pub mod Payload
pub mod Code
pub mod Plan
pub mod Encode
pub mod Decode
pub mod Correct
pub mod Answer
pub mod Reach
pub mod Conditions
pub mod Damage
pub mod Bound
-- theorems
pub mod theorems
-- what work arrays and buffers hold: only contracts of functions that are private to the crate cite these
pub mod Lines
pub mod Packing
pub mod Filling
pub mod Working
