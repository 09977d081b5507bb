-- What the crate `levels` promises: the definitions that its contracts cite, and the statements of its theorems.

-- definitions
pub mod Level
pub mod Faults
pub mod Words
pub mod Restored
pub mod Payload
pub mod Encode
pub mod Decode
pub mod Correct
pub mod Answer
pub mod Reach
pub mod Conditions
pub mod Damage
-- theorems
pub mod theorems
-- what work arrays hold: only contracts of functions that are private to the crate cite this
pub mod Working
