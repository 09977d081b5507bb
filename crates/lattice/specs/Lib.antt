-- What the crate `lattice` promises: the definitions that its contracts cite, and the statements of its theorems.

-- definitions
pub mod Refusal
pub mod Range
pub mod Counting
pub mod Distinct
pub mod Shape
pub mod Settings
pub mod Cell
pub mod Cluster
pub mod Labelling
pub mod Window
pub mod Position
pub mod Class
pub mod Check
pub mod Used
pub mod Digits
pub mod Endless
pub mod Order
pub mod DistanceTest
pub mod Answer
-- theorems
pub mod theorems
-- what passes over the cells keep: only contracts of their functions cite these
pub mod Sizes
pub mod Scanning
pub mod Lines
pub mod Listing
