-- Laws about the definitions, for any reader of them.

-- sums and counts
pub mod SixCells
-- words and faults
pub mod WordCells
pub mod FaultLaws
pub mod Remainders
pub mod RestoredCells
pub mod WordReach
-- digits
pub mod DigitCells
pub mod HeldDigits
pub mod EncodedCells
-- the operations
pub mod LevelTests
pub mod LevelNumbers
pub mod WrittenLevels
-- work arrays
pub mod TourCells
pub mod PassCells
pub mod HeldRemainders
pub mod DigitRanks
