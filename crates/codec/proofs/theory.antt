-- Laws about the definitions, for any reader of them.

-- numbers, lists and tests
pub mod Counted
pub mod Xor
pub mod BinaryDigits
pub mod AllBelow
pub mod OneByOne
pub mod WorkArrays
-- fields and the buffers that hold them
pub mod CellValues
pub mod FieldLists
pub mod FilledLists
mod PassingCells
pub mod Differences
-- the code in a class
pub mod Syndrome
mod Pairs
pub mod ErasedCells
pub mod KeptCell
mod FilledClass
pub mod Tags
pub mod PowerPositions
mod CheckBits
mod CompletedField
pub mod Correction
pub mod NearestField
mod Reach
pub mod Damage
pub mod ErasedSelection
pub mod NamedCells
mod LocatedClass
mod LocatedErasures
-- any code for a class, and the code in use
pub mod BinaryWords
mod Balls
pub mod HammingBound
pub mod ClassCodewords
-- payload, padding and checks
pub mod ByteBits
pub mod PayloadByte
pub mod PayloadBits
pub mod Ranks
pub mod PaddingCells
pub mod PaddingCount
mod HeldByte
pub mod HeldPayload
pub mod EncodedField
pub mod WrittenFields
pub mod FlippedBits
pub mod Gathered
-- the operations
pub mod Accepted
pub mod ClusterCells
pub mod PlanRefusal
pub mod FieldTests
pub mod FieldNumber
pub mod OperationNumbers
mod FieldMeaning
pub mod ReadFields
pub mod RecoveredField
pub mod CorrectedField
pub mod LocatedCells
