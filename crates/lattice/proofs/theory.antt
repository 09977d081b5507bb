-- Laws about the definitions, for any reader of them.

-- numbers, lists and tests
pub mod Bools
pub mod Counting
pub mod Remainder
pub mod Integers
pub mod Words
pub mod Widths
pub mod Stores
pub mod Tables
pub mod Sorted
pub mod Distinct
pub mod Tabulated
pub mod Pigeonhole
-- refusals and answers
pub mod Due
pub mod Answers
pub mod Limits
pub mod RefusalTests
pub mod NewShapes
-- cells, clusters and labels
pub mod InField
pub mod ByteNumbers
pub mod Distances
pub mod Paths
pub mod ClusterPaths
pub mod Sphere
pub mod LabelsMany
pub mod Tiles
-- settings and classes
pub mod SettingsLaws
pub mod Placements
pub mod ClassAt
pub mod ClassBelow
mod Residue
pub mod ClassRemainder
pub mod Points
mod FlatLattice
pub mod FlatPlane
pub mod FlatPair
pub mod StackTable
pub mod WindowCells
-- positions, checks and the capacity
pub mod Positions
pub mod Sizes
pub mod PlaceBack
pub mod Powers
pub mod BitLength
pub mod PowerTest
pub mod CapacityByClass
pub mod CapacityGiven
pub mod UsedClasses
pub mod DigitsGiven
pub mod Runs
-- the distance test
pub mod Scan
pub mod ScanLoops
pub mod ScanMeaning
pub mod ScanOrder
mod Blocks
mod OrderMembers
pub mod OrderParts
pub mod TripleCount
pub mod PointTriples
pub mod TestAnswer
-- lines
pub mod Among
pub mod Starts
pub mod NextLine
pub mod LineSizes
pub mod Slices
pub mod LineCounts
mod Heads
pub mod SizesByLines
pub mod PositionLists
pub mod PositionParts
pub mod AtLine
pub mod PassRoom
