-- Laws about the definitions, for any reader of them.

-- what stands at a position of a text
pub mod StandsAt
pub mod Found
pub mod Feeds
pub mod ByteTests
pub mod Digits
pub mod DecimalText
pub mod NumberText
pub mod LineText
pub mod LinesText
pub mod WindowText
pub mod HexText
pub mod PayloadText
pub mod CellDigits
pub mod RowText
pub mod RowsRead
pub mod FieldText
pub mod FirstByte
-- the header, and what follows it
pub mod HeaderText
pub mod HeaderRest
mod WindowLimits
pub mod CardLimits
mod BodyText
mod ParsedInput
mod CardRead
pub mod CutInput
-- the program
pub mod CardPlan
pub mod ProgramParts
mod RefusalConditions
pub mod ProgramTests
mod TakenInput
pub mod AnswerLength
pub mod Forms
pub mod PrintedRows
-- buffers that are filled
pub mod StoredFront
pub mod PayloadStored
pub mod RowsStored
pub mod Printed
pub mod Replies
pub mod Answered
