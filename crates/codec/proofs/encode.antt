-- What encoding uses alone.
mod ChecksSet
mod FieldWritten
