-- What encoding uses alone.
mod WrittenCells
