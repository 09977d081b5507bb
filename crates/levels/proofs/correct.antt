-- What correcting uses alone.
mod StoredCells
