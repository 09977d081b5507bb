-- What the spot of a cell of a tour uses alone.
mod SpotCells
