-- What flipping the damaged cells and counting the checks before a cell use alone.
mod FlippedCells
mod BitByBit
