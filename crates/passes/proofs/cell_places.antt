-- What the search for the cell of a class with a given position uses alone.
mod LineCells
mod Search
mod Given
