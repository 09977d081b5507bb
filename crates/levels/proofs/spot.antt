-- What the spot of a cell uses alone.
mod HeldSpots
