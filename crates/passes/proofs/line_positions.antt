-- What the lists of positions use alone.
mod NextPass
