-- What correcting uses alone.
mod Cleared
