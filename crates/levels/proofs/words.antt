-- What laying out the words uses alone.
mod Offsets
