-- What reading a line uses alone.
mod Digits
