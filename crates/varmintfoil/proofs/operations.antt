-- What the operations use alone.
mod Refused
