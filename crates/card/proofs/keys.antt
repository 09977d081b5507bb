-- What the table of keys uses alone.
mod ByIndex
