-- What decoding uses alone.
mod StoredDigits
