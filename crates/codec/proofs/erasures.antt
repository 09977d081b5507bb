-- What locating the erased and damaged cells uses alone.
mod Listed
