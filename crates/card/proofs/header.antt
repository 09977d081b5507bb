-- What reading and printing the header uses alone.
mod Parts
