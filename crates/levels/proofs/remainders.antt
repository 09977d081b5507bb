-- What the remainders of the words use alone.
mod TakenLevels
