-- What the working out of a fault uses alone.
mod Trials
