-- What restoring a level uses alone.
mod Restores
