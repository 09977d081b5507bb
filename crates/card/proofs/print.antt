-- What printing uses alone.
mod Text
mod Hex
mod Lines
