-- What scattering the payload uses alone.
mod Scattered
