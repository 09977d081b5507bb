-- What filling the data cells uses alone.
mod Runs
mod Plane
mod Planes
