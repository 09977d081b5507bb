-- What gathering the payload uses alone.
mod ListedChecks
mod LowestBits
