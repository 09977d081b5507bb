-- What the tests of a field use alone.
mod Tests
