-- What the methods of `Shape` use alone.
mod ClassNumber
