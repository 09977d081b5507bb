-- What running the program uses alone.
mod Program
mod Card
