-- What the list of the check cells uses alone.
mod Few
mod Listed
mod OneMore
mod FreeLine
mod Lines
