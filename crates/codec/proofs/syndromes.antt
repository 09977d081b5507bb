-- What taking the syndromes uses alone.
mod LineTaken
mod LinesTaken
mod SlicesTaken
mod OneClass
