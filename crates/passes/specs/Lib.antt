-- What passes over the cells keep. Only contracts of functions that are private to the crate cite this.
pub mod CheckList
