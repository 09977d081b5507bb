-- What the crate `card` promises: the texts of cards and answers, how a card text is read, and the statements of its theorems.

-- definitions
pub mod Text
pub mod Card
pub mod Parse
pub mod Program
pub mod Form
-- theorems
pub mod theorems
-- what work buffers hold: only contracts of functions that are private to the crate cite this
pub mod Working
