-- What was cut: no part of a card text is a card text, and no part of an answer is an answer.
use Rattle.std.specs.Prelude.{List, [], ◌++◌, ◌≢◌, ◌⊎◌, ◌≡◌, ℕ}
use Rattle.card.specs.Form.{CardText}
use Rattle.card.specs.Program.{program_number, answer}

-- Theorem. A card text whose end was cut off is no card text, and is refused: a file or a pipe that was cut, or a read that
-- failed, cannot pass for a card. The number is 8, or 2 where strength 0 is left without the lines of its window. And an answer
-- whose end was cut off is no answer.
pub record CutIsRefused : Type 0 where
  pub card : (s cut : List ℕ) → cut ≢ [] → CardText (s ++ cut) → ¬ CardText s
  pub refused : (s cut : List ℕ) → cut ≢ [] → (whole : CardText (s ++ cut))
      → (program_number s ≡ 8) ⊎ ((whole.first.header.strength ≡ 0) × (program_number s ≡ 2))
  pub answers : (s t cut : List ℕ) → answer t ≡ answer s ++ cut → cut ≡ []
