-- A buffer whose bytes are stored one by one from the front.
use Prim.Native.Nat.{ℕ, ◌+◌, ◌<◌}
use mathlib.Core.List.{List, ◌++◌, append-nil}
use mathlib.Core.Path.{◌≡◌, ap, ◌∙◌}
use native.Mathlib.Nat.{le_refl}
use lib.ListN.{length, set, drop, length-set, drop_of_length-le}
use Rattle.codec.specs.Field.{Field, list_of}
use Rattle.codec.proofs.theory.FilledLists.{filled_more}

-- the first n bytes of ys are f's, and those behind are as in xs
pub record StoredTo (f : Field) (xs ys : List ℕ) (n : ℕ) : Type 0 where
  pub bytes : ys ≡ list_of f n ++ drop n xs
  pub long : length ys ≡ length xs

module _ (f : Field) (xs : List ℕ) where
  module _ (ys : List ℕ) (n : ℕ) (p : StoredTo f xs ys n) where
    pub stored_more : (v : ℕ) → n < length xs → v ≡ f n → StoredTo f xs (set ys n v) (n + 1)
    stored_more v l e = record { bytes = filled_more f xs n v ys l e p.bytes; long = length-set ys n v ∙ p.long }

    pub stored_all : n ≡ length xs → ys ≡ list_of f (length xs)
    stored_all same =
        p.bytes
        ∙ ap (λ (k : ℕ). list_of f k ++ drop k xs) same
        ∙ ap (λ (t : List ℕ). list_of f (length xs) ++ t) (drop_of_length-le xs {i = length xs} (le_refl (length xs)))
        ∙ append-nil (list_of f (length xs))
