-- What the lists of a pass by lines hold. Only contracts of functions that are private to the crate cite this file.
use Rattle.std.specs.Prelude.{ℕ, zero, suc, ◌+◌, ◌*◌, ◌%◌, ◌<◌, ◌≤◌, cond, List, ◌⊎◌, ◌≡◌, eqb, length, get_or}
use Rattle.std.specs.Int.Bits.{bit_xor}
use Rattle.lattice.specs.declared.line.Pass.{Pass}
use Rattle.lattice.specs.declared.shape.Shape.{Shape}
use Rattle.lattice.specs.Shape.{Accepted}
use Rattle.lattice.specs.Class.{layout_of}
use Rattle.lattice.specs.Position.{Layout}
use Rattle.lattice.specs.Lines.{pass_of}
use Rattle.codec.specs.Field.{Field}
use Rattle.codec.specs.Hamming.{tags_of, syndrome_to, syndrome}

-- the exclusive or of f over the numbers below n
abbrev pub xor_below : (ℕ → ℕ) → ℕ → ℕ
xor_below f zero = 0
xor_below f (suc n) = bit_xor (xor_below f n) (f n)

-- the exclusive or of the entries, up to `wide`, whose places have the remainder a
unfoldable pub folded : ℕ → ℕ → ℕ → List ℕ → ℕ
folded m a wide t = xor_below (λ y. cond (eqb (y % m) a) (get_or t y 0) 0) wide

-- the list holds, by places of the table of m classes, the syndromes of f over the first n cells of the m classes from `first` on
unfoldable pub Taken : Layout → ℕ → ℕ → Field → List ℕ → ℕ → Type 0
Taken L m first f t n = (a : ℕ) → a < m → folded m a (length t) t ≡ syndrome_to L (tags_of L) f (first + a) n

-- a line of w cells that begins at cell n is taken in: each product of position and cell, from the place `start` on
pub record LineTaken (f : Field) (start n w : ℕ) (e before after : List ℕ) : Type 0 where
  pub own : (x : ℕ) → x < w
      → get_or after (start + x) 0 ≡ bit_xor (get_or before (start + x) 0) (get_or e (start + x) 0 * f (n + x))
  pub below : (y : ℕ) → y < start → get_or after y 0 ≡ get_or before y 0
  pub above : (y : ℕ) → start + w ≤ y → get_or after y 0 ≡ get_or before y 0

-- the entries of the classes of slice j become their syndromes, and the others stay
pub record SliceTaken (pass : Pass) (j : ℕ) (f : Field) (before after : List ℕ) : Type 0 where
  pub own : (s : Shape) → Accepted s → pass ≡ pass_of s → (a : ℕ) → a < pass.period
      → get_or after (j * pass.period + a) 0 ≡ syndrome (layout_of s) (tags_of (layout_of s)) f (j * pass.period + a)
  pub others : (a : ℕ) → (a < j * pass.period) ⊎ (j * pass.period + pass.period ≤ a) → get_or after a 0 ≡ get_or before a 0
