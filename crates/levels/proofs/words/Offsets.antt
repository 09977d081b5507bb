-- The arrays of the words of a shape: the sizes of the classes, and the sums of the words before each.
use Prim.Native.Nat.{ℕ, ◌+◌, ◌*◌, ◌<◌, ◌≤◌}
use mathlib.Core.List.{List}
use mathlib.Core.Path.{◌≡◌, sym, ap, ◌∙◌}
use native.Mathlib.Decide.{ℕ_discrete}
use native.Mathlib.Nat.{lt_of_lt_of_le, le_of_lt}
use native.Mathlib.Omega.{arith}
use lib.ListN.{get_or}
use Rattle.lattice.specs.declared.shape.Shape.{Shape}
use Rattle.lattice.specs.Refusal.{figure}
use Rattle.lattice.specs.Shape.{max_cells, max_classes, shape_number, Accepted, cells_of}
use Rattle.lattice.specs.Class.{classes_of, layout_of}
use Rattle.lattice.specs.Counting.{sum_below}
use Rattle.lattice.specs.Sizes.{HoldsSizes, EntryStored}
use Rattle.lattice.specs.Digits.{words_in, words_below, digits_below, digits_of}
use Rattle.lattice.proofs.theory.Answers.{beside_zero}
use Rattle.lattice.proofs.theory.CapacityGiven.{sizes_own}
use Rattle.lattice.proofs.theory.Counting.{sum_same}
use Rattle.lattice.proofs.theory.Limits.{legal}
use Rattle.lattice.proofs.theory.Sizes.{sizes_most}
use Rattle.levels.specs.Working.{Laid}

-- the entries before a hold the sums before them, and a store at a gives it its own
pub offsets_more : (g : ℕ → ℕ) (a v : ℕ) (l after : List ℕ) → ((b : ℕ) → b < a → get_or l b 0 ≡ sum_below g b) → v ≡ sum_below g a
    → EntryStored l after a v → (b : ℕ) → b < a + 1 → get_or after b 0 ≡ sum_below g b
offsets_more g a v l after before e st b h = go (ℕ_discrete b a)
  where
    go : Dec (b ≡ a) → get_or after b 0 ≡ sum_below g b
    go (yes q) = ap (λ (k : ℕ). get_or after k 0) q ∙ st.own ∙ e ∙ ap (sum_below g) (sym q)
    go (no q) = st.others b q ∙ before b (omega (arith, h, q))

-- six times the words of a class are at most its cells
pub words_few : (n : ℕ) → words_in n * 6 ≤ n
unfolding words_in
words_few n = omega arith

module _ (s : Shape) (a : Accepted s) (sizes : List ℕ) (sized : HoldsSizes (layout_of s) sizes (cells_of s)) where
  pub sizes_small : (c : ℕ) → c < max_classes → get_or sizes c 0 ≤ max_cells
  sizes_small c l = omega (arith, sizes_most (layout_of s) sizes (cells_of s) c sized l, (legal s a).product)

  sums : (c : ℕ) → c ≤ classes_of s → sum_below (λ b. words_in (get_or sizes b 0)) c ≡ words_below (layout_of s) c
  unfolding words_below
  sums c l = sum_same _ _ c (λ b h. ap words_in (sizes_own s sizes a sized b (lt_of_lt_of_le h l)))

  module _ (m : ℕ) (given : m ≡ figure (shape_number s) (classes_of s)) where
    classes_own : m ≡ classes_of s
    classes_own = given ∙ beside_zero (shape_number s) (classes_of s) 0 a

    pub words_laid : (offsets : List ℕ)
        → ((c : ℕ) → c < m → get_or offsets c 0 ≡ sum_below (λ b. words_in (get_or sizes b 0)) c)
        → Laid s (record { sizes = sizes; offsets = offsets })
    words_laid offsets p =
        record {
          accepted = a;
          sized = sized;
          words = λ c l. p c (rw classes_own l) ∙ sums c (le_of_lt l);
        }

    pub digits_laid : (w : ℕ) → w ≡ sum_below (λ b. words_in (get_or sizes b 0)) m → 5 * w ≡ digits_of s
    unfolding digits_below
    digits_laid w e =
        ap (λ (x : ℕ). 5 * x)
        (e
        ∙ ap (sum_below (λ b. words_in (get_or sizes b 0))) classes_own
        ∙ sums (classes_of s) (omega arith))
