-- The syndrome of a layout with one class alone, where the position of cell i is i + 1.
use Prim.Native.Nat.{ℕ, ◌+◌, ◌*◌, ◌<◌, ◌≤◌}
use mathlib.Core.Bool.{Bool, true, cond, ◌&&◌}
use mathlib.Core.List.{List}
use mathlib.Core.Path.{◌≡◌, sym, ap, ap₂, ◌∙◌}
use native.Mathlib.Decide.{ℕ_discrete}
use native.Mathlib.Omega.{arith}
use lib.Bits.{bit_xor}
use lib.Dec.{eqb}
use lib.ListN.{length, get_or, set}
use lib.Seq.{get_or-set_same, get_or-set_other}
use borrow.Author.Tests.{eq-eqb}
use Rattle.lattice.specs.Shape.{max_classes}
use Rattle.lattice.specs.Position.{Layout, size_to, position}
use Rattle.lattice.proofs.theory.Counting.{count_all}
use Rattle.codec.specs.Field.{Field}
use Rattle.codec.specs.Hamming.{tags_of, syndrome_to}
use Rattle.lattice.specs.Sizes.{HoldsZeros}
use Rattle.codec.specs.Working.{HoldsSyndromes}
use Rattle.codec.proofs.syndromes.LineTaken.{chosen}
use Rattle.codec.proofs.theory.Syndrome.{syndrome_step, syndrome_empty}
use Rattle.codec.proofs.theory.Tags.{tag_position}

-- the first n cells are of class 0
abbrev pub Alone : Layout → ℕ → Type 0
Alone L n = (i : ℕ) → i < n → L.class i ≡ 0

module _ (L : Layout) (n : ℕ) (alone : Alone L n) where
  one_position : (i : ℕ) → i < n → position L i ≡ i + 1
  unfolding position size_to
  one_position i l =
      ap (λ (a : ℕ). size_to L a i + 1) (alone i l)
      ∙ ap (λ (k : ℕ). k + 1) (count_all (λ j. eqb (L.class j) 0) i (λ j m. eq-eqb (L.class j) 0 (alone j (omega arith))))

  -- one cell more
  pub one_more : (f : Field) (i s v : ℕ) → i < n → s ≡ syndrome_to L (tags_of L) f 0 i → v ≡ (i + 1) * f i → f i ≤ 1
      → bit_xor s v ≡ syndrome_to L (tags_of L) f 0 (i + 1)
  one_more f i s v l p q most =
      ap₂ bit_xor p
      (q
      ∙ chosen true (f i) (i + 1) most
      ∙ ap (λ (p : ℕ). cond (eqb (f i) 1) p 0) (sym (tag_position L i ∙ one_position i l))
      ∙ ap (λ (b : Bool). cond (b && eqb (f i) 1) (tags_of L i) 0) (sym (eq-eqb (L.class i) 0 (alone i l))))
      ∙ sym (syndrome_step L (tags_of L) f 0 i)

  -- all cells
  pub one_all : (f : Field) (l : List ℕ) (s : ℕ) → HoldsZeros l → 0 < length l → s ≡ syndrome_to L (tags_of L) f 0 n
      → HoldsSyndromes L f (set l 0 s) n
  one_all f l s zeros some e = record { at = λ a h. go a h (ℕ_discrete a 0) }
    where
      go : (a : ℕ) → a < max_classes → Dec (a ≡ 0) → get_or (set l 0 s) a 0 ≡ syndrome_to L (tags_of L) f a n
      go a h (yes z) =
          ap (λ (k : ℕ). get_or (set l 0 s) k 0) z
          ∙ get_or-set_same l 0 s 0 some
          ∙ e
          ∙ ap (λ (k : ℕ). syndrome_to L (tags_of L) f k n) (sym z)
      go a h (no z) =
          get_or-set_other l 0 a s 0 z
          ∙ zeros.at a h
          ∙ sym (syndrome_empty L (tags_of L) f a n (λ i k c o. z (sym c ∙ alone i k)))
