-- The syndromes of all classes of an accepted shape, slice by slice.
use Prim.Native.Nat.{ℕ, ◌+◌, ◌-◌, ◌*◌, ◌<◌, ◌≤◌}
use mathlib.Core.List.{List}
use mathlib.Core.Logic.{◌⊎◌, inl, inr}
use mathlib.Core.Path.{◌≡◌, sym, ap, ◌∙◌}
use native.Mathlib.Decide.{dec_lt}
use native.Mathlib.Nat.{mod-eq_of_lt}
use native.Mathlib.Omega.{arith}
use lib.ListN.{length, get_or}
use Rattle.lattice.specs.declared.line.Pass.{Pass}
use Rattle.lattice.specs.declared.shape.Shape.{Shape}
use Rattle.lattice.specs.Shape.{max_classes, Accepted, cells_of}
use Rattle.lattice.specs.Cell.{cell_at}
use Rattle.lattice.specs.Class.{class_at, layout_of}
use Rattle.lattice.specs.Lines.{table_of, pass_of}
use Rattle.lattice.proofs.theory.ClassBelow.{class_below}
use Rattle.lattice.proofs.theory.SizesByLines.{classes_are, slices_are, period_is, lines_are, most, all_slices, slice_room}
use Rattle.lattice.proofs.theory.Slices.{skipped_all}
use Rattle.codec.specs.Field.{Field}
use Rattle.codec.specs.Hamming.{tags_of, syndrome}
use Rattle.codec.specs.Lines.{folded, Taken, SliceTaken}
use Rattle.codec.specs.Working.{HoldsSyndromes}
use Rattle.codec.proofs.theory.Syndrome.{syndrome_empty}

-- the entries of each remainder, put together, are the syndromes of the slice
pub slice_folded : (pass : Pass) (j : ℕ) (f : Field) (t before after : List ℕ)
    → ((s : Shape) → Accepted s → pass ≡ pass_of s → Taken (layout_of s) pass.period (j * pass.period) f t (cells_of s))
    → ((a : ℕ) → a < pass.period → get_or after (j * pass.period + a) 0 ≡ folded pass.period a (length t) t)
    → ((a : ℕ) → (a < j * pass.period) ⊎ (j * pass.period + pass.period ≤ a) → get_or after a 0 ≡ get_or before a 0)
    → SliceTaken pass j f before after
unfolding Taken
slice_folded pass j f t before after taken own others =
    record { own = λ s ok same a p. own a p ∙ taken s ok same a p; others = others }

-- the classes of the slices before j have their syndromes, and the others 0
pub record SlicesTaken (s : Shape) (pass : Pass) (f : Field) (j : ℕ) (l : List ℕ) : Type 0 where
  pub own : (a : ℕ) → a < j * pass.period → get_or l a 0 ≡ syndrome (layout_of s) (tags_of (layout_of s)) f a
  pub none : (a : ℕ) → j * pass.period ≤ a → a < max_classes → get_or l a 0 ≡ 0

-- the classes of a slice lie in the array
pub slice_most : (s : Shape) → Accepted s → (pass : Pass) → pass ≡ pass_of s → (j : ℕ) → j < pass.slices
    → j * pass.period + pass.period ≤ max_classes
slice_most s ok pass same j slice = omega (arith, most s ok pass same, slice_room s ok pass same j slice)

module _ (s : Shape) (ok : Accepted s) (pass : Pass) (same : pass ≡ pass_of s) (f : Field) where
  module _ (j : ℕ) (l : List ℕ) (before : SlicesTaken s pass f j l) (slice : j < pass.slices) where
    pub slice_zeros : (a : ℕ) → a < pass.period → get_or l (j * pass.period + a) 0 ≡ 0
    slice_zeros a p = before.none (j * pass.period + a) (omega arith) (omega (arith, slice_most s ok pass same j slice))

    -- one slice more
    pub slices_more : (after : List ℕ) → SliceTaken pass j f l after → SlicesTaken s pass f (j + 1) after
    slices_more after taken =
        record {
          own = λ a p. go a p (dec_lt a (j * pass.period));
          none = λ a p high. taken.others a (inr (omega arith)) ∙ before.none a (omega arith) high;
        }
      where
        go : (a : ℕ) → a < (j + 1) * pass.period → Dec (a < j * pass.period)
            → get_or after a 0 ≡ syndrome (layout_of s) (tags_of (layout_of s)) f a
        go a p (yes low) = taken.others a (inl low) ∙ before.own a low
        go a p (no low) =
            let here : j * pass.period + (a - j * pass.period) ≡ a = omega arith in
            ap (λ (k : ℕ). get_or after k 0) (sym here)
            ∙ taken.own s ok same (a - j * pass.period) (omega arith)
            ∙ ap (syndrome (layout_of s) (tags_of (layout_of s)) f) here

    -- one with no line: none of its classes has a cell
    pub slices_past : pass.lines ≤ j → SlicesTaken s pass f (j + 1) l
    slices_past past = record { own = λ a p. go a p (dec_lt a (j * pass.period)); none = λ a p. before.none a (omega arith) }
      where
        m : pass.period ≡ (table_of s).m
        m = period_is s ok pass same

        empty : (a i : ℕ) → a < pass.period → i < cells_of s → class_at s i ≡ j * pass.period + a → ⊥
        empty a i p q c =
            let low : a < (table_of s).m = omega (arith, m) in
            skipped_all s ok j a (omega (arith, slices_are s ok pass same)) i (omega (arith, lines_are s ok pass same)) q
            (c ∙ omega (arith, mod-eq_of_lt low, ap (λ (n : ℕ). j * n) m))

        go : (a : ℕ) → a < (j + 1) * pass.period → Dec (a < j * pass.period)
            → get_or l a 0 ≡ syndrome (layout_of s) (tags_of (layout_of s)) f a
        go a p (yes low) = before.own a low
        go a p (no low) =
            before.none a (omega arith) (omega (arith, slice_most s ok pass same j slice))
            ∙ sym (syndrome_empty (layout_of s) (tags_of (layout_of s)) f a (cells_of s)
            (λ i q c _. empty (a - j * pass.period) i (omega arith) q (c ∙ omega arith)))

  -- all slices
  pub slices_all : (j : ℕ) (l : List ℕ) → j ≡ pass.slices → SlicesTaken s pass f j l
      → HoldsSyndromes (layout_of s) f l (cells_of s)
  slices_all j l all held = record { at = λ a high. go a high (dec_lt a (j * pass.period)) }
    where
      m : j * pass.period ≡ pass.classes
      m = ap (λ (n : ℕ). n * pass.period) all ∙ sym (all_slices s ok pass same)

      go : (a : ℕ) → a < max_classes → Dec (a < j * pass.period) → get_or l a 0 ≡ syndrome (layout_of s) (tags_of (layout_of s))
          f a
      go a high (yes p) = held.own a p
      go a high (no p) =
          held.none a (omega arith) high
          ∙ sym (syndrome_empty (layout_of s) (tags_of (layout_of s)) f a (cells_of s)
          (λ i q c _. omega (arith, c, m, classes_are s ok pass same, class_below s ok (cell_at s i))))
