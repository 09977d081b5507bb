-- A pass over the lines of a slice of an accepted shape, with each line taken into the syndromes.
use Prim.Native.Nat.{ℕ, zero, suc, ◌+◌, ◌*◌, ◌%◌, ◌<◌, ◌≤◌, zero-le, min}
use mathlib.Core.List.{List}
use mathlib.Core.Logic.{◌≢◌, ⊎_elim}
use mathlib.Core.Path.{◌≡◌, sym, ap, ◌∙◌}
use native.Mathlib.Decide.{dec_lt}
use native.Mathlib.Nat.{add-mod_right, mod-eq_of_lt, mul-le-mul, le_refl, eq-or-lt_of_le, le_of_suc-le-suc}
use native.Mathlib.Numerals.{add-one}
use native.Mathlib.Omega.{arith}
use lib.ListN.{length, get_or, take, replicate, length-take, length-replicate, get_or-eq_default}
use lib.Seq.{get_or-take}
use Rattle.lattice.specs.declared.line.Line.{Line}
use Rattle.lattice.specs.declared.line.Pass.{Pass}
use Rattle.lattice.specs.declared.shape.Shape.{Shape}
use Rattle.lattice.specs.Shape.{max_cells, Accepted, cells_of}
use Rattle.lattice.specs.Cell.{cell_at}
use Rattle.lattice.specs.Class.{class_at, layout_of}
use Rattle.lattice.specs.Position.{Layout}
use Rattle.lattice.specs.Lines.{table_of, slices_of, offset_of, pass_of, Room, AtLine}
use Rattle.lattice.proofs.theory.AtLine.{line_room, at_room}
use Rattle.lattice.proofs.theory.ClassBelow.{class_below}
use Rattle.lattice.proofs.theory.Limits.{legal}
use Rattle.lattice.proofs.theory.LineCounts.{zeros_at}
use Rattle.lattice.proofs.theory.Placements.{slices_some}
use Rattle.lattice.proofs.theory.SizesByLines.{classes_are, slices_are, period_is, columns_are, lines_are, cells_are, period_most}
use Rattle.lattice.proofs.theory.Slices.{skipped, skipped_last, skipped_first}
use Rattle.codec.specs.Field.{Field, Cells}
use Rattle.codec.specs.Hamming.{Tags, tags_of, syndrome_to}
use Rattle.codec.specs.Lines.{Taken, LineTaken}
use Rattle.codec.proofs.theory.CellValues.{cell_most}
use Rattle.codec.proofs.syndromes.LineTaken.{line_taken, taken_none}
use Rattle.codec.proofs.theory.Syndrome.{syndrome_other}

-- the front of an array of zeros
module _ (n N : ℕ) where
  pub front_length : n ≤ N → n ≡ length (take {A = ℕ} n (replicate N 0))
  front_length l = sym (length-take n (replicate {A = ℕ} N 0) ∙ ap (min n) (length-replicate {A = ℕ} N 0) ∙ omega arith)

  pub front_zeros : (y : ℕ) → ◌≡◌ {A = ℕ} (get_or (take n (replicate N 0)) y 0) 0
  front_zeros y = go (dec_lt y n)
    where
      go : Dec (y < n) → ◌≡◌ {A = ℕ} (get_or (take n (replicate N 0)) y 0) 0
      go (yes l) = get_or-take n (replicate N 0) y 0 l ∙ zeros_at N y
      go (no l) =
          get_or-eq_default (take n (replicate N 0)) 0 (omega (arith, length-take n (replicate {A = ℕ} N 0)))

-- where none of the cells from n to k − 1 is of a class, its syndrome stays
syndrome_still : (L : Layout) (tag : Tags) (f : Field) (a n k : ℕ) → n ≤ k → ((i : ℕ) → n ≤ i → i < k → L.class i ≢ a)
    → syndrome_to L tag f a k ≡ syndrome_to L tag f a n
syndrome_still L tag f a n zero l none = let least : 0 ≡ n = omega arith in ap (syndrome_to L tag f a) least
syndrome_still L tag f a n (suc k) l none =
    ⊎_elim
    (λ (e : n ≡ suc k). ap (syndrome_to L tag f a) (sym e))
    (λ (p : n < suc k).
    ap (syndrome_to L tag f a) (sym (add-one k))
    ∙ syndrome_other L tag f a k (λ c. absurd (none k (le_of_suc-le-suc p) (le_refl _) c))
    ∙ syndrome_still L tag f a n k (le_of_suc-le-suc p) (λ i low high. none i low (omega arith)))
    (eq-or-lt_of_le l)

-- and so do the syndromes of the classes that are taken in
taken_still : (L : Layout) (m first : ℕ) (f : Field) (t : List ℕ) (n k : ℕ) → n ≤ k
    → ((a i : ℕ) → a < m → n ≤ i → i < k → L.class i ≢ first + a) → Taken L m first f t n → Taken L m first f t k
unfolding Taken
taken_still L m first f t n k l none held a p =
    held a p ∙ sym (syndrome_still L (tags_of L) f (first + a) n k l (λ i. none a i p))

-- line l is next in a pass over slice j, and the lines before it are taken in; behind the last line these are all
pub record TakenTo (s : Shape) (j : ℕ) (f : Field) (l : ℕ) (line : Line) (e t : List ℕ) : Type 0 where
  pub slice : l % slices_of s ≡ j
  pub at : l < s.rows * s.planes → AtLine s l line e
  pub taken : l < s.rows * s.planes → Taken (layout_of s) (table_of s).m (j * (table_of s).m) f t (l * s.columns)
  pub over : s.rows * s.planes ≤ l → Taken (layout_of s) (table_of s).m (j * (table_of s).m) f t (cells_of s)

module _ (s : Shape) (ok : Accepted s) (j : ℕ) (f : Field) where
  -- a class of the slice, by its place
  class : (l a : ℕ) → l % slices_of s ≡ j → a < (table_of s).m → j * (table_of s).m + a ≡ a % (table_of s).m + offset_of s l
  class l a slice p = omega (arith, mod-eq_of_lt p, ap (λ (n : ℕ). n * (table_of s).m) slice)

  -- the slice's first line
  pub taken_first : (line : Line) (e t : List ℕ) → j < slices_of s → j < s.rows * s.planes → AtLine s j line e
      → ((y : ℕ) → get_or t y 0 ≡ 0) → TakenTo s j f j line e t
  taken_first line e t low inside at none =
      record {
        slice = mod-eq_of_lt low;
        at = λ _. at;
        taken = λ _.
            taken_still (layout_of s) (table_of s).m (j * (table_of s).m) f t 0 (j * s.columns) zero-le
            (λ a i p _ q c. skipped_first s ok j a low i q (omega (arith, line_room s j inside))
            (c ∙ omega (arith, mod-eq_of_lt p)))
            (taken_none (layout_of s) (table_of s).m (j * (table_of s).m) f t none);
        over = λ last. absurd (omega arith);
      }

  -- to the next line of the slice
  module _ (l : ℕ) (line : Line) (e t : List ℕ) (held : TakenTo s j f l line e t) (inside : l < s.rows * s.planes)
      (after : List ℕ) (cells : Cells f (cells_of s))
      (added : LineTaken f line.start (l * s.columns) s.columns e t after) (long : length t ≡ length e)
      (kept : length after ≡ length t) where
    behind : Taken (layout_of s) (table_of s).m (j * (table_of s).m) f after (l * s.columns + s.columns)
    behind =
        line_taken s ok l line e (held.at inside) inside j held.slice f t after added (omega
        (arith, long, at_room s ok l line e (held.at inside))) kept
        (λ x p. cell_most _ (cells (l * s.columns + x) (omega (arith, line_room s l inside))))
        (held.taken inside)

    taken_next : (next : Line) (e' : List ℕ) → (l + slices_of s < s.rows * s.planes → AtLine s (l + slices_of s) next e')
        → TakenTo s j f (l + slices_of s) next e' after
    taken_next next e' at =
        record {
          slice = add-mod_right l (slices_of s) ∙ held.slice;
          at = at;
          taken = λ on.
              taken_still (layout_of s) (table_of s).m (j * (table_of s).m) f after (l * s.columns + s.columns)
              ((l + slices_of s) * s.columns)
              (omega (
                arith,
                mul-le-mul {n₁ = 1} {m₁ = s.columns} {n₂ = slices_of s} {m₂ = s.columns} (slices_some s ok) (le_refl _),
              ))
              (λ a i p low high c. skipped s ok l a i low high (omega (arith, line_room s (l + slices_of s) on))
              (c ∙ class l a held.slice p))
              behind;
          over = λ last.
              taken_still (layout_of s) (table_of s).m (j * (table_of s).m) f after (l * s.columns + s.columns) (cells_of s)
              (line_room s l inside)
              (λ a i p low high c. skipped_last s ok l a i last low high (c ∙ class l a held.slice p))
              behind;
        }

module _ (s : Shape) (ok : Accepted s) (pass : Pass) (same : pass ≡ pass_of s) where
  -- the numbers of the pass are small
  pub pass_cells : pass.cells ≤ max_cells
  pass_cells = omega (arith, cells_are s ok pass same, (legal s ok).product)

  -- where there is one class, every cell is of class 0
  pub pass_alone : pass.classes ≡ 1 → (i : ℕ) → i < pass.cells → class_at s i ≡ 0
  pass_alone one i l = omega (arith, one, classes_are s ok pass same, class_below s ok (cell_at s i))

  -- arrays of 768 and 1,280 entries have room for its lists, which are as long as it needs
  pub pass_narrow : pass.period + pass.columns ≤ 768
  pass_narrow =
      omega (arith, period_most s ok pass same, columns_are s ok pass same, (legal s ok).width_high)

  pub pass_long : pass.period + pass.columns + pass.period ≤ 1280
  pass_long = omega (arith, pass_narrow, period_most s ok pass same)

  pub pass_space : (e p q : ℕ) → e ≡ pass.period + pass.columns → p ≡ pass.period + pass.columns + pass.period
      → q ≡ pass.period + pass.columns + pass.period → Room pass e p q
  pass_space e p q wide row plane =
      record {
        wide = omega arith;
        row_long = omega arith;
        row_short = omega (arith, pass_long);
        plane_long = omega arith;
        plane_short = omega (arith, pass_long);
      }

  -- a line lies in the field
  pub pass_room : (l : ℕ) → l < pass.lines → l * pass.columns + pass.columns ≤ pass.cells
  pass_room l inside =
      rw (columns_are s ok pass same, cells_are s ok pass same) (line_room s l (omega (arith, lines_are s ok pass same)))

  pub pass_wide : (l : ℕ) (line : Line) (e : List ℕ) → AtLine s l line e → line.start + pass.columns ≤ length e
  pass_wide l line e at = omega (arith, columns_are s ok pass same, at_room s ok l line e at)

  -- to the next line of a slice, and behind the last
  module _ (j : ℕ) (f : Field) (l : ℕ) (line : Line) (e t : List ℕ) (held : TakenTo s j f l line e t) where
    pub pass_next : l < pass.lines → (after : List ℕ) → Cells f pass.cells
        → LineTaken f line.start (l * pass.columns) pass.columns e t after → length t ≡ length e
        → length after ≡ length t → (next : Line) (e' : List ℕ)
        → (l + pass.slices < pass.lines → AtLine s (l + pass.slices) next e') → TakenTo s j f (l + pass.slices) next e' after
    pass_next inside after cells added long kept next e' at =
        rw (slices_are s ok pass same)
        (taken_next s ok j f l line e t held (omega (arith, lines_are s ok pass same)) after
        (rw (cells_are s ok pass same) at cells) (rw (columns_are s ok pass same) at added) long kept next e'
        (rw (slices_are s ok pass same, lines_are s ok pass same) at at))

    pub pass_over : pass.lines ≤ l → Taken (layout_of s) pass.period (j * pass.period) f t (cells_of s)
    pass_over last = rw (period_is s ok pass same) (held.over (omega (arith, lines_are s ok pass same)))
