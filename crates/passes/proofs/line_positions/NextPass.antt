-- The step of a pass to the line after in a slice, and the list of its positions with it.
use Prim.Native.Nat.{ℕ, ◌+◌, ◌-◌, ◌*◌, ◌/◌, ◌%◌, ◌<◌, ◌≤◌}
use mathlib.Core.List.{List}
use mathlib.Core.Path.{◌≡◌, sym, ap, ◌∙◌}
use native.Mathlib.Nat.{mod-lt}
use native.Mathlib.Omega.{arith}
use lib.ListN.{length, get_or}
use Rattle.lattice.specs.declared.line.Line.{Line}
use Rattle.lattice.specs.declared.line.Pass.{Pass}
use Rattle.lattice.specs.declared.shape.Shape.{Shape}
use Rattle.lattice.specs.Shape.{Accepted}
use Rattle.lattice.specs.Class.{minus_mod}
use Rattle.lattice.specs.Lines.{table_of, slices_of, line_start, pass_with, pass_of, IsLine, Gains, round, AtLine, Ready}
use Rattle.lattice.proofs.theory.AtLine.{at_step}
use Rattle.lattice.proofs.theory.Limits.{legal}
use Rattle.lattice.proofs.theory.PassRoom.{pass_row, pass_plane}
use Rattle.lattice.proofs.theory.Placements.{period_some}
use Rattle.lattice.proofs.theory.Remainder.{minus_below}
use Rattle.lattice.proofs.theory.SizesByLines.{classes_are, slices_are, period_is, columns_are, lines_are}
use Rattle.lattice.proofs.theory.Starts.{minus_mod_lem, start_row, start_turns}

-- what is stored in the list by a step
abbrev PositionsStored : ℕ → ℕ → ℕ → ℕ → List ℕ → List ℕ → List ℕ → Type 0
PositionsStored m start back next e p f =
    next ≤ m → length e + m ≤ length p → (y : ℕ) → y < length e
    → get_or f y 0 ≡ (get_or e y 0 + get_or p (y + (m - next)) 0 + (65536 - round start back)) % 65536

module _ (s : Shape) (a : Accepted s) (pass : Pass) (same : pass ≡ pass_of s) (two : 2 ≤ pass.classes) (l : ℕ)
    (inside : l + pass.slices < pass.lines)
    (x next : Line) (e f : List ℕ) (at : AtLine s l x e)
    (is : IsLine (table_of s) s.rows (l / slices_of s + 1) next) (long : length f ≡ length e) where
  -- the lines of the slice before line l
  n : ℕ
  n = l / slices_of s

  row_is : pass.row ≡ (table_of s).b % (table_of s).m
  unfolding pass_with
  row_is = ap (λ (p : Pass). p.row) same

  plane_is : pass.plane ≡ minus_mod (table_of s).c ((table_of s).b * (s.rows - 1)) (table_of s).m
  unfolding pass_with
  plane_is = ap (λ (p : Pass). p.plane) same

  some : 0 < (table_of s).m
  some = period_some s a

  rows : 0 < s.rows
  rows = (legal s a).height_low

  -- where the next line begins
  row_begins : 0 < x.left → next.start ≡ minus_mod x.start pass.row (table_of s).m
  unfolding n
  row_begins more =
      let in-plane : n % s.rows + 1 < s.rows = omega (arith, at.line.left) in
      is.start
      ∙ start_row (table_of s) s.rows some n in-plane
      ∙ sym (minus_mod_lem (table_of s).m (line_start (table_of s) s.rows n) (table_of s).b)
      ∙ ap (λ (b : ℕ). minus_mod (line_start (table_of s) s.rows n) b (table_of s).m) (sym row_is)
      ∙ ap (λ (b : ℕ). minus_mod b pass.row (table_of s).m) (sym at.line.start)

  plane_begins : x.left ≤ 0 → next.start ≡ minus_mod x.start pass.plane (table_of s).m
  unfolding n
  plane_begins none =
      let last : n % s.rows + 1 ≡ s.rows = omega (arith, at.line.left, mod-lt n rows, none) in
      is.start
      ∙ start_turns (table_of s) s.rows some n rows last
      ∙ ap (λ (b : ℕ). minus_mod (line_start (table_of s) s.rows n) b (table_of s).m) (sym plane_is)
      ∙ ap (λ (b : ℕ). minus_mod b pass.plane (table_of s).m) (sym at.line.start)

  -- either step
  module _ (back : ℕ) (p : List ℕ) (less : back < pass.period)
      (begins : next.start ≡ minus_mod x.start back (table_of s).m)
      (gain : Gains pass.period (pass.columns + back) (length p) p) (reach : length e + pass.period ≤ length p)
      (short : length e ≤ 4096)
      (stored : PositionsStored pass.period x.start back next.start e p f) where
    stepped : AtLine s (l + pass.slices) next f
    stepped =
        let m_is = period_is s a pass same in
        let lines = lines_are s a pass same in
        let slices = slices_are s a pass same in
        rw slices
        (at_step s a l x e at (omega (arith, lines)) back p f (rw (m_is, columns_are s a pass same) at gain)
        (rw m_is at less) (rw m_is at reach) (rw (classes_are s a pass same) at two) short
        (λ y b. rw (m_is, begins) at (stored (omega (
          arith,
          begins,
          m_is,
          minus_below (table_of s).m some x.start back,
        )) reach y b))
        next long (omega (arith, lines, slices)) is begins)

  module _ (p q : List ℕ) (ready : Ready pass (length e) p q) where
    pub row_step : 0 < x.left
        → PositionsStored pass.period x.start pass.row next.start e p f
        → AtLine s (l + pass.slices) next f
    row_step more =
        stepped pass.row p (pass_row s a pass same) (row_begins more) ready.row ready.row_long ready.short

    pub plane_step : x.left ≤ 0
        → PositionsStored pass.period x.start pass.plane next.start e q f
        → AtLine s (l + pass.slices) next f
    plane_step none =
        stepped pass.plane q (pass_plane s a pass same) (plane_begins none) ready.plane ready.plane_long ready.short
