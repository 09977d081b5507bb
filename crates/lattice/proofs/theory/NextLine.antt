-- The line after a line, as the code keeps it.
use Prim.Native.Nat.{ℕ, ◌+◌, ◌-◌, ◌*◌, ◌%◌, ◌<◌, ◌≤◌}
use mathlib.Core.Path.{◌≡◌, sym, ap, ◌∙◌}
use native.Mathlib.Nat.{mod-lt, zero-mod, mul_assoc}
use native.Mathlib.Omega.{arith}
use Rattle.lattice.specs.declared.class.Placement.{Placement}
use Rattle.lattice.specs.declared.line.Line.{Line}
use Rattle.lattice.specs.declared.line.Pass.{Pass}
use Rattle.lattice.specs.declared.settings.Settings.{Settings}
use Rattle.lattice.specs.declared.shape.Shape.{Shape}
use Rattle.lattice.specs.Shape.{max_cells, max_classes, shape_number, Accepted}
use Rattle.lattice.specs.Class.{minus_mod, placement_of}
use Rattle.lattice.specs.Lines.{table_of, pass_with, no_pass, pass_of, pass_given, IsLine}
use Rattle.lattice.proofs.theory.Answers.{beside_zero}
use Rattle.lattice.proofs.theory.Limits.{legal}
use Rattle.lattice.proofs.theory.Remainder.{minus_below}
use Rattle.lattice.proofs.theory.Placements.{period_some, classes_placed, classes_limit}
use Rattle.lattice.proofs.theory.Starts.{minus_mod_lem, row_next, plane_row, start_below, start_first, start_row, start_turns}

-- the first line
line_first : (k : Settings) (h : ℕ) → 0 < k.m → IsLine k h 0 (record { left = h - 1; start = 0 })
line_first k h some = record { left = omega (arith, zero-mod h); start = sym (start_first k h some) }

module _ (k : Settings) (h l : ℕ) (x : Line) (some : 0 < k.m) (some_row : 0 < h) (is : IsLine k h l x) where
  line_below : x.start < k.m
  line_below = omega (arith, is.start, start_below k h some l)

  -- where rows are left, the next begins b places back
  line_on : 0 < x.left → (r : ℕ) → r ≡ minus_mod x.start (k.b % k.m) k.m
      → IsLine k h (l + 1) (record { left = x.left - 1; start = r })
  line_on more r n =
      let in-plane : l % h + 1 < h = omega (arith, is.left) in
      record {
        left = omega (arith, is.left, row_next h l in-plane);
        start =
            n
            ∙ minus_mod_lem k.m x.start k.b
            ∙ ap (λ (j : ℕ). minus_mod j k.b k.m) is.start
            ∙ sym (start_row k h some l in-plane);
      }

  -- and else it is the next plane's first
  line_over : x.left ≤ 0 → (r : ℕ) → r ≡ minus_mod x.start (minus_mod k.c (k.b * (h - 1)) k.m) k.m
      → IsLine k h (l + 1) (record { left = h - 1; start = r })
  line_over none r n =
      let turn = minus_mod k.c (k.b * (h - 1)) k.m in
      let last : l % h + 1 ≡ h = omega (arith, is.left, mod-lt l some_row, none) in
      record {
        left = omega (arith, plane_row h l some_row last);
        start =
            n ∙ ap (λ (j : ℕ). minus_mod j turn k.m) is.start ∙ sym (start_turns k h some l some_row last);
      }

-- the same by the pass of an accepted shape, whose steps are below m
module _ (s : Shape) (accepted : Accepted s) (pass : Pass) (same : pass ≡ pass_of s) (l : ℕ) (x : Line)
    (is : IsLine (table_of s) s.rows l x) where
  some : 0 < (table_of s).m
  some = period_some s accepted

  some_row : 0 < s.rows
  some_row = (legal s accepted).height_low

  period_same : pass.period ≡ (table_of s).m
  unfolding pass_with
  period_same = ap (λ (p : Pass). p.period) same

  row_same : pass.row ≡ (table_of s).b % (table_of s).m
  unfolding pass_with
  row_same = ap (λ (p : Pass). p.row) same

  plane_same : pass.plane ≡ minus_mod (table_of s).c ((table_of s).b * (s.rows - 1)) (table_of s).m
  unfolding pass_with
  plane_same = ap (λ (p : Pass). p.plane) same

  last_same : pass.last ≡ s.rows - 1
  unfolding pass_with
  last_same = ap (λ (p : Pass). p.last) same

  start_low : x.start < pass.period
  start_low = omega (arith, period_same, line_below (table_of s) s.rows l x some some_row is)

  pub pass_on : 0 < x.left → (r : ℕ)
      → (x.start < pass.period → pass.row < pass.period → r ≡ minus_mod x.start pass.row pass.period)
      → IsLine (table_of s) s.rows (l + 1) (record { left = x.left - 1; start = r })
  pass_on more r back =
      line_on (table_of s) s.rows l x some some_row is more r
      (back start_low (omega (arith, row_same, period_same, mod-lt (table_of s).b some)) ∙ rw (row_same, period_same))

  pub pass_over : x.left ≤ 0 → (r : ℕ)
      → (x.start < pass.period → pass.plane < pass.period → r ≡ minus_mod x.start pass.plane pass.period)
      → IsLine (table_of s) s.rows (l + 1) (record { left = pass.last; start = r })
  pass_over none r back =
      rw last_same
      (line_over (table_of s) s.rows l x some some_row is none r
      (back start_low (omega (
        arith,
        plane_same,
        period_same,
        minus_below (table_of s).m some (table_of s).c
            ((table_of s).b * (s.rows - 1)),
      ))
      ∙ rw (plane_same, period_same)))

-- the first line of an accepted shape's pass
pub pass_first : (s : Shape) → Accepted s → (pass : Pass) → pass ≡ pass_of s
    → IsLine (table_of s) s.rows 0 (record { left = pass.last; start = 0 })
unfolding pass_with
pass_first s accepted pass same =
    let last : pass.last ≡ s.rows - 1 = ap (λ (p : Pass). p.last) same in
    rw last (line_first (table_of s) s.rows (period_some s accepted))

-- the pass that an accepted shape gives is its own
pub pass_accepted : (s : Shape) → Accepted s → pass_given s ≡ pass_of s
unfolding pass_given
pass_accepted s accepted = beside_zero (shape_number s) (pass_of s) no_pass accepted

-- a pass from its numbers
pub pass_is : (p : Placement) (s : Shape) (cells plane : ℕ) → cells ≡ s.columns * (s.rows * s.planes)
    → plane ≡ minus_mod p.settings.c (p.settings.b * (s.rows - 1)) p.settings.m
    → ◌≡◌ {A = Pass} (record {
      columns = s.columns;
      lines = s.rows * s.planes;
      cells = cells;
      classes = p.slices * p.settings.m;
      slices = p.slices;
      period = p.settings.m;
      row = p.settings.b % p.settings.m;
      plane = plane;
      last = s.rows - 1;
    }) (pass_with p s)
unfolding pass_with
pass_is p s cells plane c t i =
    record {
      columns = s.columns;
      lines = s.rows * s.planes;
      cells = (c ∙ sym (mul_assoc s.columns s.rows s.planes)) i;
      classes = p.slices * p.settings.m;
      slices = p.slices;
      period = p.settings.m;
      row = p.settings.b % p.settings.m;
      plane = t i;
      last = s.rows - 1;
    }

-- the numbers of an accepted shape's pass are small
module _ (s : Shape) (accepted : Accepted s) where
  pub cells_few : s.columns * (s.rows * s.planes) ≤ max_cells
  cells_few = rw (← (mul_assoc s.columns s.rows s.planes)) (legal s accepted).product

  -- and so are those of its placement
  module _ (p : Placement) (own : p ≡ placement_of s) where
    pub period_own : 0 < p.settings.m
    period_own = rw own (period_some s accepted)

    pub classes_own : p.slices * p.settings.m ≤ max_classes
    classes_own = rw own (rw (classes_placed s) (classes_limit s accepted))
