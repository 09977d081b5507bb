-- The limits of a card's header: its numbers, its rows and its payload.
use Prim.Native.Nat.{◌*◌, ◌<◌, ◌≤◌}
use mathlib.Core.Logic.{◌≢◌}
use native.Mathlib.Nat.{mul-le-mul}
use native.Mathlib.Omega.{arith}
use Rattle.lattice.specs.Shape.{max_side, max_planes, max_classes, BothZero, cells_of}
use Rattle.lattice.specs.Check.{capacity, holds_data}
use Rattle.lattice.specs.Class.{layout_of}
use Rattle.lattice.proofs.theory.Counting.{count_most}
use Rattle.lattice.proofs.theory.Limits.{Legal, legal, strength_most}
use Rattle.codec.specs.Payload.{payload_bytes}
use Rattle.codec.specs.Plan.{plan_bytes}
use Rattle.codec.proofs.theory.Accepted.{plan_bytes_lem}
use Rattle.std.specs.Prelude.{Option, Some, None}
use Rattle.lattice.specs.declared.shape.Window.{Window}
use Rattle.card.specs.declared.header.Header.{Header}
use Rattle.card.specs.Text.{window_lines}
use Rattle.card.specs.Card.{max_card_bytes, window_of, shape_of, FewDigitsEach, FewDigits, CardHeader}
use Rattle.card.proofs.theory.LinesText.{lines_length}
use Rattle.card.proofs.theory.DecimalText.{digit_count_one}
use Rattle.card.proofs.theory.WindowLimits.{stack_none, sides_most}

-- the lines of a window: of sides of few digits, and how long they are where both sides are 0
sides_small : (l : Option Window) → ((window_of l).rows ≤ max_classes) × ((window_of l).columns ≤ max_classes)
    → FewDigitsEach (window_lines l)
sides_small None most = tt
sides_small (Some w) most = omega arith

sides_none : (l : Option Window) → BothZero (window_of l) → lines_length (window_lines l) ≤ 31
sides_none None none = omega arith
sides_none (Some w) none =
    omega (arith, digit_count_one w.rows (omega arith), digit_count_one w.columns (omega arith))

-- a card's header is within the limits
module _ (h : Header) (x : CardHeader h) where
  pub limits : Legal (shape_of h)
  limits = legal _ x.accepted

  pub card_small : FewDigits h
  card_small =
      let strength = strength_most _ x.accepted in
      let last = sides_small h.window (sides_most _ x.accepted) in
      let most = limits in
      (omega arith, (omega arith, (omega arith, (omega arith, last))))

  -- a stack's window takes two lines at most, of sides of 0
  pub stack_window : h.planes ≢ 1 → lines_length (window_lines h.window) ≤ 31
  stack_window stack = sides_none h.window (stack_none _ x.accepted stack)

  -- it has a row, and at most 4,096
  pub rows_some : 0 < h.planes * h.rows
  rows_some = mul-le-mul {n₁ = 1} {m₁ = 1} limits.planes_low limits.height_low

  pub rows_most : h.planes * h.rows ≤ max_planes * max_side
  rows_most = mul-le-mul {n₂ = max_planes} {m₂ = max_side} limits.planes_high limits.height_high

  -- a payload has at most one byte for 8 cells
  pub bytes_most : plan_bytes (shape_of h) ≤ max_card_bytes
  unfolding payload_bytes capacity
  bytes_most =
      let n = cells_of (shape_of h) in
      omega (arith, plan_bytes_lem (shape_of h) x.accepted, count_most (holds_data (layout_of (shape_of h))) n, x.cells)
