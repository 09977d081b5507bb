-- `list_erasures` meets its contract. The loop's invariant: the erasures among the cells before i are listed.
use Prim.Native.Nat.{◌+◌, ◌<◌, ◌≤◌, zero-le}
use mathlib.Core.Bool.{true, false, true≢false}
use mathlib.Core.Path.{◌≡◌, refl, sym, ◌∙◌}
use native.Mathlib.Nat.{le_antisymm}
use native.Mathlib.Omega.{arith}
use mir.Facts.{Fits-lt, Fits-lit}
use Rattle.lattice.specs.Shape.{cells_of}
use Rattle.lattice.specs.Class.{layout_of}
use Rattle.codec.specs.Field.{field_of}
use Rattle.codec.specs.Erasure.{erasures_to}
use Rattle.codec.specs.Working.{ListsErasures}
use Rattle.codec.proofs.theory.WorkArrays.{cell_limit}
use Rattle.codec.proofs.erasures.Listed.{lists_none, lists_stretch, listed_few, three_many}
use Rattle.codec.proofs.erasures.list_erasures.Goals.{After-list_cell, At-loop-i, In-loop-i}
use Rattle.codec.proofs.erasures.list_erasures.Goals as goal

-- the cell of a turn is one of the shape's
inside : (c : In-loop-i) → c.loop-i.i < cells_of c.args.shape
inside c = rw c.requires.field_fits.long at c.loop-i-test.true

-- what the turn leaves: the cell is listed too, or its class has three erasures
turn : (c : After-list_cell)
    → let e = c.args in
    let L = layout_of e.shape in
    let f = field_of e.field.now in
    let i = c.loop-i.i in
    (c.list_cell.result ≡ true → ListsErasures L f (i + 1) c.list_cell.new.first c.list_cell.new.second)
    × (c.list_cell.result ≡ false → 3 ≤ erasures_to L f (L.class i) (i + 1))
turn c = c.list_cell.ensures _ (sym c.cell_value-value.ensures) c.loop-i.invariant.1

pub loop-i-init : goal.loop-i-init
loop-i-init c =
    (zero-le, lists_none (layout_of c.args.shape) (field_of c.args.field.now) _ _ c.requires.holds_none.0 c.requires.holds_none.1)

pub loop-i-preserved-then-none_erased : goal.loop-i-preserved-then-none_erased
loop-i-preserved-then-none_erased c =
    let skipped = c.none_erased.ensures c.if-none_erased.true in (
      skipped.0,
      lists_stretch (layout_of c.args.shape) (field_of c.args.field.now) 32 c.loop-i.i _ _ skipped.1
          c.loop-i.invariant.1,
    )

pub overflow_cast-i : goal.overflow_cast-i
overflow_cast-i c =
    Fits-lt (cell_limit _ _ refl _ (inside (goal.at.overflow_cast-i c).In-loop-i) c.requires.field_fits.accepted) (Fits-lit tt)

pub returns-then-not-list_cell : goal.returns-then-not-list_cell
returns-then-not-list_cell c =
    let e = c in
    record {
      value = sym (three_many e.args.shape e.requires.field_fits.accepted (field_of e.args.field.now) _ _
          (omega (arith, inside (goal.at.returns-then-not-list_cell c).In-loop-i))
          ((turn (goal.at.returns-then-not-list_cell c).After-list_cell).1 c.if-not-list_cell.true));
      lists_erasures = λ no. absurd (true≢false (sym no));
    }

pub returns : goal.returns
returns c =
    let loop = c.loop-i in
    let L = layout_of c.args.shape in
    let f = field_of c.args.field.now in
    let all : ListsErasures L f (cells_of c.args.shape) loop.first loop.second =
    rw (le_antisymm loop.invariant.0 c.loop-i-test.false ∙ c.requires.field_fits.long) at loop.invariant.1 in
    record {
      value = sym (listed_few c.args.shape c.requires.field_fits.accepted f _ _ all);
      lists_erasures = λ ok. all;
    }
