-- `padded_with` meets its contract. The loop's invariant: `behind` counts the cells from i on, the padding cells from i on
-- pass the test, and `unseen` of the cells before i are padding.
use Prim.Native.Nat.{◌-◌, ◌<◌}
use mathlib.Core.Path.{◌≡◌, refl}
use native.Mathlib.Omega.{arith}
use mir.Facts.{Fits-lt, Fits-lit}
use Rattle.lattice.specs.Class.{layout_of}
use Rattle.lattice.specs.Check.{holds_data}
use Rattle.lattice.proofs.theory.CapacityGiven.{classes_given}
use Rattle.lattice.proofs.theory.ClassAt.{at_cells}
use Rattle.codec.specs.Decode.{corrected_field}
use Rattle.codec.specs.Field.{field_of}
use Rattle.lattice.specs.Sizes.{AtCellBack, AtPlace}
use Rattle.codec.proofs.examine.Corrected.{corrected_at}
use Rattle.codec.proofs.examine.Data.{data_at}
use Rattle.codec.proofs.examine.Padding.{padding_start, padding_passes, left_some, padding_fails, padding_more}
use Rattle.codec.proofs.theory.WorkArrays.{cell_limit, zeros}
use Rattle.lattice.proofs.theory.PlaceBack.{rest_none, back_cell}
use Rattle.codec.proofs.examine.padded_with.Goals.{After-corrected_value-value, After-holds_data-is_data, In-loop-unseen}
use Rattle.codec.proofs.examine.padded_with.Goals as goal

-- a cell is left in each turn
some : (c : In-loop-unseen) → 0 < c.loop-unseen.i
some c = left_some _ _ _ _ _ c.loop-unseen.invariant.1 c.loop-unseen-test.true

-- the cell of a turn
cell : (c : In-loop-unseen)
    → let turn = c.loop-unseen in
    AtCellBack c.args.shape c.placement-placement.result c.args.sizes.now turn.behind (turn.i - 1)
cell c =
    let turn = c.loop-unseen in
    back_cell
    _ _ _ _ _
    c.requires.field_fits.accepted
    c.placement-placement.ensures
    c.requires.holds_sizes
    turn.invariant.0
    (some c)
    turn.invariant.1.within

-- it holds no check, by its place
held : (c : After-holds_data-is_data)
    → AtPlace c.args.shape (c.loop-unseen.i - 1) c.place_back-place.result.class c.place_back-place.result.position
    → c.holds_data-is_data.result ≡ holds_data (layout_of c.args.shape) (c.loop-unseen.i - 1)
held c at = data_at _ _ c.requires.holds_sizes _ _ _ at _ c.holds_data-is_data.ensures

-- its value after correction
value : (c : After-corrected_value-value)
    → AtCellBack c.args.shape c.placement-placement.result c.args.sizes.now c.loop-unseen.behind (c.loop-unseen.i - 1)
    → c.corrected_value-value.result
    ≡ corrected_field c.args.shape (field_of c.args.field.now) (c.loop-unseen.i - 1)
value c own =
    corrected_at _ c.args.field.now _ _ _ c.requires.located _ _ _ (c.place_back-place.ensures.at_place own) own.below
    _ _ c.one_at.ensures c.corrected_value-value.ensures

pub loop-unseen-init : goal.loop-unseen-init
loop-unseen-init c =
    let accepted = c.requires.field_fits.accepted in
    let sized = c.requires.holds_sizes in
    let own = c.classes.ensures in
    let all = at_cells _ accepted _ c.cells-i.ensures in
    let amount = c.data_in-unseen.ensures (rw own (classes_given _)) in
    (rest_none _ _ _ zeros all, padding_start _ _ _ c.args.sizes.now _ _ accepted sized _ own amount all)

pub overflow_sub-i : goal.overflow_sub-i
overflow_sub-i c = some c

pub overflow_cast-i : goal.overflow_cast-i
overflow_cast-i c =
    let at = cell (goal.at.overflow_cast-i c).In-loop-unseen in
    Fits-lt (cell_limit _ _ refl _ at.below at.accepted) (Fits-lit tt)

pub holds_data-is_data-requires : goal.holds_data-is_data-requires
holds_data-is_data-requires c =
    (c.place_back-place.ensures.at_place (cell (goal.at.holds_data-is_data-requires c).In-loop-unseen)).below

pub overflow_cast-i-in-loop-unseen : goal.overflow_cast-i-in-loop-unseen
overflow_cast-i-in-loop-unseen c =
    let at = cell (goal.at.overflow_cast-i-in-loop-unseen c).In-loop-unseen in
    Fits-lt (cell_limit _ _ refl _ at.below at.accepted) (Fits-lit tt)

pub one_at-requires : goal.one_at-requires
one_at-requires c =
    rw c.requires.field_fits.long (cell (goal.at.one_at-requires c).In-loop-unseen).below

pub corrected_value-value-requires : goal.corrected_value-value-requires
corrected_value-value-requires c =
    (c.place_back-place.ensures.at_place (cell (goal.at.corrected_value-value-requires c).In-loop-unseen)).below

pub returns-then-not-is_right : goal.returns-then-not-is_right
returns-then-not-is_right c =
    let own = cell (goal.at.returns-then-not-is_right c).In-loop-unseen in
    padding_fails
    _ _ _ _ _
    c.loop-unseen.invariant.1
    c.loop-unseen-test.true
    _ _ _
    (held (goal.at.returns-then-not-is_right c).After-holds_data-is_data (c.place_back-place.ensures.at_place own))
    (value (goal.at.returns-then-not-is_right c).After-corrected_value-value own)
    c.is_right.ensures
    c.if-not-is_right.true

pub loop-unseen-smaller : goal.loop-unseen-smaller
loop-unseen-smaller c = omega (arith, some (goal.at.loop-unseen-smaller c).In-loop-unseen)

pub loop-unseen-preserved : goal.loop-unseen-preserved
loop-unseen-preserved c =
    let own = cell (goal.at.loop-unseen-preserved c).In-loop-unseen in (
      c.place_back-place.ensures.holds_rest own,
      padding_more
          _ _ _ _ _
          c.loop-unseen.invariant.1
          c.loop-unseen-test.true
          _ _ _
          (held (goal.at.loop-unseen-preserved c).After-holds_data-is_data (c.place_back-place.ensures.at_place own))
          (value (goal.at.loop-unseen-preserved c).After-corrected_value-value own)
          c.is_right.ensures
          c.if-not-is_right.false
          _
          grind (arith, c.from-unseen.ensures),
    )

pub returns : goal.returns
returns c = padding_passes _ _ _ _ _ c.loop-unseen.invariant.1 c.loop-unseen-test.false
