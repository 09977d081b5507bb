-- `answer_rows` meets its contract: rows of a wrong form are refused, and of others the cells that are read are decoded.
use Prim.Native.Nat.{ℕ, ◌/◌, ◌≤◌}
use mathlib.Core.List.{List, ◌++◌}
use mathlib.Core.Path.{◌≡◌, sym, ap, ◌∙◌}
use native.Mathlib.Omega.{arith}
use lib.ListN.{length, take, drop, replicate}
use Rattle.lattice.proofs.theory.Bools.{failed, passed}
use Rattle.codec.specs.Plan.{plan_bytes}
use Rattle.card.specs.Program.{cells_in}
use Rattle.card.specs.Working.{decoded_text}
use Rattle.card.specs.Card.{max_card_cells, max_card_bytes}
use Rattle.card.proofs.run.Card.{cells_are, cells_fit, bytes_are, bytes_fit, columns_some, columns_narrow}
use Rattle.card.proofs.run.Card.{rows_fit_lem, cells_read}
use Rattle.card.proofs.run.Program.{bad_rows, rows_read}
use Rattle.card.proofs.theory.HeaderRest.{header_found}
use Rattle.card.proofs.theory.RowsRead.{cells_count}
use Rattle.card.proofs.theory.Replies.{answered_same}
use Rattle.card.proofs.theory.Answered.{zeros_count, zeros_take, part_again}
use Rattle.card.proofs.run.answer_rows.Goals.{After-capacity-bytes, After-cells-cells, After-fill_cells}
use Rattle.card.proofs.run.answer_rows.Goals as goal

cells_room : (c : After-cells-cells) → c.cells-cells.result ≤ max_card_cells
cells_room c = cells_fit _ _ c.requires.body_read.shaped _ c.cells-cells.ensures

bytes_planned : (c : After-capacity-bytes)
    → c.capacity-bytes.result / 8 ≡ plan_bytes c.args.shape
bytes_planned c =
    bytes_are _ _ c.requires.body_read.shaped _ c.capacity-bytes.ensures

bytes_room : (c : After-capacity-bytes) → c.capacity-bytes.result / 8 ≤ max_card_bytes
bytes_room c =
    omega (arith, bytes_planned c, bytes_fit _ _ c.requires.body_read.shaped)

-- the part that was filled, and the cells behind it
abbrev part : (c : After-fill_cells) → List ℕ
part c = c.fill_cells.new.field

abbrev behind : (c : After-fill_cells) → List ℕ
behind c = drop c.cells-cells.result (replicate max_card_cells 0)

long : (c : After-fill_cells) → length (part c) ≡ c.cells-cells.result
long c =
    ap length c.fill_cells.ensures
    ∙ cells_count _ _ _ _
    ∙ sym (zeros_count _ max_card_cells (cells_fit _ _ c.requires.body_read.shaped _ c.cells-cells.ensures))

again : (c : After-fill_cells)
    → let a = c.args in
    take c.cells-cells.result (part c ++ behind c) ≡ cells_in a.input.now a.header a.next
again c =
    let shaped = c.requires.body_read.shaped in
    let count = sym (zeros_count _ max_card_cells (cells_fit _ _ c.requires.body_read.shaped _ c.cells-cells.ensures))
    ∙ cells_are _ _ shaped _ c.cells-cells.ensures in
    part_again _ _ _ (long c) ∙ cells_read _ _ shaped _ _ _ _ count c.fill_cells.ensures

pub returns-then-not-rows_ok : goal.returns-then-not-rows_ok
returns-then-not-rows_ok c =
    let pre = c.requires in
    answered_same
    (bad_rows _ _ _ pre.body_read.header pre.body_read.shaped.card pre.next_value
    (failed _ _ c.if-not-rows_ok.true (rows_fit_lem _ _ pre.body_read.shaped _ _ _ c.rows_ok.ensures)))
    c.refuse.ensures

pub fill_cells-requires : goal.fill_cells-requires
fill_cells-requires c =
    let pre = c.requires in
    record {
      inside = (header_found _ _ _ pre.body_read.header.found).inside;
      some = columns_some _ _ pre.body_read.shaped;
      narrow = columns_narrow _ _ pre.body_read.shaped;
      cells = omega (
        arith,
        cells_room (goal.at.fill_cells-requires c).After-cells-cells,
        zeros_count c.cells-cells.result
            max_card_cells (cells_room (goal.at.fill_cells-requires c).After-cells-cells),
      );
    }

pub slice_bounds-payload-end : goal.slice_bounds-payload-end
slice_bounds-payload-end c = bytes_room (goal.at.slice_bounds-payload-end c).After-capacity-bytes

pub slice_bounds-read_card-end-2 : goal.slice_bounds-read_card-end-2
slice_bounds-read_card-end-2 c = zeros_count _ max_card_bytes
    (bytes_room (goal.at.slice_bounds-read_card-end-2 c).After-capacity-bytes)

pub read_card-requires : goal.read_card-requires
read_card-requires c =
    let shaped = c.requires.body_read.shaped in
    record {
      card_shape = shaped;
      payload_value = zeros_take _ max_card_bytes (bytes_room (goal.at.read_card-requires c).After-capacity-bytes)
          ∙ ap (λ (n : ℕ). replicate n 0) (bytes_planned (goal.at.read_card-requires c).After-capacity-bytes
          ∙ ap plan_bytes shaped.shape);
    }

pub returns : goal.returns
returns c =
    let pre = c.requires.body_read in
    let fit = passed _ _ c.if-not-rows_ok.false (rows_fit_lem _ _ pre.shaped _ _ _ c.rows_ok.ensures) in
    answered_same
    (ap (decoded_text c.args.header) (again (goal.at.returns c).After-fill_cells)
    ∙ sym (rows_read _ _ _ pre.header pre.shaped.card c.requires.next_value fit))
    c.read_card.ensures
