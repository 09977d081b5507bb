-- `scan_order` meets its contract. Each part of the order is tried where none before it finds a triple.
use mathlib.Core.Path.{sym, ◌∙◌}
use Rattle.lattice.specs.Scanning.{scan_of}
use Rattle.lattice.proofs.theory.ScanOrder.{order_columns, order_planes, order_rows}
use Rattle.lattice.proofs.scan.scan_order.Goals as goal

pub returns-then-is_some : goal.returns-then-is_some
returns-then-is_some c =
    let a = c.args in
    let columns = c.scan_columns-columns in
    order_columns a.k a.n (scan_of columns.result) columns.ensures.result_value (sym c.is_some.ensures ∙ c.if-is_some.true)

pub returns-then-is_some-2 : goal.returns-then-is_some-2
returns-then-is_some-2 c =
    let a = c.args in
    let columns = c.scan_columns-columns in
    let planes = c.scan_planes in
    let both = c.after-planes in
    order_planes a.k a.n (scan_of columns.result) columns.ensures.result_value (sym c.is_some.ensures ∙ c.if-is_some.false)
    (scan_of planes.result) (scan_of both.result) planes.ensures.result_value both.ensures
    (sym c.is_some-2.ensures ∙ c.if-is_some-2.true)

pub returns : goal.returns
returns c =
    let a = c.args in
    let columns = c.scan_columns-columns in
    let planes = c.scan_planes in
    let both = c.after-planes in
    let rows = c.scan_rows in
    order_rows a.k a.n (scan_of columns.result) columns.ensures.result_value
    (sym c.is_some.ensures ∙ c.if-is_some.false) (scan_of planes.result) (scan_of both.result)
    planes.ensures.result_value both.ensures (scan_of rows.result) (scan_of c.after.result)
    (sym c.is_some-2.ensures ∙ c.if-is_some-2.false) rows.ensures.result_value c.after.ensures
