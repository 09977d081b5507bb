-- What the loop of `count_starts` keeps.
use Prim.Native.Nat.{◌≤◌}
use mathlib.Core.Path.{◌≡◌}
use lib.ListN.{length}
use Rattle.lattice.specs.declared.shape.Shape.{Shape}
use Rattle.lattice.specs.Shape.{Accepted}
use Rattle.lattice.specs.Lines.{table_of, line_start, pass_of, IsLine}
use Rattle.lattice.proofs.theory.LineCounts.{Counted}
use Rattle.lattice.proofs.by_lines.count_starts.Given as goal

abbrev pub invariant-loop-l : goal.invariant-loop-l
invariant-loop-l l =
    (l.l ≤ l.pass.lines) × (length l.starts ≡ length l.initial.starts)
    × ((s : Shape) → Accepted s → l.pass ≡ pass_of s
    → IsLine (table_of s) s.rows l.l l.line × Counted (line_start (table_of s) s.rows) l.starts l.l)
