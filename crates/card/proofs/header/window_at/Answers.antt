-- `window_at` meets its contract: where a key of the window stands, both lines are read, and else none is.
use mathlib.Core.Bool.{true}
use mathlib.Core.Path.{◌≡◌, sym, ◌∙◌}
use Rattle.std.proofs.Common.{rules, None}
use Rattle.lattice.proofs.theory.Bools.{failed, passed}
use Rattle.card.specs.Text.{window_keys}
use Rattle.card.specs.Parse.{any_key_at}
use Rattle.card.proofs.header.Parts.{window_left, window_fault, window_given}
use Rattle.card.proofs.header.window_at.Goals.{Else-not-any_key_at}
use Rattle.card.proofs.header.window_at.Goals as goal

-- a key of the window stands there
some : (c : Else-not-any_key_at)
    → let a = c.args in
    any_key_at window_keys a.text.now a.at ≡ true
some c = passed _ _ c.if-not-any_key_at.false c.any_key_at.ensures

pub returns-then-not-any_key_at : goal.returns-then-not-any_key_at
returns-then-not-any_key_at c = window_left _ _ (failed _ _ c.if-not-any_key_at.true c.any_key_at.ensures)

pub returns-in_err-lines : goal.returns-in_err-lines
returns-in_err-lines c =
    let none : c.from_residual.result ≡ None = search rules in
    none
    ∙ window_fault _ _ (some (goal.at.returns-in_err-lines c).Else-not-any_key_at) (sym c.lines_at.ensures ∙ c.in_err-lines.was)

pub returns : goal.returns
returns c =
    window_given _ _ (some (goal.at.returns c).Else-not-any_key_at) c.requires _ (sym c.lines_at.ensures ∙ c.in_ok-lines.was)
