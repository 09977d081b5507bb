-- `parse_header` meets its contract: the lines that every header has are read, and behind them those of the window.
use mathlib.Core.Path.{◌≡◌, sym, ◌∙◌}
use Rattle.std.proofs.Common.{rules, None}
use Rattle.card.proofs.header.Parts.{lines_fault, lines_inside, header_fault, header_made}
use Rattle.card.proofs.header.parse_header.Goals as goal

pub returns-in_err-lines : goal.returns-in_err-lines
returns-in_err-lines c =
    let none : c.from_residual.result ≡ None = search rules in
    none ∙ lines_fault _ (sym c.lines_at.ensures ∙ c.in_err-lines.was)

pub window_at-requires : goal.window_at-requires
window_at-requires c = lines_inside _ _ (sym c.lines_at.ensures ∙ c.in_ok-lines.was)

pub returns-in_err-window : goal.returns-in_err-window
returns-in_err-window c =
    let none : c.from_residual-in_err-window.result ≡ None = search rules in
    none
    ∙ header_fault _ _ (sym c.lines_at.ensures ∙ c.in_ok-lines.was) (sym c.in_err-window.was ∙ c.window_at.ensures)

pub returns : goal.returns
returns c =
    header_made _ _ (sym c.lines_at.ensures ∙ c.in_ok-lines.was) _ (sym c.in_ok-window.was ∙ c.window_at.ensures)
