-- The first lines of a card text: their length.
use Prim.Native.Nat.{◌+◌, ◌≤◌}
use mathlib.Core.Path.{◌≡◌}
use native.Mathlib.Omega.{arith}
use lib.ListN.{length}
use Rattle.card.specs.declared.header.Header.{Header}
use Rattle.card.specs.Text.{header_keys, window_keys, header_lines, header_text}
use Rattle.card.proofs.theory.DecimalText.{digit_count_range}
use Rattle.card.proofs.theory.LinesText.{lines_length, length_lines, lines_most}
use Rattle.card.proofs.theory.WindowText.{window_lines_most}

-- the length of the header, by the widths of its numbers
pub length_header : (h : Header) → length (header_text h) ≡ lines_length (header_lines h)
unfolding header_text
length_header h = length_lines (header_lines h)

-- the most that it takes
pub header_most : (h : Header) → length (header_text h) ≤ lines_most header_keys + lines_most window_keys
header_most h =
    omega (
      arith,
      length_header h,
      digit_count_range h.columns,
      digit_count_range h.rows,
      digit_count_range h.planes,
      digit_count_range h.strength,
      window_lines_most h.window,
    )
