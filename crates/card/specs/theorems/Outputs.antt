-- The theorem on the form and the length of the output.
use Rattle.std.specs.Prelude.{ℕ, ◌<◌, ◌≤◌, List, ◌≡◌, length, take, drop, Some}
use Rattle.lattice.specs.Shape.{no_window}
use Rattle.codec.specs.Payload.{Bytes}
use Rattle.codec.specs.Plan.{plan_classes, plan_bytes}
use Rattle.codec.specs.Decode.{decode_count}
use Rattle.card.specs.declared.header.Header.{Header}
use Rattle.card.specs.Card.{max_answer, shape_of, CardHeader, payload_card}
use Rattle.card.specs.Program.{blank_payload, answer, output_leaves}
use Rattle.card.specs.Form.{OneOfThree}

-- the header of the longest answer: 4 columns, 256 rows and 16 planes at strength 8, with the lines of a window
abbrev pub longest_header : Header
longest_header = record { columns = 4; rows = 256; planes = 16; strength = 8; window = Some no_window }

-- Theorem. The output is one of the three forms and never longer than 36,946 bytes, which some are, and the numbers in it have
-- at most five digits.
pub record OutputForms : Type 0 where
  pub form : (s : List ℕ) → OneOfThree s
  pub short : (s : List ℕ) → length (answer s) ≤ max_answer
  pub longest : (p : List ℕ) → length p ≡ plan_bytes (shape_of longest_header) → Bytes p
      → length (answer (payload_card longest_header p)) ≡ max_answer
  pub classes : (h : Header) → CardHeader h → plan_classes (shape_of h) < 100000
  pub count : (h : Header) → CardHeader h → (cells : List ℕ) → decode_count (shape_of h) (blank_payload h) cells < 100000

-- Theorem. An answer that fits stands at the front of the lent output, and the bytes behind it are as they were; where it does
-- not fit, all of them are.
pub record AnswerStands : Type 0 where
  pub front : (text output : List ℕ) → length text ≤ length output → take (length text) (output_leaves text output) ≡ text
  pub behind : (text output : List ℕ) → length text ≤ length output
      → drop (length text) (output_leaves text output) ≡ drop (length text) output
  pub short : (text output : List ℕ) → length output < length text → output_leaves text output ≡ output
