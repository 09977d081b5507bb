-- Examples that meet the hypotheses of the theorems on card texts: the worked card, 5 by 5 of strength 3 with the payload byte
-- 165, cells of two clusters of it erased, and a card by window.
use Prim.Native.Nat.{ℕ}
use mathlib.Core.Bool.{true}
use mathlib.Core.List.{List, ◌++◌}
use mathlib.Core.Path.{◌≡◌, refl}
use native.Mathlib.Omega.{arith}
use lib.Dec.{lit≤}
use lib.IntN.{pos, negsuc}
use lib.ListN.{length}
use Rattle.lattice.specs.Shape.{window, cells_of}
use Rattle.lattice.specs.Cell.{cell_at}
use Rattle.lattice.proofs.theory.LineCounts.{zeros_at}
use Rattle.lattice.proofs.examples.Placing.{OfThree, three_cluster, three_few, OfMate, mate_cluster, mate_few}
use Rattle.lattice.proofs.examples.Windows.{window_field, window_accepted, window_rules}
use Rattle.codec.specs.Field.{field_of, differences}
use Rattle.codec.specs.Payload.{Bytes}
use Rattle.codec.specs.Plan.{plan_bytes}
use Rattle.codec.specs.Encode.{encoded_field}
use Rattle.codec.specs.Damage.{erased_field}
use Rattle.codec.proofs.examples.Coding.{accepted, payload, payload_long, payload_bytes_lem, written_from}
use Rattle.codec.proofs.examples.Erased.{is_mate, mates_selected}
use Rattle.codec.proofs.examples.Windows.{window_payload, window_payload_long, window_payload_bytes, window_written}
use Rattle.codec.proofs.examples.Windows.{window_from_lem}
use Rattle.codec.proofs.examples.Windows.{is_edge, window_selected, window_damaged, is_either, windows_selected, windows_erased}
use Rattle.std.specs.Prelude.{Some, None}
use Rattle.card.specs.declared.header.Header.{Header}
use Rattle.card.specs.Text.{header_text, number_line, payload_text, mended_key}
use Rattle.card.specs.Card.{max_answer, shape_of, FieldCells, CardHeader, payload_card, field_card}
use Rattle.card.specs.Parse.{read, header_of, payload_ok}
use Rattle.card.specs.Program.{blank_payload, rows_fit, answer}
use Rattle.card.specs.Form.{HeaderFirst, Body, CardText}
use Rattle.card.specs.theorems.Outputs.{longest_header}
use Rattle.card.proofs.theory.CardLimits.{card_small}
use Rattle.card.proofs.theory.FirstByte.{payload_other}
use Rattle.card.proofs.theory.PrintedRows.{written_cells}
use Rattle.card.proofs.theory.ProgramParts.{blank_payload_lem}
use Rattle.card.proofs.theorems.Outputs.{output_forms}
use Rattle.card.proofs.theorems.Parsing.{text_parses}
use Rattle.card.proofs.theorems.RoundTrip.{erased_is_read, window_is_read}

-- its header is one of a card
abbrev pub header : Header
header = record { columns = 5; rows = 5; planes = 1; strength = 3; window = None }

pub card : CardHeader header
card = record { accepted = accepted; cells = lit≤ tt }

-- the cells of its field
abbrev pub cells : List ℕ
cells = encoded_field (shape_of header) payload

pub field_cells : FieldCells header cells
field_cells = written_cells header card payload payload_long payload_bytes_lem

-- its text is read: the header, the payload, and the rows
pub header_found : header_of (payload_card header payload) ≡ read header (length (header_text header))
header_found = (text_parses.payload_header header card payload).0

pub header_first : HeaderFirst (payload_card header payload)
header_first =
    record {
      header = header;
      rest = payload_text payload;
      small = card_small header card;
      text = refl;
      whole = λ _. payload_other payload;
    }

pub payload_right : payload_ok (payload_card header payload) (length (header_text header)) ≡ true
payload_right = (text_parses.payload_back header payload payload_bytes_lem).0

pub rows_found : header_of (field_card header cells) ≡ read header (length (header_text header))
rows_found = (text_parses.field_header header card cells).0

pub rows_right : rows_fit (field_card header cells) header (length (header_text header)) ≡ true
rows_right = (text_parses.field_back header cells field_cells).0

-- it is a card text
pub card_text : CardText (payload_card header payload)
unfolding header_first
card_text = record { first = header_first; card = card; body = Body.payload payload payload_bytes_lem refl }

-- with a cell of each of two clusters erased the card is read
pub mates_read : answer (field_card header (erased_field (shape_of header) cells is_mate))
    ≡ header_text header ++ (number_line mended_key 2 ++ payload_text payload)
unfolding cell_at
mates_read =
    erased_is_read header card payload cells payload_long payload_bytes_lem written_from OfThree OfMate three_cluster three_few
    mate_cluster mate_few is_mate mates_selected

-- a card by window: codec's field of 7 columns and 5 rows with a window of 2 rows and 3 columns
abbrev pub window_header : Header
window_header = record { columns = 7; rows = 5; planes = 1; strength = 0; window = Some (window 2 3) }

pub window_card : CardHeader window_header
window_card = record { accepted = window_accepted; cells = lit≤ tt }

-- with cells of a window that hangs over two edges turned over it is read, and with cells of two such windows erased
pub window_read_lem : answer (field_card window_header window_damaged)
    ≡ header_text window_header
    ++ (number_line mended_key (differences (field_of window_written) (field_of window_damaged) (cells_of window_field))
    ++ payload_text window_payload)
window_read_lem =
    window_is_read.damaged window_header window_card window_rules window_payload window_written window_payload_long
    window_payload_bytes window_from_lem (negsuc 0) (negsuc 0) is_edge window_selected

pub windows_read : answer (field_card window_header windows_erased)
    ≡ header_text window_header ++ (number_line mended_key 3 ++ payload_text window_payload)
unfolding cell_at
windows_read =
    window_is_read.erased window_header window_card window_rules window_payload window_written window_payload_long
    window_payload_bytes window_from_lem (negsuc 0) (negsuc 0) (pos 4) (pos 5) is_either windows_selected

-- a payload of the longest answer's field, all 0, whose answer is that long
pub longest_long : length (blank_payload longest_header) ≡ plan_bytes (shape_of longest_header)
longest_long = blank_payload_lem longest_header

pub longest_bytes : Bytes (blank_payload longest_header)
longest_bytes j = omega (arith, zeros_at (plan_bytes (shape_of longest_header)) j)

pub longest_answer : length (answer (payload_card longest_header (blank_payload longest_header))) ≡ max_answer
longest_answer = output_forms.longest (blank_payload longest_header) longest_long longest_bytes
