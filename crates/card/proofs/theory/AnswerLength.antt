-- How long the program's answers are.
use Prim.Native.Nat.{ℕ, ◌+◌, ◌*◌, ◌≤◌}
use mathlib.Core.List.{List, ◌++◌}
use mathlib.Core.Logic.{◌≢◌}
use mathlib.Core.Path.{◌≡◌}
use native.Mathlib.Decide.{ℕ_discrete, dec_le}
use native.Mathlib.Nat.{mul-le-mul, mul-le-mul_right}
use native.Mathlib.Omega.{arith}
use lib.ListN.{length, length-append}
use Rattle.lattice.proofs.theory.Limits.{strength_stack, strength_most}
use Rattle.codec.specs.Plan.{plan_classes}
use Rattle.codec.specs.Encode.{encoded_field}
use Rattle.codec.specs.Decode.{decode_count, decode_leaves}
use Rattle.codec.proofs.theorems.Writing.{encode_meaning}
use Rattle.card.specs.declared.header.Header.{Header}
use Rattle.card.specs.Text.{digit_count, number_line, header_lines, header_text, payload_text, field_text, refusal_text}
use Rattle.card.specs.Text.{classes_key, mended_key, refusal_key}
use Rattle.card.specs.Card.{max_answer, shape_of, CardHeader}
use Rattle.card.specs.Program.{blank_payload, written_text, read_text}
use Rattle.card.proofs.theory.DecimalText.{digit_count_range, digit_count_one, digit_count_two, digit_count_three}
use Rattle.card.proofs.theory.LineText.{length_line}
use Rattle.card.proofs.theory.LinesText.{lines_length}
use Rattle.card.proofs.theory.HeaderText.{length_header, header_most}
use Rattle.card.proofs.theory.PayloadText.{length_payload}
use Rattle.card.proofs.theory.FieldText.{length_field}
use Rattle.card.proofs.theory.WindowText.{window_lines_most}
use Rattle.card.proofs.theory.CardLimits.{limits, stack_window, rows_most, bytes_most}
use Rattle.card.proofs.theory.ProgramParts.{blank_payload_lem}
use Rattle.card.proofs.theory.CardPlan.{classes_most, classes_stack, leaves_long}

-- the bytes of a written answer: the first lines and `classes`, and the rows
abbrev pub written_length : Header → ℕ
written_length h =
    lines_length (header_lines h) + (length classes_key + digit_count (plan_classes (shape_of h)) + 1)
    + h.planes * h.rows * (h.columns + 5)

pub written_length_lem : (h : Header) (p : List ℕ) → length (written_text h p) ≡ written_length h
unfolding written_text
written_length_lem h p =
    let s = shape_of h in
    let F = encoded_field s p in
    let classes = number_line classes_key (plan_classes s) in
    omega (
      arith,
      length-append (header_text h) (classes ++ field_text h F),
      length-append classes (field_text h F),
      length_header h,
      length_line classes_key (plan_classes s),
      length_field h F (encode_meaning.long s p),
    )

-- the longest has 4,096 rows of 4 cells: where a row has more there are fewer rows, and a stack's strength and classes have few
-- digits, and the sides of its window, where they are given, one
module _ (h : Header) (card : CardHeader h) where
  strength_width : (h.planes ≢ 1 → digit_count h.strength ≤ 1) × (digit_count h.strength ≤ 2)
  strength_width = (
    (λ stack.
        digit_count_one h.strength
        (omega (arith, strength_stack _ card.accepted stack))),
    digit_count_two h.strength (omega (arith, strength_most _ card.accepted)),
  )

  classes_width : (h.planes ≢ 1 → digit_count (plan_classes (shape_of h)) ≤ 2) × (digit_count (plan_classes (shape_of h)) ≤ 3)
  classes_width = (
    (λ stack. digit_count_two (plan_classes (shape_of h)) (omega (arith, classes_stack (shape_of h) card.accepted stack))),
    digit_count_three (plan_classes (shape_of h)) (omega (arith, classes_most (shape_of h))),
  )

  written_bytes : written_length h ≤ max_answer
  written_bytes = go (dec_le 5 h.columns) (ℕ_discrete h.planes 1)
    where
      rows : digit_count h.rows ≤ 3
      rows = digit_count_three h.rows (omega (arith, (limits h card).height_high))

      planes : digit_count h.planes ≤ 2
      planes = digit_count_two h.planes (omega (arith, (limits h card).planes_high))

      go : Dec (5 ≤ h.columns) → Dec (h.planes ≡ 1) → written_length h ≤ max_answer
      go (yes wide) e =
          omega (
            arith,
            rows,
            planes,
            strength_width.1,
            classes_width.1,
            digit_count_three h.columns (omega (arith, (limits h card).width_high)),
            window_lines_most h.window,
            mul-le-mul_right (h.planes * h.rows) wide,
            card.cells,
          )
      go (no narrow) (yes flat) =
          let few : h.columns ≤ 4 = omega arith in
          let one : h.planes ≤ 1 = omega arith in
          omega (
            arith,
            rows,
            planes,
            strength_width.1,
            classes_width.1,
            digit_count_one h.columns (omega arith),
            window_lines_most h.window,
            mul-le-mul_right (h.planes * h.rows) few,
            mul-le-mul one (limits h card).height_high,
          )
      go (no narrow) (no stack) =
          let few : h.columns ≤ 4 = omega arith in
          omega (
            arith,
            rows,
            planes,
            strength_width.0 stack,
            classes_width.0 stack,
            digit_count_one h.columns (omega arith),
            stack_window h card stack,
            mul-le-mul_right (h.planes * h.rows) few,
            rows_most h card,
          )

-- a field written, in text
pub written_most : (h : Header) → CardHeader h → (p : List ℕ) → length (written_text h p) ≤ max_answer
written_most h card p = omega (arith, written_length_lem h p, written_bytes h card)

-- a field read, in text
pub read_most : (h : Header) → CardHeader h → (cells : List ℕ) → length (read_text h cells) ≤ max_answer
unfolding read_text
read_most h card cells =
    let s = shape_of h in
    let count = decode_count s (blank_payload h) cells in
    let leaves = decode_leaves s (blank_payload h) cells in
    let mended = number_line mended_key count in
    omega (
      arith,
      length-append (header_text h) (mended ++ payload_text leaves),
      length-append mended (payload_text leaves),
      header_most h,
      length_line mended_key count,
      digit_count_range count,
      length_payload leaves,
      leaves_long s card.accepted (blank_payload h) cells (blank_payload_lem h),
      bytes_most h card,
      card.cells,
    )

-- a refusal, in text
pub refusal_most : (k : ℕ) → length (refusal_text k) ≤ max_answer
unfolding refusal_text
refusal_most k = omega (arith, length_line refusal_key k, digit_count_range k)
