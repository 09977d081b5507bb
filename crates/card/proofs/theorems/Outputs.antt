-- The form and the length of the output: the term of the theorem.
use mathlib.Core.Path.{◌≡◌, refl, ap, ◌∙◌}
use native.Mathlib.Omega.{arith}
use borrow.Author.Tests.{le-leb, lt-leb}
use lib.Dec.{lit≤}
use lib.ListN.{length, drop}
use lib.Seq.{take-append_seam, drop-append_seam}
use Rattle.lattice.specs.Range.{in_range}
use Rattle.lattice.specs.Shape.{is_none, max_strength, size_ok, strength_ok, window_ok, shape_number}
use Rattle.lattice.specs.Settings.{stack_table, stack_settings, settings_for}
use Rattle.lattice.specs.Class.{classes_of}
use Rattle.codec.specs.Plan.{plan_classes}
use Rattle.card.specs.Text.{digit_count}
use Rattle.card.specs.Card.{max_answer, shape_of, CardHeader}
use Rattle.card.specs.Program.{blank_payload, output_leaves}
use Rattle.card.specs.theorems.Outputs.{longest_header, OutputForms, AnswerStands}
use Rattle.card.proofs.theory.AnswerLength.{written_length, written_length_lem}
use Rattle.card.proofs.theory.CardPlan.{classes_most, count_cells}
use Rattle.card.proofs.theory.Forms.{form, short}
use Rattle.card.proofs.theory.PrintedRows.{printed}

-- the longest answer's header is a card's, and its field has 92 classes
longest_card : CardHeader longest_header
unfolding in_range max_strength size_ok strength_ok window_ok is_none shape_number
longest_card = record { accepted = refl; cells = lit≤ tt }

longest_classes : plan_classes (shape_of longest_header) ≡ 92
unfolding
    in_range max_strength size_ok strength_ok window_ok is_none shape_number plan_classes classes_of settings_for stack_settings
    stack_table
longest_classes = refl

longest_length : written_length longest_header ≡ max_answer
unfolding digit_count
longest_length = rw longest_classes

-- Theorem. The output is one of three forms, never longer than 36,946 bytes, and its numbers have at most five digits.
pub output_forms : OutputForms
output_forms =
    record {
      form = form;
      short = λ s. short s (form s);
      longest = λ p long bytes.
          ap length (printed longest_header longest_card p long bytes)
          ∙ written_length_lem longest_header p
          ∙ longest_length;
      classes = λ h card. omega (arith, classes_most (shape_of h));
      count = λ h card cells. omega (arith, count_cells (shape_of h) (blank_payload h) cells, card.cells);
    }

-- Theorem. An answer that fits stands at the front of the lent output.
pub answer_stands : AnswerStands
unfolding output_leaves
answer_stands =
    record {
      front = λ text output fits.
          rw (le-leb (length text) (length output) fits) (take-append_seam text (drop (length text) output));
      behind = λ text output fits.
          rw (le-leb (length text) (length output) fits) (drop-append_seam text (drop (length text) output));
      short = λ text output long. rw (lt-leb (length text) (length output) long);
    }
