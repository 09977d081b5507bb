-- `answer_payload` meets its contract: a payload that no card holds is refused for its length, and any other is encoding's to
-- refuse.
use Prim.Native.Nat.{ℕ, ◌≤◌}
use mathlib.Core.Bool.{true}
use mathlib.Core.List.{List, ◌++◌}
use mathlib.Core.Path.{◌≡◌, sym, ap, subst, ◌∙◌}
use native.Mathlib.Omega.{arith}
use lib.ListN.{length, take, drop, replicate}
use Rattle.lattice.proofs.theory.Bools.{failed, passed}
use Rattle.codec.specs.Payload.{Bytes}
use Rattle.codec.specs.Plan.{plan_bytes}
use Rattle.card.specs.Parse.{payload_ok, payload_of}
use Rattle.card.specs.Card.{max_card_cells, max_card_bytes}
use Rattle.card.specs.Working.{encoded_text}
use Rattle.card.proofs.run.Program.{bad_payload, wrong_length, payload_read}
use Rattle.card.proofs.run.Card.{cells_are, cells_fit, bytes_fit}
use Rattle.card.proofs.theory.Replies.{answered_same}
use Rattle.card.proofs.theory.Answered.{zeros_count, part_again, bytes_read}
use Rattle.card.proofs.theory.PayloadText.{payload_count}
use Rattle.card.proofs.run.answer_payload.Goals.{After-cells-cells, After-fill_payload, After-payload_bytes-bytes}
use Rattle.card.proofs.run.answer_payload.Goals.{Else-not-payload_ok}
use Rattle.card.proofs.run.answer_payload.Goals as goal

ok : (c : Else-not-payload_ok)
    → let a = c.args in
    payload_ok a.input.now a.next ≡ true
ok c = passed _ _ c.if-not-payload_ok.false c.payload_ok.ensures

-- the length of the payload read
bytes_read_are : (c : After-payload_bytes-bytes)
    → let a = c.args in
    length (payload_of a.input.now a.next) ≡ c.payload_bytes-bytes.result
bytes_read_are c = payload_count _ _ ∙ sym c.payload_bytes-bytes.ensures

cells_room : (c : After-cells-cells) → c.cells-cells.result ≤ max_card_cells
cells_room c = cells_fit _ _ c.requires.body_read.shaped _ c.cells-cells.ensures

-- the part that was filled, and the bytes behind it
abbrev part : (c : After-fill_payload) → List ℕ
part c = c.fill_payload.new.payload

abbrev behind : (c : After-fill_payload) → List ℕ
behind c = drop c.payload_bytes-bytes.result (replicate max_card_bytes 0)

long : (c : After-fill_payload) → length (part c) ≡ c.payload_bytes-bytes.result
long c = ap length c.fill_payload.ensures ∙ (payload_count _ _ ∙ sym c.payload_bytes-bytes.ensures)

again : (c : After-fill_payload)
    → let a = c.args in
    take c.payload_bytes-bytes.result (part c ++ behind c) ≡ payload_of a.input.now a.next
again c = part_again _ _ _ (long c) ∙ c.fill_payload.ensures

pub returns-then-not-payload_ok : goal.returns-then-not-payload_ok
returns-then-not-payload_ok c =
    let p = c.requires in
    answered_same
    (bad_payload _ _ _ p.body_read.header p.body_read.shaped.card p.next_value
    (failed _ _ c.if-not-payload_ok.true c.payload_ok.ensures))
    c.refuse.ensures

pub returns-then-bytes-gt-MAX_BYTES : goal.returns-then-bytes-gt-MAX_BYTES
returns-then-bytes-gt-MAX_BYTES c =
    let p = c.requires in
    answered_same
    (wrong_length _ _ _ p.body_read.header p.body_read.shaped.card p.next_value
    (ok (goal.at.returns-then-bytes-gt-MAX_BYTES c).Else-not-payload_ok)
    (λ e. omega (
      arith,
      c.if-bytes-gt-MAX_BYTES.true,
      bytes_read_are (goal.at.returns-then-bytes-gt-MAX_BYTES c).After-payload_bytes-bytes,
      bytes_fit _ _ p.body_read.shaped,
      ap plan_bytes p.body_read.shaped.shape,
    )))
    c.refuse-then-bytes-gt-MAX_BYTES.ensures

pub write_card-requires : goal.write_card-requires
write_card-requires c =
    let p = c.requires in
    record {
      card_shape = p.body_read.shaped;
      bytes = subst Bytes (sym (again (goal.at.write_card-requires c).After-fill_payload))
          (bytes_read _ _ (ok (goal.at.write_card-requires c).Else-not-payload_ok));
      field_len = sym (zeros_count _ max_card_cells (cells_room (goal.at.write_card-requires c).After-cells-cells))
          ∙ cells_are _ _ p.body_read.shaped _ c.cells-cells.ensures;
    }

pub returns : goal.returns
returns c =
    answered_same
    (ap (encoded_text c.args.header) (again (goal.at.returns c).After-fill_payload)
    ∙ sym (payload_read _ _ _ c.requires.body_read.header c.requires.body_read.shaped.card c.requires.next_value
    (ok (goal.at.returns c).Else-not-payload_ok)))
    c.write_card.ensures
