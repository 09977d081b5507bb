-- `payload_ok` meets its contract: the tests of the line come one after the other, in the definition's order.
use Prim.Native.Nat.{ℕ, ◌+◌, ◌≤◌}
use mathlib.Core.Bool.{true}
use mathlib.Core.Path.{◌≡◌, refl, ◌∙◌}
use native.Mathlib.Omega.{arith}
use lib.ListN.{length, get_or}
use Rattle.std.proofs.Common.{rules, tests}
use Rattle.std.proofs.lemmas.Iterator.{YieldsList-from_range}
use Rattle.std.proofs.lemmas.Iterator.Search.{all_from_yields_List}
use Rattle.lattice.proofs.theory.Bools.{failed, passed}
use Rattle.card.specs.Parse.{key_at, is_hex, hex_count}
use Rattle.card.specs.Text.{payload_key}
use Rattle.card.proofs.theory.ByteTests.{all_range}
use Rattle.card.proofs.theory.PayloadStored.{payload_no_key, payload_inside, payload_short, payload_unended, payload_odd}
use Rattle.card.proofs.theory.PayloadStored.{payload_digits}
use Rattle.card.proofs.body.payload_ok.Goals.{Else-not-is_payload}
use Rattle.card.proofs.body.payload_ok.Goals as goal

key : (c : Else-not-is_payload)
    → let a = c.args in
    key_at payload_key a.text.now a.at ≡ true
key c = passed _ _ c.if-not-is_payload.false c.is_payload.ensures

inside : (c : Else-not-is_payload)
    → let a = c.args in
    a.at + 8 ≤ length a.text.now
inside c = payload_inside _ _ (key c)

pub returns-then-not-is_payload : goal.returns-then-not-is_payload
returns-then-not-is_payload c = payload_no_key _ _ (failed _ _ c.if-not-is_payload.true c.is_payload.ensures)

pub overflow_add-start : goal.overflow_add-start
overflow_add-start c = omega (arith, inside c)

pub returns-then-start-text : goal.returns-then-start-text
returns-then-start-text c = payload_short _ _ (key (goal.at.returns-then-start-text c).Else-not-is_payload) c.if-start-text.true

pub returns-then-text-last-ne10 : goal.returns-then-text-last-ne10
returns-then-text-last-ne10 c = payload_unended _ _ (key (goal.at.returns-then-text-last-ne10 c).Else-not-is_payload)
    c.if-start-text.false c.if-text-last-ne10.true

pub returns-then-digits-ne0 : goal.returns-then-digits-ne0
returns-then-digits-ne0 c =
    payload_odd _ _ (key (goal.at.returns-then-digits-ne0 c).Else-not-is_payload) c.if-start-text.false
    c.if-text-last-ne10.false c.if-digits-ne0.true

pub returns : goal.returns
returns c =
    let a = c.args in
    let digit = λ (j : ℕ). is_hex (get_or a.text.now (a.at + 8 + j) 0) in
    payload_digits _ _ (key (goal.at.returns c).Else-not-is_payload) c.if-start-text.false c.if-text-last-ne10.false
    c.if-digits-ne0.false _
    (all_from_yields_List digit _ _ c.all.result c.all.ensures.ran
    (YieldsList-from_range 0 (hex_count a.text.now a.at) (hex_count a.text.now a.at) refl (omega arith))
    (λ x b q k. search (rules, tests))
    ∙ all_range digit (hex_count a.text.now a.at))
