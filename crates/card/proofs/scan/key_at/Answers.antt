-- `key_at` meets its contract: each byte of the key is tested at its place.
use mathlib.Core.Path.{◌∙◌}
use lib.Dec.{eqb}
use lib.ListN.{get_or}
use Rattle.std.proofs.Common.{rules, tests, ◌+◌}
use Rattle.std.proofs.lemmas.Iterator.{YieldsList-from_slice}
use Rattle.std.proofs.lemmas.Iterator.Consumers.{YieldsList-from_enumerate}
use Rattle.std.proofs.lemmas.Iterator.Search.{all_from_yields_List}
use Rattle.card.proofs.theory.ByteTests.{key_bytes}
use Rattle.card.proofs.scan.key_at.Goals as goal

pub returns : goal.returns
returns c =
    let a = c.args in
    all_from_yields_List (λ p. eqb (get_or a.text.now (a.at + p.0) 0) p.1) _ _ c.all.result c.all.ensures.ran
    (YieldsList-from_enumerate (YieldsList-from_slice a.key.now (cc)) (cc))
    (λ x b q k. search (rules, tests))
    ∙ key_bytes a.key.now a.text.now a.at
