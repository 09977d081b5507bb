-- `any_key_at` meets its contract: the test of each key is `key_at`.
use mathlib.Core.Path.{◌∙◌}
use Rattle.std.proofs.Common.{rules, tests}
use Rattle.std.proofs.lemmas.Iterator.{YieldsList-from_slice}
use Rattle.std.proofs.lemmas.Iterator.Search.{any_from_yields_List}
use Rattle.card.specs.Parse.{key_at}
use Rattle.card.proofs.keys.ByIndex.{any_text}
use Rattle.card.proofs.keys.any_key_at.Goals as goal

pub returns : goal.returns
returns c =
    let a = c.args in
    any_from_yields_List (λ key. key_at key.now a.text.now a.at) _ _ c.any.result c.any.ensures.ran
    (YieldsList-from_slice a.keys.now (cc))
    (λ x b q k. search (rules, tests))
    ∙ any_text a.keys.now a.text.now a.at
