-- `fold` meets its contract. The loop's invariant: a is y mod m, and the first y entries are folded.
use Prim.Native.Nat.{◌+◌, ◌<◌, ◌≤◌}
use mathlib.Core.Logic.{⊎_elim}
use mathlib.Core.Path.{◌≡◌, refl, sym, ◌∙◌}
use native.Mathlib.Nat.{mod-lt, zero-mod}
use native.Mathlib.Omega.{arith}
use lib.Seq.{get_or-set_other}
use Rattle.lattice.proofs.theory.LineCounts.{place_next}
use Rattle.codec.proofs.syndromes.LineTaken.{fold_none, fold_more}
use Rattle.codec.proofs.syndromes.fold.Goals.{In-loop-sum}
use Rattle.codec.proofs.syndromes.fold.Goals as goal

-- the place of a turn
place : (c : In-loop-sum) → c.loop-sum.a < c.args.m
place c =
    let m = c.args.m in
    omega (arith, c.loop-sum.invariant.0, mod-lt c.loop-sum.sum-index {m = m} (omega arith))

pub loop-sum-init : goal.loop-sum-init
loop-sum-init c = (
  sym (zero-mod _),
  (λ b l. c.requires.by_index b l ∙ sym (fold_none _ _ c.args.t.now)),
  (λ b l. refl),
)

pub loop-sum-preserved : goal.loop-sum-preserved
loop-sum-preserved c =
    let turn = c.loop-sum in
    let first = c.args.first in
    let own = place (goal.at.loop-sum-preserved c).In-loop-sum in (
      place_next _ turn.sum-index _ _ turn.invariant.0 (c.next_place-a.ensures own),
      fold_more _ first _ c.args.t.now turn.syndromes _ _ turn.invariant.0 (omega (arith, own)) refl turn.invariant.1,
      (λ b outside.
          let other : b ≡ first + turn.a → ⊥ = λ z.
          ⊎_elim (λ (l : b < first). omega arith) (λ (l : first + c.args.m ≤ b). omega (arith, own)) outside in
          get_or-set_other turn.syndromes (first + turn.a) b _ 0 other ∙ turn.invariant.2 b outside),
    )
