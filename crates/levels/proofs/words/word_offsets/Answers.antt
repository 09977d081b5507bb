-- `word_offsets` meets its contract.
use Prim.Native.Nat.{ℕ, ◌≤◌}
use native.Mathlib.Nat.{lt_of_lt_of_le}
use native.Mathlib.Omega.{arith}
use lib.ListN.{get_or}
use Rattle.lattice.specs.Digits.{words_in}
use Rattle.lattice.proofs.theory.Counting.{sum_more}
use Rattle.lattice.proofs.theory.Stores.{entry_stored}
use Rattle.levels.proofs.words.Offsets.{offsets_more, words_few}
use Rattle.levels.proofs.words.word_offsets.Goals.{After-words_in-sum}
use Rattle.levels.proofs.words.word_offsets.Goals as goal

-- the words of the class of a turn are few
few : (c : After-words_in-sum) → c.words_in-sum.result ≤ 10923
few c =
    let pre = c.requires in
    let sizes = c.args.sizes.now in
    let a = c.loop-a.a in
    omega (
      arith,
      c.words_in-sum.ensures,
      words_few (get_or sizes a 0),
      pre.by_index a (lt_of_lt_of_le c.loop-a-test.true pre.classes_le_max_classes),
    )

pub overflow_add-sum : goal.overflow_add-sum
overflow_add-sum c = omega (arith, few c, c.requires.classes_le_max_classes)

pub loop-a-preserved : goal.loop-a-preserved
loop-a-preserved c =
    let g : ℕ → ℕ = λ b. words_in (get_or c.args.sizes.now b 0) in
    let inv = c.loop-a.invariant in (
      omega (arith, few c),
      sum_more g _ _ _ inv.1 c.words_in-sum.ensures,
      offsets_more g _ _ _ _ inv.2 inv.1 (entry_stored _ _ _ (omega arith)),
    )
