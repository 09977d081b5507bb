-- `examine_levels` meets its contract: the test of the levels, then that of the changes.
use mathlib.Core.Path.{◌≡◌}
use native.Mathlib.Omega.{arith}
use mathlib.Core.Bool.{true}
use lib.ListN.{length}
use Rattle.lattice.proofs.theory.Bools.{failed, passed}
use Rattle.codec.specs.Field.{field_of}
use Rattle.levels.specs.Level.{levels_ok}
use Rattle.levels.specs.Working.{LevelsExamined}
use Rattle.levels.proofs.examine.Tests.{number_above, examined_levels, number_reach, number_none}
use Rattle.levels.proofs.examine.examine_levels.Goals.{After-field_remainders, Else-not-levels_ok}
use Rattle.levels.proofs.examine.examine_levels.Goals as goal

-- where every cell is a level
module _ (c : Else-not-levels_ok) where
  ok : let f = c.args.field.now in levels_ok (field_of f) (length f) ≡ true
  ok = passed _ _ c.if-not-levels_ok.false c.levels_ok.ensures

-- the remainders of the words of such a field
module _ (c : After-field_remainders) where
  examined :
      let a = c.args in
      LevelsExamined a.shape a.field.now a.words.now c.field_remainders.new.remainders
  examined =
      let pre = c.requires in
      record {
        laid = pre.laid;
        long = pre.field_len;
        levels = examined_levels c.args.shape c.args.field.now pre.field_len (passed _ _ c.if-not-levels_ok.false
            c.levels_ok.ensures);
        held = c.field_remainders.ensures;
      }

pub returns-then-not-levels_ok : goal.returns-then-not-levels_ok
returns-then-not-levels_ok c =
    let a = c.args in
    record {
      result_value = number_above a.shape a.field.now c.requires.field_len (failed _ _ c.if-not-levels_ok.true
          c.levels_ok.ensures);
      levels_examined = λ z. absurd (omega arith);
    }

pub levels_in_reach-requires : goal.levels_in_reach-requires
levels_in_reach-requires c = examined c

pub returns-then-not-levels_in_reach : goal.returns-then-not-levels_in_reach
returns-then-not-levels_in_reach c =
    let a = c.args in
    record {
      result_value = number_reach a.shape a.field.now c.requires.field_len
          (ok (goal.at.returns-then-not-levels_in_reach c).Else-not-levels_ok)
          (failed _ _ c.if-not-levels_in_reach.true c.levels_in_reach.ensures);
      levels_examined = λ z. absurd (omega arith);
    }

pub returns : goal.returns
returns c =
    let a = c.args in
    record {
      result_value = number_none a.shape a.field.now c.requires.field_len (ok (goal.at.returns c).Else-not-levels_ok)
          (passed _ _ c.if-not-levels_in_reach.false c.levels_in_reach.ensures);
      levels_examined = λ z. examined (goal.at.returns c).After-field_remainders;
    }
