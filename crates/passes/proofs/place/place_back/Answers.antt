-- `place_back` meets its contract: where the arrays hold what they should, the class has an entry and a cell left.
use native.Mathlib.Omega.{arith}
use Rattle.lattice.proofs.theory.PlaceBack.{back_below, back_some, back_placed, back_counted}
use Rattle.passes.proofs.place.place_back.Goals as goal

pub returns-then-class-ge-MAX_CLASSES : goal.returns-then-class-ge-MAX_CLASSES
returns-then-class-ge-MAX_CLASSES c =
    let class = c.class_at-class.ensures in
    record {
      at_place = λ at. absurd (omega (arith, back_below _ _ _ _ _ at _ class, c.if-class-ge-MAX_CLASSES.true));
      holds_rest = λ at. absurd (omega (arith, back_below _ _ _ _ _ at _ class, c.if-class-ge-MAX_CLASSES.true));
    }

pub returns-then-behind-class : goal.returns-then-behind-class
returns-then-behind-class c =
    let class = c.class_at-class.ensures in
    record {
      at_place = λ at. absurd (omega (arith, back_some _ _ _ _ _ at _ class, c.if-behind-class.true));
      holds_rest = λ at. absurd (omega (arith, back_some _ _ _ _ _ at _ class, c.if-behind-class.true));
    }

pub returns : goal.returns
returns c =
    let class = c.class_at-class.ensures in
    let counted = c.count_back-position.ensures in
    record {
      at_place = λ at. back_placed _ _ _ _ _ at _ class _ counted.value;
      holds_rest = λ at. back_counted _ _ _ _ _ at _ class _ counted.entry_stored;
    }
