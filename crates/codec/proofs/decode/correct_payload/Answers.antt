-- `correct_payload` meets its contract: the bits of each list of cells, one list after another.
use Prim.Native.Nat.{◌≤◌}
use mathlib.Core.Path.{◌≡◌, sym}
use Rattle.lattice.specs.Class.{classes_of}
use Rattle.lattice.specs.Shape.{max_classes}
use Rattle.codec.proofs.theory.FlippedBits.{bits_same}
use Rattle.codec.proofs.theory.CorrectedField.{classes_given, classes_few, names_given, all_flipped}
use Rattle.codec.proofs.decode.correct_payload.Goals.{After-classes-m}
use Rattle.codec.proofs.decode.correct_payload.Goals as goal

own : (c : After-classes-m) → c.classes-m.result ≡ classes_of c.args.shape
own c = classes_given _ c.requires.accepted.0 _ c.classes-m.ensures

few : (c : After-classes-m) → c.classes-m.result ≤ max_classes
few c = classes_few _ c.requires.accepted.0 _ c.classes-m.ensures

pub flip_bits-requires : goal.flip_bits-requires
flip_bits-requires c = (c.requires.amount_le_max_checks.0, few (goal.at.flip_bits-requires c).After-classes-m)

pub flip_bits-requires-2 : goal.flip_bits-requires-2
flip_bits-requires-2 c = (c.requires.amount_le_max_checks.0, few (goal.at.flip_bits-requires-2 c).After-classes-m)

pub flip_bits-requires-3 : goal.flip_bits-requires-3
flip_bits-requires-3 c =
    (c.requires.amount_le_max_checks.0, few (goal.at.flip_bits-requires-3 c).After-classes-m)

pub returns : goal.returns
returns c =
    let ok = c.requires.accepted.0 in
    let cells = sym c.requires.accepted.1 in
    let lists = c.requires.amount_le_max_checks.1 in
    let named = c.requires.names in
    λ f holds.
    bits_same _ _ _ _ (all_flipped _ ok _ (own (goal.at.returns c).After-classes-m) _ _)
    (c.flip_bits-3.ensures _ cells lists _ (names_given _ _ _ _ (own (goal.at.returns c).After-classes-m) named.2)
    (bits_same _ _ _ _ (all_flipped _ ok _ (own (goal.at.returns c).After-classes-m) _ _)
    (c.flip_bits-2.ensures _ cells lists _ (names_given _ _ _ _ (own (goal.at.returns c).After-classes-m) named.1)
    (bits_same _ _ _ _ (all_flipped _ ok _ (own (goal.at.returns c).After-classes-m) _ _)
    (c.flip_bits.ensures _ cells lists f (names_given _ _ _ _ (own (goal.at.returns c).After-classes-m) named.0) holds)))))
