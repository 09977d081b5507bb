-- `flip_located` meets its contract: the cells of each list, one list after another.
use Prim.Native.Nat.{◌≤◌}
use mathlib.Core.Path.{◌≡◌, refl, sym, ◌∙◌}
use native.Mathlib.Omega.{arith}
use Rattle.lattice.specs.Class.{classes_of}
use Rattle.lattice.specs.Shape.{max_classes}
use Rattle.codec.proofs.theory.CorrectedField.{classes_given, classes_few, names_given, flipped_next}
use Rattle.codec.proofs.correct.flip_located.Goals.{After-classes-m}
use Rattle.codec.proofs.correct.flip_located.Goals as goal

own : (c : After-classes-m) → c.classes-m.result ≡ classes_of c.args.shape
own c = classes_given _ c.requires.field_fits.accepted _ c.classes-m.ensures

few : (c : After-classes-m) → c.classes-m.result ≤ max_classes
few c = classes_few _ c.requires.field_fits.accepted _ c.classes-m.ensures

pub flip_cells-requires : goal.flip_cells-requires
flip_cells-requires c = omega (arith, few (goal.at.flip_cells-requires c).After-classes-m)

pub flip_cells-requires-2 : goal.flip_cells-requires-2
flip_cells-requires-2 c = omega (arith, few (goal.at.flip_cells-requires-2 c).After-classes-m)

pub flip_cells-requires-3 : goal.flip_cells-requires-3
flip_cells-requires-3 c = few (goal.at.flip_cells-requires-3 c).After-classes-m

pub returns : goal.returns
returns c =
    let ok = c.requires.field_fits.accepted in
    let named = c.requires.names in
    let long = c.requires.field_fits.long in
    let long-1 = c.flip_cells.auto.field ∙ long in
    let long-2 = c.flip_cells-2.auto.field ∙ long-1 in
    flipped_next _ ok _ (own (goal.at.returns c).After-classes-m) _ _ _ _
    (λ i l. c.flip_cells-3.ensures _ (sym long-2) (names_given _ _ _ _ (own (goal.at.returns c).After-classes-m) named.2) i
    (rw long-2 l))
    (flipped_next _ ok _ (own (goal.at.returns c).After-classes-m) _ _ _ _
    (λ i l. c.flip_cells-2.ensures _ (sym long-1) (names_given _ _ _ _ (own (goal.at.returns c).After-classes-m) named.1) i
    (rw long-1 l))
    (flipped_next _ ok _ (own (goal.at.returns c).After-classes-m) _ _ _ _
    (λ i l. c.flip_cells.ensures _ (sym long) (names_given _ _ _ _ (own (goal.at.returns c).After-classes-m) named.0) i
    (rw long l)) (λ i l. refl)))
