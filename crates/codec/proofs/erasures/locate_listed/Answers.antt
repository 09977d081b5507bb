-- `locate_listed` meets its contract.
use native.Mathlib.Omega.{arith}
use Prim.Native.Nat.{◌≤◌}
use mathlib.Core.Path.{◌≡◌, sym, ◌∙◌}
use native.Mathlib.Nat.{le_refl}
use Rattle.lattice.specs.Shape.{max_classes}
use Rattle.lattice.specs.Class.{classes_of}
use Rattle.lattice.specs.Lines.{pass_of}
use Rattle.lattice.proofs.theory.NextLine.{pass_accepted}
use Rattle.lattice.proofs.theory.SizesByLines.{cells_are}
use Rattle.codec.proofs.theory.WorkArrays.{zeros}
use Rattle.codec.proofs.theory.CorrectedField.{classes_given, classes_few}
use Rattle.codec.proofs.theory.LocatedCells.{located_listed}
use Rattle.codec.proofs.erasures.locate_listed.Goals.{After-classes-m, After-pass}
use Rattle.codec.proofs.erasures.locate_listed.Goals as goal

-- the pass is the shape's own
own : (c : After-pass) → c.pass.result ≡ pass_of c.args.shape
own c = c.pass.ensures ∙ pass_accepted _ c.requires.field_fits.0.accepted

-- and so are the classes, for each of which the arrays have an entry
given : (c : After-classes-m) → c.classes-m.result ≡ classes_of c.args.shape
given c = classes_given _ c.requires.field_fits.0.accepted _ c.classes-m.ensures

few : (c : After-classes-m) → c.classes-m.result ≤ max_classes
few c = classes_few _ c.requires.field_fits.0.accepted _ c.classes-m.ensures

pub field_syndromes-requires : goal.field_syndromes-requires
field_syndromes-requires c =
    let fits = c.requires.field_fits.0 in
    let same = own (goal.at.field_syndromes-requires c).After-pass in
    record {
      of_shape = (
        record { shape = _; accepted = fits.accepted; same = same },
        fits.long ∙ sym (cells_are _ fits.accepted _ same),
        le_refl _,
      );
      holds_zeros = zeros;
    }

pub list_damaged-requires : goal.list_damaged-requires
list_damaged-requires c = (few (goal.at.list_damaged-requires c).After-classes-m, omega arith)

pub keep_ones-requires : goal.keep_ones-requires
keep_ones-requires c = (few (goal.at.keep_ones-requires c).After-classes-m, omega arith)

pub keep_ones-requires-2 : goal.keep_ones-requires-2
keep_ones-requires-2 c =
    (few (goal.at.keep_ones-requires-2 c).After-classes-m, omega arith)

pub returns : goal.returns
returns c =
    let ok = c.requires.field_fits.0.accepted in
    located_listed c.args.shape ok c.args.field.now c.args.syndromes.now _ c.requires.holds_syndromes
    (c.cells_at.ensures.cells_at ok) c.requires.field_fits.1 _ _ _ _ _ _
    (c.field_syndromes.ensures _ ok (own (goal.at.returns c).After-pass)) c.requires.lists_erasures
    (λ a l. c.list_damaged.ensures a (rw (given (goal.at.returns c).After-classes-m) l))
    (λ a l. c.keep_ones.ensures a (rw (given (goal.at.returns c).After-classes-m) l))
    (λ a l. c.keep_ones-2.ensures a (rw (given (goal.at.returns c).After-classes-m) l))
