-- `list_cell` meets its contract.
use Prim.Native.Nat.{ℕ, ◌+◌, ◌<◌, ◌≤◌}
use mathlib.Core.Bool.{true≢false}
use mathlib.Core.Path.{◌≡◌, refl, sym, subst, ◌∙◌}
use native.Mathlib.Nat.{le_refl}
use Rattle.lattice.specs.Shape.{max_classes}
use Rattle.lattice.specs.Class.{class_at, layout_of}
use Rattle.lattice.proofs.theory.ClassAt.{at_class, at_below}
use Rattle.codec.specs.Erasure.{erasures_to}
use Rattle.codec.proofs.theory.WorkArrays.{cell_limit}
use Rattle.codec.proofs.erasures.Listed.{lists_read}
use Rattle.codec.proofs.erasures.list_cell.Goals.{After-class_at}
use Rattle.codec.proofs.erasures.list_cell.Goals as goal

-- the class is the cell's own
own : (c : After-class_at) → c.class_at.result ≡ class_at c.args.shape c.args.cell
own c =
    let p = c.requires in
    at_class _ p.0 _ p.1 _ _ c.class_at.ensures

below : (c : After-class_at) → c.class_at.result < max_classes
below c =
    let p = c.requires in
    at_below _ p.0 _ p.1 _ _ c.class_at.ensures

pub returns-then-value-ne-ERASED : goal.returns-then-value-ne-ERASED
returns-then-value-ne-ERASED c =
    λ f value listed. (
      (λ ok. lists_read (layout_of c.args.shape) f c.args.cell _ _ (λ q. c.if-value-ne-ERASED.true (sym value ∙ q)) listed),
      λ no. absurd (true≢false no),
    )

pub list_erasure-requires : goal.list_erasure-requires
list_erasure-requires c =
    let p = c.requires in
    record {
      class_lt_max_classes = (below c, cell_limit _ _ refl _ p.2 p.0);
      max_classes_in_bounds = (
        rw c.list_erasure-arg-1.given.0.1 (le_refl _),
        rw c.list_erasure-arg-2-1.given.0.1 (le_refl _),
      );
    }

pub returns : goal.returns
returns c =
    let same = own (goal.at.returns c).After-class_at in
    let L = layout_of c.args.shape in
    λ f value listed.
    let r = c.list_erasure.ensures L f (sym same) (value ∙ c.if-value-ne-ERASED.false) listed in
    (r.0, λ no. subst (λ (a : ℕ). 3 ≤ erasures_to L f a (c.args.cell + 1)) same (r.1 no))
