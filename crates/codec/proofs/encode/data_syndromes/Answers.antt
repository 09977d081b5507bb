-- `data_syndromes` meets its contract.
use mathlib.Core.Path.{◌≡◌, sym, ◌∙◌}
use native.Mathlib.Nat.{le_refl}
use Rattle.lattice.specs.Class.{layout_of}
use Rattle.lattice.specs.Lines.{pass_of}
use Rattle.lattice.proofs.theory.NextLine.{pass_accepted}
use Rattle.lattice.proofs.theory.SizesByLines.{cells_are}
use Rattle.codec.specs.Field.{field_of}
use Rattle.codec.specs.Hamming.{tags_of}
use Rattle.codec.proofs.theory.Syndrome.{having_syndrome}
use Rattle.codec.proofs.encode.data_syndromes.Goals.{After-pass}
use Rattle.codec.proofs.encode.data_syndromes.Goals as goal

-- the pass is the shape's own
own : (c : After-pass) → c.pass.result ≡ pass_of c.args.shape
own c = c.pass.ensures ∙ pass_accepted _ c.requires.field_fits.accepted

pub field_syndromes-requires : goal.field_syndromes-requires
field_syndromes-requires c =
    let fits = c.requires.field_fits in
    record {
      of_shape = (
        record { shape = _; accepted = fits.accepted; same = own (goal.at.field_syndromes-requires c).After-pass },
        fits.long ∙ sym (cells_are _ fits.accepted _ (own (goal.at.field_syndromes-requires c).After-pass)),
        rw c.field_syndromes-arg-1.given.0.1 (le_refl _),
      );
      holds_zeros = c.requires.holds_zeros;
    }

pub returns : goal.returns
returns c =
    let held = c.field_syndromes.ensures c.args.shape c.requires.field_fits.accepted (own (goal.at.returns c).After-pass) in
    let L = layout_of c.args.shape in
    record { at = λ a l. held.at a l ∙ having_syndrome L (tags_of L) (field_of c.args.field.now) a L.cells }
