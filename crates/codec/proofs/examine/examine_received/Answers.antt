-- `examine_received` meets its contract: the erasures, then the reach, then the padding.
use mathlib.Core.Path.{◌≡◌, sym, ◌∙◌}
use native.Mathlib.Nat.{le_refl}
use native.Mathlib.Omega.{arith}
use Rattle.lattice.specs.Lines.{pass_of}
use Rattle.lattice.proofs.theory.Bools.{failed, passed}
use Rattle.lattice.proofs.theory.NextLine.{pass_accepted}
use Rattle.lattice.proofs.theory.SizesByLines.{cells_are}
use Rattle.codec.specs.Code.{field_in_reach}
use Rattle.codec.specs.Field.{field_of}
use Rattle.codec.proofs.theory.CorrectedField.{classes_given, classes_few}
use Rattle.codec.proofs.theory.FieldLists.{ok_received}
use Rattle.codec.proofs.theory.FieldNumber.{number_erasures, number_reach, number_padding, number_none}
use Rattle.codec.proofs.theory.WorkArrays.{zeros}
use Rattle.codec.proofs.examine.Reach.{all_reach}
use Rattle.codec.proofs.examine.examine_received.Goals.{After-all_in_reach, After-pass}
use Rattle.codec.proofs.examine.examine_received.Goals as goal

-- the pass is the shape's own
own : (c : After-pass) → c.pass.result ≡ pass_of c.args.shape
own c = c.pass.ensures ∙ pass_accepted _ c.requires.field_fits.0.accepted

-- a codeword is in reach of each class, or of some class none is
reach : (c : After-all_in_reach)
    → c.all_in_reach.result ≡ field_in_reach c.args.shape (field_of c.args.field.now)
reach c =
    let ok = c.requires.field_fits.0.accepted in
    all_reach _ c.args.field.now _ _ _ _ _ _ ok (c.field_syndromes.ensures _ ok (c.pass.ensures
    ∙ pass_accepted _ c.requires.field_fits.0.accepted))
    (c.locate.ensures.located c.if-not-locate.false)
    (classes_given _ ok _ c.classes.ensures) c.all_in_reach.ensures

pub field_syndromes-requires : goal.field_syndromes-requires
field_syndromes-requires c =
    let fits = c.requires.field_fits.0 in
    record {
      of_shape = (
        record { shape = _; accepted = fits.accepted; same = own (goal.at.field_syndromes-requires c).After-pass },
        fits.long ∙ sym (cells_are _ fits.accepted _ (own (goal.at.field_syndromes-requires c).After-pass)),
        le_refl _,
      );
      holds_zeros = zeros;
    }

pub locate-requires : goal.locate-requires
locate-requires c =
    let fits = c.requires.field_fits.0 in
    record {
      field_fits = (fits, ok_received _ _ c.requires.field_fits.1);
      by_index = c.requires.by_index;
      holds_syndromes = c.field_syndromes.ensures _ fits.accepted (own (goal.at.locate-requires c).After-pass);
      holds_none = c.requires.holds_none;
    }

pub returns-then-not-locate : goal.returns-then-not-locate
returns-then-not-locate c =
    record {
      result_value = number_erasures _ _ c.requires.field_fits.1 (failed _ _ c.if-not-locate.true c.locate.ensures.value);
      located = λ z. absurd (omega arith);
    }

pub all_in_reach-requires : goal.all_in_reach-requires
all_in_reach-requires c =
    classes_few _ c.requires.field_fits.0.accepted _ c.classes.ensures

pub returns-then-not-all_in_reach : goal.returns-then-not-all_in_reach
returns-then-not-all_in_reach c =
    record {
      result_value = number_reach _ _ c.requires.field_fits.1 (passed _ _ c.if-not-locate.false c.locate.ensures.value)
          (failed _ _ c.if-not-all_in_reach.true (reach (goal.at.returns-then-not-all_in_reach c).After-all_in_reach));
      located = λ z. absurd (omega arith);
    }

pub returns-then-not-padding_ok : goal.returns-then-not-padding_ok
returns-then-not-padding_ok c =
    record {
      result_value = number_padding _ _ c.requires.field_fits.1 (passed _ _ c.if-not-locate.false c.locate.ensures.value)
          (passed _ _ c.if-not-all_in_reach.false (reach (goal.at.returns-then-not-padding_ok c).After-all_in_reach))
          (failed _ _ c.if-not-padding_ok.true c.padding_ok.ensures);
      located = λ z. absurd (omega arith);
    }

pub returns : goal.returns
returns c =
    record {
      result_value = number_none _ _ c.requires.field_fits.1 (passed _ _ c.if-not-locate.false c.locate.ensures.value)
          (passed _ _ c.if-not-all_in_reach.false (reach (goal.at.returns c).After-all_in_reach))
          (passed _ _ c.if-not-padding_ok.false c.padding_ok.ensures);
      located = λ z. c.locate.ensures.located c.if-not-locate.false;
    }
