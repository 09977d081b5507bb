-- Parsing: the terms of the theorems.
use mathlib.Core.List.{List, ◌++◌}
use mathlib.Core.Path.{ap, ◌∙◌}
use native.Mathlib.Omega.{arith}
use lib.ListN.{length-append}
use Rattle.card.specs.Text.{header_text, payload_text, field_text}
use Rattle.card.specs.theorems.Parsing.{TextParses, ParsedIsText, OneCard}
use Rattle.card.proofs.theory.HeaderText.{header_most}
use Rattle.card.proofs.theory.HeaderRest.{header_back, header_found, header_same}
use Rattle.card.proofs.theory.PayloadText.{payload_back, payload_key_lem, length_payload, payload_text_lem, payload_same}
use Rattle.card.proofs.theory.FieldText.{field_back, field_key, length_field, field_text_lem, field_same, field_not_payload}
use Rattle.card.proofs.theory.FirstByte.{payload_other, rows_other}
use Rattle.card.proofs.theory.CardLimits.{card_small, rows_some, rows_most, bytes_most}

pub text_parses : TextParses
text_parses =
    record {
      payload_short = λ h x p e.
          omega (arith, length-append (header_text h) (payload_text p), header_most h, length_payload p, bytes_most h x);
      payload_header = λ h x p. (
        header_back h (payload_text p) (card_small h x) (λ _. payload_other p),
        payload_key_lem (header_text h) p,
      );
      payload_back = λ h p bytes. payload_back (header_text h) p bytes;
      field_short = λ h x cells y. omega (
        arith,
        length-append (header_text h) (field_text h cells),
        header_most h,
        length_field h cells y.long,
        rows_most h x,
        x.cells,
      );
      field_header = λ h x cells. (
        header_back h (field_text h cells) (card_small h x) (λ _. rows_other h cells (rows_some h x)),
        field_key (header_text h) h cells (rows_some h x),
      );
      field_back = λ h cells y. field_back (header_text h) h cells y;
    }

pub parsed_is_text : ParsedIsText
parsed_is_text =
    record {
      header = λ s h next found. let x = header_found s h next found in (x.small, x.next_line, x.text, x.whole);
      payload = λ s h next found ok.
          let r = payload_text_lem s next ok in
          (r.0, (header_found s h next found).text ∙ ap (λ (t : List _). header_text h ++ t) r.1);
      rows = λ s h next found fits.
          let r = field_text_lem s h next fits in
          (r.0, (header_found s h next found).text ∙ ap (λ (t : List _). header_text h ++ t) r.1);
    }

pub one_card : OneCard
one_card =
    record {
      header = header_same;
      payload = payload_same;
      rows = field_same;
      either = λ h card p cells. field_not_payload h cells p (rows_some h card);
    }
