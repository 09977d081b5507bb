-- What follows the header: it passes the test of form exactly when it is the text of one payload or of the rows.
use Prim.Native.Nat.{ℕ, ◌*◌, ◌<◌}
use mathlib.Core.Bool.{Bool, true, false, cond}
use mathlib.Core.List.{List, ◌++◌}
use mathlib.Core.Path.{◌≡◌, sym, ◌∙◌}
use lib.ListN.{length}
use lib.Seq.{drop-append_seam}
use Rattle.card.specs.declared.header.Header.{Header}
use Rattle.card.specs.Parse.{payload_ok, payload_of}
use Rattle.card.specs.Program.{is_payload, rows_fit, cells_in, body_ok}
use Rattle.card.specs.Form.{Body}
use Rattle.card.proofs.theory.PayloadText.{payload_back, payload_key_lem, payload_text_lem}
use Rattle.card.proofs.theory.FieldText.{field_back, field_key, field_text_lem}

pub body_ok_lem : (before : List ℕ) (h : Header) (rest : List ℕ) → 0 < h.planes * h.rows → Body h rest
    → body_ok (before ++ rest) h (length before) ≡ true
unfolding body_ok
body_ok_lem before h rest some (Body.payload p bytes e) =
    rw e (rw (payload_key_lem before p) (payload_back before p bytes).0)
body_ok_lem before h rest some (Body.rows cells x e) =
    rw e (rw (field_key before h cells some) (field_back before h cells x).0)

pub ok_body : (before : List ℕ) (h : Header) (rest : List ℕ) → body_ok (before ++ rest) h (length before) ≡ true → Body h rest
unfolding body_ok
ok_body before h rest p = go (is_payload s (length before)) p
  where
    s : List ℕ
    s = before ++ rest

    go : (b : Bool) → cond b (payload_ok s (length before)) (rows_fit s h (length before)) ≡ true → Body h rest
    go true q =
        let r = payload_text_lem s (length before) q in
        Body.payload (payload_of s (length before)) r.0 (sym (drop-append_seam before rest) ∙ r.1)
    go false q =
        let r = field_text_lem s h (length before) q in
        Body.rows (cells_in s h (length before)) r.0 (sym (drop-append_seam before rest) ∙ r.1)
