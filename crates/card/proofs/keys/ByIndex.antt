-- The lines of some keys, read and written one after the other by the index of their keys.
use Prim.Native.Nat.{ℕ, zero, suc, ◌+◌, ◌<◌, ◌≤◌}
use mathlib.Core.Bool.{◌||◌}
use mathlib.Core.List.{List, [], ◌∷◌, ◌++◌, map, append_assoc, append-nil}
use mathlib.Core.Path.{◌≡◌, refl, sym, ap, subst, ◌∙◌}
use native.Mathlib.Nat.{not-suc-le-zero, le_of_suc-le-suc}
use native.Mathlib.Numerals.{add-one}
use native.Mathlib.Omega.{arith}
use denote.Ref.{Bor}
use lib.ListN.{length, get_or, set, take, drop, length-set, take-append-drop}
use lib.Seq.{take-suc, take-suc-set, take_all, drop-cons}
use Rattle.std.proofs.lemmas.List.{length-map, get_or-map}
use Rattle.std.specs.List.{list_any}
use Rattle.std.specs.Prelude.{Option, Some, None}
use Rattle.card.specs.declared.scan.Found.{Found}
use Rattle.card.specs.Text.{number_line, NumberLine, lines_text, lines_of}
use Rattle.card.specs.Parse.{key_at, line_at, LinesRead, read, before, after_line, lines_at, any_key_at}
use Rattle.card.specs.Working.{HasRoom, Printed}
use Rattle.card.proofs.theory.LineText.{at_line, line_inside}
use Rattle.card.proofs.theory.LinesText.{lines_append}
use Rattle.card.proofs.theory.Printed.{printed_then, room_first, room_next}

-- the keys that a list of borrowed keys holds
abbrev pub texts : List (Bor (List ℕ)) → List (List ℕ)
texts ks = map (λ key. key.now) ks

pub texts_long : (ks : List (Bor (List ℕ))) → length (texts ks) ≡ length ks
texts_long ks = length-map ks (λ key. key.now)

pub text_of : (ks : List (Bor (List ℕ))) (k : ℕ) (d : Bor (List ℕ)) → k < length ks → (get_or ks k d).now ≡ get_or (texts ks) k []
text_of ks k d l = sym (get_or-map (λ key. key.now) ks k d [] l)

-- one of them stands at a position
pub any_text : (ks : List (Bor (List ℕ))) (s : List ℕ) (at : ℕ)
    → list_any (λ key. key_at key.now s at) ks ≡ any_key_at (texts ks) s at
any_text [] s at = refl
any_text (k ∷ ks) s at = ap (λ b. key_at k.now s at || b) (any_text ks s at)

-- numbers put before numbers
before_more : (ns : List ℕ) (n : ℕ) (r : LinesRead) → before ns (before (n ∷ []) r) ≡ before (ns ++ (n ∷ [])) r
before_more ns n (Some r) = ap (λ (l : List ℕ). read l r.next) (sym (append_assoc ns (n ∷ []) r.value))
before_more ns n None = refl

module _ (keys : List (List ℕ)) (s : List ℕ) (at : ℕ) where
  -- k lines are read: the others are to be read from `next` on
  pub record Reading (numbers : List ℕ) (next k : ℕ) : Type 0 where
    pub some : k ≤ length keys
    pub inside : next ≤ length s
    pub room : length keys ≡ length numbers
    pub reads : lines_at keys s at ≡ before (take k numbers) (lines_at (drop k keys) s next)

  module _ (numbers : List ℕ) (next k : ℕ) (x : Reading numbers next k) where
    -- the next line, whatever it is
    one_more : (key : List ℕ) → key ≡ get_or keys k [] → k < length keys → (r : Option (Found ℕ)) → line_at key s next ≡ r
        → lines_at keys s at ≡ before (take k numbers) (after_line (lines_at (drop (suc k) keys) s) r)
    one_more key same l r e =
        x.reads
        ∙ ap (λ (ks : List (List ℕ)). before (take k numbers) (lines_at ks s next)) (drop-cons keys k [] l)
        ∙ ap (λ (a : Option (Found ℕ)). before (take k numbers) (after_line (lines_at (drop (suc k) keys) s) a))
        (ap (λ (a : List ℕ). line_at a s next) (sym same) ∙ e)

    pub reading_more : (key : List ℕ) → key ≡ get_or keys k [] → k < length keys
        → (n behind : ℕ) → line_at key s next ≡ read n behind → Reading (set numbers k n) behind (k + 1)
    reading_more key same l n behind e =
        record {
          some = omega arith;
          inside = line_inside key s next n behind (at_line key s next n behind e);
          room = omega (arith, length-set numbers k n, x.room);
          reads =
              one_more key same l (read n behind) e
              ∙ before_more (take k numbers) n (lines_at (drop (suc k) keys) s behind)
              ∙ ap (λ (ns : List ℕ). before ns (lines_at (drop (suc k) keys) s behind))
              (sym (take-suc-set numbers k n (omega (arith, x.room))))
              ∙ ap (λ (j : ℕ). before (take j (set numbers k n)) (lines_at (drop j keys) s behind)) (sym (add-one k));
        }

-- the line of an index
no_line : NumberLine
no_line = record { key = []; number = 0 }

line_of : (keys : List (List ℕ)) (ns : List ℕ) (k : ℕ) → length keys ≡ length ns → k < length ns
    → get_or (lines_of keys ns) k no_line ≡ record { key = get_or keys k []; number = get_or ns k 0 }
line_of keys [] k e l = absurd (not-suc-le-zero l)
line_of [] (n ∷ ns) k e l = absurd (omega arith)
line_of (key ∷ keys) (n ∷ ns) zero e l = refl
line_of (key ∷ keys) (n ∷ ns) (suc k) e l = line_of keys ns k (omega arith) (le_of_suc-le-suc l)

lines_long : (keys : List (List ℕ)) (ns : List ℕ) → length keys ≡ length ns → length (lines_of keys ns) ≡ length ns
lines_long [] ns e = e
lines_long (key ∷ keys) [] e = omega arith
lines_long (key ∷ keys) (n ∷ ns) e = omega (arith, lines_long keys ns (omega arith))

-- k lines are written
pub record Writing (lines : List NumberLine) (xs : List ℕ) (at : ℕ) (ys : List ℕ) (next k : ℕ) : Type 0 where
  pub some : k ≤ length lines
  pub printed : Printed xs ys at (lines_text (take k lines)) next

module _ {xs : List ℕ} {at : ℕ} (keys : List (List ℕ)) (ns : List ℕ) (count : length keys ≡ length ns)
    (room : HasRoom xs at (lines_text (lines_of keys ns))) where
  -- the lines before index k have room
  room_of : (k : ℕ) → HasRoom xs at (lines_text (take k (lines_of keys ns)))
  room_of k =
      let all = lines_of keys ns in
      let parts = ap lines_text (sym (take-append-drop k all)) ∙ lines_append (take k all) (drop k all) in
      room_first (lines_text (drop k all)) (subst (λ (t : List ℕ). HasRoom xs at t) parts room)

  module _ {ys : List ℕ} {next k : ℕ} (x : Writing (lines_of keys ns) xs at ys next k) where
    pub writing_all : length ns ≤ k → Printed xs ys at (lines_text (lines_of keys ns)) next
    writing_all l =
        subst (λ (ls : List NumberLine). Printed xs ys at (lines_text ls) next)
        (take_all k (lines_of keys ns) (omega (arith, lines_long keys ns count)))
        x.printed

    -- the text of the next line
    module _ (key : List ℕ) (same : key ≡ get_or keys k []) (l : k < length ns) where
      more : lines_text (take (suc k) (lines_of keys ns))
          ≡ lines_text (take k (lines_of keys ns)) ++ number_line key (get_or ns k 0)
      more =
          let all = lines_of keys ns in
          ap lines_text (take-suc all k no_line (omega (arith, lines_long keys ns count)))
          ∙ ap (λ (a : NumberLine). lines_text (take k all ++ (a ∷ []))) (line_of keys ns k count l)
          ∙ lines_append (take k all) _
          ∙ ap (λ (t : List ℕ). lines_text (take k all) ++ t) (append-nil (number_line (get_or keys k []) (get_or ns k 0)))
          ∙ ap (λ (a : List ℕ). lines_text (take k all) ++ number_line a (get_or ns k 0)) (sym same)

      both : HasRoom xs at (lines_text (take k (lines_of keys ns)) ++ number_line key (get_or ns k 0))
      both = subst (λ (t : List ℕ). HasRoom xs at t) more (room_of (suc k))

      pub line_room : HasRoom ys next (number_line key (get_or ns k 0))
      line_room = room_next both x.printed

      pub writing_more : {zs : List ℕ} {behind : ℕ} → Printed ys zs next (number_line key (get_or ns k 0)) behind
          → Writing (lines_of keys ns) xs at zs behind (k + 1)
      writing_more {zs} {behind} p =
          record {
            some = omega (arith, lines_long keys ns count);
            printed =
                subst (λ (j : ℕ). Printed xs zs at (lines_text (take j (lines_of keys ns))) behind) (sym (add-one k))
                (subst (λ (t : List ℕ). Printed xs zs at t behind) (sym more) (printed_then both x.printed p));
          }
