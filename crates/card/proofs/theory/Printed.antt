-- Texts written into a buffer one behind the other.
use Prim.Native.Nat.{ℕ, suc, ◌+◌, ◌<◌, ◌≤◌}
use mathlib.Core.List.{List, [], ◌∷◌, ◌++◌, append_assoc}
use mathlib.Core.Path.{◌≡◌, refl, sym, ap, ap₂, subst, ◌∙◌}
use native.Mathlib.Nat.{zero-add, add_assoc, le_antisymm}
use native.Mathlib.Numerals.{add-one}
use native.Mathlib.Omega.{arith}
use lib.ListN.{length, get_or, set, take, drop, length-append, length-drop, take-append-drop}
use lib.Seq.{length-take-le, take_all, take-suc, drop-cons, drop-drop, set_at, take_at, drop-append-add}
use Rattle.card.specs.Working.{HasRoom, Printed}

-- the bytes up to the end of the text, and those behind it
parts : {xs ys : List ℕ} {at next : ℕ} {text : List ℕ} → Printed xs ys at text next
    → ys ≡ (take at xs ++ text) ++ drop (at + length text) xs
parts {xs} {at = at} {text = text} p = p.bytes ∙ sym (append_assoc (take at xs) text _)

front_long : (xs : List ℕ) (at : ℕ) (text : List ℕ) → HasRoom xs at text → length (take at xs ++ text) ≡ at + length text
front_long xs at text r =
    let l : at ≤ length xs = omega (arith, r.fits) in
    length-append (take at xs) text ∙ ap (λ (n : ℕ). n + length text) (length-take-le at xs l)

-- the buffer keeps its length
pub printed_long : {xs ys : List ℕ} {at next : ℕ} {text : List ℕ}
    → HasRoom xs at text
    → Printed xs ys at text next
    → length ys ≡ length xs
printed_long {xs} {at = at} {text = text} r p =
    ap length (parts p)
    ∙ length-append (take at xs ++ text) (drop (at + length text) xs)
    ∙ omega (arith, front_long xs at text r, length-drop (at + length text) xs, r.fits)

-- the room of a text is that of its parts
pub room_first : {xs : List ℕ} {at : ℕ} {a : List ℕ} (b : List ℕ) → HasRoom xs at (a ++ b) → HasRoom xs at a
room_first {a = a} b r = record { fits = omega (arith, r.fits, length-append a b) }

pub room_next : {xs ys : List ℕ} {at m : ℕ} {a b : List ℕ} → HasRoom xs at (a ++ b) → Printed xs ys at a m → HasRoom ys m b
room_next {a = a} {b = b} r p =
    record { fits = omega (arith, r.fits, length-append a b, p.behind, printed_long (room_first b r) p) }

-- a second text behind the first
pub printed_then : {xs ys zs : List ℕ} {at m n : ℕ} {a b : List ℕ}
    → HasRoom xs at (a ++ b)
    → Printed xs ys at a m
    → Printed ys zs m b n
    → Printed xs zs at (a ++ b) n
printed_then {xs} {ys} {zs} {at} {m} {n} {a} {b} r p q =
    record {
      bytes =
          q.bytes
          ∙ ap₂ (λ (f t : List ℕ). f ++ (b ++ t)) front rest
          ∙ append_assoc (take at xs) a _
          ∙ ap (λ (t : List ℕ). take at xs ++ t) (sym (append_assoc a b _));
      behind = omega (arith, p.behind, q.behind, length-append a b);
    }
  where
    room : HasRoom xs at a
    room = room_first b r

    long : length (take at xs ++ a) ≡ m
    long = front_long xs at a room ∙ sym p.behind

    front : take m ys ≡ take at xs ++ a
    front = ap (take m) (parts p) ∙ take_at (take at xs ++ a) _ m long

    rest : drop (m + length b) ys ≡ drop (at + length (a ++ b)) xs
    rest =
        let far : at + length a + length b ≡ at + length (a ++ b) = omega (arith, length-append a b) in
        ap₂ (λ (k : ℕ) (l : List ℕ). drop (k + length b) l) (sym long) (parts p)
        ∙ drop-append-add (take at xs ++ a) (drop (at + length a) xs) (length b)
        ∙ drop-drop (length b) (at + length a) xs
        ∙ ap (λ (k : ℕ). drop k xs) far

-- one byte
pub printed_one : (xs : List ℕ) (at v : ℕ) → HasRoom xs at (v ∷ []) → Printed xs (set xs at v) at (v ∷ []) (at + 1)
printed_one xs at v r =
    record {
      bytes = ap (λ (l : List ℕ). set l at v)
          (sym (take-append-drop at xs) ∙ ap (λ (t : List ℕ). take at xs ++ t) (drop-cons xs at 0 l))
          ∙ set_at (take at xs) (get_or xs at 0) (drop (suc at) xs) v at (length-take-le at xs (omega arith))
          ∙ ap (λ (k : ℕ). take at xs ++ (v ∷ drop k xs)) (sym (add-one at));
      behind = refl;
    }
  where
    l : at < length xs
    l = omega (arith, r.fits)

-- a text written byte by byte: the first i bytes
module _ {xs : List ℕ} {at : ℕ} {text : List ℕ} (room : HasRoom xs at text) where
  pub prefix_more : {ys : List ℕ} (i v : ℕ) → i < length text → v ≡ get_or text i 0 → Printed xs ys at (take i text) (at + i)
      → Printed xs (set ys (at + i) v) at (take (i + 1) text) (at + (i + 1))
  prefix_more {ys} i v l e p =
      let next : take (i + 1) text ≡ take i text ++ (v ∷ []) =
      ap (λ (n : ℕ). take n text) (add-one i) ∙ take-suc text i 0 l ∙ ap (λ (w : ℕ). take i text ++ (w ∷ [])) (sym e) in
      let long : length (take (i + 1) text) ≡ i + 1 = length-take-le (i + 1) text (omega arith) in
      let more : HasRoom xs at (take i text ++ (v ∷ [])) = record { fits = rw (sym next) (omega (arith, room.fits)) } in
      subst
      (λ (t : List ℕ). Printed xs (set ys (at + i) v) at t (at + (i + 1)))
      (sym next)
      (subst
      (λ (n : ℕ). Printed xs (set ys (at + i) v) at (take i text ++ (v ∷ [])) n)
      (add_assoc at i 1)
      (printed_then more p (printed_one ys (at + i) v (room_next more p))))

  pub prefix_long : {ys : List ℕ} (i : ℕ) → i ≤ length text → Printed xs ys at (take i text) (at + i) → length ys ≡ length xs
  prefix_long i l p =
      let r : HasRoom xs at (take i text) = record { fits = omega (arith, room.fits, length-take-le i text l) } in
      printed_long r p

  pub prefix_index : {ys : List ℕ} (i : ℕ) → i < length text → Printed xs ys at (take i text) (at + i) → at + i < length ys
  prefix_index i l p = omega (arith, room.fits, prefix_long i (omega arith) p)

  pub prefix_all : {ys : List ℕ} (i n : ℕ) → n ≡ length text → i ≤ n → n ≤ i → Printed xs ys at (take i text) (at + i)
      → Printed xs ys at text (at + n)
  prefix_all {ys} i n e l q p =
      let same : i ≡ n = le_antisymm l q in
      subst
      (λ (t : List ℕ). Printed xs ys at t (at + n))
      (ap (λ (k : ℕ). take k text) same ∙ take_all n text (omega arith))
      (subst (λ (k : ℕ). Printed xs ys at (take i text) (at + k)) same p)

-- a text at the front
pub printed_front : {xs ys : List ℕ} {next : ℕ} {text : List ℕ} → Printed xs ys 0 text next → ys ≡ text ++ drop (length text) xs
printed_front {xs} {text = text} p = p.bytes ∙ ap (λ (n : ℕ). text ++ drop n xs) (zero-add (length text))
