-- The cells of a field that pass a test, as a list: those of a class among them.
use Prim.Native.Nat.{ℕ, zero, suc, ◌+◌, ◌<◌}
use mathlib.Core.Bool.{Bool, true, false, cond, true≢false}
use mathlib.Core.List.{List, [], ◌∷◌, ◌++◌}
use mathlib.Core.Logic.{⊎_elim}
use mathlib.Core.Path.{◌≡◌, refl, sym, ap, subst, ◌∙◌}
use native.Mathlib.Nat.{not-suc-le-zero, eq-or-lt_of_le, le_of_suc-le-suc}
use native.Mathlib.Omega.{arith}
use lib.ListN.{length, length-append, get_or-append}
use lib.Seq.{get_or_at, ext_get_or}
use Rattle.lattice.specs.Counting.{count}
use Rattle.lattice.proofs.theory.Counting.{bit, count_more, count_reach}
use Rattle.codec.specs.Field.{Field, field_of, Cells, is_cell}
use Rattle.codec.specs.Bound.{Word, passing}

module _ (test : ℕ → Bool) (f : Field) where
  -- one entry for each
  passing_length : (n : ℕ) → length (passing test f n) ≡ count test n
  passing_length zero = refl
  passing_length (suc n) = go (test n) (passing_length n)
    where
      go : (b : Bool) → length (passing test f n) ≡ count test n
          → length (cond b (passing test f n ++ (f n ∷ [])) (passing test f n)) ≡ bit b + count test n
      go true before = length-append (passing test f n) (f n ∷ []) ∙ omega arith
      go false before = omega arith

  -- cell i is the entry with as many before it as pass before i
  pub passing_at : (n i : ℕ) → i < n → test i ≡ true → field_of (passing test f n) (count test i) ≡ f i
  passing_at zero i l e = absurd (not-suc-le-zero l)
  passing_at (suc n) i l e = go (test n) refl (λ k. passing_at n i k e)
    where
      go : (b : Bool) → test n ≡ b → (i < n → field_of (passing test f n) (count test i) ≡ f i)
          → field_of (cond b (passing test f n ++ (f n ∷ [])) (passing test f n)) (count test i) ≡ f i
      go true t before =
          ⊎_elim
          (λ (q : i ≡ n).
          get_or_at (passing test f n) (f n) [] 0 (count test i) (passing_length n ∙ ap (count test) (sym q)) ∙ ap f (sym q))
          (λ (k : i < n).
          let below : count test i < length (passing test f n) = omega (arith, passing_length n, count_more test i n k e) in
          get_or-append (passing test f n) (f n ∷ []) 0 (count test i) below ∙ before k)
          (eq-or-lt_of_le (le_of_suc-le-suc l))
      go false t before =
          ⊎_elim
          (λ (q : i ≡ n). absurd (true≢false (sym e ∙ ap test q ∙ t)))
          before
          (eq-or-lt_of_le (le_of_suc-le-suc l))

  -- and each entry is such a cell
  passing_cell : (n k : ℕ) → k < count test n
      → (i : ℕ) × (i < n) × (test i ≡ true) × (count test i ≡ k) × (field_of (passing test f n) k ≡ f i)
  passing_cell n k l =
      let r = count_reach test n k l in
      (r.0, r.1, r.2, r.3, ap (field_of (passing test f n)) (sym r.3) ∙ passing_at n r.0 r.1 r.2)

-- the list of cells is a word
pub passing_word : (test : ℕ → Bool) (f : Field) (n : ℕ) → Cells f n → Word (count test n) (passing test f n)
passing_word test f n c =
    record {
      long = passing_length test f n;
      cells = λ k l. let r = passing_cell test f n k l in subst (λ (v : ℕ). is_cell v ≡ true) (sym r.4) (c r.0 r.1);
    }

-- fields that agree on the cells that pass have the same list, and only these
module _ (test : ℕ → Bool) (f g : Field) (n : ℕ) where
  pub passing_same : ((i : ℕ) → i < n → test i ≡ true → f i ≡ g i) → passing test f n ≡ passing test g n
  passing_same h =
      ext_get_or 0 (passing test f n) (passing test g n) (passing_length test f n ∙ sym (passing_length test g n))
      (λ k l.
      let r = passing_cell test f n k (omega (arith, passing_length test f n)) in
      r.4 ∙ h r.0 r.1 r.2
      ∙ sym (passing_at test g n r.0 r.1 r.2)
      ∙ ap (field_of (passing test g n)) r.3)

  pub same_passing : passing test f n ≡ passing test g n → (i : ℕ) → i < n → test i ≡ true → f i ≡ g i
  same_passing e i l t =
      sym (passing_at test f n i l t) ∙ ap (λ (w : List ℕ). field_of w (count test i)) e ∙ passing_at test g n i l t
