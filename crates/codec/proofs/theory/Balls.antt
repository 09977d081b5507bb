-- The ball of a word: the word itself and the word with each of its cells flipped, which can have come from it.
use Prim.Native.Nat.{ℕ, ◌+◌, ◌<◌, ◌≤◌}
use mathlib.Core.List.Memᴰ
use mathlib.Core.List.{List, ◌∷◌, Memᴰ}
use mathlib.Core.Logic.{◌≢◌, ⊎_elim}
use mathlib.Core.Path.{◌≡◌, refl, ap, ◌∙◌, sym, subst}
use native.Mathlib.Decide.{ℕ_discrete}
use native.Mathlib.Omega.{arith}
use lib.ListN.{length, set, length-set}
use lib.Seq.{get_or-set_same, get_or-set_other}
use Rattle.lattice.specs.Distinct.{Distinct}
use Rattle.lattice.proofs.theory.Tabulated.{tabulate, tabulate_length, tabulate_are, tabulate_distinct}
use Rattle.codec.specs.Field.{field_of, flip}
use Rattle.codec.specs.Bound.{Word, ComesFrom}
use Rattle.codec.proofs.theory.BinaryWords.{word_most}
use Rattle.codec.proofs.theory.CellValues.{most_cell}

-- a word with the cell i flipped
flip_one : List ℕ → ℕ → List ℕ
flip_one w i = set w i (flip (field_of w i))

flip_here : (w : List ℕ) (i : ℕ) → i < length w → field_of (flip_one w i) i ≡ flip (field_of w i)
unfolding flip_one
flip_here w i l = get_or-set_same w i (flip (field_of w i)) 0 l

flip_else : (w : List ℕ) (i j : ℕ) → j ≢ i → field_of (flip_one w i) j ≡ field_of w j
unfolding flip_one
flip_else w i j d = get_or-set_other w i j (flip (field_of w i)) 0 d

flip_length : (w : List ℕ) (i : ℕ) → length (flip_one w i) ≡ length w
unfolding flip_one
flip_length w i = length-set w i (flip (field_of w i))

-- it can have come from the word
module _ {n : ℕ} {w : List ℕ} (h : Word n w) (k : ℕ) (l : k < n) where
  flip_word : Word n (flip_one w k)
  flip_word = record { long = flip_length w k ∙ h.long; cells = λ i m. most_cell _ (go i (ℕ_discrete i k)) }
    where
      go : (i : ℕ) → Dec (i ≡ k) → field_of (flip_one w k) i ≤ 1
      go i (yes e) =
          subst (λ (j : ℕ). field_of (flip_one w k) j ≤ 1) (sym e) (omega (arith, flip_here w k (omega (arith, h.long))))
      go i (no d) = omega (arith, flip_else w k i d, word_most h i)

  flip_comes : ComesFrom n w (flip_one w k)
  flip_comes =
      record { word = flip_word; one = λ i j d e. differs i d (ℕ_discrete i k) ∙ sym (differs j e (ℕ_discrete j k)) }
    where
      differs : (i : ℕ) → field_of w i ≢ field_of (flip_one w k) i → Dec (i ≡ k) → i ≡ k
      differs i d (yes e) = e
      differs i d (no e) = absurd (d (sym (flip_else w k i e)))

-- the ball of a word of n cells
pub ball : ℕ → List ℕ → List (List ℕ)
ball n w = w ∷ tabulate (flip_one w) n

pub ball_length : (n : ℕ) (w : List ℕ) → length (ball n w) ≡ n + 1
unfolding ball
ball_length n w = omega (arith, tabulate_length (flip_one w) n)

module _ {n : ℕ} {w : List ℕ} (h : Word n w) where
  -- a cell flipped makes another word, and two cells flipped make different ones
  flip_differs : (i : ℕ) → i < n → w ≢ flip_one w i
  flip_differs i l e =
      omega (
        arith,
        word_most h i,
        flip_here w i (omega (arith, h.long)),
        ap (λ (x : List ℕ). field_of x i) e,
      )

  flip_one_lem : (i j : ℕ) → i < n → flip_one w i ≡ flip_one w j → i ≡ j
  flip_one_lem i j l e = go (ℕ_discrete i j)
    where
      go : Dec (i ≡ j) → i ≡ j
      go (yes q) = q
      go (no d) =
          absurd (omega (
            arith,
            word_most h i,
            flip_here w i (omega (arith, h.long)),
            flip_else w j i d,
            ap (λ (x : List ℕ). field_of x i) e,
          ))

  pub ball_distinct : Distinct (ball n w)
  unfolding ball
  ball_distinct = (
    λ y m e. let r = tabulate_are (flip_one w) n m in flip_differs r.0 r.1 (e ∙ r.2),
    tabulate_distinct (flip_one w) n (λ i j l m. flip_one_lem i j l),
  )

  -- the words of the ball can have come from the word
  pub ball_comes : (x : List ℕ) → Memᴰ x (ball n w) → ComesFrom n w x
  unfolding ball
  ball_comes x m =
      ⊎_elim
      (λ (e : x ≡ w).
      subst (λ (y : List ℕ). ComesFrom n w y) (sym e) (record { word = h; one = λ i j d k. absurd (d refl) }))
      (λ (p : Memᴰ x (tabulate (flip_one w) n)).
      let r = tabulate_are (flip_one w) n p in
      subst (λ (y : List ℕ). ComesFrom n w y) (sym r.2) (flip_comes h r.0 r.1))
      (Memᴰ.cases_cons m)
