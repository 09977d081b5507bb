-- The sphere-packing bound: the balls of the words of a set that corrects one cell have no word in common, so that s of them have
-- s × (n + 1) words, which is at most 2^n.
use Prim.Native.Nat.{ℕ, zero, suc, ◌+◌, ◌-◌, ◌*◌, ◌^◌, ◌<◌, ◌≤◌}
use mathlib.Core.List.Memᴰ
use mathlib.Core.List.{List, [], ◌∷◌, ◌++◌, Memᴰ}
use mathlib.Core.Logic.{◌≢◌, ⊎_elim}
use mathlib.Core.Path.{◌≡◌, refl, ap, ◌∙◌, sym, subst}
use native.Mathlib.Nat.{mul-le-mul_left}
use native.Mathlib.Omega.{arith}
use lib.ListN.{length, length-append}
use lib.Pow.{pow-add, pow_pos}
use Rattle.lattice.specs.Check.{checks, data_cells}
use Rattle.lattice.specs.Distinct.{Distinct}
use Rattle.lattice.proofs.theorems.Capacity.{checks_are_bit_length}
use Rattle.lattice.proofs.theory.CapacityByClass.{data_cells_lem}
use Rattle.lattice.proofs.theory.Distinct.{distinct_append}
use Rattle.lattice.proofs.theory.Pigeonhole.{pigeonhole}
use Rattle.lattice.proofs.theory.Powers.{checks_most}
use Rattle.codec.specs.Bound.{Word, ComesFrom, CorrectsOne, Listed}
use Rattle.codec.proofs.theory.BinaryWords.{all_words, all_length, all_has}
use Rattle.codec.proofs.theory.Balls.{ball, ball_length, ball_distinct, ball_comes}

-- the balls of the words of a list, one after another
balls : ℕ → List (List ℕ) → List (List ℕ)
balls n [] = []
balls n (w ∷ ws) = ball n w ++ balls n ws

balls_length : (n : ℕ) (ws : List (List ℕ)) → length (balls n ws) ≡ length ws * (n + 1)
unfolding balls
balls_length n [] = omega arith
balls_length n (w ∷ ws) = length-append (ball n w) (balls n ws) ∙ omega (arith, ball_length n w, balls_length n ws)

balls_are : (n : ℕ) (x : List ℕ) (ws : List (List ℕ)) → Memᴰ x (balls n ws)
    → (w : List ℕ) × Memᴰ w ws × Memᴰ x (ball n w)
unfolding balls
balls_are n x [] m = absurd (Memᴰ.not-nil m)
balls_are n x (w ∷ ws) m =
    ⊎_elim
    {C = (v : List ℕ) × Memᴰ v (w ∷ ws) × Memᴰ x (ball n v)}
    (λ k. (w, Memᴰ.head refl, k))
    (λ k. let r = balls_are n x ws k in (r.0, Memᴰ.tail r.1, r.2))
    (Memᴰ.append_cases (ball n w) m)

module _ (n : ℕ) (S : List ℕ → Type 0) (code : CorrectsOne n S) where
  listed_rest : {w : List ℕ} {ws : List (List ℕ)} → Listed S (w ∷ ws) → Listed S ws
  listed_rest h = record { distinct = h.distinct.1; inside = λ v m. h.inside v (Memᴰ.tail m) }

  balls_distinct : (ws : List (List ℕ)) → Listed S ws → Distinct (balls n ws)
  unfolding balls
  balls_distinct [] h = tt
  balls_distinct (w ∷ ws) h =
      distinct_append (ball n w) (balls n ws) (ball_distinct word) (balls_distinct ws (listed_rest h)) apart
    where
      own : S w
      own = h.inside w (Memᴰ.head refl)

      word : Word n w
      word = code.words w own

      apart : (x y : List ℕ) → Memᴰ x (ball n w) → Memᴰ y (balls n ws) → x ≢ y
      apart x y m k e =
          let r = balls_are n y ws k in
          let other : S r.0 = h.inside r.0 (Memᴰ.tail r.1) in
          h.distinct.0 r.0 r.1
          (code.apart w r.0 y own other
          (subst (λ (z : List ℕ). ComesFrom n w z) e (ball_comes word x m))
          (ball_comes (code.words r.0 other) y r.2))

  pub packed : (ws : List (List ℕ)) → Listed S ws → length ws * (n + 1) ≤ 2 ^ n
  packed ws h =
      omega (arith, balls_length n ws, all_length n, pigeonhole (balls n ws) (all_words n) (balls_distinct ws h) among)
    where
      among : (x : List ℕ) → Memᴰ x (balls n ws) → Memᴰ x (all_words n)
      among x m =
          let r = balls_are n x ws m in
          all_has n x (ball_comes (code.words r.0 (h.inside r.0 r.1)) x r.2).word

-- n cells of which k hold data and t + 1 a check, and 2^t is at most n: 2^n is below 2 × 2^k × (n + 1)
checks_short : (n k t : ℕ) → n ≡ k + (t + 1) → 2 ^ t ≤ n → 2 ^ n < 2 * 2 ^ k * (n + 1)
checks_short n k t e l =
    subst (λ (x : ℕ). x < 2 * 2 ^ k * (n + 1)) (sym parts) (omega (arith, pow_pos k, mul-le-mul_left (2 ^ k) l))
  where
    parts : 2 ^ n ≡ 2 ^ k * 2 ^ t * 2
    parts =
        ap (λ (x : ℕ). 2 ^ x) e
        ∙ pow-add 2 k (t + 1)
        ∙ ap (λ (x : ℕ). 2 ^ k * x) (pow-add 2 t 1)
        ∙ omega arith

-- so it is in a class of n cells, as the checks are the bit length of n
pub words_short : (n : ℕ) → 2 ^ n < 2 * 2 ^ data_cells n * (n + 1)
words_short zero = omega (arith, pow_pos (data_cells 0))
words_short (suc n) =
    let b = checks_are_bit_length.some (suc n) (omega arith) in
    checks_short (suc n) (data_cells (suc n)) (checks (suc n) - 1)
    (omega (arith, data_cells_lem (suc n), checks_most (suc n), b.0)) b.1
