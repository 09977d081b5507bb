-- Laws of scanning a list of triples for the first that fails.
use Prim.Native.Nat.{ℕ, suc, ◌+◌, ◌-◌, ◌<◌, ◌≤◌}
use mathlib.Core.Bool.{Bool, true, false, cond}
use mathlib.Core.List.{List, [], ◌∷◌, ◌++◌}
use mathlib.Core.Path.{◌≡◌, refl, sym, ◌∙◌, ap}
use native.Mathlib.Numerals.{add-one}
use native.Mathlib.Omega.{arith}
use lib.IntN.{ℤ, pos, ◌+ℤ◌, +ℤ-suc_ℤ}
use Rattle.lattice.specs.declared.settings.Settings.{Settings}
use Rattle.lattice.specs.declared.distance.Triple.{Triple}
use Rattle.lattice.specs.Order.{run}
use Rattle.lattice.specs.DistanceTest.{fails_at, after, scan, Scan}

-- a scan that ends at x, and the rest of the list is not looked at
abbrev pub hit : Triple → ℕ → Scan
hit x n = record { found = true; triple = x; tried = n }

pub tried_eq : (b : Bool) (x : Triple) (m n : ℕ) → m ≡ n
    → ◌≡◌ {A = Scan} (record { found = b; triple = x; tried = m }) (record { found = b; triple = x; tried = n })
tried_eq b x m n e = ap (λ (i : ℕ). record { found = b; triple = x; tried = i }) e

after_after : (m n : ℕ) (s : Scan) → after m (after n s) ≡ after (n + m) s
after_after m n s = tried_eq s.found s.triple (s.tried + n + m) (s.tried + (n + m)) (omega arith)

pub after_zero : (s : Scan) → after 0 s ≡ s
after_zero s = tried_eq s.found s.triple (s.tried + 0) s.tried (omega arith)

-- one step of the laws below, by the first triple's test
found_step : (b : Bool) (x : Triple) (s t : Scan) → (s.found ≡ true → t ≡ s) → (cond b (hit x 1) (after 1 s)).found ≡ true
    → cond b (hit x 1) (after 1 t) ≡ cond b (hit x 1) (after 1 s)
found_step true x s t f h = refl
found_step false x s t f h = ap (after 1) (f h)

past_step : (b : Bool) (x : Triple) (s t u : Scan) → (s.found ≡ false → t ≡ after s.tried u)
    → (cond b (hit x 1) (after 1 s)).found ≡ false → cond b (hit x 1) (after 1 t) ≡ after (cond b (hit x 1) (after 1 s)).tried u
past_step true x s t u f h = cc
past_step false x s t u f h = ap (after 1) (f h) ∙ after_after 1 s.tried u

module _ (k : Settings) where
  -- a triple that does not fail is passed
  pub scan_pass : (x : Triple) (xs : List Triple) → fails_at k x ≡ false → scan k (x ∷ xs) ≡ after 1 (scan k xs)
  scan_pass x xs e = ap (λ (b : Bool). cond b (hit x 1) (after 1 (scan k xs))) e

  -- the scan of two lists: of the first alone where it finds a triple, else of the second after the first
  pub append_found : (xs ys : List Triple) → (scan k xs).found ≡ true → scan k (xs ++ ys) ≡ scan k xs
  append_found [] ys h = cc
  append_found (x ∷ xs) ys h = found_step (fails_at k x) x (scan k xs) (scan k (xs ++ ys)) (append_found xs ys) h

  pub append_past : (xs ys : List Triple) → (scan k xs).found ≡ false → scan k (xs ++ ys) ≡ after (scan k xs).tried (scan k ys)
  append_past [] ys h = sym (after_zero (scan k ys))
  append_past (x ∷ xs) ys h = past_step (fails_at k x) x (scan k xs) (scan k (xs ++ ys)) (scan k ys) (append_past xs ys) h

  -- with n triples tried before: the scan of a first part that finds a triple is the whole scan, and else the rest follows
  module _ (n : ℕ) (xs ys : List Triple) (s : Scan) (e : s ≡ after n (scan k xs)) where
    pub part_found : s.found ≡ true → after n (scan k (xs ++ ys)) ≡ s
    part_found h = ap (after n) (append_found xs ys (sym (ap (λ (s : Scan). s.found) e) ∙ h)) ∙ sym e

    pub part_past : s.found ≡ false → after n (scan k (xs ++ ys)) ≡ after s.tried (scan k ys)
    part_past h =
        ap (after n) (append_past xs ys (sym (ap (λ (s : Scan). s.found) e) ∙ h))
        ∙ after_after n (scan k xs).tried (scan k ys)
        ∙ ap (λ (i : ℕ). after i (scan k ys)) (sym (ap (λ (s : Scan). s.tried) e))

-- the first of the integers that are left, and those after it
pub run_step : (first : ℤ) (i count : ℕ) → i < count
    → run (first +ℤ pos i) (count - i) ≡ (first +ℤ pos i) ∷ run (first +ℤ pos (i + 1)) (count - (i + 1))
run_step first i count h =
    ap (run (first +ℤ pos i)) counts
    ∙ ap (λ z. (first +ℤ pos i) ∷ run z (count - (i + 1)))
    (sym (+ℤ-suc_ℤ first (pos i)) ∙ ap (λ n. first +ℤ pos n) (sym (add-one i)))
  where
    counts : count - i ≡ suc (count - (i + 1))
    counts = omega arith

pub run_end : (z : ℤ) (i count : ℕ) → count ≤ i → run z (count - i) ≡ []
run_end z i count h = ap (run z) (let e : count - i ≡ 0 = omega arith in e)
