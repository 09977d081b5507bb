-- What a scan finds: the first triple of the list that fails, with its place, or none.
use Prim.Native.Nat.{ℕ, zero, suc, ◌+◌, ◌<◌}
use mathlib.Core.Bool.{Bool, true, false, cond, false≢true}
use mathlib.Core.List.{List, [], ◌∷◌}
use mathlib.Core.Path.{◌≡◌, refl, sym}
use native.Mathlib.Omega.{arith}
use lib.ListN.{length, get_or}
use Rattle.lattice.specs.declared.settings.Settings.{Settings}
use Rattle.lattice.specs.declared.distance.Triple.{Triple}
use Rattle.lattice.specs.Order.{origin}
use Rattle.lattice.specs.DistanceTest.{fails_at, after, scan, Scan}
use Rattle.lattice.proofs.theory.Scan.{hit}

-- no triple of the list fails
pub record Missed (k : Settings) (xs : List Triple) (s : Scan) : Type 0 where
  pub triple : s.triple ≡ origin
  pub tried : s.tried ≡ length xs
  pub each : (j : ℕ) → j < length xs → fails_at k (get_or xs j origin) ≡ false

-- the triple number j is the first that fails
pub record Found (k : Settings) (xs : List Triple) (s : Scan) : Type 0 where
  pub at : ℕ
  pub below : at < length xs
  pub tried : s.tried ≡ at + 1
  pub triple : s.triple ≡ get_or xs at origin
  pub fails : fails_at k (get_or xs at origin) ≡ true
  pub first : (i : ℕ) → i < at → fails_at k (get_or xs i origin) ≡ false

module _ (k : Settings) where
  -- what holds of the first triple and of those after it holds of each
  passed_cons : (x : Triple) (xs : List Triple) (n : ℕ)
      → fails_at k x ≡ false
      → ((j : ℕ) → j < n → fails_at k (get_or xs j origin) ≡ false)
      → (j : ℕ)
      → j < suc n
      → fails_at k (get_or (x ∷ xs) j origin) ≡ false
  passed_cons x xs n e f zero h = e
  passed_cons x xs n e f (suc j) h = f j (omega arith)

  missed_step : (x : Triple) (xs : List Triple) (b : Bool)
      → fails_at k x ≡ b
      → ((scan k xs).found ≡ false → Missed k xs (scan k xs))
      → (cond b (hit x 1) (after 1 (scan k xs))).found ≡ false
      → Missed k (x ∷ xs) (cond b (hit x 1) (after 1 (scan k xs)))
  missed_step x xs true e f h = absurd (false≢true (sym h))
  missed_step x xs false e f h =
      let m = f h in
      record { triple = m.triple; tried = omega (arith, m.tried); each = passed_cons x xs (length xs) e m.each }

  pub missed : (xs : List Triple) → (scan k xs).found ≡ false → Missed k xs (scan k xs)
  missed [] h = record { triple = refl; tried = refl; each = λ j g. absurd (omega arith) }
  missed (x ∷ xs) h = missed_step x xs (fails_at k x) refl (missed xs) h

  found_step : (x : Triple) (xs : List Triple) (b : Bool) → fails_at k x ≡ b → ((scan k xs).found ≡ true → Found k xs (scan k xs))
      → (cond b (hit x 1) (after 1 (scan k xs))).found ≡ true → Found k (x ∷ xs) (cond b (hit x 1) (after 1 (scan k xs)))
  found_step x xs true e f h =
      record { at = 0; below = omega arith; tried = refl; triple = refl; fails = e; first = λ i g. absurd (omega arith) }
  found_step x xs false e f h =
      let m = f h in
      record {
        at = suc m.at;
        below = omega (arith, m.below);
        tried = omega (arith, m.tried);
        triple = m.triple;
        fails = m.fails;
        first = passed_cons x xs m.at e m.first;
      }

  pub found : (xs : List Triple) → (scan k xs).found ≡ true → Found k xs (scan k xs)
  found [] h = absurd (false≢true h)
  found (x ∷ xs) h = found_step x xs (fails_at k x) refl (found xs) h
