-- The steps of the distance test's loops: what is left to scan, with the triples tried before.
use Prim.Native.Nat.{ℕ, ◌+◌, ◌-◌, ◌<◌}
use mathlib.Core.Bool.{Bool, true, false}
use mathlib.Core.List.{List, [], ◌∷◌, ◌++◌}
use mathlib.Core.Path.{◌≡◌, refl, sym, ◌∙◌, ap}
use native.Mathlib.Omega.{arith}
use lib.IntN.{ℤ, pos, nat_abs, ◌+ℤ◌}
use Rattle.lattice.specs.declared.settings.Settings.{Settings}
use Rattle.lattice.specs.declared.distance.Triple.{Triple}
use Rattle.lattice.specs.Order.{origin, triple, run, span, columns_at, planes_at}
use Rattle.lattice.specs.DistanceTest.{fails_at, after, scan, Scan}
use Rattle.lattice.proofs.theory.Words.{limit, read, read_back}
use Rattle.lattice.proofs.theory.Scan.{scan_pass, part_found, part_past, run_step}
use Rattle.lattice.proofs.theory.Scan.{tried_eq}

-- the scan from the integer number i of a run, where `at` gives the triples of a list of integers
abbrev pub left : Settings → (List ℤ → List Triple) → ℤ → ℕ → ℕ → Scan
left k at first count i = scan k (at (run (first +ℤ pos i) (count - i)))

-- a run of integers each of which stands for a block of triples
module _ (k : Settings) (at : List ℤ → List Triple) (none : at [] ≡ []) (first : ℤ) (count : ℕ) where
  module _ (block : ℤ → List Triple) (more : (z : ℤ) (zs : List ℤ) → at (z ∷ zs) ≡ block z ++ at zs) (m i : ℕ) (h : i < count)
      (s : Scan) (e : s ≡ after m (scan k (block (first +ℤ pos i)))) where
    rest : List Triple
    rest = at (run (first +ℤ pos (i + 1)) (count - (i + 1)))

    opened : at (run (first +ℤ pos i) (count - i)) ≡ block (first +ℤ pos i) ++ rest
    unfolding rest
    opened = ap at (run_step first i count h) ∙ more (first +ℤ pos i) (run (first +ℤ pos (i + 1)) (count - (i + 1)))

    pub left_found : s.found ≡ true → after m (left k at first count i) ≡ s
    left_found f = ap (λ xs. after m (scan k xs)) opened ∙ part_found k m (block (first +ℤ pos i)) rest s e f

    pub left_past : s.found ≡ false → after m (left k at first count i) ≡ after s.tried (left k at first count (i + 1))
    unfolding rest
    left_past f = ap (λ xs. after m (scan k xs)) opened ∙ part_past k m (block (first +ℤ pos i)) rest s e f

-- the scan of a block whose integer is known by another name
pub block_at : (k : Settings) (block : ℤ → List Triple) (m : ℕ) (z w : ℤ) (s : Scan)
    → s ≡ after m (scan k (block z)) → z ≡ w → s ≡ after m (scan k (block w))
block_at k block m z w s e f = e ∙ ap (λ y. after m (scan k (block y))) f

-- the triples of one plane of a row, and of one row
abbrev pub plane_block : ℤ → ℕ → ℤ → List Triple
plane_block r n p = columns_at r p (span (n - nat_abs p))

abbrev pub row_block : ℕ → ℤ → List Triple
row_block n r = planes_at r (n - nat_abs r) (span (n - nat_abs r))

-- the scan of small integers as they are read back from their bits
pub planes_read : (k : Settings) (r first : ℤ) (n count : ℕ) → nat_abs r < limit → nat_abs first < limit
    → scan k (planes_at (read r) n (run (read first) count)) ≡ scan k (planes_at r n (run first count))
planes_read k r first n count hr hf = rw (read_back r hr, read_back first hf)

-- the columns of a row and a plane, one triple each
module _ (k : Settings) (r p first : ℤ) (count i : ℕ) (h : i < count) where
  columns_pass : fails_at k (triple r p (first +ℤ pos i)) ≡ false
      → after i (left k (columns_at r p) first count i) ≡ after (i + 1) (left k (columns_at r p) first count (i + 1))
  columns_pass f =
      left_past k (columns_at r p) refl first count (λ z. triple r p z ∷ []) (λ z zs. refl) i i h
      (record { found = false; triple = origin; tried = i + 1 })
      (tried_eq false origin (i + 1) (0 + 1 + i) (omega arith) ∙ ap (after i) (sym (scan_pass k x [] f))) refl
    where
      x : Triple
      x = triple r p (first +ℤ pos i)

  -- so a turn of the loop that finds no triple leaves the rest of the scan
  pub columns_next : (x : Triple) (b : Bool) (s : Scan) → x ≡ triple r p (first +ℤ pos i) → b ≡ fails_at k x → b ≡ false
      → s ≡ after i (left k (columns_at r p) first count i) → s ≡ after (i + 1) (left k (columns_at r p) first count (i + 1))
  columns_next x b s e t f inv = inv ∙ columns_pass (ap (fails_at k) (sym e) ∙ sym t ∙ f)
