-- A run of integers each of which stands for a block of triples: its members and its order.
use Prim.Native.Nat.{ℕ, zero, suc, ◌<◌}
use mathlib.Core.List.Memᴰ
use mathlib.Core.List.{List, [], ◌∷◌, ◌++◌, Memᴰ}
use mathlib.Core.Logic.{⊎_elim}
use mathlib.Core.Path.{◌≡◌, sym, ◌∙◌, ap}
use native.Mathlib.Omega.{arith}
use lib.IntN.{ℤ, pos, suc_ℤ, ◌+ℤ◌, ◌-ℤ◌, +ℤ_idr, +ℤ-suc_ℤ, suc_ℤ-+ℤ, +ℤ_comm, +ℤ-neg_ℤ_cancel}
use Rattle.lattice.specs.declared.distance.Triple.{Triple}
use Rattle.lattice.specs.Order.{run, Less, Before}
use Rattle.lattice.proofs.theory.Sorted.{Sorted, sorted_append}

-- i steps after the next of z are i + 1 steps after z
next_step : (z : ℤ) (i : ℕ) → suc_ℤ z +ℤ pos i ≡ z +ℤ pos (suc i)
next_step z i = suc_ℤ-+ℤ z (pos i) ∙ sym (+ℤ-suc_ℤ z (pos i))

later : (z : ℤ) (i : ℕ) → Less z (suc_ℤ z +ℤ pos i)
later z i = (i, ap (λ w. w -ℤ z) (next_step z i ∙ +ℤ_comm z (pos (suc i))) ∙ +ℤ-neg_ℤ_cancel (pos (suc i)) z)

module _ (at : List ℤ → List Triple) (none : at [] ≡ []) (block : ℤ → List Triple)
    (more : (z : ℤ) (zs : List ℤ) → at (z ∷ zs) ≡ block z ++ at zs) where
  -- the members are those of the blocks
  pub from_blocks : (x : Triple) (low : ℤ) (n : ℕ)
      → Memᴰ x (at (run low n))
      → (i : ℕ) × (i < n) × Memᴰ x (block (low +ℤ pos i))
  from_blocks x low zero m = absurd (Memᴰ.not-nil (rw none at m))
  from_blocks x low (suc n) m =
      ⊎_elim
      (λ here. (0, omega arith, rw (+ℤ_idr low) here))
      (λ there.
      let p = from_blocks x (suc_ℤ low) n there in
      (suc p.0, omega (arith, p.1), rw (next_step low p.0) at p.2))
      (Memᴰ.append_cases (block low) (rw (more low (run (suc_ℤ low) n)) at m))

  pub in_blocks : (x : Triple) (low : ℤ) (n i : ℕ) → i < n → Memᴰ x (block (low +ℤ pos i)) → Memᴰ x (at (run low n))
  in_blocks x low zero i h m = absurd (omega arith)
  in_blocks x low (suc n) zero h m =
      rw (more low (run (suc_ℤ low) n)) (Memᴰ.append_left (at (run (suc_ℤ low) n)) (rw (+ℤ_idr low) at m))
  in_blocks x low (suc n) (suc i) h m =
      rw (more low (run (suc_ℤ low) n))
      (Memᴰ.append_right (block low) (in_blocks x (suc_ℤ low) n i (omega arith) (rw (next_step low i) m)))

  -- sorted blocks in their order are sorted
  pub sorted_blocks : ((z : ℤ) → Sorted Before (block z))
      → ((z w : ℤ) (x y : Triple) → Less z w → Memᴰ x (block z) → Memᴰ y (block w) → Before x y)
      → (low : ℤ) (n : ℕ) → Sorted Before (at (run low n))
  sorted_blocks each across low zero = rw none tt
  sorted_blocks each across low (suc n) =
      rw (more low (run (suc_ℤ low) n))
      (sorted_append Before (block low) (at (run (suc_ℤ low) n)) (each low) (sorted_blocks each across (suc_ℤ low) n)
      (λ x y m k.
      let p = from_blocks y (suc_ℤ low) n k in
      across low (suc_ℤ low +ℤ pos p.0) x y (later low p.0) m p.2))
