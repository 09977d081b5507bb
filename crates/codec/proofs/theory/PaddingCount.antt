-- How many cells are padding.
use Prim.Native.Nat.{ℕ, zero, suc, ◌+◌, ◌-◌, ◌*◌}
use mathlib.Core.Bool.{Bool, true, false, cond, ◌&&◌}
use mathlib.Core.Path.{◌≡◌, refl}
use native.Mathlib.Omega.{arith}
use borrow.Author.Tests.{leb-true, leb-false}
use lib.Dec.{leb}
use Rattle.lattice.specs.Position.{Layout}
use Rattle.lattice.specs.Check.{holds_data}
use Rattle.lattice.specs.Counting.{count}
use Rattle.codec.specs.Payload.{payload_bytes, rank, is_padding}
use Rattle.codec.proofs.theory.Ranks.{rank_zero, rank_data_suc, rank_check_suc}

module _ (L : Layout) where
  abbrev bits : ℕ
  bits = 8 * payload_bytes L

  -- among the first i cells the padding is what the data cells exceed the payload's bits by
  pub counted : (i : ℕ) → count (is_padding L) i ≡ rank L i - bits
  counted zero = omega (arith, rank_zero L)
  counted (suc i) = go (holds_data L i) (leb bits (rank L i)) refl refl (counted i)
    where
      go : (d b : Bool) → holds_data L i ≡ d → leb bits (rank L i) ≡ b → count (is_padding L) i ≡ rank L i - bits
          → cond (holds_data L i && leb bits (rank L i)) 1 0 + count (is_padding L) i ≡ rank L (suc i) - bits
      go true true p q before = rw (p, q) (omega (arith, rank_data_suc L i p, leb-true bits (rank L i) q))
      go true false p q before = rw (p, q) (omega (arith, rank_data_suc L i p, leb-false bits (rank L i) q))
      go false b p q before = rw p (omega (arith, rank_check_suc L i p))
