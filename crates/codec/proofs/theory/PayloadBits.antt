-- A payload by its bits, the highest bit of each byte first, and the padding behind them.
use Prim.Native.Nat.{ℕ, ◌-◌, ◌*◌, ◌<◌, ◌≤◌}
use mathlib.Core.Bool.{Bool, true, false, cond}
use mathlib.Core.List.{List}
use mathlib.Core.Path.{◌≡◌}
use native.Mathlib.Omega.{arith}
use borrow.Author.Tests.{lt-ltb, le-ltb}
use lib.Dec.{ltb}
use Rattle.codec.specs.Payload.{payload_bit, padding, earlier_padding, data_value}

payload_bit_most : (p : List ℕ) (k : ℕ) → payload_bit p k ≤ 1
unfolding payload_bit
payload_bit_most p k = omega arith

-- the values of a padding are those of a cell
abbrev pub OfCells : (ℕ → ℕ) → Type 0
OfCells pad = (j : ℕ) → pad j ≤ 1

-- both paddings' are
pub padding_most : OfCells padding
unfolding padding
padding_most j = omega arith

pub earlier_most : OfCells earlier_padding
unfolding earlier_padding
earlier_most j = omega arith

module _ (pad : ℕ → ℕ) (bytes : ℕ) (p : List ℕ) (k : ℕ) where
  -- the value of data cell k is bit k of the payload, or padding behind its last bit
  pub value_bit : k < 8 * bytes → data_value pad bytes p k ≡ payload_bit p k
  unfolding data_value
  value_bit l = rw (lt-ltb k (8 * bytes) l)

  pub value_padding : 8 * bytes ≤ k → data_value pad bytes p k ≡ pad (k - 8 * bytes)
  unfolding data_value
  value_padding l = rw (le-ltb k (8 * bytes) l)

  -- it is 0 or 1
  pub data_value_most : OfCells pad → data_value pad bytes p k ≤ 1
  unfolding data_value
  data_value_most most = go (ltb k (8 * bytes))
    where
      go : (b : Bool) → cond b (payload_bit p k) (pad (k - 8 * bytes)) ≤ 1
      go true = payload_bit_most p k
      go false = most (k - 8 * bytes)
