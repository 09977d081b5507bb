-- A payload is told by its bits.
use Prim.Native.Nat.{ℕ, ◌+◌, ◌-◌, ◌*◌, ◌/◌, ◌%◌, ◌^◌, ◌<◌}
use mathlib.Core.List.{List}
use mathlib.Core.Path.{◌≡◌, ap₂}
use native.Mathlib.Omega.{arith}
use lib.ListN.{get_or}
use Rattle.codec.specs.Payload.{payload_bit}

-- bit e of byte j, counted from the lowest
pub payload_bit_lem : (p : List ℕ) (j e : ℕ) → e < 8 → payload_bit p (8 * j + (7 - e)) ≡ get_or p j 0 / 2 ^ e % 2
unfolding payload_bit
payload_bit_lem p j e l =
    let q : (8 * j + (7 - e)) / 8 ≡ j = omega arith in
    let r : 7 - (8 * j + (7 - e)) % 8 ≡ e = omega arith in
    ap₂ (λ (x y : ℕ). get_or p x 0 / 2 ^ y % 2) q r
