-- A bit of the payload, as the code takes it out of its byte.
use Prim.Native.Nat.{ℕ, ◌*◌, ◌-◌, ◌/◌, ◌%◌, ◌^◌, ◌≤◌}
use mathlib.Core.List.{List}
use mathlib.Core.Path.{◌≡◌, ap}
use native.Mathlib.Nat.{one-mul, mod-eq_of_lt}
use native.Mathlib.Omega.{arith}
use lib.ListN.{get_or}
use lib.Pow.{pow_mono}
use Rattle.codec.specs.Payload.{payload_bit}

-- a power of two below 256 fits a byte
pub byte_power : (k : ℕ) → 1 * 2 ^ (7 - k % 8) % 256 ≡ 2 ^ (7 - k % 8)
byte_power k = rw one-mul (mod-eq_of_lt (let h : 7 - k % 8 ≤ 7 = omega arith in omega (arith, pow_mono h)))

pub payload_bit_is : (p : List ℕ) (k : ℕ) → get_or p (k / 8) 0 / (1 * 2 ^ (7 - k % 8) % 256) % 2 ≡ payload_bit p k
unfolding payload_bit
payload_bit_is p k = ap (λ (d : ℕ). get_or p (k / 8) 0 / d % 2) (byte_power k)
