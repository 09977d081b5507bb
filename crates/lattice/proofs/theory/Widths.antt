-- Products of numbers of narrow types fit 64 bits.
use Prim.Native.Nat.{ℕ, ◌*◌, ◌≤◌}
use native.Mathlib.Nat.{mul-le-mul}
use native.Mathlib.Omega.{arith}
use mir.Syntax.{w16, w32}
use mir.Val.{Fits}

pub most_16 : {a : ℕ} → Fits w16 a → a ≤ 65535
most_16 p = omega arith

pub most_32 : {a : ℕ} → Fits w32 a → a ≤ 4294967295
most_32 p = omega arith
