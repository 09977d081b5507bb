-- What is read at a position, taken apart.
use Prim.Native.Nat.{ℕ}
use mathlib.Core.Path.{◌≡◌, ap}
use Rattle.std.specs.Prelude.{Option, Some, None}
use Rattle.card.specs.declared.scan.Found.{Found}
use Rattle.card.specs.Parse.{read}

abbrev value_or : {A : Type 0} → A → Option (Found A) → A
value_or a None = a
value_or a (Some r) = r.value

abbrev next_or : {A : Type 0} → ℕ → Option (Found A) → ℕ
next_or n None = n
next_or n (Some r) = r.next

pub same_value : {A : Type 0} {a b : A} {m n : ℕ} → read a m ≡ read b n → a ≡ b
same_value {A} {a} {b} {m} {n} e = ap (value_or a) e

pub same_next : {A : Type 0} {a b : A} {m n : ℕ} → read a m ≡ read b n → m ≡ n
same_next {A} {a} {b} {m} {n} e = ap (next_or m) e
