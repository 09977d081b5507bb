-- What the functions on lists of positions leave, put together.
use Prim.Native.Nat.{ℕ, ◌+◌, ◌/◌, ◌%◌, ◌<◌, ◌≤◌, zero-le}
use mathlib.Core.Bool.{Bool, true, false, cond}
use mathlib.Core.List.{List, ◌++◌}
use mathlib.Core.Path.{◌≡◌, sym, ◌∙◌}
use native.Mathlib.Nat.{mod-lt, div-add-mod', div-le_self}
use native.Mathlib.Omega.{arith}
use borrow.Author.Tests.{lt-ltb, le-ltb}
use lib.Dec.{ltb}
use lib.ListN.{length, get_or, get_or-append}
use Rattle.lattice.specs.Position.{Layout}
use Rattle.lattice.specs.Lines.{Positions, Repeats, Gains, round}
use Rattle.lattice.proofs.theory.PositionLists.{first_line, gains}

pub bit_most : (z gap : ℕ) → cond (ltb z gap) 1 0 ≤ 1
bit_most z gap = go (ltb z gap)
  where
    go : (b : Bool) → cond b 1 0 ≤ 1
    go true = omega arith
    go false = omega arith

bit_none : (z gap : ℕ) → gap ≤ z → round z gap ≡ 0
bit_none z gap l = rw (le-ltb z gap l)

bit_some : (z gap : ℕ) → z < gap → round z gap ≡ 1
bit_some z gap l = rw (lt-ltb z gap l)

-- the places below m are filled, and then repeated
module _ (m wide : ℕ) (some : 0 < m) (low all : List ℕ) (kept : (z : ℕ) → z < m → get_or all z 0 ≡ get_or low z 0) where
  pub filled_first : ((z : ℕ) → z < m → get_or low z 0 ≡ 1 + cond (ltb z 0) 1 0) → Repeats m 1 wide all
      → (L : Layout) (table : ℕ → ℕ) (off : ℕ) → Positions L m table 0 off 0 wide all
  filled_first p again L table off =
      first_line m some L table off wide all again (λ y l. omega (arith, kept y l, p y l, bit_none y 0 zero-le))

  pub filled_gains : (n : ℕ) → ((z : ℕ) → z < m → get_or low z 0 ≡ n / m + cond (ltb z (n % m)) 1 0) → Repeats m 0 wide all
      → Gains m n wide all
  filled_gains n p again =
      let less : n % m < m = mod-lt n some in
      gains m some n (n / m) (n % m) wide all (sym (div-add-mod' n m)) (omega arith) again
      (λ z l. omega (arith, kept z (omega arith), p z (omega arith), bit_some z (n % m) l))
      (λ z l r. omega (arith, kept z r, p z r, bit_none z (n % m) l))

pub quotient_most : (n m : ℕ) → n / m ≤ n
quotient_most n m = div-le_self n m

-- a list that repeats up to a place repeats up to an earlier one
pub repeats_less : (m d wide far : ℕ) (e : List ℕ) → wide ≤ far → Repeats m d far e → Repeats m d wide e
unfolding Repeats
repeats_less m d wide far e l p y r = p y (omega arith)

-- a list of gains with other entries behind it
pub gains_front : (m n wide far : ℕ) (p rest : List ℕ) → wide ≤ length p → wide ≤ far → Gains m n far p
    → Gains m n wide (p ++ rest)
unfolding Gains
gains_front m n wide far p rest l r gain z q = get_or-append p rest 0 z (omega arith) ∙ gain z (omega arith)
