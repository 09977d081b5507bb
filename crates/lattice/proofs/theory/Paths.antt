-- Paths of cells by steps of any kind, and the law of paths: a measure that a step raises by at most 1 takes every value between
-- those at the ends, so a path among few cells goes no further than there are cells.
use Prim.Native.Nat.{ℕ, suc, ◌≤◌, ◌<◌}
use mathlib.Core.Path.{◌≡◌}
use native.Mathlib.Decide.{ℕ_discrete}
use native.Mathlib.Omega.{arith}
use Rattle.lattice.specs.Cell.{Cell}
use Rattle.lattice.specs.Cluster.{Path, stay, step, AtMost}
use Rattle.lattice.proofs.theory.Pigeonhole.{all_covered}

module _ {R : Cell → Cell → Type 0} {S : Cell → Type 0} where
  -- a path's first and last cell lie in the set, paths can be joined and turned round, and a larger set has them too
  path_start : {x y : Cell} → Path R S x y → S x
  path_start (stay h) = h
  path_start (step h j l) = h

  pub path_end : {x y : Cell} → Path R S x y → S y
  path_end (stay h) = h
  path_end (step h j l) = path_end l

  pub path_append : {x y z : Cell} → Path R S x y → Path R S y z → Path R S x z
  path_append (stay h) k = k
  path_append (step h j l) k = step h j (path_append l k)

  pub path_reverse : ((x y : Cell) → R x y → R y x) → {x y : Cell} → Path R S x y → Path R S y x
  path_reverse back (stay h) = stay h
  path_reverse back (step {x = a} {y = b} h j l) =
      path_append (path_reverse back l) (step (path_start l) (back a b j) (stay h))

  pub path_into : {T : Cell → Type 0} → ((c : Cell) → S c → T c) → {x y : Cell} → Path R S x y → Path R T x y
  path_into f (stay {x} h) = stay (f x h)
  path_into f (step {x} h j l) = step (f x h) j (path_into f l)

  module _ (f : Cell → ℕ) (slow : (x y : Cell) → R x y → f y ≤ suc (f x)) where
    -- some cell of the path has each value between those of its ends
    between : (k : ℕ) {a b : Cell} → Path R S a b → f a ≤ k → k ≤ f b → (c : Cell) × S c × (k ≡ f c)
    between k (stay {x = a} h) p q = (a, h, omega arith)
    between k (step {x = a} {y = b} h j l) p q = go (ℕ_discrete k (f a)) (λ p'. between k l p' q)
      where
        go : Dec (k ≡ f a) → (f b ≤ k → (c : Cell) × S c × (k ≡ f c)) → (c : Cell) × S c × (k ≡ f c)
        go (yes e) rest = (a, h, e)
        go (no e) rest = rest (omega (arith, slow a b j))

    -- from a cell of value 0 a path among at most t cells goes to values below t alone
    pub path_short : (t : ℕ) → AtMost t S → {a b : Cell} → Path R S a b → f a ≡ 0 → f b < t
    path_short t small {a} {b} l z =
        omega (
          arith,
          small.few,
          all_covered f (suc (f b)) small.cells
              (λ k h. let c = between k l (omega arith) (omega arith) in (c.0, small.all c.0 c.1, c.2)),
        )
