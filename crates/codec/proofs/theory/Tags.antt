-- Positions as tags: they tell the cells of a class, and none is above the class's size.
use Prim.Native.Nat.{ℕ, ◌^◌, ◌<◌, ◌≤◌}
use mathlib.Core.Logic.{inl, inr}
use mathlib.Core.Path.{◌≡◌, refl, ap}
use native.Mathlib.Omega.{arith}
use Rattle.lattice.specs.Position.{Layout, size, position}
use Rattle.lattice.proofs.theory.Positions.{position_least, position_most, position_one}
use Rattle.codec.specs.Field.{Field}
use Rattle.codec.specs.Hamming.{Tells, tags_of, syndrome}
use Rattle.codec.proofs.theory.Correction.{Reached}
use Rattle.codec.proofs.theory.Syndrome.{syndrome_below}

module _ (L : Layout) where
  pub tag_position : (i : ℕ) → tags_of L i ≡ position L i
  unfolding tags_of
  tag_position i = refl

  pub tags_tell : Tells L (tags_of L)
  unfolding tags_of
  tags_tell = record { some = λ i l e. omega (arith, position_least L i); one = λ i j l m c e. position_one L i j c e }

  -- a tag is at most the size of its class
  tag_most : (a i : ℕ) → i < L.cells → L.class i ≡ a → tags_of L i ≤ size L a
  tag_most a i l c = omega (arith, tag_position i, position_most L i L.cells l, ap (size L) c)

  pub syndrome_size : (f : Field) (a k : ℕ) → size L a < 2 ^ k → syndrome L (tags_of L) f a < 2 ^ k
  syndrome_size f a k p = syndrome_below L (tags_of L) f a L.cells k (λ i l c. omega (arith, tag_most a i l c))

  -- 0 and the tags of the cells of a class are at most its size
  pub reached_size : (a v : ℕ) → Reached L (tags_of L) a v → v ≤ size L a
  reached_size a v (inl z) = omega arith
  reached_size a v (inr r) = omega (arith, tag_most a r.0 r.1 r.2, r.3)
