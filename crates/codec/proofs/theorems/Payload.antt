-- Payloads and padding: the terms of the theorems.
use Prim.Native.Nat.{ℕ, ◌+◌, ◌-◌, ◌*◌, ◌/◌, ◌%◌, ◌^◌, ◌<◌}
use mathlib.Core.Path.{◌≡◌, sym, ◌∙◌, refl}
use native.Mathlib.Omega.{arith}
use lib.ListN.{get_or, length}
use lib.Seq.{ext_get_or}
use Rattle.codec.specs.Payload.{padding, earlier_padding}
use Rattle.codec.specs.theorems.Payload.{BitsTell, PaddingFew, PaddingPattern}
use Rattle.codec.proofs.theory.BinaryDigits.{bits_same}
use Rattle.codec.proofs.theory.ByteBits.{payload_bit_lem}
use Rattle.codec.proofs.theory.Ranks.{bytes_least, rank_all}
use Rattle.codec.proofs.theory.PaddingCount.{counted}

-- Theorem. A payload is told by its bits: two of one length with the same bits are one.
pub bits_tell : BitsTell
bits_tell p q a b l h = ext_get_or 0 p q l byte
  where
    bit : (j e : ℕ) → j < length p → e < 8 → get_or p j 0 / 2 ^ e % 2 ≡ get_or q j 0 / 2 ^ e % 2
    bit j e r s = sym (payload_bit_lem p j e s) ∙ h (8 * j + (7 - e)) (omega arith) ∙ payload_bit_lem q j e s

    byte : (j : ℕ) → j < length p → get_or p j 0 ≡ get_or q j 0
    byte j r = bits_same 8 (get_or p j 0) (get_or q j 0) (a j) (b j) (λ e. bit j e r)

-- Theorem. For any layout, at most 7 cells are padding.
pub padding_few : PaddingFew
padding_few L = omega (arith, counted L L.cells, rank_all L, bytes_least L)

-- Theorem. The padding's cells 2j and 2j + 1 are 1 and 0; before, all were 0.
pub padding_pattern : PaddingPattern
unfolding padding earlier_padding
padding_pattern = record { even = λ j. omega arith; odd = λ j. omega arith; earlier = λ j. refl }
