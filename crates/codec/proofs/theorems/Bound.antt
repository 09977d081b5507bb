-- No denser square: the terms of the theorems.
use Prim.Native.Nat.{ℕ, zero, suc, ◌+◌}
use mathlib.Core.Bool.{false≢true}
use mathlib.Core.List.{[], ◌∷◌}
use mathlib.Core.Logic.{◌≢◌}
use mathlib.Core.Path.{◌≡◌, refl, sym, ◌∙◌}
use native.Mathlib.Nat.{lt_of_le_of_lt, lt_of_mul-lt-mul_right}
use native.Mathlib.Omega.{arith}
use lib.Dec.{lit<}
use Rattle.codec.specs.Field.{field_of, is_cell}
use Rattle.codec.specs.Bound.{Word}
use Rattle.codec.specs.theorems.Bound.{NoDenserCode, CodeInUse, BoundExamples}
use Rattle.codec.proofs.theory.BinaryWords.{is_word}
use Rattle.codec.proofs.theory.ClassCodewords.{codewords_correct, all_codewords, codewords_listed, codewords_length}
use Rattle.codec.proofs.theory.ClassCodewords.{codewords_most}
use Rattle.codec.proofs.theory.HammingBound.{packed, words_short}

-- Theorem. Any set of words of n cells that corrects one has fewer than twice 2^k words.
pub no_denser_code : NoDenserCode
no_denser_code n S code words listed =
    lt_of_mul-lt-mul_right (n + 1) (lt_of_le_of_lt (packed n S code words listed) (words_short n))

-- Theorem. The codewords of a class are such a set, and they are 2^k.
pub code_in_use : CodeInUse
code_in_use =
    record {
      corrects = codewords_correct;
      least = λ L a. (all_codewords L a, codewords_listed L a, codewords_length L a);
      most = codewords_most;
    }

-- Theorem. Our own examples hold.
pub bound_examples : BoundExamples
unfolding is_cell
bound_examples =
    record {
      comes = (
        record { word = here; one = λ i j d e. absurd (d refl) },
        record { word = there; one = λ i j d e. second i d ∙ sym (second j e) },
      );
      not_comes = (
        λ c. omega (arith, c.one 0 1 (λ e. omega (arith, e)) (λ e. omega (arith, e))),
        λ c. false≢true (c.word.cells 2 (lit< tt)),
        λ c. omega (arith, c.word.long),
      );
      class_words = (refl, refl);
    }
  where
    here : Word 3 (0 ∷ 0 ∷ 1 ∷ [])
    here = is_word (0 ∷ 0 ∷ 1 ∷ []) refl

    there : Word 3 (0 ∷ 1 ∷ 1 ∷ [])
    there = is_word (0 ∷ 1 ∷ 1 ∷ []) refl

    second : (i : ℕ) → field_of (0 ∷ 0 ∷ 1 ∷ []) i ≢ field_of (0 ∷ 1 ∷ 1 ∷ []) i → i ≡ 1
    second zero d = absurd (d refl)
    second (suc zero) d = refl
    second (suc (suc zero)) d = absurd (d refl)
    second (suc (suc (suc i))) d = absurd (d refl)
