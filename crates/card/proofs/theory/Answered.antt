-- The program's work buffers, and what an answer leaves.
use Prim.Native.Nat.{ℕ, zero, suc, ◌≤◌}
use mathlib.Core.Bool.{true}
use mathlib.Core.List.{List, ◌∷◌, ◌++◌}
use mathlib.Core.Path.{◌≡◌, refl, sym, ap, ◌∙◌}
use native.Mathlib.Nat.{not-suc-le-zero, le_of_suc-le-suc}
use native.Mathlib.Omega.{arith}
use lib.ListN.{length, take, replicate, length-replicate}
use lib.Seq.{take_at}
use Rattle.codec.specs.Payload.{Bytes}
use Rattle.card.specs.Card.{max_answer}
use Rattle.card.specs.Parse.{payload_ok, payload_of}
use Rattle.card.specs.Program.{answer, output_leaves}
use Rattle.card.specs.Working.{Answered}
use Rattle.card.proofs.theorems.Outputs.{output_forms}
use Rattle.card.proofs.theory.PayloadText.{at_payload}

pub answered_leaves : (s before after : List ℕ) (r : ℕ)
    → Answered (answer s) before after r
    → (r ≡ length (answer s)) × (after ≡ output_leaves (answer s) before)
answered_leaves s before after r a = (a.long, a.leaves)

-- the first n of m zeros
pub zeros_take : (n m : ℕ) → n ≤ m → take {A = ℕ} n (replicate m 0) ≡ replicate n 0
zeros_take zero m l = refl
zeros_take (suc n) zero l = absurd (not-suc-le-zero l)
zeros_take (suc n) (suc m) l = ap (λ (t : List ℕ). 0 ∷ t) (zeros_take n m (le_of_suc-le-suc l))

pub zeros_count : (n m : ℕ) → n ≤ m → n ≡ length {A = ℕ} (take n (replicate m 0))
zeros_count n m l = sym (ap length (zeros_take n m l) ∙ length-replicate n 0)

-- a part that was lent and has come back as `last`
module _ (n : ℕ) (last rest : List ℕ) (long : length last ≡ n) where
  pub part_again : take n (last ++ rest) ≡ last
  part_again = take_at last rest n long

-- the payload read
pub bytes_read : (s : List ℕ) (at : ℕ) → payload_ok s at ≡ true → Bytes (payload_of s at)
bytes_read s at ok = (at_payload s at ok).bytes

-- an output of m bytes that is long enough for every answer
pub answer_within : (s last : List ℕ) (r m : ℕ)
    → max_answer ≤ m
    → r ≡ length (answer s)
    → length last ≡ length {A = ℕ} (replicate m 0)
    → r ≤ length last
answer_within s last r m l e k =
    let long : length {A = ℕ} (replicate m 0) ≡ m = length-replicate m 0 in
    omega (arith, output_forms.short s)
