-- Card texts there and back: the terms of the theorems.
use mathlib.Core.Logic.{inr}
use mathlib.Core.Path.{refl}
use Rattle.codec.proofs.theorems.Recovery.{recovery}
use Rattle.codec.proofs.theorems.Erasures.{refill}
use Rattle.codec.proofs.theorems.Windows.{window_recovery, window_refill}
use Rattle.card.specs.Card.{shape_of}
use Rattle.card.specs.Program.{blank_payload}
use Rattle.card.specs.theorems.RoundTrip.{PrintedIsRead, ErasedIsRead, WindowIsRead}
use Rattle.card.proofs.theory.ProgramParts.{blank_payload_lem}
use Rattle.card.proofs.theory.PrintedRows.{read_recovered, read_whole, read_back}

-- Theorem. What the program prints for a payload, now or before, is read back, whole and with demand 3's damage.
pub printed_is_read : PrintedIsRead
printed_is_read =
    record {
      whole = read_back;
      earlier = λ h card p long bytes. read_whole h card p _ long bytes (inr refl);
      damaged = λ h card p F long bytes from S cluster small selected inside.
          read_recovered h card p _ _ _
          (recovery (shape_of h) card.accepted p F long bytes from S cluster small selected inside (blank_payload h)
          (blank_payload_lem h))
          refl;
    }

-- Theorem. With cells of two clusters of at most t cells each printed as 2 it is read back too.
pub erased_is_read : ErasedIsRead
erased_is_read h card p F long bytes from S T s-cluster s-small t-cluster t-small selected inside =
    let back =
    refill (shape_of h) card.accepted p F long bytes from S T s-cluster s-small t-cluster t-small selected inside
    (blank_payload h) (blank_payload_lem h) in
    read_recovered h card p _ _ _ back.0 back.1

-- Theorem. So it is by window, with cells inside one window turned over or inside two printed as 2.
pub window_is_read : WindowIsRead
window_is_read =
    record {
      damaged = λ h card z p F long bytes from r c selected inside.
          read_recovered h card p _ _ _
          (window_recovery (shape_of h) card.accepted z p F long bytes from r c selected inside (blank_payload h)
          (blank_payload_lem h))
          refl;
      erased = λ h card z p F long bytes from r c u v selected inside.
          let back =
          window_refill (shape_of h) card.accepted z p F long bytes from r c u v selected inside (blank_payload h)
          (blank_payload_lem h) in
          read_recovered h card p _ _ _ back.0 back.1;
    }
