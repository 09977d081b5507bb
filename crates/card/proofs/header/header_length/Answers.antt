-- `header_length` meets its contract: lines that are written from 0 on end at their length, and the buffer has room for any.
use native.Mathlib.Omega.{arith}
use Rattle.card.proofs.theory.HeaderText.{header_most}
use Rattle.card.proofs.header.header_length.Goals as goal

pub put_header-requires : goal.put_header-requires
put_header-requires c = record { fits = omega (arith, header_most c.args.header) }
