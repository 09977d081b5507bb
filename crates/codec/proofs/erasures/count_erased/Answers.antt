-- `count_erased` meets its contract.
use mathlib.Core.Path.{◌≡◌, sym, ap, ◌∙◌}
use lib.Dec.{eqb}
use lib.ListN.{length, take}
use Rattle.std.proofs.Common.{rules}
use Rattle.std.specs.List.{count_by}
use Rattle.std.proofs.Math.Seq.{take-length}
use Rattle.codec.proofs.theory.Counted.{counted}
use native.Mathlib.Omega.{arith}
use borrow.Author.Tests.{ne_eqb}
use Rattle.lattice.proofs.theory.Counting.{count_none}
use Rattle.codec.specs.Field.{field_of, erased}
use Rattle.codec.specs.Erasure.{is_erased}
use Rattle.codec.proofs.erasures.count_erased.Goals as goal

pub returns-then-most-lt-ERASED : goal.returns-then-most-lt-ERASED
returns-then-most-lt-ERASED c =
    let f = field_of c.args.field.now in
    sym (count_none (is_erased f) _ (λ i l. ne_eqb (f i) erased (λ (q : f i ≡ erased). omega (arith, c.requires.by_index i l))))

pub returns : goal.returns
returns c =
    let field = c.args.field.now in
    let many : c.count.result ≡ count_by (λ x. eqb x erased) field = search rules in
    let all : take (length field) field ≡ field = take-length field in
    many ∙ sym (ap (count_by (λ x. eqb x erased)) all) ∙ counted (λ x. eqb x erased) field (length field) (omega arith)
