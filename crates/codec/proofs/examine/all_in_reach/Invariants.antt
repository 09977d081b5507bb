-- What the loop of `all_in_reach` keeps: the test of all classes is the test of those that are left.
use mathlib.Core.Path.{◌≡◌}
use Rattle.lattice.specs.Counting.{all_below}
use Rattle.codec.proofs.examine.Reach.{reaches}
use Rattle.codec.proofs.examine.all_in_reach.Given as goal

abbrev pub invariant-loop-a : goal.invariant-loop-a
invariant-loop-a l =
    all_below (reaches l.syndromes l.damaged l.first l.second) l.m
    ≡ all_below (reaches l.syndromes l.damaged l.first l.second) l.a
