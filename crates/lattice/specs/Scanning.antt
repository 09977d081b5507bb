-- What the functions that try the triples find, as a scan. Only contracts of functions that are private to the crate cite this
-- file.
use Rattle.std.specs.Prelude.{is_some}
use Rattle.lattice.specs.declared.distance.Trial.{Trial}
use Rattle.lattice.specs.Order.{or_origin}
use Rattle.lattice.specs.DistanceTest.{Scan}

abbrev pub scan_of : Trial → Scan
scan_of t = record { found = is_some t.failing; triple = or_origin t.failing; tried = t.tried }
