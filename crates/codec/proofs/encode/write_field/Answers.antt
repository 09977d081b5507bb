-- `write_field` meets its contract.
use Rattle.codec.proofs.encode.FieldWritten.{place_below, filled_fits, filled_same, listed_below}
use Rattle.codec.proofs.encode.FieldWritten.{to_check, written}
use Rattle.codec.proofs.theory.WorkArrays.{zeros}
use Rattle.codec.proofs.encode.write_field.Goals as goal

pub data_syndromes-requires : goal.data_syndromes-requires
data_syndromes-requires c =
    let given = c.check_cells-amount.ensures in
    record {
      field_fits = filled_fits _ _ _ _ _ _ c.requires.payload_fits (given.lists_checks, given.upper_bound) _
          c.fill_planes.ensures;
      holds_zeros = zeros;
    }

pub set_checks-requires : goal.set_checks-requires
set_checks-requires c =
    let given = c.check_cells-amount.ensures in
    record {
      amount_le_max_checks = given.upper_bound;
      by_index = listed_below _ _ _ _ _ _ c.requires.payload_fits (given.lists_checks, given.upper_bound) _ c.fill_planes.ensures;
      by_index_2 = place_below _ _ _ _ _ _ c.requires.payload_fits (given.lists_checks, given.upper_bound);
    }

pub returns : goal.returns
returns c =
    let set = c.set_checks in
    let held = c.data_syndromes.ensures in
    let given = c.check_cells-amount.ensures in
    let filled = c.fill_planes.ensures in
    written _ _ _ _ _ _ c.requires.payload_fits (given.lists_checks, given.upper_bound) _ filled _ set.auto.field
    (set.ensures.written _ _
    (to_check _ _ _ _ _ _ c.requires.payload_fits (given.lists_checks, given.upper_bound) _ filled _ held)
    (filled_same _ _ _ _ _ _ c.requires.payload_fits (given.lists_checks, given.upper_bound) _ filled))
