-- `slice_syndromes` meets its contract.
use Prim.Native.Nat.{◌+◌}
use mathlib.Core.Path.{refl, sym}
use native.Mathlib.Omega.{arith}
use Rattle.codec.proofs.syndromes.LinesTaken.{front_length, front_zeros, pass_narrow, pass_long, pass_space}
use Rattle.codec.proofs.syndromes.slice_syndromes.Goals as goal

pub overflow_add-wide : goal.overflow_add-wide
overflow_add-wide c = let p = c.requires.of_shape.0 in omega (arith, pass_narrow p.shape p.accepted _ p.same)

pub overflow_add-long : goal.overflow_add-long
overflow_add-long c = let p = c.requires.of_shape.0 in omega (arith, pass_long p.shape p.accepted _ p.same)

pub slice_bounds-e-end : goal.slice_bounds-e-end
slice_bounds-e-end c = let p = c.requires.of_shape.0 in pass_narrow p.shape p.accepted _ p.same

pub slice_bounds-listed_syndromes-end : goal.slice_bounds-listed_syndromes-end
slice_bounds-listed_syndromes-end c =
    let p = c.requires.of_shape.0 in
    front_length _ 768 (pass_narrow p.shape p.accepted _ p.same)

pub slice_bounds-p-end : goal.slice_bounds-p-end
slice_bounds-p-end c =
    let p = c.requires.of_shape.0 in pass_long p.shape p.accepted _ p.same

pub slice_bounds-listed_syndromes-end-2 : goal.slice_bounds-listed_syndromes-end-2
slice_bounds-listed_syndromes-end-2 c =
    let p = c.requires.of_shape.0 in
    front_length _ 1280 (pass_long p.shape p.accepted _ p.same)

pub slice_bounds-q-end : goal.slice_bounds-q-end
slice_bounds-q-end c =
    let p = c.requires.of_shape.0 in
    pass_long p.shape p.accepted _ p.same

pub slice_bounds-listed_syndromes-end-3 : goal.slice_bounds-listed_syndromes-end-3
slice_bounds-listed_syndromes-end-3 c =
    let p = c.requires.of_shape.0 in
    front_length _ 1280 (pass_long p.shape p.accepted _ p.same)

pub slice_bounds-t-end : goal.slice_bounds-t-end
slice_bounds-t-end c =
    let p = c.requires.of_shape.0 in
    pass_narrow p.shape p.accepted _ p.same

pub slice_bounds-listed_syndromes-end-4 : goal.slice_bounds-listed_syndromes-end-4
slice_bounds-listed_syndromes-end-4 c =
    let p = c.requires.of_shape.0 in
    front_length _ 768 (pass_narrow p.shape p.accepted _ p.same)

pub listed_syndromes-requires : goal.listed_syndromes-requires
listed_syndromes-requires c =
    let p = c.requires.of_shape.0 in
    let narrow = pass_narrow p.shape p.accepted _ p.same in
    let long = pass_long p.shape p.accepted _ p.same in
    record {
      of_shape = c.requires.of_shape;
      field_len = c.requires.field_len;
      by_index = c.requires.by_index;
      room = (
        pass_space p.shape p.accepted _ p.same _ _ _ (sym (front_length _ 768 narrow))
            (sym (front_length _ 1280 long)) (sym (front_length _ 1280 long)),
        refl,
      );
      by_index_2 = front_zeros (c.args.pass.period + c.args.pass.columns) 768;
    }
