-- A part of the field filled with the data alone, from run to run.
use Prim.Native.Nat.{ℕ, ◌+◌, ◌-◌, ◌*◌, ◌<◌, ◌≤◌}
use mathlib.Core.Bool.{true, false, cond}
use mathlib.Core.List.{List}
use mathlib.Core.Logic.{inl, inr}
use mathlib.Core.Path.{◌≡◌, sym, ap, ap₂, subst, ◌∙◌}
use native.Mathlib.Decide.{dec_lt}
use native.Mathlib.Nat.{le_refl, le_trans}
use native.Mathlib.Omega.{arith}
use lib.Dec.{ltb}
use lib.ListN.{length, get_or, set}
use lib.Seq.{get_or-set_same, get_or-set_other}
use Rattle.lattice.specs.Position.{Layout}
use Rattle.lattice.specs.Check.{holds_data}
use Rattle.lattice.specs.Listing.{checks_to, ListsChecks, Run}
use Rattle.lattice.proofs.theory.Runs.{checks_mono, checks_most, checks_check, run_checks, run_part, next_run, last_run}
use Rattle.codec.specs.Payload.{payload_bytes, payload_bit, padding, rank, data_value, data_field}
use Rattle.codec.specs.Filling.{ValuesPut, EndsRun, DataPut, AtRun}
use Rattle.codec.proofs.theory.Gathered.{run_rank}

-- where a run ends
module _ (L : Layout) (amount : ℕ) (checks : List ℕ) (lists : ListsChecks L L.cells amount checks) (k end : ℕ)
    (fit : end ≤ L.cells) where
  pub ends_check : k < amount → get_or checks k 0 < end → EndsRun L k end (get_or checks k 0)
  ends_check l p =
      record {
        run = λ i q e. next_run L _ _ _ lists (le_refl _) k i (le_trans q fit) e l;
        check = λ q. (lists.at k l).check;
      }

  pub ends_before : k < amount → end ≤ get_or checks k 0 → EndsRun L k end end
  ends_before l p =
      record {
        run = λ i q e. run_part L _ _ _ _ _ (next_run L _ _ _ lists (le_refl _) k i (le_trans q fit) e l) (le_refl _) q p;
        check = λ q. absurd (omega arith);
      }

  pub ends_behind : amount ≤ k → EndsRun L k end end
  ends_behind l =
      record {
        run = λ i q e.
            let all : amount ≡ k = omega (arith, lists.all, checks_mono L i L.cells (le_trans q fit)) in
            run_part L _ _ _ _ _
            (subst (λ (n : ℕ). Run L n i L.cells) all (last_run L _ _ _ lists (le_refl _) i (le_trans q fit) (e ∙ sym all)))
            (le_refl _) q fit;
        check = λ q. absurd (omega arith);
      }

module _ (L : Layout) (p : List ℕ) where
  -- the data alone, at a cell that holds no check and at a check
  data_value_lem : length p ≡ payload_bytes L → (x k : ℕ) → holds_data L x ≡ true → rank L x + k ≡ x
      → data_value padding (length p) p (x - k) ≡ data_field L padding p x
  unfolding data_field data_value
  data_value_lem long x k held ranked =
      let number : x - k ≡ rank L x = omega arith in
      rw held (ap₂ (λ (m r : ℕ). cond (ltb r (8 * m)) (payload_bit p r) (padding (r - 8 * m))) long number)

  data_zero : (x : ℕ) → holds_data L x ≡ false → data_field L padding p x ≡ 0
  unfolding data_field
  data_zero x held = rw held

  module _ (xs ys : List ℕ) (at i : ℕ) (put : DataPut L p xs ys at i) where
    -- a run more
    data_run : (zs : List ℕ) (k e : ℕ) → length p ≡ payload_bytes L → Run L k i e → ValuesPut p ys zs at k i e
        → DataPut L p xs zs at e
    data_run zs k e long run values =
        record {
          own = λ x a b. own x a b (dec_lt x i);
          others = λ y o. values.others y (inr o) ∙ put.others y (omega (arith, run.ordered));
        }
      where
        own : (x : ℕ) → at ≤ x → x < e → Dec (x < i) → get_or zs (x - at) 0 ≡ data_field L padding p x
        own x a b (yes l) = values.others (x - at) (inl (omega arith)) ∙ put.own x a l
        own x a b (no l) =
            let m : i ≤ x = omega arith in
            values.own x m b
            ∙ data_value_lem long x k (run.free x m b) (run_rank L k i e run x m (omega arith))

    -- a check more
    data_check : at ≤ i → i - at < length ys → holds_data L i ≡ false → DataPut L p xs (set ys (i - at) 0) at (i + 1)
    data_check m room held =
        record {
          own = λ x a b. own x a b (dec_lt x i);
          others = λ y o. get_or-set_other ys (i - at) y 0 0 (λ q. omega arith) ∙ put.others y (omega arith);
        }
      where
        own : (x : ℕ) → at ≤ x → x < i + 1 → Dec (x < i) → get_or (set ys (i - at) 0) (x - at) 0 ≡ data_field L padding p x
        own x a b (yes l) = get_or-set_other ys (i - at) (x - at) 0 0 (λ q. omega arith) ∙ put.own x a l
        own x a b (no l) =
            let e : x ≡ i = omega arith in
            ap (λ (y : ℕ). get_or (set ys (i - at) 0) (y - at) 0) e
            ∙ get_or-set_same ys (i - at) 0 0 room
            ∙ sym (ap (data_field L padding p) e ∙ data_zero i held)

-- the run that is next, and what stands behind it
module _ (L : Layout) (p xs ys : List ℕ) (at k i end e : ℕ) (next : AtRun L p xs ys at k i end e) where
  pub this_run : Run L k i e
  this_run = next.ends.run i next.inside next.counted

  pub few_before : k ≤ i
  few_before = omega (arith, next.counted, checks_most L i)

  -- the check behind the run, with the part filled up to it
  pub run_check : length p ≡ payload_bytes L → (zs : List ℕ) (q : ℕ) → e < end → ValuesPut p ys zs at k i e
      → e - at < length zs → EndsRun L (k + 1) end q → AtRun L p xs (set zs (e - at) 0) at (k + 1) (e + 1) end q
  run_check long zs q l values room ends =
      record {
        behind = omega (arith, next.behind, this_run.ordered);
        inside = omega arith;
        counted =
            omega (arith, checks_check L e (next.ends.check l), run_checks L k i e this_run e this_run.ordered (le_refl _));
        ends = ends;
        put =
            data_check L p xs zs at e (data_run L p xs ys at i next.put zs k e long this_run values)
            (omega (arith, next.behind, this_run.ordered)) room (next.ends.check l);
      }

  -- the last run
  pub run_last : length p ≡ payload_bytes L → (zs : List ℕ) → end ≡ e → ValuesPut p ys zs at k i end
      → DataPut L p xs zs at end × (checks_to L end ≡ k)
  run_last long zs same values =
      let run : Run L k i end = subst (λ (n : ℕ). Run L k i n) (sym same) this_run in (
        data_run L p xs ys at i next.put zs k end long run values,
        run_checks L k i end run end run.ordered (le_refl _),
      )
