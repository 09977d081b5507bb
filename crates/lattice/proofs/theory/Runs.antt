-- The runs of cells between the cells that hold a check, for any layout.
use Prim.Native.Nat.{ℕ, zero, suc, ◌+◌, ◌-◌, ◌<◌, ◌≤◌}
use mathlib.Core.Bool.{Bool, true, false, not, true≢false}
use mathlib.Core.List.{List}
use mathlib.Core.Path.{◌≡◌, refl, sym, ap, subst, ◌∙◌}
use native.Mathlib.Decide.{dec_lt}
use native.Mathlib.Nat.{le_refl}
use native.Mathlib.Omega.{arith}
use lib.ListN.{get_or}
use Rattle.lattice.specs.Position.{Layout}
use Rattle.lattice.specs.Check.{holds_data}
use Rattle.lattice.specs.Listing.{checks_to, ListsChecks, Run}
use Rattle.lattice.proofs.theory.Counting.{count_yes, count_no, count_mono, count_most}

module _ (L : Layout) where
  -- the checks go up by one behind each check, and stay behind a data cell
  pub checks_none : checks_to L 0 ≡ 0
  unfolding checks_to
  checks_none = refl

  pub checks_check : (i : ℕ) → holds_data L i ≡ false → checks_to L (i + 1) ≡ checks_to L i + 1
  unfolding checks_to
  checks_check i e = count_yes (λ i. not (holds_data L i)) i (ap not e)

  pub checks_data : (i : ℕ) → holds_data L i ≡ true → checks_to L (i + 1) ≡ checks_to L i
  unfolding checks_to
  checks_data i e = count_no (λ i. not (holds_data L i)) i (ap not e)

  pub checks_mono : (i j : ℕ) → i ≤ j → checks_to L i ≤ checks_to L j
  unfolding checks_to
  checks_mono i j p = count_mono (λ i. not (holds_data L i)) i j p

  pub checks_most : (i : ℕ) → checks_to L i ≤ i
  unfolding checks_to
  checks_most i = count_most (λ i. not (holds_data L i)) i

  -- where no check is counted on the way, each cell holds data
  free_between : (i e : ℕ) → checks_to L e ≤ checks_to L i → (x : ℕ) → i ≤ x → x < e → holds_data L x ≡ true
  free_between i e none x p q = go (holds_data L x) refl
    where
      go : (b : Bool) → holds_data L x ≡ b → b ≡ true
      go true h = refl
      go false h =
          absurd (omega (arith, checks_check x h, checks_mono i x p, checks_mono (x + 1) e (omega arith)))

  run_between : (k i e : ℕ) → i ≤ e → e ≤ L.cells → checks_to L i ≡ k → checks_to L e ≡ k → Run L k i e
  run_between k i e order inside from to =
      record {
        ordered = order;
        inside = inside;
        before = from;
        free = free_between i e (omega arith);
      }

  -- in a run the checks before a cell stay the same
  pub run_checks : (k i e : ℕ) → Run L k i e → (x : ℕ) → i ≤ x → x ≤ e → checks_to L x ≡ k
  run_checks k i e r x p q = subst (λ (y : ℕ). checks_to L y ≡ k) whole (go (x - i) (omega arith))
    where
      whole : i + (x - i) ≡ x
      whole = omega arith

      go : (d : ℕ) → i + d ≤ e → checks_to L (i + d) ≡ k
      go zero l = subst (λ (y : ℕ). checks_to L y ≡ k) (omega arith) r.before
      go (suc d) l =
          let next : i + d + 1 ≡ i + suc d = omega arith in
          subst (λ (y : ℕ). checks_to L y ≡ k) next
          (checks_data (i + d) (r.free (i + d) (omega arith) (omega arith)) ∙ go d (omega arith))

  -- a part of a run is a run
  pub run_part : (k i e x y : ℕ) → Run L k i e → i ≤ x → x ≤ y → y ≤ e → Run L k x y
  run_part k i e x y r p o q =
      run_between k x y o (omega (arith, r.inside)) (run_checks k i e r x p (omega arith)) (run_checks k i e r y (omega arith) q)

  module _ (n amount : ℕ) (cells : List ℕ) (lists : ListsChecks L n amount cells) (few : n ≤ L.cells) where
    -- a listed cell lies before a cell exactly when its number is below that of the checks before the cell
    pub listed_before : (k i : ℕ) → k < amount → get_or cells k 0 < i → k < checks_to L i
    listed_before k i l p =
        let c = lists.at k l in
        omega (arith, c.before, checks_check (get_or cells k 0) c.check, checks_mono (get_or cells k 0 + 1) i (omega arith))

    pub listed_behind : (k i : ℕ) → k < amount → i ≤ get_or cells k 0 → checks_to L i ≤ k
    listed_behind k i l p = let c = lists.at k l in omega (arith, c.before, checks_mono i (get_or cells k 0) p)

    -- from a cell with k checks before it, the run goes up to the k-th check, or to the end
    pub next_run : (k i : ℕ) → i ≤ n → checks_to L i ≡ k → k < amount → Run L k i (get_or cells k 0)
    next_run k i p e l =
        let c = lists.at k l in
        run_between k i (get_or cells k 0) (go (dec_lt (get_or cells k 0) i)) (omega (arith, c.below)) e c.before
      where
        go : Dec (get_or cells k 0 < i) → i ≤ get_or cells k 0
        go (yes q) = absurd (omega (arith, listed_before k i l q))
        go (no q) = omega arith

    pub last_run : (i : ℕ) → i ≤ n → checks_to L i ≡ amount → Run L amount i n
    last_run i p e = run_between amount i n p few e (sym lists.all)

    -- behind the k-th check
    pub behind_check : (k : ℕ) → k < amount → (get_or cells k 0 + 1 ≤ n) × (checks_to L (get_or cells k 0 + 1) ≡ k + 1)
    behind_check k l =
        let c = lists.at k l in (omega (arith, c.below), omega (arith, checks_check (get_or cells k 0) c.check, c.before))

    -- the cell with k checks before it, where it is itself a check, is the k-th
    pub check_at : (k i : ℕ) → i < n → checks_to L i ≡ k → holds_data L i ≡ false → (k < amount) × (get_or cells k 0 ≡ i)
    check_at k i p e h = (l, omega (arith, r.ordered, upper (dec_lt i (get_or cells k 0))))
      where
        l : k < amount
        l = omega (arith, lists.all, checks_check i h, checks_mono (i + 1) n (omega arith))

        r : Run L k i (get_or cells k 0)
        r = next_run k i (omega arith) e l

        upper : Dec (i < get_or cells k 0) → get_or cells k 0 ≤ i
        upper (yes q) = absurd (true≢false (sym (r.free i (le_refl _) q) ∙ h))
        upper (no q) = omega arith
