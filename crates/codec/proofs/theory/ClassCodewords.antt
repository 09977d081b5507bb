-- The codewords of a class: no word can have come from two of them, and they are 2^k, one for each choice of the k data cells of
-- the class.
use Prim.Native.Nat.{ℕ, ◌^◌, ◌<◌, ◌≤◌}
use mathlib.Core.Bool.{Bool, true, ◌&&◌}
use mathlib.Core.List.Memᴰ
use mathlib.Core.List.{List, map, Memᴰ}
use mathlib.Core.Path.{◌≡◌, sym, ap, subst, ◌∙◌}
use native.Mathlib.Omega.{arith}
use borrow.Author.Tests.{eq-eqb, eqb-true}
use lib.Dec.{eqb}
use lib.ListN.{length, length-map}
use lib.Seq.{ext_get_or}
use Rattle.lattice.specs.Position.{Layout, size_to, size, position}
use Rattle.lattice.specs.Counting.{count}
use Rattle.lattice.specs.Distinct.{Distinct}
use Rattle.lattice.specs.Check.{holds_data, data_cells}
use Rattle.lattice.proofs.theorems.Capacity.{class_capacity}
use Rattle.lattice.proofs.theory.Bools.{and_true, and_left, and_right}
use Rattle.lattice.proofs.theory.Counting.{count_reach}
use Rattle.lattice.proofs.theory.Distinct.{distinct_map}
use Rattle.lattice.proofs.theory.Pigeonhole.{covered_length}
use Rattle.lattice.proofs.theory.Positions.{position_one}
use Rattle.codec.specs.Field.{Field, field_of, Cells}
use Rattle.codec.specs.Hamming.{tags_of, Lawful, OneDiffers}
use Rattle.codec.specs.Bound.{Word, ComesFrom, CorrectsOne, Listed, passing, word_of, ClassCodeword}
use Rattle.codec.proofs.theorems.Reading.{one_codeword}
use Rattle.codec.proofs.theory.BinaryWords.{word_most, all_words, all_length, all_has, all_are, all_distinct}
use Rattle.codec.proofs.theory.CellValues.{most_cell, cells_received}
use Rattle.codec.proofs.theory.CompletedField.{completed, completed_data, completed_lawful, codeword_unique}
use Rattle.codec.proofs.theory.NearestField.{one_near, cells_few}
use Rattle.codec.proofs.theory.PassingCells.{passing_at, passing_word, passing_same, same_passing}

module _ (L : Layout) (a : ℕ) where
  -- a cell of the class, and one that holds data
  abbrev own : ℕ → Bool
  own i = eqb (L.class i) a

  abbrev own_data : ℕ → Bool
  own_data i = own i && holds_data L i

  -- the number of the latter
  abbrev k : ℕ
  k = data_cells (size L a)

  own_class : (i : ℕ) → own i ≡ true → L.class i ≡ a
  own_class i e = eqb-true (L.class i) a e

  -- a word laid in the cells of the class
  spread : List ℕ → Field
  spread w i = field_of w (count own i)

  spread_cells : {n : ℕ} {w : List ℕ} → Word n w → (m : ℕ) → Cells (spread w) m
  unfolding spread
  spread_cells h m i l = most_cell _ (word_most h (count own i))

  own_one : (i j : ℕ) → L.class i ≡ a → L.class j ≡ a → count own i ≡ count own j → i ≡ j
  unfolding size_to position
  own_one i j p q e =
      position_one L i j (p ∙ sym q)
      (omega (arith, ap (λ (c : ℕ). size_to L c i) p, ap (λ (c : ℕ). size_to L c j) q))

  -- where it can have come from a codeword, it differs from the codeword's field in at most one cell of the class
  comes_one : {u w : List ℕ} (r : ClassCodeword L a u) → ComesFrom (size L a) u w → OneDiffers L (spread w) r.0 a
  unfolding OneDiffers spread
  comes_one {u = u} r c i j l m p q d e =
      own_one i j p q (c.one (count own i) (count own j) (λ z. d (sym z ∙ here i l p)) (λ z. e (sym z ∙ here j m q)))
    where
      here : (x : ℕ) → x < L.cells → L.class x ≡ a → field_of u (count own x) ≡ r.0 x
      here x b o =
          ap (λ (v : List ℕ). field_of v (count own x)) r.2 ∙ passing_at own r.0 L.cells x b (eq-eqb (L.class x) a o)

  -- so no word can have come from two of them
  pub codewords_correct : CorrectsOne (size L a) (ClassCodeword L a)
  unfolding size_to
  codewords_correct = record { words = words; apart = apart }
    where
      words : (u : List ℕ) → ClassCodeword L a u → Word (size L a) u
      words u r = subst (Word (size L a)) (sym r.2) (passing_word own r.0 L.cells r.1.cells)

      apart : (u v w : List ℕ) → ClassCodeword L a u → ClassCodeword L a v
          → ComesFrom (size L a) u w → ComesFrom (size L a) v w → u ≡ v
      apart u v w r s c d =
          r.2
          ∙ passing_same own r.0 s.0 L.cells
          (λ i l e.
          let cells = spread_cells c.word L.cells in
          one_codeword.one L (tags_of L) (one_codeword.tells L) (spread w) r.0 s.0 a
          (cells_received (spread w) L.cells cells) (cells_few L (spread w) cells a) r.1.cells s.1.cells
          (one_near L (spread w) r.0 cells a (comes_one r c)) (r.1.classes a)
          (one_near L (spread w) s.0 cells a (comes_one s d)) (s.1.classes a) i l (own_class i e))
          ∙ sym s.2

  -- the lawful field with the entries of a word in the data cells of the class, and the class's word in it
  chosen : List ℕ → Field
  chosen v = completed L (λ i. field_of v (count own_data i))

  chosen_word : List ℕ → List ℕ
  chosen_word v = word_of L a (chosen v)

  chosen_lawful : {n : ℕ} {v : List ℕ} → Word n v → Lawful L (tags_of L) (chosen v)
  unfolding chosen
  chosen_lawful {v = v} h =
      completed_lawful L (λ i. field_of v (count own_data i)) (λ i l. most_cell _ (word_most h (count own_data i)))

  chosen_data : (v : List ℕ) (i : ℕ) → holds_data L i ≡ true → chosen v i ≡ field_of v (count own_data i)
  unfolding chosen
  chosen_data v i e = completed_data L (λ j. field_of v (count own_data j)) i e

  -- different choices give different words
  chosen_one : (u v : List ℕ) → Word k u → Word k v → chosen_word u ≡ chosen_word v → u ≡ v
  unfolding chosen_word
  chosen_one u v g h e = ext_get_or 0 u v (g.long ∙ sym h.long) each
    where
      each : (j : ℕ) → j < length u → field_of u j ≡ field_of v j
      each j l =
          let r = count_reach own_data L.cells j (omega (arith, g.long, class_capacity L a)) in
          let i = r.0 in
          let data' = and_right (own i) (holds_data L i) r.2 in
          ap (field_of u) (sym r.3)
          ∙ sym (chosen_data u i data')
          ∙ same_passing own (chosen u) (chosen v) L.cells e i r.1 (and_left (own i) (holds_data L i) r.2)
          ∙ chosen_data v i data'
          ∙ ap (field_of v) r.3

  -- and each codeword is that of a choice
  data_word : Field → List ℕ
  data_word f = passing own_data f L.cells

  data_word_lem : (f : Field) → Cells f L.cells → Word k (data_word f)
  unfolding data_word
  data_word_lem f c = subst (λ (n : ℕ). Word n (data_word f)) (class_capacity L a) (passing_word own_data f L.cells c)

  codeword_chosen : (f : Field) → Lawful L (tags_of L) f → word_of L a f ≡ chosen_word (data_word f)
  unfolding chosen_word data_word
  codeword_chosen f h =
      let other = chosen_lawful (data_word_lem f h.cells) in
      passing_same own f (chosen (data_word f)) L.cells
      (λ i l e.
      codeword_unique L a f (chosen (data_word f)) h.cells other.cells (h.classes a) (other.classes a)
      (λ j m c d.
      sym (chosen_data (data_word f) j d
      ∙ passing_at own_data f L.cells j m (and_true (own j) (holds_data L j) (eq-eqb (L.class j) a c) d)))
      i l (own_class i e))

  -- so many different codewords there are
  pub all_codewords : List (List ℕ)
  all_codewords = map chosen_word (all_words k)

  pub codewords_listed : Listed (ClassCodeword L a) all_codewords
  unfolding all_codewords chosen_word
  codewords_listed = record { distinct = distinct; inside = inside }
    where
      distinct : Distinct all_codewords
      distinct =
          distinct_map chosen_word (all_words k) (all_distinct k) (λ u v l m. chosen_one u v (all_are k u l) (all_are k v m))

      inside : (w : List ℕ) → Memᴰ w all_codewords → ClassCodeword L a w
      inside w m =
          let r = Memᴰ.of_map chosen_word (all_words k) m in
          (chosen r.0, chosen_lawful (all_are k r.0 r.1), sym r.2)

  pub codewords_length : length all_codewords ≡ 2 ^ k
  unfolding all_codewords
  codewords_length = length-map (all_words k) chosen_word ∙ all_length k

  -- and no more
  pub codewords_most : (words : List (List ℕ)) → Listed (ClassCodeword L a) words → length words ≤ 2 ^ k
  codewords_most words h =
      rw (all_length k) at
      (covered_length chosen_word words (all_words k) h.distinct
      (λ w m.
      let r = h.inside w m in
      (data_word r.0, all_has _ _ (data_word_lem r.0 r.1.cells), r.2 ∙ codeword_chosen r.0 r.1)))
