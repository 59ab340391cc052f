-- The numbers that a save gives: of a loaded block they are the load's numbers; of every study they are in range, and loading them gives a block with the same n, s, sizes, pairs and H. For every size, and without text.
use mathlib.Core.Path.{◌≡◌, refl, sym, ap, ◌∙◌}
use mathlib.Core.Bool.{Bool, true, false, ◌&&◌}
use mathlib.Core.List.{List}
use mathlib.Core.Logic.{dite}
use Prim.Native.Nat.{ℕ, ◌+◌, ◌*◌, ◌-◌, ◌/◌, ◌%◌, ◌<◌, ◌≤◌}
use native.Mathlib.Decide.{ℕ_discrete, dec_lt}
use native.Mathlib.Nat.{add_assoc, mul_comm}
use native.Mathlib.Omega.{arith}
use lib.Dec.{ltb, eqb}
use lib.IntN.{ℤ, pos, negsuc}
use lib.ListN.{length, take, drop, length-drop}
use lib.Seq.{take_all, get_or-drop}
use borrow.Author.Tests.{ltb-true, ltb-false, ne_eqb, le-leb}
use Rattle.theory.specs.Sum.{sum}
use Rattle.theory.specs.Lists.{list_of, nth, joined}
use Rattle.theory.proofs.Range.{both_true}
use Rattle.theory.proofs.Sum.{sum_cong, sum_const, row_part}
use Rattle.theory.proofs.Lists.{list_length, list_nth, list_cong, list_is, list_part, list_all}
use Rattle.theory.proofs.Joined.{joined-all, joined_length, joined-nth, joined_is}
use Rattle.tables.specs.Block.{block_length, max_trains, max_choices, max_pairs, max_cost, trains_place, scale_place, pairs_place, sizes_from, firsts_from, seconds_from, size_place, first_place, second_place, loaded_choices_from, loaded_entries_from, entries_of_pair, loaded_choice_place, loaded_entry_place, at, nat, figure, trains, scale, pairs, size, first, second, loaded_choice, loaded_entry}
use Rattle.tables.specs.declared.place_limits.Limits.{Limits}
use Rattle.tables.specs.WellFormed.{from_to, cost_to, is_open, used_if, choice_used, entry_used, limits_at, before, follows, pair_right, Study}
use Rattle.tables.specs.Plans.{AlikeShapes, shape_of}
use Rattle.tables.specs.Counts.{rows_of, columns_of, pair_entries, choices_before, choice_count, entries_before, entry_count}
use Rattle.tables.specs.Numbers.{Numbers, numbers, numbers_shape, numbers_costs, choice_given, entry_given, forbidden_cost, is_cost, priced, InRange}
use Rattle.tables.proofs.Limits.{Within, limits-size, limits-first, limits-second, limits_loaded_choices, limits_loaded_entries}
use Rattle.tables.proofs.Study.{study_place, shape_natural, closed_is, trains_range, scale_range, pairs_range, size_range, loaded_choice_range, loaded_entry_range, first-below-second, second-below-trains, first-below-trains, SameShape, same_limits}
use Rattle.tables.proofs.Prices.{priced_open, priced-nat, priced_is, permitted, forbids}
use Rattle.tables.proofs.Counting.{choices_part, entries_part}
use Rattle.operations.specs.Load.{loaded_block}
use Rattle.operations.specs.Saved.{saved_cost, train_costs, row_costs, pair_costs, saved_numbers, SameLoaded, AsLoaded}
use Rattle.operations.proofs.Loaded.{load_order_lem, load_length, at_trains, at_scale, at_pairs, at_size, at_pair, at_choice, at_entry, no_size, no_pair, load_trains_lem, load_scale_lem, load_pairs_lem, load_constant, load_size_lem, load_first_lem, load_second_lem, load_choice_parts, load_entry_parts, load_study, lanes_of, used_choice, used_entry, region}

-- ---- one cost: the only laws that know which number in a load line stands for a place of H

-- as the code reads it, by whether the place is open
pub cost_open : (b : List ℤ) (p : ℕ) → is_open (at b p) ≡ true → figure b p ≡ saved_cost (at b p)
unfolding figure saved_cost is_open
cost_open b p e = go (at b p) e
  where
    go : (z : ℤ) → is_open z ≡ true → nat z ≡ saved_cost z
    go (pos n) e = refl
    go (negsuc n) e = let z : ◌≡◌ {A = ℕ} 0 1 = cc in absurd (omega arith)

pub cost_closed : (b : List ℤ) (p : ℕ) → is_open (at b p) ≡ false → forbidden_cost ≡ saved_cost (at b p)
unfolding saved_cost is_open
cost_closed b p e = go (at b p) e
  where
    go : (z : ℤ) → is_open z ≡ false → forbidden_cost ≡ saved_cost z
    go (pos n) e = let z : ◌≡◌ {A = ℕ} 0 1 = cc in absurd (omega arith)
    go (negsuc n) e = refl

-- of what a load stores for a cost it is that cost again
cost_back : (z : ℤ) (c : ℕ) → z ≡ priced c c → saved_cost z ≡ c
unfolding saved_cost
cost_back z c e =
    ap saved_cost e
    ∙ dite (ℕ_discrete c forbidden_cost) (λ (q : c ≡ forbidden_cost). ap saved_cost (forbids c c q) ∙ sym q) (λ n. ap saved_cost (priced_is c c (permitted c n)))

-- a place of H holds what a load stores for its number, and its number is a cost
cost_there : {b : List ℤ} → Study b → (p : ℕ) → p < block_length → Within (cost_to max_cost) b p
    → (at b p ≡ priced (saved_cost (at b p)) (saved_cost (at b p))) × (is_cost (saved_cost (at b p)) ≡ true)
unfolding figure saved_cost is_open is_cost
cost_there {b} s p h w = go (at b p) w.high (closed_is s p h)
  where
    go : (z : ℤ) → nat z ≤ max_cost → (is_open z ≡ false → z ≡ negsuc 0) → (z ≡ priced (saved_cost z) (saved_cost z)) × (is_cost (saved_cost z) ≡ true)
    go (pos n) e f = (sym (priced_is n n (permitted n (λ q. omega arith))), rw (le-leb n max_cost e))
    go (negsuc n) e f = rw (f refl) (sym (forbids forbidden_cost forbidden_cost refl), refl)

-- the costs of a train and of a row, as the code reads them
pub train_list : (b : List ℤ) (i : ℕ) {from count : ℕ} → from ≡ loaded_choice_place i 0 → count ≡ size b i → list_of count (λ a. saved_cost (at b (from + a))) ≡ train_costs b i
train_list b i e f =
    rw (e, f) (list_cong (size b i) (λ a. saved_cost (at b (loaded_choice_place i 0 + a))) (λ a. saved_cost (at b (loaded_choice_place i a))) (λ a h. ap (λ (p : ℕ). saved_cost (at b p)) (omega arith)))

pub row_list : (b : List ℤ) (k a : ℕ) {from count : ℕ} → from ≡ loaded_entry_place k a 0 → count ≡ size b (second b k) → list_of count (λ c. saved_cost (at b (from + c))) ≡ row_costs b k a
row_list b k a e f =
    rw (e, f)
    (list_cong (size b (second b k)) (λ c. saved_cost (at b (loaded_entry_place k a 0 + c))) (λ c. saved_cost (at b (loaded_entry_place k a c))) (λ c h. ap (λ (p : ℕ). saved_cost (at b p)) (omega arith)))

-- ---- of a loaded block

module _ {x : Numbers} (r : InRange x) where
  choices_back : joined (trains (loaded_block x)) (train_costs (loaded_block x)) ≡ x.choices
  choices_back =
      rw (load_trains_lem r)
      (joined_is (train_costs (loaded_block x)) (nth x.sizes) x.choices (length x.sizes) each
      ∙ rw (← r.choices) (take_all (length x.choices) x.choices (omega arith)))
    where
      each : (i : ℕ) → i < length x.sizes → train_costs (loaded_block x) i ≡ take (nth x.sizes i) (drop (choices_before (numbers_shape x) i) x.choices)
      each i h =
          rw (load_size_lem r i h)
          (list_part (nth x.sizes i) _ x.choices (choices_before (numbers_shape x) i) (omega (arith, r.choices, choices_part (numbers_shape x) i (length x.sizes) h))
          (λ a q. cost_back _ _ (at_choice r i a h q).one))

  -- the costs of pair k
  pair_back : (k : ℕ) → k < length x.firsts
      → pair_costs (loaded_block x) k ≡ take (pair_entries (numbers_shape x) k) (drop (entries_before (numbers_shape x) k) x.entries)
  pair_back k h = rw (lanes_of r k h).0 (joined_is (row_costs (loaded_block x) k) (λ _. columns) part rows each ∙ rw (sum_const rows columns))
    where
      rows : ℕ
      rows = rows_of (numbers_shape x) k

      columns : ℕ
      columns = columns_of (numbers_shape x) k

      start : ℕ
      start = entries_before (numbers_shape x) k

      part : List ℕ
      part = drop start x.entries

      room : start + rows * columns ≤ length x.entries
      room = omega (arith, r.entries, entries_part (numbers_shape x) k (length x.firsts) h)

      each : (a : ℕ) → a < rows → row_costs (loaded_block x) k a ≡ take columns (drop (sum a (λ _. columns)) part)
      each a q =
          let e : sum a (λ _. columns) ≡ columns * a = sum_const a columns ∙ mul_comm a columns in
          rw (e, (lanes_of r k h).1)
          (list_part columns _ part (columns * a) (omega (arith, room, row_part rows columns a q, length-drop start x.entries))
          (λ c t. cost_back _ _ (at_entry r k a c h q t).one ∙ ap (nth x.entries) (add_assoc start (columns * a) c) ∙ sym (get_or-drop start x.entries (columns * a + c) 0)))

  entries_back : joined (pairs (loaded_block x)) (pair_costs (loaded_block x)) ≡ x.entries
  entries_back =
      rw (load_pairs_lem r)
      (joined_is (pair_costs (loaded_block x)) (pair_entries (numbers_shape x)) x.entries (length x.firsts) pair_back
      ∙ rw (← r.entries) (take_all (length x.entries) x.entries (omega arith)))

  -- the numbers of a loaded block are the load's
  pub saved_back : saved_numbers (loaded_block x) ≡ x
  unfolding saved_numbers
  saved_back =
      let b = loaded_block x in
      let sizes : list_of (trains b) (size b) ≡ x.sizes = rw (load_trains_lem r) (list_is (length x.sizes) (size b) x.sizes refl (load_size_lem r)) in
      let firsts : list_of (pairs b) (first b) ≡ x.firsts = rw (load_pairs_lem r) (list_is (length x.firsts) (first b) x.firsts refl (load_first_lem r)) in
      let seconds : list_of (pairs b) (second b) ≡ x.seconds = rw (load_pairs_lem r) (list_is (length x.firsts) (second b) x.seconds r.pairs.1 (load_second_lem r)) in
      λ i. numbers (load_scale_lem r i) (sizes i) (choices_back i) (firsts i) (seconds i) (entries_back i)

  -- its T and c0 are those of H alone
  pub load_as_loaded : AsLoaded (loaded_block x)
  load_as_loaded =
      record {
        cleared = load_constant r;
        choices = load_choice_parts r;
        entries = load_entry_parts r;
        in_order = λ d h. load_order_lem r d (omega (arith, load_trains_lem r));
      }

-- ---- of every study

module _ (b : List ℤ) where
  pub train_costs_length : (i : ℕ) → length (train_costs b i) ≡ size b i
  train_costs_length i = list_length _ (size b i)

  pub row_costs_length : (k a : ℕ) → length (row_costs b k a) ≡ size b (second b k)
  row_costs_length k a = list_length _ (size b (second b k))

  pub pair_costs_length : (k : ℕ) → length (pair_costs b k) ≡ pair_entries (shape_of b) k
  pair_costs_length k =
      joined_length (row_costs b k) (λ _. size b (second b k)) (size b (first b k)) (λ a h. row_costs_length k a) ∙ sum_const (size b (first b k)) (size b (second b k))

  pub saved-scale : (saved_numbers b).scale ≡ scale b
  unfolding saved_numbers
  saved-scale = refl

  -- how many numbers there are
  pub saved-trains : length (saved_numbers b).sizes ≡ trains b
  unfolding saved_numbers
  saved-trains = list_length (size b) (trains b)

  pub saved_choices : length (saved_numbers b).choices ≡ choice_count (shape_of b)
  unfolding saved_numbers
  saved_choices = joined_length (train_costs b) (size b) (trains b) (λ j l. train_costs_length j)

  pub saved-pairs : length (saved_numbers b).firsts ≡ pairs b
  unfolding saved_numbers
  saved-pairs = list_length (first b) (pairs b)

  pub saved_seconds : length (saved_numbers b).seconds ≡ pairs b
  unfolding saved_numbers
  saved_seconds = list_length (second b) (pairs b)

  pub saved_entries : length (saved_numbers b).entries ≡ entry_count (shape_of b)
  unfolding saved_numbers
  saved_entries = joined_length (pair_costs b) (pair_entries (shape_of b)) (pairs b) (λ j l. pair_costs_length j)

  -- the lists of sizes and of the pairs' trains
  size-nth : (i : ℕ) → i < trains b → nth (saved_numbers b).sizes i ≡ size b i
  unfolding saved_numbers
  size-nth i h = list_nth (size b) 0 (trains b) i h

  first-nth : (k : ℕ) → k < pairs b → nth (saved_numbers b).firsts k ≡ first b k
  unfolding saved_numbers
  first-nth k h = list_nth (first b) 0 (pairs b) k h

  second-nth : (k : ℕ) → k < pairs b → nth (saved_numbers b).seconds k ≡ second b k
  unfolding saved_numbers
  second-nth k h = list_nth (second b) 0 (pairs b) k h

  choices_start : (i : ℕ) → i ≤ trains b → choices_before (numbers_shape (saved_numbers b)) i ≡ choices_before (shape_of b) i
  choices_start i h = sum_cong i (nth (saved_numbers b).sizes) (size b) (λ j q. size-nth j (omega arith))

  -- cost a of train i, and cost (a, c) of pair k, in their lists
  choice_nth : (i a : ℕ) → i < trains b → a < size b i → nth (saved_numbers b).choices (choices_before (shape_of b) i + a) ≡ saved_cost (at b (loaded_choice_place i a))
  unfolding saved_numbers
  choice_nth i a h q =
      joined-nth (train_costs b) (size b) (trains b) (λ j l. train_costs_length j) i a h q ∙ list_nth _ 0 (size b i) a q

  row-nth : (k a c : ℕ) → a < size b (first b k) → c < size b (second b k) → nth (pair_costs b k) (size b (second b k) * a + c) ≡ saved_cost (at b (loaded_entry_place k a c))
  row-nth k a c p q =
      let n = size b (second b k) in
      let e : sum a (λ _. n) ≡ n * a = sum_const a n ∙ mul_comm a n in
      rw e at (joined-nth (row_costs b k) (λ _. n) (size b (first b k)) (λ j l. row_costs_length k j) a c p q) ∙ list_nth _ 0 n c q

  entry_nth : (k a c : ℕ) → k < pairs b → a < size b (first b k) → c < size b (second b k)
      → nth (saved_numbers b).entries (entries_before (shape_of b) k + size b (second b k) * a + c) ≡ saved_cost (at b (loaded_entry_place k a c))
  unfolding saved_numbers
  entry_nth k a c h p q =
      let o = size b (second b k) * a + c in
      let g : o < pair_entries (shape_of b) k = omega (arith, row_part (size b (first b k)) (size b (second b k)) a p) in
      ap (nth (joined (pairs b) (pair_costs b))) (add_assoc (entries_before (shape_of b) k) (size b (second b k) * a) c)
      ∙ joined-nth (pair_costs b) (pair_entries (shape_of b)) (pairs b) (λ j l. pair_costs_length j) k o h g ∙ row-nth k a c p q

module _ {b : List ℤ} (s : Study b) where
  rows_there : (k : ℕ) → k < pairs b → rows_of (numbers_shape (saved_numbers b)) k ≡ rows_of (shape_of b) k
  rows_there k h = ap (nth (saved_numbers b).sizes) (first-nth b k h) ∙ size-nth b (first b k) (first-below-trains s k h)

  entry_inside : (k a c : ℕ) → k < pairs b → a < rows_of (shape_of b) k → c < columns_of (shape_of b) k → loaded_entry_place k a c < block_length
  entry_inside k a c h p q =
      omega (arith, pairs_range s, size_range s (first b k) (first-below-trains s k h), size_range s (second b k) (second-below-trains s k h))

  columns_there : (k : ℕ) → k < pairs b → columns_of (numbers_shape (saved_numbers b)) k ≡ columns_of (shape_of b) k
  columns_there k h = ap (nth (saved_numbers b).sizes) (second-nth b k h) ∙ size-nth b (second b k) (second-below-trains s k h)

  entries_start : (k : ℕ) → k ≤ pairs b → entries_before (numbers_shape (saved_numbers b)) k ≡ entries_before (shape_of b) k
  entries_start k h = sum_cong k (pair_entries (numbers_shape (saved_numbers b))) (pair_entries (shape_of b)) (λ j q. rw (rows_there j (omega arith), columns_there j (omega arith)))

  -- their costs are the numbers of H
  given_choice : (i a : ℕ) → i < trains b → a < size b i → choice_given (saved_numbers b) i a ≡ saved_cost (at b (loaded_choice_place i a))
  given_choice i a h q = rw (choices_start b i (omega arith)) (choice_nth b i a h q)

  given_entry : (k a c : ℕ) → k < pairs b → a < rows_of (shape_of b) k → c < columns_of (shape_of b) k
      → entry_given (saved_numbers b) k a c ≡ saved_cost (at b (loaded_entry_place k a c))
  given_entry k a c h p q = rw (entries_start k (omega arith), columns_there k h) (entry_nth b k a c h p q)

  -- so a load stores them as they stand
  choice_stored : (i a : ℕ) → i < trains b → a < size b i → at b (loaded_choice_place i a) ≡ priced (choice_given (saved_numbers b) i a) (choice_given (saved_numbers b) i a)
  choice_stored i a h q =
      (cost_there s (loaded_choice_place i a) (omega (arith, trains_range s, size_range s i h)) (loaded_choice_range s i a h q)).0
      ∙ ap (λ (v : ℕ). priced v v) (sym (given_choice i a h q))

  entry_stored : (k a c : ℕ) → k < pairs b → a < rows_of (shape_of b) k → c < columns_of (shape_of b) k
      → at b (loaded_entry_place k a c) ≡ priced (entry_given (saved_numbers b) k a c) (entry_given (saved_numbers b) k a c)
  entry_stored k a c h p q =
      (cost_there s (loaded_entry_place k a c) (entry_inside k a c h p q) (loaded_entry_range s k h a c p q)).0 ∙ ap (λ (v : ℕ). priced v v) (sym (given_entry k a c h p q))

  pub saved_choice : (i a : ℕ) → i < trains b → a < size b i → (numbers_costs (saved_numbers b)).choice i a ≡ loaded_choice b i a
  unfolding figure
  saved_choice i a h q = sym (ap nat (choice_stored i a h q) ∙ priced-nat (choice_given (saved_numbers b) i a))

  pub saved_entry : (k a c : ℕ) → k < pairs b → a < rows_of (shape_of b) k → c < columns_of (shape_of b) k → (numbers_costs (saved_numbers b)).pair k a c ≡ loaded_entry b k a c
  unfolding figure
  saved_entry k a c h p q = sym (ap nat (entry_stored k a c h p q) ∙ priced-nat (entry_given (saved_numbers b) k a c))

  -- they have the block's shape, forbidden entries included
  pub saved_alike : AlikeShapes (numbers_shape (saved_numbers b)) (shape_of b)
  saved_alike =
      record {
        trains_same = saved-trains b;
        sizes_same = λ i h. size-nth b i (omega (arith, saved-trains b));
        pairs_same = saved-pairs b;
        firsts_same = λ k h. first-nth b k (omega (arith, saved-pairs b));
        seconds_same = λ k h. second-nth b k (omega (arith, saved-pairs b));
        choices_open_same = λ i a h q.
            let t : i < trains b = omega (arith, saved-trains b) in
            let v = choice_given (saved_numbers b) i a in
            sym (ap is_open (choice_stored i a t (rw (size-nth b i t) at q)) ∙ priced_open v v);
        entries_open_same = λ k a c h p q.
            let t : k < pairs b = omega (arith, saved-pairs b) in
            let v = entry_given (saved_numbers b) k a c in
            sym (ap is_open (entry_stored k a c t (rw (rows_there k t) at p) (rw (columns_there k t) at q)) ∙ priced_open v v);
      }

  ascends : (k : ℕ) → k + 1 < pairs b → before (first b k) (second b k) (first b (k + 1)) (second b (k + 1)) ≡ true
  unfolding pair_right follows
  ascends k h =
      let e : (k + 1) - 1 ≡ k = omega arith in
      let z : eqb (k + 1) 0 ≡ false = ne_eqb (k + 1) 0 (λ q. omega arith) in
      let f = both_true (ltb (first b (k + 1)) (second b (k + 1))) (ltb (second b (k + 1)) (trains b) && follows b (k + 1)) (s.ordered (k + 1) h) in
      let g = both_true (ltb (second b (k + 1)) (trains b)) (follows b (k + 1)) f.1 in
      rw (z, e) at g.1

  choice_costs_range : (o : ℕ) → is_cost (nth (saved_numbers b).choices o) ≡ true
  unfolding saved_numbers is_cost
  choice_costs_range =
      joined-all (λ v. is_cost v ≡ true) refl (trains b) (train_costs b)
      (λ i h. list_all (λ v. is_cost v ≡ true) refl (size b i) _
      (λ a q. (cost_there s (loaded_choice_place i a) (omega (arith, trains_range s, size_range s i h)) (loaded_choice_range s i a h q)).1))

  entry_costs_range : (o : ℕ) → is_cost (nth (saved_numbers b).entries o) ≡ true
  unfolding saved_numbers is_cost
  entry_costs_range =
      joined-all (λ v. is_cost v ≡ true) refl (pairs b) (pair_costs b)
      (λ k h. joined-all (λ v. is_cost v ≡ true) refl (size b (first b k)) (row_costs b k)
      (λ a p. list_all (λ v. is_cost v ≡ true) refl (size b (second b k)) _
      (λ c q. (cost_there s (loaded_entry_place k a c) (entry_inside k a c h p q) (loaded_entry_range s k h a c p q)).1)))

  -- the numbers of a study are in range
  pub saved_range : InRange (saved_numbers b)
  saved_range =
      let n = saved-trains b in
      let m = saved-pairs b in
      record {
        trains = (omega (arith, n, trains_range s), omega (arith, n, trains_range s));
        scale = rw (saved-scale b) (scale_range s);
        pairs = (omega (arith, m, pairs_range s), saved_seconds b ∙ sym m);
        sizes = λ i h. let q : i < trains b = omega (arith, n) in rw (size-nth b i q) (size_range s i q);
        choices = saved_choices b ∙ sym (choices_start b (trains b) (omega arith)) ∙ ap (choices_before (numbers_shape (saved_numbers b))) (sym n);
        entries = saved_entries b ∙ sym (entries_start (pairs b) (omega arith)) ∙ ap (entries_before (numbers_shape (saved_numbers b))) (sym m);
        choice_costs = choice_costs_range;
        entry_costs = entry_costs_range;
        below = λ k h. let q : k < pairs b = omega (arith, m) in rw (first-nth b k q, second-nth b k q, n) (first-below-second s k q, second-below-trains s k q);
        ascending = λ k h.
            let q : k + 1 < pairs b = omega (arith, m) in
            rw (first-nth b k (omega arith), second-nth b k (omega arith), first-nth b (k + 1) q, second-nth b (k + 1) q) (ascends k q);
      }

-- ---- loading the numbers of a study

-- a place that is not used is 0
unused : {b : List ℤ} → Study b → (p : ℕ) → p < block_length → limits_at b p ≡ from_to 0 0 → at b p ≡ pos 0
unused {b} s p h e =
    let w : Within (from_to 0 0) b p = rw e at (study_place s p h) in
    let z : figure b p ≡ 0 = omega (arith, w.high) in
    w.natural refl ∙ ap pos z

-- a place whose use is decided by a test, in b and in another block c
either : {b : List ℤ} → Study b → (c : List ℤ) (p : ℕ) (t : Bool) (l : Limits) → p < block_length → limits_at b p ≡ used_if t l → (t ≡ true → at c p ≡ at b p) → (t ≡ false → at c p ≡ pos 0) → at c p ≡ at b p
either s c p true l h e f g = f refl
either s c p false l h e f g = g refl ∙ sym (unused s p h e)

module _ {b : List ℤ} (s : Study b) where
  abbrev again : List ℤ
  again = loaded_block (saved_numbers b)

  -- a place of the shape, as it stands in b
  same_place : (p v : ℕ) → p < loaded_choices_from → at again p ≡ pos v → v ≡ figure b p → at again p ≡ at b p
  same_place p v h e f = e ∙ ap pos f ∙ sym (shape_natural s p h)

  again_trains : at again trains_place ≡ at b trains_place
  again_trains = same_place trains_place _ (omega arith) (at_trains (saved_range s)) (saved-trains b)

  again_scale : at again scale_place ≡ at b scale_place
  again_scale = same_place scale_place _ (omega arith) (at_scale (saved_range s)) (saved-scale b)

  again_pairs : at again pairs_place ≡ at b pairs_place
  again_pairs = same_place pairs_place _ (omega arith) (at_pairs (saved_range s)) (saved-pairs b)

  again_size : (i : ℕ) → i < max_trains → at again (size_place i) ≡ at b (size_place i)
  again_size i h =
      let n = saved-trains b in
      either s again (size_place i) (ltb i (trains b)) (from_to 1 max_choices) (omega arith) (limits-size b i h)
      (λ t. let q : i < trains b = omega (arith, ltb-true) in same_place (size_place i) _ (omega arith) (at_size (saved_range s) i (omega arith)) (size-nth b i q))
      (λ t. no_size (saved_range s) i (omega (arith, ltb-false)) h)

  again_first : (k : ℕ) → k < max_pairs → at again (first_place k) ≡ at b (first_place k)
  again_first k h =
      let m = saved-pairs b in
      either s again (first_place k) (ltb k (pairs b)) (from_to 0 (max_trains - 1)) (omega arith) (limits-first b k h)
      (λ t. let q : k < pairs b = omega (arith, ltb-true) in same_place (first_place k) _ (omega arith) (at_pair (saved_range s) k (omega arith)).one (first-nth b k q))
      (λ t. (no_pair (saved_range s) k (omega (arith, ltb-false)) h).one)

  again_second : (k : ℕ) → k < max_pairs → at again (second_place k) ≡ at b (second_place k)
  again_second k h =
      let m = saved-pairs b in
      either s again (second_place k) (ltb k (pairs b)) (from_to 0 (max_trains - 1)) (omega arith) (limits-second b k h)
      (λ t. let q : k < pairs b = omega (arith, ltb-true) in same_place (second_place k) _ (omega arith) (at_pair (saved_range s) k (omega arith)).other (second-nth b k q))
      (λ t. (no_pair (saved_range s) k (omega (arith, ltb-false)) h).other)

  -- the same number stands there
  abbrev Same : ℕ → Type 0
  Same p = at again p ≡ at b p

  -- n, s, sizes and pairs
  pub again_shape : SameShape b again
  again_shape =
      record {
        whole = load_length (saved_range s) ∙ sym s.whole;
        kept = λ p h n.
            dite (ℕ_discrete p trains_place) (λ (e : p ≡ trains_place). rw e again_trains)
            (λ d. dite (ℕ_discrete p scale_place) (λ (e : p ≡ scale_place). rw e again_scale)
            (λ e'. dite (ℕ_discrete p pairs_place) (λ (e : p ≡ pairs_place). rw e again_pairs)
            (λ f. dite (dec_lt p firsts_from) (λ (q : p < firsts_from). region Same sizes_from max_trains p again_size (omega arith) (omega arith))
            (λ g. dite (dec_lt p seconds_from) (λ (q : p < seconds_from). region Same firsts_from max_pairs p again_first (omega arith) (omega arith))
            (λ k. region Same seconds_from max_pairs p again_second (omega arith) (omega arith))))));
      }

  -- where b has an unused place, so has the block that loads its numbers
  again_unused : (p : ℕ) → p < block_length → limits_at b p ≡ from_to 0 0 → at again p ≡ pos 0
  again_unused p h e = unused (load_study (saved_range s)) p h (same_limits again_shape s p h ∙ e)

  -- H of the choices
  again_used_choice : (i a : ℕ) → i < trains b → a < size b i → at again (loaded_choice_place i a) ≡ at b (loaded_choice_place i a)
  again_used_choice i a h q =
      (at_choice (saved_range s) i a (omega (arith, saved-trains b)) (rw (size-nth b i h) q)).one
      ∙ sym (choice_stored s i a h q)

  again_choice : (o : ℕ) → o < max_trains * max_choices → at again (loaded_choices_from + o) ≡ at b (loaded_choices_from + o)
  again_choice o h =
      either s again (loaded_choices_from + o) (choice_used b o) (cost_to max_cost) (omega arith) (limits_loaded_choices b o h) used
      (λ t. again_unused (loaded_choices_from + o) (omega arith) (limits_loaded_choices b o h ∙ rw t))
    where
      used : choice_used b o ≡ true → at again (loaded_choices_from + o) ≡ at b (loaded_choices_from + o)
      used t =
          let w = used_choice b o t in
          let e : max_choices * (o / max_choices) + o % max_choices ≡ o = omega arith in
          rw e at (again_used_choice (o / max_choices) (o % max_choices) w.0 w.1)

  -- H of the pairs
  again_used_entry : (k a c : ℕ) → k < pairs b → a < size b (first b k) → c < size b (second b k) → at again (loaded_entry_place k a c) ≡ at b (loaded_entry_place k a c)
  again_used_entry k a c h p q =
      (at_entry (saved_range s) k a c (omega (arith, saved-pairs b)) (rw (rows_there s k h) p) (rw (columns_there s k h) q)).one
      ∙ sym (entry_stored s k a c h p q)

  again_entry : (o : ℕ) → o < max_pairs * entries_of_pair → at again (loaded_entries_from + o) ≡ at b (loaded_entries_from + o)
  again_entry o h =
      either s again (loaded_entries_from + o) (entry_used b o) (cost_to max_cost) (omega arith) (limits_loaded_entries b o h) used
      (λ t. again_unused (loaded_entries_from + o) (omega arith) (limits_loaded_entries b o h ∙ rw t))
    where
      used : entry_used b o ≡ true → at again (loaded_entries_from + o) ≡ at b (loaded_entries_from + o)
      used t =
          let w = used_entry b o t in
          let e : entries_of_pair * (o / entries_of_pair) + (max_choices * (o % entries_of_pair / max_choices) + o % max_choices) ≡ o = omega arith in
          rw e at (again_used_entry (o / entries_of_pair) (o % entries_of_pair / max_choices) (o % max_choices) w.0 w.1 w.2)

  -- loading the numbers of a study gives a block with the same study
  pub saved_again : SameLoaded b (loaded_block (saved_numbers b))
  saved_again =
      record {
        whole = again_shape.whole;
        shape = again_shape.kept;
        choices = λ p h q. region Same loaded_choices_from (max_trains * max_choices) p again_choice h (omega arith);
        entries = λ p h q. region Same loaded_entries_from (max_pairs * entries_of_pair) p again_entry h (omega arith);
      }
