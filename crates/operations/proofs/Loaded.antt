-- The block after a load: what stands at each place, that it holds a study, and that every plan's held total is its loaded total in parts. For every size.
use mathlib.Core.Path.{◌≡◌, refl, ap, ◌∙◌}
use mathlib.Core.Bool.{Bool, true, false, ◌&&◌}
use mathlib.Core.List.{List}
use mathlib.Core.Logic.{dite, ◌≢◌}
use Prim.Native.Nat.{ℕ, ◌+◌, ◌*◌, ◌-◌, ◌/◌, ◌%◌, ◌<◌, ◌≤◌}
use native.Mathlib.Decide.{ℕ_discrete, dec_lt}
use native.Mathlib.Nat.{mul-add, mul-zero, mul-le-mul}
use native.Mathlib.Omega.{arith}
use lib.Dec.{ltb}
use lib.IntN.{ℤ, pos}
use lib.ListN.{length, set, length-set, length-replicate, get_or-replicate}
use lib.Seq.{get_or-set_same, get_or-set_other}
use borrow.Author.Tests.{lt-ltb, ltb-true, ltb-false, eq-eqb, ne_eqb}
use Rattle.theory.specs.Sum.{sum}
use Rattle.theory.specs.Lists.{nth}
use Rattle.theory.specs.Order.{each_once}
use Rattle.theory.proofs.Range.{both_true}
use Rattle.theory.proofs.Sum.{sum_cong, sum-scale}
use Rattle.theory.proofs.Order.{once_cong, ascending_order}
use Rattle.units.specs.Units.{scale_min, scale_max}
use Rattle.tables.specs.declared.place_limits.Limits.{Limits}
use Rattle.tables.specs.Block.{block_length, max_trains, max_choices, max_pairs, max_cost, max_parts, trains_place, scale_place, pairs_place, constant_place, sizes_from, firsts_from, seconds_from, size_place, first_place, second_place, loaded_choices_from, held_choices_from, loaded_entries_from, held_entries_from, order_from, order_place, entries_of_pair, loaded_choice_place, held_choice_place, loaded_entry_place, held_entry_place, at, nat, figure, trains, scale, pairs, constant, size, first, second, loaded_choice, held_choice, loaded_entry, held_entry, order}
use Rattle.tables.specs.WellFormed.{from_to, cost_to, within, is_open, mate, used_if, choice_used, entry_used, head_limits, limits_at, follows, pair_right, order_right, Study, fresh_block}
use Rattle.tables.specs.Plans.{AlikeShapes, IsPlan, choice_total, pair_total, total, shape_of, loaded_costs, held_costs, loaded_total, held_total}
use Rattle.tables.specs.Numbers.{Numbers, InRange, numbers_shape, numbers_costs, choice_given, entry_given, permits, priced}
use Rattle.tables.specs.Counts.{rows_of, columns_of}
use Rattle.tables.proofs.Prices.{priced_open, priced-nat, priced_parts, priced-mates, priced-within, cost_most}
use Rattle.tables.proofs.Limits.{within_pos, choice_used_lem, entry_used_lem, limits_head, limits-size, limits-first, limits-second, limits_loaded_choices, limits-held_choices, limits_loaded_entries, limits-held_entries, limits_order}
use Rattle.tables.proofs.Study.{figure_at, first-below-trains, second-below-trains}
use Rattle.operations.specs.Load.{head_loaded, sizes_loaded, pairs_loaded, choices_loaded, entries_loaded, loaded_block}
use Rattle.operations.proofs.LoadTurns.{in_sizes, pair_lanes}
use Rattle.operations.proofs.LoadRuns.{Two, Priced, two_kept, sizes_length, sizes_kept, sizes_at, pairs-length, pairs-kept, pairs_two, choices_length, choices_kept, choices_two, entries_length, entries_kept, entries_two}
use Rattle.operations.proofs.Order.{order_length, order_else, order_there}

-- ---- the head

module _ (n s m : ℕ) (b : List ℤ) where
  head_length : length (head_loaded n s m b) ≡ length b
  head_length = length-set (set (set b 0 (pos n)) 1 (pos s)) 2 (pos m) ∙ length-set (set b 0 (pos n)) 1 (pos s) ∙ length-set b 0 (pos n)

  head_kept : (p : ℕ) → constant_place ≤ p → at (head_loaded n s m b) p ≡ at b p
  head_kept p h =
      get_or-set_other (set (set b 0 (pos n)) 1 (pos s)) 2 p (pos m) (pos 0) (λ e. omega arith)
      ∙ get_or-set_other (set b 0 (pos n)) 1 p (pos s) (pos 0) (λ e. omega arith) ∙ get_or-set_other b 0 p (pos n) (pos 0) (λ e. omega arith)

  head_trains : 0 < length b → at (head_loaded n s m b) trains_place ≡ pos n
  head_trains h =
      get_or-set_other (set (set b 0 (pos n)) 1 (pos s)) 2 0 (pos m) (pos 0) (λ e. omega arith)
      ∙ get_or-set_other (set b 0 (pos n)) 1 0 (pos s) (pos 0) (λ e. omega arith) ∙ get_or-set_same b 0 (pos n) (pos 0) h

  head_scale : 1 < length b → at (head_loaded n s m b) scale_place ≡ pos s
  head_scale h =
      get_or-set_other (set (set b 0 (pos n)) 1 (pos s)) 2 1 (pos m) (pos 0) (λ e. omega arith)
      ∙ get_or-set_same (set b 0 (pos n)) 1 (pos s) (pos 0) (omega (arith, length-set b 0 (pos n)))

  head_pairs : 2 < length b → at (head_loaded n s m b) pairs_place ≡ pos m
  head_pairs h =
      get_or-set_same (set (set b 0 (pos n)) 1 (pos s)) 2 (pos m) (pos 0) (omega (arith, length-set (set b 0 (pos n)) 1 (pos s), length-set b 0 (pos n)))

-- ---- the block, part by part

abbrev headed : Numbers → List ℤ
headed l = head_loaded (length l.sizes) l.scale (length l.firsts) fresh_block

abbrev sized : Numbers → List ℤ
sized l = sizes_loaded l.sizes (headed l)

abbrev shaped : Numbers → List ℤ
shaped l = pairs_loaded l.firsts l.seconds (sized l)

abbrev chosen : Numbers → List ℤ
chosen l = choices_loaded l.scale (numbers_shape l) l.choices (shaped l)

abbrev paired : Numbers → List ℤ
paired l = entries_loaded l.scale (numbers_shape l) l.entries (chosen l)

module _ {l : Numbers} (r : InRange l) where
  headed_length : length (headed l) ≡ block_length
  headed_length = head_length (length l.sizes) l.scale (length l.firsts) fresh_block ∙ length-replicate block_length (pos 0)

  sized_length : length (sized l) ≡ block_length
  sized_length = sizes_length l.sizes (headed l) ∙ headed_length

  shaped_length : length (shaped l) ≡ block_length
  shaped_length = pairs-length l.firsts l.seconds (sized l) ∙ sized_length

  chosen_length : length (chosen l) ≡ block_length
  chosen_length = choices_length l.scale l.sizes l.choices (shaped l) (in_sizes r) ∙ shaped_length

  paired_length : length (paired l) ≡ block_length
  paired_length = entries_length l.scale (numbers_shape l) l.entries (chosen l) ∙ chosen_length

  pub load_length : length (loaded_block l) ≡ block_length
  unfolding loaded_block
  load_length = order_length (length l.sizes) (λ d. d) (paired l) ∙ paired_length

  -- the order is past all other places
  before_order : (p : ℕ) → p < order_from → at (loaded_block l) p ≡ at (paired l) p
  unfolding loaded_block
  before_order p h = order_else (length l.sizes) (λ d. d) (paired l) p (λ d q e. omega arith)

  -- the entries are past the places before them
  before_entries : (p : ℕ) → p < loaded_entries_from → at (loaded_block l) p ≡ at (chosen l) p
  before_entries p h = before_order p (omega arith) ∙ entries_kept l.scale (numbers_shape l) l.entries (chosen l) p (λ k a c i q t. (λ e. omega arith, λ e. omega arith))

  -- and the choices past the shape
  before_choices : (p : ℕ) → p < loaded_choices_from → at (loaded_block l) p ≡ at (shaped l) p
  before_choices p h =
      before_entries p (omega arith)
      ∙ choices_kept l.scale l.sizes l.choices (shaped l) (in_sizes r) p (λ i a q t. (λ e. omega arith, λ e. omega arith))

  before-pairs : (p : ℕ) → p < firsts_from → at (loaded_block l) p ≡ at (sized l) p
  before-pairs p h = before_choices p (omega arith) ∙ pairs-kept l.firsts l.seconds (sized l) p (λ k q. (λ e. omega arith, λ e. omega arith))

  before_sizes : (p : ℕ) → p < sizes_from → at (loaded_block l) p ≡ at (headed l) p
  before_sizes p h = before-pairs p (omega arith) ∙ sizes_kept l.sizes (headed l) p (λ i q e. omega arith)

  -- what is not written is 0
  past_head : (p : ℕ) → constant_place ≤ p → p < block_length → at (headed l) p ≡ pos 0
  past_head p h q = head_kept (length l.sizes) l.scale (length l.firsts) fresh_block p h ∙ get_or-replicate block_length p (pos 0) (pos 0) q

  past_sizes : (p : ℕ) → size_place (length l.sizes) ≤ p → p < block_length → at (sized l) p ≡ pos 0
  past_sizes p h q = sizes_kept l.sizes (headed l) p (λ i t e. omega arith) ∙ past_head p (omega arith) q

  past_shape : (p : ℕ) → loaded_choices_from ≤ p → p < block_length → at (shaped l) p ≡ pos 0
  past_shape p h q =
      pairs-kept l.firsts l.seconds (sized l) p (λ k t. (λ e. omega (arith, r.pairs.0), λ e. omega (arith, r.pairs.0)))
      ∙ past_sizes p (omega (arith, r.trains.1)) q

  -- ---- used places

  pub at_trains : at (loaded_block l) trains_place ≡ pos (length l.sizes)
  at_trains =
      before_sizes trains_place (omega arith)
      ∙ head_trains (length l.sizes) l.scale (length l.firsts) fresh_block (omega (arith, length-replicate block_length (pos 0)))

  pub at_scale : at (loaded_block l) scale_place ≡ pos l.scale
  at_scale =
      before_sizes scale_place (omega arith)
      ∙ head_scale (length l.sizes) l.scale (length l.firsts) fresh_block (omega (arith, length-replicate block_length (pos 0)))

  pub at_pairs : at (loaded_block l) pairs_place ≡ pos (length l.firsts)
  at_pairs =
      before_sizes pairs_place (omega arith)
      ∙ head_pairs (length l.sizes) l.scale (length l.firsts) fresh_block (omega (arith, length-replicate block_length (pos 0)))

  pub at_constant : at (loaded_block l) constant_place ≡ pos 0
  at_constant = before_sizes constant_place (omega arith) ∙ past_head constant_place (omega arith) (omega arith)

  pub at_size : (i : ℕ) → i < length l.sizes → at (loaded_block l) (size_place i) ≡ pos (nth l.sizes i)
  at_size i h =
      before-pairs (size_place i) (omega (arith, r.trains.1)) ∙ sizes_at l.sizes (headed l) i h (omega (arith, r.trains.1, headed_length))

  pub at_pair : (k : ℕ) → k < length l.firsts → Two (first_place k) (second_place k) (pos (nth l.firsts k)) (pos (nth l.seconds k)) (loaded_block l)
  at_pair k h =
      two_kept (loaded_block l) (pairs_two l.firsts l.seconds (sized l) r.pairs.0 (omega (arith, sized_length)) k h)
      (before_choices (first_place k) (omega (arith, r.pairs.0))) (before_choices (second_place k) (omega (arith, r.pairs.0)))

  pub at_choice : (i a : ℕ) → i < length l.sizes → a < nth l.sizes i
      → Priced l.scale (loaded_choice_place i a) (held_choice_place i a) (choice_given l i a) (loaded_block l)
  at_choice i a h q =
      let few = r.trains.1 in
      let small = (r.sizes i h).1 in
      two_kept (loaded_block l) (choices_two l.scale l.sizes l.choices (shaped l) (in_sizes r) shaped_length i a h q)
      (before_entries (loaded_choice_place i a) (omega arith)) (before_entries (held_choice_place i a) (omega arith))

  pub at_entry : (k a c : ℕ) → k < length l.firsts → a < rows_of (numbers_shape l) k → c < columns_of (numbers_shape l) k
      → Priced l.scale (loaded_entry_place k a c) (held_entry_place k a c) (entry_given l k a c) (loaded_block l)
  at_entry k a c h p q =
      let few = r.pairs.0 in
      let small = pair_lanes r k h in
      two_kept (loaded_block l) (entries_two l.scale (numbers_shape l) l.entries (chosen l) chosen_length r.pairs.0 (pair_lanes r) k a c h p q)
      (before_order (loaded_entry_place k a c) (omega arith)) (before_order (held_entry_place k a c) (omega arith))

  pub at_order : (d : ℕ) → d < length l.sizes → at (loaded_block l) (order_place d) ≡ pos d
  unfolding loaded_block
  at_order d h = order_there (length l.sizes) (λ e. e) (paired l) d h (omega (arith, r.trains.1, paired_length))

  -- ---- unused places

  pub no_size : (i : ℕ) → length l.sizes ≤ i → i < max_trains → at (loaded_block l) (size_place i) ≡ pos 0
  no_size i h q = before-pairs (size_place i) (omega arith) ∙ past_sizes (size_place i) (omega arith) (omega arith)

  pub no_pair : (k : ℕ) → length l.firsts ≤ k → k < max_pairs → Two (first_place k) (second_place k) (pos 0) (pos 0) (loaded_block l)
  no_pair k h q =
      let few = r.trains.1 in
      record {
        one =
            before_choices (first_place k) (omega arith) ∙ pairs-kept l.firsts l.seconds (sized l) (first_place k) (λ j t. (λ e. omega arith, λ e. omega arith))
            ∙ past_sizes (first_place k) (omega arith) (omega arith);
        other =
            before_choices (second_place k) (omega arith) ∙ pairs-kept l.firsts l.seconds (sized l) (second_place k) (λ j t. (λ e. omega (arith, r.pairs.0), λ e. omega arith))
            ∙ past_sizes (second_place k) (omega arith) (omega arith);
      }

  pub no_choice : (p : ℕ) → loaded_choices_from ≤ p → p < loaded_entries_from
      → ((i a : ℕ) → i < length l.sizes → a < nth l.sizes i → (p ≢ loaded_choice_place i a) × (p ≢ held_choice_place i a)) → at (loaded_block l) p ≡ pos 0
  no_choice p h q out =
      before_entries p q ∙ choices_kept l.scale l.sizes l.choices (shaped l) (in_sizes r) p out ∙ past_shape p h (omega arith)

  -- the places past the choices' costs before the order is stored
  past_choices : (p : ℕ) → loaded_entries_from ≤ p → p < block_length
      → ((k a c : ℕ) → k < length l.firsts → a < rows_of (numbers_shape l) k → c < columns_of (numbers_shape l) k → (p ≢ loaded_entry_place k a c) × (p ≢ held_entry_place k a c))
      → at (paired l) p ≡ pos 0
  past_choices p h q out =
      entries_kept l.scale (numbers_shape l) l.entries (chosen l) p out
      ∙ choices_kept l.scale l.sizes l.choices (shaped l) (in_sizes r) p
      (λ i a t u. let few = r.trains.1 in let small = (r.sizes i t).1 in (λ e. omega arith, λ e. omega arith)) ∙ past_shape p (omega arith) q

  pub no_entry : (p : ℕ) → loaded_entries_from ≤ p → p < order_from
      → ((k a c : ℕ) → k < length l.firsts → a < rows_of (numbers_shape l) k → c < columns_of (numbers_shape l) k → (p ≢ loaded_entry_place k a c) × (p ≢ held_entry_place k a c))
      → at (loaded_block l) p ≡ pos 0
  no_entry p h q out = before_order p q ∙ past_choices p h (omega arith) out

  pub no_order : (d : ℕ) → length l.sizes ≤ d → d < max_trains → at (loaded_block l) (order_place d) ≡ pos 0
  unfolding loaded_block
  no_order d h q =
      order_else (length l.sizes) (λ e. e) (paired l) (order_place d) (λ e t z. omega arith)
      ∙ past_choices (order_place d) (omega arith) (omega arith)
      (λ k a c t p w. let few = r.pairs.0 in let small = pair_lanes r k t in (λ e. omega arith, λ e. omega arith))

  -- ---- the figures

  pub load_trains_lem : trains (loaded_block l) ≡ length l.sizes
  load_trains_lem = figure_at (loaded_block l) trains_place (length l.sizes) at_trains

  pub load_scale_lem : scale (loaded_block l) ≡ l.scale
  load_scale_lem = figure_at (loaded_block l) scale_place l.scale at_scale

  pub load_pairs_lem : pairs (loaded_block l) ≡ length l.firsts
  load_pairs_lem = figure_at (loaded_block l) pairs_place (length l.firsts) at_pairs

  pub load_constant : constant (loaded_block l) ≡ 0
  load_constant = figure_at (loaded_block l) constant_place 0 at_constant

  pub load_size_lem : (i : ℕ) → i < length l.sizes → size (loaded_block l) i ≡ nth l.sizes i
  load_size_lem i h = figure_at (loaded_block l) (size_place i) (nth l.sizes i) (at_size i h)

  pub load_first_lem : (k : ℕ) → k < length l.firsts → first (loaded_block l) k ≡ nth l.firsts k
  load_first_lem k h = figure_at (loaded_block l) (first_place k) (nth l.firsts k) (at_pair k h).one

  pub load_second_lem : (k : ℕ) → k < length l.firsts → second (loaded_block l) k ≡ nth l.seconds k
  load_second_lem k h = figure_at (loaded_block l) (second_place k) (nth l.seconds k) (at_pair k h).other

  pub load_order_lem : (d : ℕ) → d < length l.sizes → order (loaded_block l) d ≡ d
  load_order_lem d h = figure_at (loaded_block l) (order_place d) d (at_order d h)

  module _ (i a : ℕ) (h : i < length l.sizes) (q : a < nth l.sizes i) where
    pub load_loaded_choice : loaded_choice (loaded_block l) i a ≡ (numbers_costs l).choice i a
    unfolding figure
    load_loaded_choice = ap nat (at_choice i a h q).one ∙ priced-nat (choice_given l i a)

    pub load_held_choice : held_choice (loaded_block l) i a ≡ l.scale * (numbers_costs l).choice i a
    unfolding figure
    load_held_choice = ap nat (at_choice i a h q).other ∙ priced_parts l.scale (choice_given l i a)

    pub load_choice_open : is_open (at (loaded_block l) (loaded_choice_place i a)) ≡ permits (choice_given l i a)
    load_choice_open = ap is_open (at_choice i a h q).one ∙ priced_open (choice_given l i a) (choice_given l i a)

  module _ (k a c : ℕ) (h : k < length l.firsts) (p : a < rows_of (numbers_shape l) k) (q : c < columns_of (numbers_shape l) k) where
    pub load_loaded_entry : loaded_entry (loaded_block l) k a c ≡ (numbers_costs l).pair k a c
    unfolding figure
    load_loaded_entry = ap nat (at_entry k a c h p q).one ∙ priced-nat (entry_given l k a c)

    pub load_held_entry : held_entry (loaded_block l) k a c ≡ l.scale * (numbers_costs l).pair k a c
    unfolding figure
    load_held_entry = ap nat (at_entry k a c h p q).other ∙ priced_parts l.scale (entry_given l k a c)

    pub load_entry_open : is_open (at (loaded_block l) (loaded_entry_place k a c)) ≡ permits (entry_given l k a c)
    load_entry_open = ap is_open (at_entry k a c h p q).one ∙ priced_open (entry_given l k a c) (entry_given l k a c)

-- ---- used offsets, and places by their offsets, in every block

-- whose costs stand at a used offset of a table of choices
pub used_choice : (b : List ℤ) (o : ℕ) → choice_used b o ≡ true → (o / max_choices < trains b) × (o % max_choices < size b (o / max_choices))
unfolding choice_used
used_choice b o t =
    let w = both_true (ltb (o / max_choices) (trains b)) (ltb (o % max_choices) (size b (o / max_choices))) t in
    (ltb-true _ _ w.0, ltb-true _ _ w.1)

-- and of a table of pairs
pub used_entry : (b : List ℤ) (o : ℕ) → entry_used b o ≡ true
    → (o / entries_of_pair < pairs b) × (o % entries_of_pair / max_choices < size b (first b (o / entries_of_pair))) × (o % max_choices < size b (second b (o / entries_of_pair)))
unfolding entry_used
used_entry b o t =
    let w = both_true (ltb (o / entries_of_pair) (pairs b)) (ltb (o % entries_of_pair / max_choices) (size b (first b (o / entries_of_pair))) && ltb (o % max_choices) (size b (second b (o / entries_of_pair)))) t in
    let u = both_true (ltb (o % entries_of_pair / max_choices) (size b (first b (o / entries_of_pair)))) (ltb (o % max_choices) (size b (second b (o / entries_of_pair)))) w.1 in
    (ltb-true _ _ w.0, ltb-true _ _ u.0, ltb-true _ _ u.1)

-- what holds at each offset holds at the places from `from` on
pub region : (P : ℕ → Type 0) (from count p : ℕ) → ((o : ℕ) → o < count → P (from + o)) → from ≤ p → p < from + count → P p
region P from count p law h q = let e : from + (p - from) ≡ p = omega arith in rw e at (law (p - from) (omega arith))

-- ---- the block holds a study

abbrev Right : List ℤ → ℕ → Type 0
Right b p = within (limits_at b p) (at b p) ≡ true

place_right_lem : (b : List ℤ) (p v : ℕ) (m : Limits) → limits_at b p ≡ m → at b p ≡ pos v → m.low ≤ v → v ≤ m.high → Right b p
place_right_lem b p v m e f low high = rw (e, f) (within_pos m v low high)

-- a place whose use is decided by a test
used_right : (b : List ℤ) (p v : ℕ) (t : Bool) (low high : ℕ) → limits_at b p ≡ used_if t (from_to low high)
    → (t ≡ true → (at b p ≡ pos v) × (low ≤ v) × (v ≤ high)) → (t ≡ false → at b p ≡ pos 0) → Right b p
used_right b p v true low high e f g = let w = f refl in place_right_lem b p v (from_to low high) e w.0 w.1 w.2
used_right b p v false low high e f g = place_right_lem b p 0 (from_to 0 0) e (g refl) (omega arith) (omega arith)

-- a cost, or −1
cost_right : (b : List ℤ) (p c v : ℕ) (t : Bool) (high : ℕ) → limits_at b p ≡ used_if t (cost_to high)
    → (t ≡ true → (at b p ≡ priced c v) × (permits c ≡ true → v ≤ high)) → (t ≡ false → at b p ≡ pos 0) → Right b p
cost_right b p c v true high e f g = let w = f refl in rw (e, w.0) (priced-within c v high w.1)
cost_right b p c v false high e f g = place_right_lem b p 0 (from_to 0 0) e (g refl) (omega arith) (omega arith)

-- two tables that hold mates at a used offset, and 0 at any other
both_mated : {p q : ℕ} {y z : ℤ} {b : List ℤ} (t : Bool) → (t ≡ true → Two p q y z b) → (t ≡ false → Two p q (pos 0) (pos 0) b) → mate y z ≡ true
    → mate (at b p) (at b q) ≡ true
unfolding mate is_open
both_mated true f g m = let x = f refl in rw (x.one, x.other) m
both_mated false f g m = let x = g refl in rw (x.one, x.other)

module _ {l : Numbers} (r : InRange l) where
  head_right_lem : (p : ℕ) → p < sizes_from → Right (loaded_block l) p
  unfolding head_limits
  head_right_lem p h =
      let b = loaded_block l in
      dite (ℕ_discrete p trains_place) (λ (e : p ≡ trains_place). rw e (place_right_lem b trains_place _ (from_to 1 max_trains) (limits_head b trains_place (omega arith)) (at_trains r) r.trains.0 r.trains.1))
      (λ n. dite (ℕ_discrete p scale_place) (λ (e : p ≡ scale_place). rw e (place_right_lem b scale_place _ (from_to scale_min scale_max) (limits_head b scale_place (omega arith)) (at_scale r) r.scale.0 r.scale.1))
      (λ k. dite (ℕ_discrete p pairs_place) (λ (e : p ≡ pairs_place). rw e (place_right_lem b pairs_place _ (from_to 0 max_pairs) (limits_head b pairs_place (omega arith)) (at_pairs r) (omega arith) r.pairs.0))
      (λ m. let e : p ≡ constant_place = omega arith in rw e (place_right_lem b constant_place 0 (from_to 0 max_parts) (limits_head b constant_place (omega arith)) (at_constant r) (omega arith) (omega arith)))))

  size_right : (i : ℕ) → i < max_trains → Right (loaded_block l) (size_place i)
  size_right i h =
      used_right (loaded_block l) (size_place i) (nth l.sizes i) (ltb i (trains (loaded_block l))) 1 max_choices (limits-size (loaded_block l) i h)
      (λ t. let q : i < length l.sizes = omega (arith, ltb-true, load_trains_lem r) in (at_size r i q, (r.sizes i q).0, (r.sizes i q).1))
      (λ f. no_size r i (omega (arith, ltb-false, load_trains_lem r)) h)

  -- either of a pair's trains
  pair_right_lem : (from : ℕ) (list : List ℕ) (k : ℕ) → limits_at (loaded_block l) (from + k) ≡ used_if (ltb k (pairs (loaded_block l))) (from_to 0 (max_trains - 1))
      → (k < length l.firsts → (at (loaded_block l) (from + k) ≡ pos (nth list k)) × (nth list k < length l.sizes))
      → (length l.firsts ≤ k → at (loaded_block l) (from + k) ≡ pos 0) → Right (loaded_block l) (from + k)
  pair_right_lem from list k e f g =
      used_right (loaded_block l) (from + k) (nth list k) (ltb k (pairs (loaded_block l))) 0 (max_trains - 1) e
      (λ t. let w = f (omega (arith, ltb-true, load_pairs_lem r)) in (w.0, omega arith, omega (arith, r.trains.1)))
      (λ t. g (omega (arith, ltb-false, load_pairs_lem r)))

  first_right : (k : ℕ) → k < max_pairs → Right (loaded_block l) (first_place k)
  first_right k h =
      pair_right_lem firsts_from l.firsts k (limits-first (loaded_block l) k h) (λ q. ((at_pair r k q).one, omega (arith, r.below k q))) (λ q. (no_pair r k q h).one)

  second_right : (k : ℕ) → k < max_pairs → Right (loaded_block l) (second_place k)
  second_right k h =
      pair_right_lem seconds_from l.seconds k (limits-second (loaded_block l) k h) (λ q. ((at_pair r k q).other, (r.below k q).1)) (λ q. (no_pair r k q h).other)

  -- ---- the tables of choices

  choice_there : (o : ℕ) → choice_used (loaded_block l) o ≡ true → (o / max_choices < length l.sizes) × (o % max_choices < nth l.sizes (o / max_choices))
  choice_there o t =
      let w = used_choice (loaded_block l) o t in
      let h : o / max_choices < length l.sizes = omega (arith, w.0, load_trains_lem r) in
      (h, omega (arith, w.1, load_size_lem r (o / max_choices) h))

  choice_apart : (o : ℕ) → choice_used (loaded_block l) o ≡ false → (i a : ℕ) → i < length l.sizes → a < nth l.sizes i → o ≢ max_choices * i + a
  choice_apart o f i a h q e =
      let t : choice_used (loaded_block l) (max_choices * i + a) ≡ true =
      choice_used_lem (loaded_block l) i a (omega (arith, r.sizes i h))
      ∙ rw (lt-ltb i (trains (loaded_block l)) (omega (arith, load_trains_lem r)), lt-ltb a (size (loaded_block l) i) (omega (arith, load_size_lem r i h))) in
      let z : ◌≡◌ {A = ℕ} 0 1 = cc in
      omega arith

  -- H and T at a used offset
  choice_at : (o : ℕ) → choice_used (loaded_block l) o ≡ true
      → Priced l.scale (loaded_choices_from + o) (held_choices_from + o) (choice_given l (o / max_choices) (o % max_choices)) (loaded_block l)
  choice_at o t =
      let w = choice_there o t in
      let e : max_choices * (o / max_choices) + o % max_choices ≡ o = omega arith in
      rw e at (at_choice r (o / max_choices) (o % max_choices) w.0 w.1)

  in_parts : (c : ℕ) → c ≤ max_cost → l.scale * c ≤ max_parts
  in_parts c h = omega (arith, mul-le-mul r.scale.1 h)

  -- and at any other
  choice_none : (o : ℕ) → o < max_trains * max_choices → choice_used (loaded_block l) o ≡ false → Two (loaded_choices_from + o) (held_choices_from + o) (pos 0) (pos 0) (loaded_block l)
  choice_none o h f =
      record {
        one = no_choice r (loaded_choices_from + o) (omega arith) (omega arith) (λ i a t q. (λ e. choice_apart o f i a t q (omega arith), λ e. omega arith));
        other = no_choice r (held_choices_from + o) (omega arith) (omega arith) (λ i a t q. (λ e. omega (arith, r.trains.1, r.sizes i t), λ e. choice_apart o f i a t q (omega arith)));
      }

  loaded_choices_right : (o : ℕ) → o < max_trains * max_choices → Right (loaded_block l) (loaded_choices_from + o)
  loaded_choices_right o h =
      cost_right (loaded_block l) (loaded_choices_from + o) _ _ (choice_used (loaded_block l) o) max_cost (limits_loaded_choices (loaded_block l) o h)
      (λ t. ((choice_at o t).one, cost_most _ (r.choice_costs _))) (λ f. (choice_none o h f).one)

  held_choices_right : (o : ℕ) → o < max_trains * max_choices → Right (loaded_block l) (held_choices_from + o)
  held_choices_right o h =
      cost_right (loaded_block l) (held_choices_from + o) _ _ (choice_used (loaded_block l) o) max_parts (limits-held_choices (loaded_block l) o h)
      (λ t. ((choice_at o t).other, λ q. in_parts _ (cost_most _ (r.choice_costs _) q))) (λ f. (choice_none o h f).other)

  -- ---- the tables of pairs

  -- the rows and the columns of a pair
  pub lanes_of : (k : ℕ) → k < length l.firsts
      → (size (loaded_block l) (first (loaded_block l) k) ≡ rows_of (numbers_shape l) k) × (size (loaded_block l) (second (loaded_block l) k) ≡ columns_of (numbers_shape l) k)
  lanes_of k h =
      let w = r.below k h in (
        ap (size (loaded_block l)) (load_first_lem r k h) ∙ load_size_lem r (nth l.firsts k) (omega arith),
        ap (size (loaded_block l)) (load_second_lem r k h) ∙ load_size_lem r (nth l.seconds k) w.1,
      )

  entry_there : (o : ℕ) → entry_used (loaded_block l) o ≡ true
      → (o / entries_of_pair < length l.firsts) × (o % entries_of_pair / max_choices < rows_of (numbers_shape l) (o / entries_of_pair)) × (o % max_choices < columns_of (numbers_shape l) (o / entries_of_pair))
  entry_there o t =
      let w = used_entry (loaded_block l) o t in
      let h : o / entries_of_pair < length l.firsts = omega (arith, w.0, load_pairs_lem r) in
      (h, omega (arith, w.1, lanes_of (o / entries_of_pair) h), omega (arith, w.2, lanes_of (o / entries_of_pair) h))

  entry_apart : (o : ℕ) → entry_used (loaded_block l) o ≡ false
      → (k a c : ℕ) → k < length l.firsts → a < rows_of (numbers_shape l) k → c < columns_of (numbers_shape l) k → o ≢ entries_of_pair * k + (max_choices * a + c)
  entry_apart o f k a c h p q e =
      let b = loaded_block l in
      let t : entry_used b (entries_of_pair * k + (max_choices * a + c)) ≡ true =
      entry_used_lem b k a c (omega (arith, pair_lanes r k h)) (omega (arith, pair_lanes r k h))
      ∙ rw (lt-ltb k (pairs b) (omega (arith, load_pairs_lem r)), lt-ltb a (size b (first b k)) (omega (arith, lanes_of k h)), lt-ltb c (size b (second b k)) (omega (arith, lanes_of k h))) in
      let z : ◌≡◌ {A = ℕ} 0 1 = cc in
      omega arith

  entry_at : (o : ℕ) → entry_used (loaded_block l) o ≡ true
      → Priced l.scale (loaded_entries_from + o) (held_entries_from + o) (entry_given l (o / entries_of_pair) (o % entries_of_pair / max_choices) (o % max_choices)) (loaded_block l)
  entry_at o t =
      let w = entry_there o t in
      let e : entries_of_pair * (o / entries_of_pair) + (max_choices * (o % entries_of_pair / max_choices) + o % max_choices) ≡ o = omega arith in
      rw e at (at_entry r (o / entries_of_pair) (o % entries_of_pair / max_choices) (o % max_choices) w.0 w.1 w.2)

  entry_none : (o : ℕ) → o < max_pairs * entries_of_pair → entry_used (loaded_block l) o ≡ false → Two (loaded_entries_from + o) (held_entries_from + o) (pos 0) (pos 0) (loaded_block l)
  entry_none o h f =
      record {
        one = no_entry r (loaded_entries_from + o) (omega arith) (omega arith) (λ k a c t p q. (λ e. entry_apart o f k a c t p q (omega arith), λ e. omega arith));
        other = no_entry r (held_entries_from + o) (omega arith) (omega arith) (λ k a c t p q. (λ e. omega (arith, r.pairs.0, pair_lanes r k t), λ e. entry_apart o f k a c t p q (omega arith)));
      }

  loaded_entries_right : (o : ℕ) → o < max_pairs * entries_of_pair → Right (loaded_block l) (loaded_entries_from + o)
  loaded_entries_right o h =
      cost_right (loaded_block l) (loaded_entries_from + o) _ _ (entry_used (loaded_block l) o) max_cost (limits_loaded_entries (loaded_block l) o h)
      (λ t. ((entry_at o t).one, cost_most _ (r.entry_costs _))) (λ f. (entry_none o h f).one)

  held_entries_right : (o : ℕ) → o < max_pairs * entries_of_pair → Right (loaded_block l) (held_entries_from + o)
  held_entries_right o h =
      cost_right (loaded_block l) (held_entries_from + o) _ _ (entry_used (loaded_block l) o) max_parts (limits-held_entries (loaded_block l) o h)
      (λ t. ((entry_at o t).other, λ q. in_parts _ (cost_most _ (r.entry_costs _) q))) (λ f. (entry_none o h f).other)

  -- ---- the order

  order_right_at : (d : ℕ) → d < max_trains → Right (loaded_block l) (order_place d)
  order_right_at d h =
      used_right (loaded_block l) (order_place d) d (ltb d (trains (loaded_block l))) 0 (max_trains - 1) (limits_order (loaded_block l) d)
      (λ t. (at_order r d (omega (arith, ltb-true, load_trains_lem r)), omega arith, omega arith))
      (λ f. no_order r d (omega (arith, ltb-false, load_trains_lem r)) h)

  order_once : order_right (loaded_block l) ≡ true
  unfolding order_right
  order_once =
      ap (λ (n : ℕ). each_once n (order (loaded_block l))) (load_trains_lem r)
      ∙ once_cong (length l.sizes) (order (loaded_block l)) (λ d. d) (load_order_lem r) ∙ (ascending_order (length l.sizes)).once

  -- ---- every place

  every_place : (p : ℕ) → p < block_length → Right (loaded_block l) p
  every_place p h =
      dite (dec_lt p sizes_from) (λ (q : p < sizes_from). head_right_lem p q)
      (λ n. dite (dec_lt p firsts_from) (λ (q : p < firsts_from). region (Right (loaded_block l)) sizes_from max_trains p size_right (omega arith) (omega arith))
      (λ n. dite (dec_lt p seconds_from) (λ (q : p < seconds_from). region (Right (loaded_block l)) firsts_from max_pairs p first_right (omega arith) (omega arith))
      (λ n. dite (dec_lt p loaded_choices_from) (λ (q : p < loaded_choices_from). region (Right (loaded_block l)) seconds_from max_pairs p second_right (omega arith) (omega arith))
      (λ n. dite (dec_lt p held_choices_from) (λ (q : p < held_choices_from). region (Right (loaded_block l)) loaded_choices_from (max_trains * max_choices) p loaded_choices_right (omega arith) (omega arith))
      (λ n. dite (dec_lt p loaded_entries_from) (λ (q : p < loaded_entries_from). region (Right (loaded_block l)) held_choices_from (max_trains * max_choices) p held_choices_right (omega arith) (omega arith))
      (λ n. dite (dec_lt p held_entries_from) (λ (q : p < held_entries_from). region (Right (loaded_block l)) loaded_entries_from (max_pairs * entries_of_pair) p loaded_entries_right (omega arith) (omega arith))
      (λ n. dite (dec_lt p order_from) (λ (q : p < order_from). region (Right (loaded_block l)) held_entries_from (max_pairs * entries_of_pair) p held_entries_right (omega arith) (omega arith))
      (λ n. region (Right (loaded_block l)) order_from max_trains p order_right_at (omega arith) (omega arith)))))))))

  follows_at : (k : ℕ) → k < length l.firsts → follows (loaded_block l) k ≡ true
  unfolding follows
  follows_at k h =
      dite (ℕ_discrete k 0) (λ (e : k ≡ 0). rw (eq-eqb k 0 e))
      (λ n. let e : (k - 1) + 1 ≡ k = omega arith in
      let q : k - 1 < length l.firsts = omega arith in
      rw (ne_eqb k 0 n, load_first_lem r (k - 1) q, load_second_lem r (k - 1) q, load_first_lem r k h, load_second_lem r k h) (rw e at (r.ascending (k - 1) (omega arith))))

  pair_ordered_lem : (k : ℕ) → k < length l.firsts → pair_right (loaded_block l) k ≡ true
  unfolding pair_right
  pair_ordered_lem k h =
      rw (follows_at k h, load_first_lem r k h, load_second_lem r k h, load_trains_lem r, lt-ltb _ _ (r.below k h).0, lt-ltb _ _ (r.below k h).1)

  pub load_study : Study (loaded_block l)
  load_study =
      record {
        whole = load_length r;
        places = every_place;
        ordered = λ k h. pair_ordered_lem k (omega (arith, load_pairs_lem r));
        once = order_once;
        choices_mated = λ o h. both_mated (choice_used (loaded_block l) o) (choice_at o) (choice_none o h) (priced-mates _ _ _);
        entries_mated = λ o h. both_mated (entry_used (loaded_block l) o) (entry_at o) (entry_none o h) (priced-mates _ _ _);
      }

  -- the shape that a block holds after the load is the shape that the numbers give
  pub load_alike : AlikeShapes (shape_of (loaded_block l)) (numbers_shape l)
  load_alike =
      record {
        trains_same = load_trains_lem r;
        sizes_same = λ i h. load_size_lem r i (omega (arith, load_trains_lem r));
        pairs_same = load_pairs_lem r;
        firsts_same = λ k h. load_first_lem r k (omega (arith, load_pairs_lem r));
        seconds_same = λ k h. load_second_lem r k (omega (arith, load_pairs_lem r));
        choices_open_same = λ i a h q. let t : i < length l.sizes = omega (arith, load_trains_lem r) in load_choice_open r i a t (omega (arith, load_size_lem r i t));
        entries_open_same = λ k a c h p q.
            let t : k < length l.firsts = omega (arith, load_pairs_lem r) in load_entry_open r k a c t (omega (arith, lanes_of k t)) (omega (arith, lanes_of k t));
      }

  -- ---- 'T becomes s × H'

  pub load_choice_parts : (i a : ℕ) → i < trains (loaded_block l) → a < size (loaded_block l) i
      → held_choice (loaded_block l) i a ≡ scale (loaded_block l) * loaded_choice (loaded_block l) i a
  load_choice_parts i a h p =
      let q : i < length l.sizes = omega (arith, load_trains_lem r) in
      let t : a < nth l.sizes i = omega (arith, load_size_lem r i q) in
      rw (load_held_choice r i a q t, load_loaded_choice r i a q t, load_scale_lem r)

  pub load_entry_parts : (k a c : ℕ) → k < pairs (loaded_block l)
      → a < size (loaded_block l) (first (loaded_block l) k) → c < size (loaded_block l) (second (loaded_block l) k)
      → held_entry (loaded_block l) k a c ≡ scale (loaded_block l) * loaded_entry (loaded_block l) k a c
  load_entry_parts k a c h p w =
      let q : k < length l.firsts = omega (arith, load_pairs_lem r) in
      let t : a < rows_of (numbers_shape l) k = omega (arith, lanes_of k q) in
      let u : c < columns_of (numbers_shape l) k = omega (arith, lanes_of k q) in
      rw (load_held_entry r k a c q t u, load_loaded_entry r k a c q t u, load_scale_lem r)

  pub load_total : (x : ℕ → ℕ) → IsPlan (shape_of (loaded_block l)) x → held_total (loaded_block l) x ≡ scale (loaded_block l) * loaded_total (loaded_block l) x
  unfolding total choice_total pair_total loaded_costs held_costs
  load_total x p =
      let b = loaded_block l in
      let f : ℕ → ℕ = λ i. loaded_choice b i (x i) in
      let g : ℕ → ℕ = λ k. loaded_entry b k (x (first b k)) (x (second b k)) in
      omega (
        arith,
        load_constant r,
        sum_cong (trains b) (λ i. held_choice b i (x i)) (λ i. scale b * f i) (λ i h. load_choice_parts i (x i) h (p.below i h)),
        sum-scale (trains b) (scale b) f,
        sum_cong (pairs b) (λ k. held_entry b k (x (first b k)) (x (second b k))) (λ k. scale b * g k)
            (λ k h. load_entry_parts k (x (first b k)) (x (second b k)) h
            (p.below (first b k) (first-below-trains load_study k h)) (p.below (second b k) (second-below-trains load_study k h))),
        sum-scale (pairs b) (scale b) g,
        mul-add (scale b) (0 + sum (trains b) f) (sum (pairs b) g),
        mul-add (scale b) 0 (sum (trains b) f),
        mul-zero (scale b),
      )
