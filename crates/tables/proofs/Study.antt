-- What the operations may use of a block that holds a study, and when a changed block still holds one. For every size.
use mathlib.Core.Path.{◌≡◌, refl, sym, ap, subst, ◌∙◌}
use mathlib.Core.Bool.{Bool, true, false, ◌&&◌, ◌||◌}
use mathlib.Core.List.{List}
use mathlib.Core.Logic.{◌⊎◌, inl, inr, ⊎_elim, dite, ◌≢◌}
use Prim.Native.Nat.{ℕ, zero, suc, ◌+◌, ◌*◌, ◌-◌, ◌/◌, ◌<◌, ◌≤◌}
use native.Mathlib.Decide.{ℕ_discrete, dec_lt}
use native.Mathlib.Omega.{arith}
use lib.Dec.{ltb, eqb}
use lib.IntN.{ℤ, pos, negsuc}
use lib.ListN.{length, set, replicate, length-set, length-replicate}
use lib.Seq.{ext_get_or, get_or-set_same, get_or-set_other}
use borrow.Author.Tests.{lt-ltb, le-ltb, ltb-true, eq-eqb, ne_eqb, eqb-true}
use Rattle.std.specs.Prelude.{◌↔◌, Option, None, IsSome}
use Rattle.std.proofs.lemmas.List.{get_or-replicate}
use Rattle.theory.specs.Order.{each_once}
use Rattle.theory.proofs.Range.{both_true, all_true, all_intro, pass_all}
use Rattle.theory.proofs.Order.{once_cong}
use Rattle.theory.proofs.Order as theory
use Rattle.units.specs.Units.{scale_min, scale_max}
use Rattle.tables.specs.declared.block.Block.{Block}
use Rattle.tables.specs.declared.block.Block.TheVariants.{Fresh, Held}
use Rattle.tables.specs.declared.held_study.HeldStudy.{HeldStudy}
use Rattle.tables.specs.declared.place_limits.Limits.{Limits}
use Rattle.tables.specs.Known.{block_numbers, fresh_of}
use Rattle.tables.specs.Block.{block_length, max_trains, max_choices, max_pairs, max_cost, max_parts, trains_place, constant_place, size_place, first_place, second_place, entries_of_pair, loaded_choices_from, held_choices_from, loaded_entries_from, held_entries_from, order_from, order_place, loaded_choice_place, held_choice_place, loaded_entry_place, held_entry_place, at, nat, figure, trains, scale, pairs, constant, size, first, second, held_choice, held_entry, order}
use Rattle.tables.specs.WellFormed.{from_to, cost_to, within, is_open, mated, used_if, choice_used, entry_used, head_limits, limits_at, places_right, before, follows, pair_right, pairs_right, order_right, fresh_block, is_zero, is_fresh, holds_study, well_formed, Study}
use Rattle.tables.proofs.Mates.{mated-mates, mates-mated, mate_open, mate_same}
use Rattle.tables.proofs.Limits.{Within, within-figure, within_pos, within-closed, choice_used_lem, entry_used_lem, limits_head, limits-size, limits-first, limits-second, limits_loaded_choices, limits-held_choices, limits_loaded_entries, limits-held_entries, limits_order, used_closable, shape_limits_lem, shape_closable}

-- ---- the test and the facts

pub holds_study_lem : (b : List ℤ) → length b ≡ block_length → holds_study b ≡ true → Study b
unfolding holds_study places_right pairs_right
holds_study_lem b l e =
    let g = both_true (places_right b && pairs_right b && order_right b) (mated b) e in
    let o = both_true (places_right b && pairs_right b) (order_right b) g.0 in
    let f = both_true (places_right b) (pairs_right b) o.0 in
    let m = mated-mates b g.1 in
    record {
      whole = l;
      places = λ p h. all_true (λ q. within (limits_at b q) (at b q)) (length b) (sym (pass_all (λ q z. within (limits_at b q) z) (pos 0) b) ∙ f.0) p (omega arith);
      ordered = all_true (pair_right b) (pairs b) f.1;
      once = o.1;
      choices_mated = m.0;
      entries_mated = m.1;
    }

-- a well-formed block that is not fresh holds a study
pub study_of_lem : (b : List ℤ) → well_formed b ≡ true → is_fresh b ≡ false → Study b
unfolding well_formed
study_of_lem b e f =
    let g = both_true (eqb (length b) block_length) (is_fresh b || holds_study b) e in
    holds_study_lem b (eqb-true (length b) block_length g.0) (rw f at g.1)

-- and a block that holds a study is well formed
pub study_holds : {b : List ℤ} → Study b → holds_study b ≡ true
unfolding holds_study places_right pairs_right
study_holds {b} s =
    rw (
      pass_all (λ q z. within (limits_at b q) z) (pos 0) b,
      all_intro (λ q. within (limits_at b q) (at b q)) (length b) (λ p h. s.places p (omega (arith, s.whole))),
      all_intro (pair_right b) (pairs b) s.ordered,
      s.once,
      mates-mated b s.choices_mated s.entries_mated,
    )

or_true : (a : Bool) → a || true ≡ true
or_true true = refl
or_true false = refl

pub study_well_formed : {b : List ℤ} → Study b → well_formed b ≡ true
unfolding well_formed
study_well_formed {b} s = rw (eq-eqb (length b) block_length s.whole, study_holds s) (or_true (is_fresh b))

-- ---- the test of a block, as its constructor goes through it

pub other_length : (b : List ℤ) → (length b ≡ block_length → ⊥) → well_formed b ≡ false
unfolding well_formed
other_length b n = rw (ne_eqb (length b) block_length n)

pub fresh_or_study : (b : List ℤ) → length b ≡ block_length → well_formed b ≡ is_fresh b || holds_study b
unfolding well_formed
fresh_or_study b e = rw (eq-eqb (length b) block_length e)

zeros_fresh : (n : ℕ) → is_fresh (replicate n (pos 0)) ≡ true
unfolding is_fresh is_zero
zeros_fresh n =
    pass_all (λ p z. is_zero z) (pos 0) (replicate n (pos 0))
    ∙ all_intro _ (length (replicate n (pos 0))) (λ k h. ap is_zero (get_or-replicate n k (pos 0) (pos 0) (omega (arith, length-replicate n (pos 0)))))

-- 'Fresh is all zeros': so is the fresh block
pub fresh_is_fresh : is_fresh fresh_block ≡ true
fresh_is_fresh = zeros_fresh block_length

pub fresh_well_formed : well_formed fresh_block ≡ true
fresh_well_formed = fresh_or_study fresh_block (length-replicate block_length (pos 0)) ∙ rw fresh_is_fresh

zero_is : (z : ℤ) → is_zero z ≡ true → z ≡ pos 0
unfolding is_zero
zero_is (pos n) e = ap pos (eqb-true n 0 e)
zero_is (negsuc n) e = let h : ◌≡◌ {A = ℕ} 0 1 = cc in absurd (omega arith)

-- and there is no other
pub fresh_is : (b : List ℤ) → length b ≡ block_length → is_fresh b ≡ true → fresh_block ≡ b
unfolding is_fresh
fresh_is b w e =
    ext_get_or (pos 0) fresh_block b (length-replicate block_length (pos 0) ∙ sym w)
    (λ k h. get_or-replicate block_length k (pos 0) (pos 0) (omega (arith, length-replicate block_length (pos 0)))
    ∙ sym (zero_is (at b k) (all_true (λ p. is_zero (at b p)) (length b) (sym (pass_all (λ p z. is_zero z) (pos 0) b) ∙ e) k (omega (arith, w, length-replicate block_length (pos 0))))))

pub ruleset new_block = (other_length, fresh_or_study, fresh_is, holds_study_lem)

zero_none : (z : ℤ) → is_zero z ≡ true → nat z ≡ 0
unfolding is_zero
zero_none (pos n) e = eqb-true n 0 e
zero_none (negsuc n) e = refl

-- a fresh block has no trains
fresh_trains : (b : List ℤ) → length b ≡ block_length → is_fresh b ≡ true → trains b ≡ 0
unfolding is_fresh figure
fresh_trains b w e = zero_none (at b trains_place) (all_true (λ p. is_zero (at b p)) (length b) (sym (pass_all (λ p z. is_zero z) (pos 0) b) ∙ e) trains_place (omega (arith, w)))

-- ---- each place is within its limits, and but for forbidden entries a natural number

module _ {b : List ℤ} (s : Study b) where
  pub study_place : (p : ℕ) → p < block_length → Within (limits_at b p) b p
  study_place p h = within-figure (limits_at b p) b p (s.places p h)

  -- n, s, m, c0, sizes and pairs are never below 0
  pub shape_natural : (p : ℕ) → p < loaded_choices_from → at b p ≡ pos (figure b p)
  shape_natural p h = (study_place p (omega arith)).natural (shape_closable b p h)

  -- the place as it stands, given its limits
  at_limits : (l : Limits) (p : ℕ) → p < block_length → limits_at b p ≡ l → Within l b p
  at_limits l p h e = within-figure l b p (rw e at (s.places p h))

  pub trains_range : (1 ≤ trains b) × (trains b ≤ max_trains)
  unfolding head_limits
  trains_range = let w = at_limits (from_to 1 max_trains) 0 (omega arith) (limits_head b 0 (omega arith)) in (w.low refl, w.high)

  -- it has a train, so it is not fresh
  pub study_not_fresh : is_fresh b ≡ false
  study_not_fresh = go (is_fresh b) refl
    where
      go : (t : Bool) → is_fresh b ≡ t → is_fresh b ≡ false
      go false e = e
      go true e = absurd (omega (arith, trains_range.0, fresh_trains b s.whole e))

  pub scale_range : (scale_min ≤ scale b) × (scale b ≤ scale_max)
  unfolding head_limits
  scale_range = let w = at_limits (from_to scale_min scale_max) 1 (omega arith) (limits_head b 1 (omega arith)) in (w.low refl, w.high)

  pub pairs_range : pairs b ≤ max_pairs
  unfolding head_limits
  pairs_range = (at_limits (from_to 0 max_pairs) 2 (omega arith) (limits_head b 2 (omega arith))).high

  pub constant_range : constant b ≤ max_parts
  unfolding head_limits
  constant_range = (at_limits (from_to 0 max_parts) 3 (omega arith) (limits_head b 3 (omega arith))).high

  -- a place whose use is decided by a test
  used : (t : Bool) (l : Limits) (p : ℕ) → p < block_length → limits_at b p ≡ used_if t l → t ≡ true → Within l b p
  used t l p h e f = at_limits l p h (rw f at e)

  -- whether it is used or not, it is at most the limit
  at_most : (t : Bool) (l : Limits) (p : ℕ) → p < block_length → limits_at b p ≡ used_if t l → figure b p ≤ l.high
  at_most true l p h e = (at_limits l p h e).high
  at_most false l p h e = omega (arith, (at_limits (from_to 0 0) p h e).high)

  pub size_range : (i : ℕ) → i < trains b → (1 ≤ size b i) × (size b i ≤ max_choices)
  size_range i h =
      let w = used (ltb i (trains b)) (from_to 1 max_choices) (size_place i) (omega (arith, trains_range)) (limits-size b i (omega (arith, trains_range))) (lt-ltb i (trains b) h) in
      (w.low refl, w.high)

  pub size_high : (i : ℕ) → i < max_trains → size b i ≤ max_choices
  size_high i h = at_most (ltb i (trains b)) (from_to 1 max_choices) (size_place i) (omega arith) (limits-size b i h)

  pub held_choice_high : (i a : ℕ) → i < max_trains → a < max_choices → held_choice b i a ≤ max_parts
  held_choice_high i a h q =
      let p = max_choices * i + a in
      at_most (choice_used b p) (cost_to max_parts) (held_choice_place i a) (omega arith) (limits-held_choices b p (omega arith))

  pub held_entry_high : (k a c : ℕ) → k < max_pairs → a < max_choices → c < max_choices → held_entry b k a c ≤ max_parts
  held_entry_high k a c h p q =
      let i = entries_of_pair * k + (max_choices * a + c) in
      at_most (entry_used b i) (cost_to max_parts) (held_entry_place k a c) (omega arith) (limits-held_entries b i (omega arith))

  pub first_high : (k : ℕ) → k < max_pairs → first b k < max_trains
  first_high k h = omega (arith, at_most (ltb k (pairs b)) (from_to 0 (max_trains - 1)) (first_place k) (omega arith) (limits-first b k h))

  pub second_high : (k : ℕ) → k < max_pairs → second b k < max_trains
  second_high k h = omega (arith, at_most (ltb k (pairs b)) (from_to 0 (max_trains - 1)) (second_place k) (omega arith) (limits-second b k h))

  module _ (i a : ℕ) (h : i < trains b) (q : a < size b i) where
    here : choice_used b (max_choices * i + a) ≡ true
    here = choice_used_lem b i a (omega (arith, size_range i h)) ∙ rw (lt-ltb i (trains b) h, lt-ltb a (size b i) q)

    pub loaded_choice_range : Within (cost_to max_cost) b (loaded_choice_place i a)
    loaded_choice_range =
        used (choice_used b (max_choices * i + a)) (cost_to max_cost) (loaded_choice_place i a) (omega (arith, trains_range, size_range i h))
        (limits_loaded_choices b (max_choices * i + a) (omega (arith, trains_range, size_range i h))) here

    pub held_choice_range : Within (cost_to max_parts) b (held_choice_place i a)
    held_choice_range =
        used (choice_used b (max_choices * i + a)) (cost_to max_parts) (held_choice_place i a) (omega (arith, trains_range, size_range i h))
        (limits-held_choices b (max_choices * i + a) (omega (arith, trains_range, size_range i h))) here

  -- ---- what is forbidden

  -- a closed place holds −1
  pub closed_is : (p : ℕ) → p < block_length → is_open (at b p) ≡ false → at b p ≡ negsuc 0
  closed_is p h f = within-closed (limits_at b p) (at b p) (s.places p h) f

  -- closed in H is closed in T, and back
  pub choice_open_lem : (i a : ℕ) → i < trains b → a < size b i → is_open (at b (loaded_choice_place i a)) ≡ is_open (at b (held_choice_place i a))
  choice_open_lem i a h q = mate_open _ _ (s.choices_mated (max_choices * i + a) (omega (arith, trains_range, size_range i h)))

  -- ---- the pairs

  module _ (k : ℕ) (h : k < pairs b) where
    parts : (first b k < second b k) × ((second b k < trains b) × (follows b k ≡ true))
    unfolding pair_right
    parts =
        let e = both_true (ltb (first b k) (second b k)) (ltb (second b k) (trains b) && follows b k) (s.ordered k h) in
        let f = both_true (ltb (second b k) (trains b)) (follows b k) e.1 in
        (ltb-true _ _ e.0, (ltb-true _ _ f.0, f.1))

    pub first-below-second : first b k < second b k
    first-below-second = parts.0

    pub second-below-trains : second b k < trains b
    second-below-trains = parts.1.0

    pub first-below-trains : first b k < trains b
    first-below-trains = omega (arith, first-below-second, second-below-trains)

    module _ (a c : ℕ) (p : a < size b (first b k)) (q : c < size b (second b k)) where
      small : (k < max_pairs) × ((a < max_choices) × (c < max_choices))
      small = omega (arith, pairs_range, size_range (first b k) first-below-trains, size_range (second b k) second-below-trains)

      entry_here : entry_used b (entries_of_pair * k + (max_choices * a + c)) ≡ true
      entry_here =
          entry_used_lem b k a c small.1.0 small.1.1
          ∙ rw (lt-ltb k (pairs b) h, lt-ltb a (size b (first b k)) p, lt-ltb c (size b (second b k)) q)

      pub loaded_entry_range : Within (cost_to max_cost) b (loaded_entry_place k a c)
      loaded_entry_range =
          used (entry_used b (entries_of_pair * k + (max_choices * a + c))) (cost_to max_cost) (loaded_entry_place k a c) (omega (arith, small))
          (limits_loaded_entries b (entries_of_pair * k + (max_choices * a + c)) (omega (arith, small))) entry_here

      pub entry_open_lem : is_open (at b (loaded_entry_place k a c)) ≡ is_open (at b (held_entry_place k a c))
      entry_open_lem = mate_open _ _ (s.entries_mated (entries_of_pair * k + (max_choices * a + c)) (omega (arith, small)))

      pub held_entry_range : Within (cost_to max_parts) b (held_entry_place k a c)
      held_entry_range =
          used (entry_used b (entries_of_pair * k + (max_choices * a + c))) (cost_to max_parts) (held_entry_place k a c) (omega (arith, small))
          (limits-held_entries b (entries_of_pair * k + (max_choices * a + c)) (omega (arith, small))) entry_here

-- the limits of n and m, of sizes and of the pairs' trains
pub ruleset shape_ranges = (trains_range, pairs_range, size_range, first_high, second_high, first-below-trains, second-below-trains)

-- the order of pairs
pub record Before (i j k l : ℕ) : Type 0 where
  pub is : (i < k) ⊎ ((i ≡ k) × (j < l))

before_true : (i j k l : ℕ) → before i j k l ≡ true → Before i j k l
unfolding before
before_true i j k l e = go (ltb i k) refl e
  where
    go : (t : Bool) → ltb i k ≡ t → t || (eqb i k && ltb j l) ≡ true → Before i j k l
    go true p e = record { is = inl (ltb-true i k p) }
    go false p e =
        let f = both_true (eqb i k) (ltb j l) e in
        record { is = inr (eqb-true i k f.0, ltb-true j l f.1) }

before_trans : (i j k l m n : ℕ) → Before i j k l → Before k l m n → Before i j m n
before_trans i j k l m n p q =
    ⊎_elim
    (λ (a : i < k). ⊎_elim (λ (d : k < m). record { is = inl (omega arith) }) (λ (d : (k ≡ m) × (l < n)). record { is = inl (omega arith) }) q.is)
    (λ (a : (i ≡ k) × (j < l)). ⊎_elim (λ (d : k < m). record { is = inl (omega arith) }) (λ (d : (k ≡ m) × (l < n)). record { is = inr (omega arith) }) q.is)
    p.is

module _ {b : List ℤ} (s : Study b) where
  next_after : (k : ℕ) → k + 1 < pairs b → Before (first b k) (second b k) (first b (k + 1)) (second b (k + 1))
  unfolding follows
  next_after k h =
      let e : (k + 1) - 1 ≡ k = omega arith in
      let z : eqb (k + 1) 0 ≡ false = ne_eqb (k + 1) 0 (λ q. omega arith) in
      before_true (first b k) (second b k) (first b (k + 1)) (second b (k + 1)) (rw (z, e) at (parts s (k + 1) h).1.1)

  -- 'strictly ascending by (i, j)'
  pub pairs_ascend : (k d : ℕ) → k + (d + 1) < pairs b → Before (first b k) (second b k) (first b (k + (d + 1))) (second b (k + (d + 1)))
  pairs_ascend k zero h = let e : k + (0 + 1) ≡ k + 1 = omega arith in rw e (next_after k (omega arith))
  pairs_ascend k (suc d) h =
      let e : k + (suc d + 1) ≡ (k + (d + 1)) + 1 = omega arith in
      rw e (before_trans _ _ _ _ _ _ (pairs_ascend k d (omega arith)) (next_after (k + (d + 1)) (omega arith)))

  apart_below : (k l : ℕ) → k < l → l < pairs b → first b k ≡ first b l → second b k ≡ second b l → ⊥
  apart_below k l h q e f =
      let d : k + ((l - (k + 1)) + 1) ≡ l = omega arith in
      ⊎_elim
      (λ (w : first b k < first b l). omega arith)
      (λ (w : (first b k ≡ first b l) × (second b k < second b l)). omega arith)
      (rw d at (pairs_ascend k (l - (k + 1)) (omega arith))).is

  -- no two pairs are alike
  pub pairs_apart : (k l : ℕ) → k < pairs b → l < pairs b → first b k ≡ first b l → second b k ≡ second b l → k ≡ l
  pairs_apart k l h q e f =
      dite (dec_lt k l) (λ (w : k < l). absurd (apart_below k l w q e f))
      (λ n. dite (dec_lt l k) (λ (w : l < k). absurd (apart_below l k w h (sym e) (sym f))) (λ m. omega arith))

-- ---- the order

module _ {b : List ℤ} (s : Study b) where
  -- each place of the order holds a train
  pub order_below : (d : ℕ) → d < trains b → order b d < trains b
  unfolding order_right
  order_below d h = theory.order_below (record { once = s.once }) d h

  -- its places are not below 0
  pub order_natural : (d : ℕ) → d < max_trains → at b (order_place d) ≡ pos (order b d)
  order_natural d h = (at_limits s _ (order_place d) (omega arith) (limits_order b d)).natural (used_closable (ltb d (trains b)) 0 (max_trains - 1))

  -- 'and unused places are 0'
  pub order_unused : (d : ℕ) → trains b ≤ d → d < max_trains → at b (order_place d) ≡ pos 0
  order_unused d h q =
      let w = at_limits s (from_to 0 0) (order_place d) (omega arith) (limits_order b d ∙ rw (le-ltb d (trains b) h)) in
      w.natural refl ∙ ap pos (omega (arith, w.high))

-- ---- a changed block

-- c has the length and the shape of b: it differs from b in costs and constant only
pub record SameShape (b c : List ℤ) : Type 0 where
  pub whole : length c ≡ length b
  pub kept : (p : ℕ) → p < loaded_choices_from → p ≢ constant_place → at c p ≡ at b p

-- c has the order of b
pub record SameOrder (b c : List ℤ) : Type 0 where
  pub order_kept : (p : ℕ) → order_from ≤ p → at c p ≡ at b p

-- c is open where b is, in all tables and in the order
abbrev pub SameOpen : List ℤ → List ℤ → Type 0
SameOpen b c = (p : ℕ) → loaded_choices_from ≤ p → is_open (at c p) ≡ is_open (at b p)

pub figure_at : (b : List ℤ) (p v : ℕ) → at b p ≡ pos v → figure b p ≡ v
unfolding figure
figure_at b p v e = ap nat e

pub same_figure : (b c : List ℤ) (p : ℕ) → at c p ≡ at b p → figure c p ≡ figure b p
unfolding figure
same_figure b c p e = ap nat e

pub same_order : {b c : List ℤ} → SameOrder b c → (d : ℕ) → order c d ≡ order b d
same_order {b} {c} o d = same_figure b c (order_place d) (o.order_kept (order_place d) (omega arith))

module _ {b c : List ℤ} (e : SameShape b c) where
  pub same_trains : trains c ≡ trains b
  same_trains = same_figure b c 0 (e.kept 0 (omega arith) (λ q. omega arith))

  pub same_scale : scale c ≡ scale b
  same_scale = same_figure b c 1 (e.kept 1 (omega arith) (λ q. omega arith))

  pub same_pairs : pairs c ≡ pairs b
  same_pairs = same_figure b c 2 (e.kept 2 (omega arith) (λ q. omega arith))

  pub same_size : (i : ℕ) → i < max_trains → size c i ≡ size b i
  same_size i h = same_figure b c (size_place i) (e.kept (size_place i) (omega arith) (λ q. omega arith))

  pub same_first : (k : ℕ) → k < max_pairs → first c k ≡ first b k
  same_first k h = same_figure b c (first_place k) (e.kept (first_place k) (omega arith) (λ q. omega arith))

  pub same_second : (k : ℕ) → k < max_pairs → second c k ≡ second b k
  same_second k h = same_figure b c (second_place k) (e.kept (second_place k) (omega arith) (λ q. omega arith))

  same_choice_used : (o : ℕ) → o < max_trains * max_choices → choice_used c o ≡ choice_used b o
  unfolding choice_used
  same_choice_used o h = rw (same_trains, same_size (o / max_choices) (omega arith))

  module _ (s : Study b) where
    same_entry_used : (o : ℕ) → o < max_pairs * entries_of_pair → entry_used c o ≡ entry_used b o
    unfolding entry_used
    same_entry_used o h =
        rw (
          same_pairs,
          same_first (o / entries_of_pair) (omega arith),
          same_second (o / entries_of_pair) (omega arith),
          same_size (first b (o / entries_of_pair)) (first_high s (o / entries_of_pair) (omega arith)),
          same_size (second b (o / entries_of_pair)) (second_high s (o / entries_of_pair) (omega arith)),
        )

    -- the limits go by the shape alone
    pub same_limits : (p : ℕ) → p < block_length → limits_at c p ≡ limits_at b p
    same_limits p h =
        dite (dec_lt p loaded_choices_from) (λ (q : p < loaded_choices_from). in_shape q)
        (λ n. dite (dec_lt p held_choices_from)
        (λ (q : p < held_choices_from). by_choices loaded_choices_from max_cost limits_loaded_choices (omega arith) (omega arith))
        (λ n. dite (dec_lt p loaded_entries_from)
        (λ (q : p < loaded_entries_from). by_choices held_choices_from max_parts limits-held_choices (omega arith) (omega arith))
        (λ n. dite (dec_lt p held_entries_from)
        (λ (q : p < held_entries_from). by_entries loaded_entries_from max_cost limits_loaded_entries (omega arith) (omega arith))
        (λ n. dite (dec_lt p order_from)
        (λ (q : p < order_from). by_entries held_entries_from max_parts limits-held_entries (omega arith) (omega arith))
        (λ n. in_order (omega arith))))))
      where
        in_shape : p < loaded_choices_from → limits_at c p ≡ limits_at b p
        in_shape q = shape_limits_lem c b p q same_trains same_pairs

        by_choices : (from high : ℕ) → ((d : List ℤ) (o : ℕ) → o < max_trains * max_choices → limits_at d (from + o) ≡ used_if (choice_used d o) (cost_to high))
            → from ≤ p → p < from + max_trains * max_choices → limits_at c p ≡ limits_at b p
        by_choices from high law l q =
            let d : from + (p - from) ≡ p = omega arith in
            rw d at (law c (p - from) (omega arith) ∙ ap (λ (t : Bool). used_if t (cost_to high)) (same_choice_used (p - from) (omega arith)) ∙ sym (law b (p - from) (omega arith)))

        by_entries : (from high : ℕ) → ((d : List ℤ) (o : ℕ) → o < max_pairs * entries_of_pair → limits_at d (from + o) ≡ used_if (entry_used d o) (cost_to high))
            → from ≤ p → p < from + max_pairs * entries_of_pair → limits_at c p ≡ limits_at b p
        by_entries from high law l q =
            let d : from + (p - from) ≡ p = omega arith in
            rw d at (law c (p - from) (omega arith) ∙ ap (λ (t : Bool). used_if t (cost_to high)) (same_entry_used (p - from) (omega arith)) ∙ sym (law b (p - from) (omega arith)))

        in_order : order_from ≤ p → limits_at c p ≡ limits_at b p
        in_order l =
            let d : order_from + (p - order_from) ≡ p = omega arith in
            rw d at (limits_order c (p - order_from) ∙ ap (λ (n : ℕ). used_if (ltb (p - order_from) n) (from_to 0 (max_trains - 1))) same_trains ∙ sym (limits_order b (p - order_from)))

    same_pair_right : (k : ℕ) → k < max_pairs → pair_right c k ≡ pair_right b k
    unfolding pair_right follows
    same_pair_right k h =
        rw (same_first k h, same_second k h, same_trains, same_first (k - 1) (omega arith), same_second (k - 1) (omega arith))

    -- a block of the same shape and the same order, open where b is, whose costs and constant are within their limits, holds a study
    pub study_from : SameOrder b c → ((p : ℕ) → p < order_from → (p ≡ constant_place) ⊎ (loaded_choices_from ≤ p) → within (limits_at b p) (at c p) ≡ true)
        → SameOpen b c → Study c
    unfolding order_right
    study_from o costs opens =
        record {
          whole = e.whole ∙ s.whole;
          places = λ p h. rw (same_limits p h) (at_place p h);
          ordered = λ k h. same_pair_right k (omega (arith, pairs_range s, same_pairs)) ∙ s.ordered k (omega (arith, same_pairs));
          once = ap (λ (n : ℕ). each_once n (order c)) same_trains ∙ once_cong (trains b) (order c) (order b) (λ d h. same_order o d) ∙ s.once;
          choices_mated = λ o h. mate_same _ _ _ _ (opens (loaded_choices_from + o) (omega arith)) (opens (held_choices_from + o) (omega arith)) ∙ s.choices_mated o h;
          entries_mated = λ o h. mate_same _ _ _ _ (opens (loaded_entries_from + o) (omega arith)) (opens (held_entries_from + o) (omega arith)) ∙ s.entries_mated o h;
        }
      where
        at_place : (p : ℕ) → p < block_length → within (limits_at b p) (at c p) ≡ true
        at_place p h =
            dite (ℕ_discrete p constant_place) (λ (q : p ≡ constant_place). costs p (omega arith) (inl q))
            (λ n. dite (dec_lt p loaded_choices_from) (λ (q : p < loaded_choices_from). rw (e.kept p q n) (s.places p h))
            (λ m. dite (dec_lt p order_from) (λ (q : p < order_from). costs p q (inr (omega arith))) (λ k. rw (o.order_kept p (omega arith)) (s.places p h))))

    -- so does a block that differs from b in its order only, where that has each train exactly once
    pub study_ordered : ((p : ℕ) → p < order_from → at c p ≡ at b p) → ((d : ℕ) → d < max_trains → within (limits_at b (order_place d)) (at c (order_place d)) ≡ true)
        → order_right c ≡ true → Study c
    study_ordered kept trains_in o =
        record {
          whole = e.whole ∙ s.whole;
          places = λ p h. rw (same_limits p h) (at_place p h);
          ordered = λ k h. same_pair_right k (omega (arith, pairs_range s, same_pairs)) ∙ s.ordered k (omega (arith, same_pairs));
          once = o;
          choices_mated = λ o h. mate_same _ _ _ _ (opens (loaded_choices_from + o) (omega arith)) (opens (held_choices_from + o) (omega arith)) ∙ s.choices_mated o h;
          entries_mated = λ o h. mate_same _ _ _ _ (opens (loaded_entries_from + o) (omega arith)) (opens (held_entries_from + o) (omega arith)) ∙ s.entries_mated o h;
        }
      where
        opens : (p : ℕ) → p < order_from → is_open (at c p) ≡ is_open (at b p)
        opens p h = ap is_open (kept p h)

        at_place : (p : ℕ) → p < block_length → within (limits_at b p) (at c p) ≡ true
        at_place p h =
            dite (dec_lt p order_from) (λ (q : p < order_from). rw (kept p q) (s.places p h))
            (λ n. let z : order_place (p - order_from) ≡ p = omega arith in rw z at (trains_in (p - order_from) (omega arith)))

-- writing a cost or the constant keeps the shape
pub put_same_shape : (b : List ℤ) (p : ℕ) (z : ℤ) → (p ≡ constant_place) ⊎ (loaded_choices_from ≤ p) → SameShape b (set b p z)
put_same_shape b p z w =
    record {
      whole = length-set b p z;
      kept = λ q h n. get_or-set_other b p q z (pos 0) (λ e. ⊎_elim (λ (f : p ≡ constant_place). n (e ∙ f)) (λ (f : loaded_choices_from ≤ p). omega arith) w);
    }

-- and the order
pub put_same_order : (b : List ℤ) (p : ℕ) (z : ℤ) → p < order_from → SameOrder b (set b p z)
put_same_order b p z h = record { order_kept = λ q l. get_or-set_other b p q z (pos 0) (λ e. omega arith) }

open_pos : (v : ℕ) → is_open (pos v) ≡ true
unfolding is_open
open_pos v = refl

-- writing an open cost or the constant within its limits keeps a study
pub put_study : {b : List ℤ} → Study b → (p v : ℕ) → p < order_from → (p ≡ constant_place) ⊎ (loaded_choices_from ≤ p) → is_open (at b p) ≡ true
    → (limits_at b p).low ≤ v → v ≤ (limits_at b p).high → Study (set b p (pos v))
put_study {b} s p v h w o low high =
    study_from (put_same_shape b p (pos v) w) s (put_same_order b p (pos v) h) (λ q l _. at_place q l (ℕ_discrete q p)) (λ q l. stays q (ℕ_discrete q p))
  where
    stays : (q : ℕ) → Dec (q ≡ p) → is_open (at (set b p (pos v)) q) ≡ is_open (at b q)
    stays q (yes e) = ap is_open (ap (at (set b p (pos v))) e ∙ get_or-set_same b p (pos v) (pos 0) (omega (arith, s.whole))) ∙ open_pos v ∙ sym (ap (λ (r : ℕ). is_open (at b r)) e ∙ o)
    stays q (no n) = ap is_open (get_or-set_other b p q (pos v) (pos 0) n)

    at_place : (q : ℕ) → q < order_from → Dec (q ≡ p) → within (limits_at b q) (at (set b p (pos v)) q) ≡ true
    at_place q l (yes e) = rw (e, get_or-set_same b p (pos v) (pos 0) (omega (arith, s.whole))) (within_pos (limits_at b p) v low high)
    at_place q l (no n) = rw (get_or-set_other b p q (pos v) (pos 0) n) (s.places q (omega arith))

-- ---- the blocks that the constructor gives

-- the numbers of a held study are not fresh, and those of every block are well formed
pub held_not_fresh : (s : HeldStudy) → is_fresh s.numbers.now ≡ false
held_not_fresh s = study_not_fresh s.held

pub block_well_formed : (k : Block) → well_formed (block_numbers k) ≡ true
block_well_formed Fresh = fresh_well_formed
block_well_formed (Held s) = study_well_formed s.held

-- what the constructor of a block says: the numbers are well formed, and the block keeps whether they are fresh; or they are not
pub new_block_within : (b : List ℤ) (k : Block) → block_numbers k ≡ b → (well_formed b ≡ true) × (fresh_of k ≡ is_fresh b)
new_block_within b Fresh e = rw (← e) (fresh_well_formed, sym fresh_is_fresh)
new_block_within b (Held s) e = rw (← e) (study_well_formed s.held, sym (held_not_fresh s))

pub new_block_outside : (b : List ℤ) (r : Option Block) → IsSome r ↔ (well_formed b ≡ true) → r ≡ None → well_formed b ≡ false
new_block_outside b r h e = go (well_formed b) refl
  where
    go : (t : Bool) → well_formed b ≡ t → well_formed b ≡ false
    go true p = let q : false ≡ true = subst IsSome e (h.1 p) in cc
    go false p = p

-- numbers that are well formed: with no trains they are the fresh block, and else a study
module _ (b : List ℤ) (w : well_formed b ≡ true) where
  whole : length b ≡ block_length
  unfolding well_formed
  whole = eqb-true (length b) block_length (both_true (eqb (length b) block_length) (is_fresh b || holds_study b) w).0

  pub known_fresh : trains b ≡ 0 → fresh_block ≡ b
  known_fresh z = go (is_fresh b) refl
    where
      go : (t : Bool) → is_fresh b ≡ t → fresh_block ≡ b
      go true e = fresh_is b whole e
      go false e = absurd (omega (arith, z, trains_range (study_of_lem b w e)))

  pub known_study : (trains b ≡ 0 → ⊥) → Study b
  known_study n = go (is_fresh b) refl
    where
      go : (t : Bool) → is_fresh b ≡ t → Study b
      go true e = absurd (n (fresh_trains b whole e))
      go false e = study_of_lem b w e
