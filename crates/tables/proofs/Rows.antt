-- The tables of the block, row by row: what the tests of rows say of the tests of places.
use mathlib.Core.Path.{◌≡◌, refl, sym, ap, ap₂, ◌∙◌}
use mathlib.Core.Bool.{Bool, true, false, cond, ◌&&◌}
use mathlib.Core.List.{List}
use Prim.Native.Nat.{ℕ, ◌+◌, ◌*◌, ◌-◌, ◌<◌, ◌≤◌}
use native.Mathlib.Nat.{zero-add}
use native.Mathlib.Omega.{arith}
use lib.Dec.{leb, ltb, eqb}
use lib.IntN.{ℤ, pos, negsuc}
use lib.ListN.{length}
use borrow.Author.Tests.{lt-ltb, le-ltb, eq-eqb, eqb-true, leb-true}
use mir.Syntax.{w64}
use mir.Val.{SFits, of_z}
use Rattle.std.proofs.iter.Serving.{serving}
use Rattle.std.proofs.lemmas.Int.{to_z-of_z}
use Rattle.theory.specs.Range.{all}
use Rattle.theory.proofs.Range.{both_true, bool_ext, all_true, all_false, all_split, all-rows, all_cong, pass_all}
use Rattle.units.specs.Units.{scale_min, scale_max}
use Rattle.tables.specs.declared.place_limits.Limits.{Limits}
use Rattle.tables.specs.Block.{block_length, max_trains, max_choices, max_pairs, max_cost, max_parts, trains_place, scale_place, pairs_place, constant_place, size_place, first_place, second_place, sizes_from, firsts_from, seconds_from, loaded_choices_from, held_choices_from, loaded_entries_from, held_entries_from, order_from, entries_of_pair, at, figure, trains, pairs, size, first, second}
use Rattle.tables.specs.WellFormed.{from_to, cost_to, within, used_if, choice_used, entry_used, head_limits, limits_at, place_right, places_right, is_zero, is_fresh}
use Rattle.tables.specs.Rows.{run_within, row_within, right_at, head_right, shape_right, choices_used, choices_within, entries_used, pair_within, entries_within, order_within}
use Rattle.tables.proofs.Signed.{bits_none}
use Rattle.tables.proofs.Limits.{within-figure, choice_used_lem, entry_used_lem, entry_absent, limits_head, limits-size, limits-first, limits-second, limits_loaded_choices, limits-held_choices, limits_loaded_entries, limits-held_entries, limits_order}

-- ---- one row

-- a row is its used places, and the others, which are 0
pub row_split : (b : List ℤ) (from width used : ℕ) (l : Limits) → used ≤ width
    → row_within b from width used l ≡ run_within b from used l && run_within b (from + used) (width - used) (from_to 0 0)
row_split b from width used l h =
    let e : width ≡ used + (width - used) = omega arith in
    ap (λ (w : ℕ). row_within b from w used l) e
    ∙ all_split (λ k. within (used_if (ltb k used) l) (at b (from + k))) used (width - used)
    ∙ ap₂ ◌&&◌ (all_cong used _ _ (λ k q. rw (lt-ltb k used q))) (all_cong (width - used) _ _ (λ k q. unused k))
  where
    unused : (k : ℕ) → within (used_if (ltb (used + k) used) l) (at b (from + (used + k))) ≡ within (from_to 0 0) (at b (from + used + k))
    unused k = let e : from + (used + k) ≡ from + used + k = omega arith in rw (le-ltb (used + k) used (omega arith), e)

zero-within : (z : ℤ) → is_zero z ≡ within (from_to 0 0) z
unfolding is_zero within
zero-within (pos n) = bool_ext (eqb n 0) _ (λ e. rw (eqb-true n 0 e)) (λ e. eq-eqb n 0 (omega (arith, leb-true n 0 (both_true (leb 0 n) (leb n 0) e).1)))
zero-within (negsuc n) = refl

pub fresh_run : (b : List ℤ) → is_fresh b ≡ run_within b 0 (length b) (from_to 0 0)
unfolding is_fresh
fresh_run b = pass_all (λ p z. is_zero z) (pos 0) b ∙ all_cong (length b) _ _ (λ k h. rw zero-add (zero-within (at b k)))

-- where the first number is not 0, the others do not matter
pub fresh_first : (b : List ℤ) → SFits w64 (at b 0) → 0 < length b → eqb (of_z w64 (at b 0)) 0 ≡ false → is_fresh b ≡ false
fresh_first b f h e = fresh_run b ∙ all_false _ (length b) 0 h (sym (bits_none (at b 0) f) ∙ e)

pub ruleset fresh = (fresh_run, fresh_first)

-- ---- tables of rows

used_if_lem : (t : Bool) (a d : ℕ) → t && ltb a d ≡ ltb a (cond t d 0)
used_if_lem true a d = refl
used_if_lem false a d = sym (le-ltb a 0 (omega arith))

module _ (b : List ℤ) (from : ℕ) (l : Limits) where
  -- the row of train i
  abbrev pub choice_row : ℕ → Bool
  choice_row i = row_within b (from + max_choices * i) max_choices (choices_used b i) l

  -- row a of pair k
  abbrev pub entry_row : ℕ → ℕ → Bool
  entry_row k a = row_within b (from + (entries_of_pair * k + max_choices * a)) max_choices (entries_used b k a) l

  pub choices_rows : choices_within b from l ≡ all max_trains choice_row
  choices_rows =
      all-rows (λ o. within (used_if (choice_used b o) l) (at b (from + o))) max_choices max_trains
      ∙ all_cong max_trains _ _ (λ i q. all_cong max_choices _ _ (λ a h. choice i a h))
    where
      choice : (i a : ℕ) → a < max_choices
          → within (used_if (choice_used b (max_choices * i + a)) l) (at b (from + (max_choices * i + a)))
          ≡ within (used_if (ltb a (choices_used b i)) l) (at b (from + max_choices * i + a))
      choice i a h =
          let e : from + (max_choices * i + a) ≡ from + max_choices * i + a = omega arith in
          rw (choice_used_lem b i a h, used_if_lem (ltb i (trains b)) a (size b i), e)

  pub pair_rows : (k : ℕ) → pair_within b from k l ≡ all max_choices (entry_row k)
  pair_rows k =
      all-rows (λ o. within (used_if (entry_used b (entries_of_pair * k + o)) l) (at b (from + (entries_of_pair * k + o)))) max_choices max_choices
      ∙ all_cong max_choices _ _ (λ a h. all_cong max_choices _ _ (λ c q. entry a c h q))
    where
      entry : (a c : ℕ) → a < max_choices → c < max_choices
          → within (used_if (entry_used b (entries_of_pair * k + (max_choices * a + c))) l) (at b (from + (entries_of_pair * k + (max_choices * a + c))))
          ≡ within (used_if (ltb c (entries_used b k a)) l) (at b (from + (entries_of_pair * k + max_choices * a) + c))
      entry a c h q =
          let e : from + (entries_of_pair * k + (max_choices * a + c)) ≡ from + (entries_of_pair * k + max_choices * a) + c = omega arith in
          rw (entry_used_lem b k a c h q, used_if_lem (ltb a (size b (first b k))) c (size b (second b k)), used_if_lem (ltb k (pairs b)) c (cond (ltb a (size b (first b k))) (size b (second b k)) 0), e)

  -- the places of a pair that is not there are one run of unused places
  pub pair_absent : (k : ℕ) → pairs b ≤ k → pair_within b from k l ≡ run_within b (from + entries_of_pair * k) entries_of_pair (from_to 0 0)
  pair_absent k h = all_cong entries_of_pair _ _ (λ o q. unused o q)
    where
      unused : (o : ℕ) → o < entries_of_pair
          → within (used_if (entry_used b (entries_of_pair * k + o)) l) (at b (from + (entries_of_pair * k + o)))
          ≡ within (from_to 0 0) (at b (from + entries_of_pair * k + o))
      unused o q =
          let e : from + (entries_of_pair * k + o) ≡ from + entries_of_pair * k + o = omega arith in
          rw (entry_absent b k o h q, e)

  pub entries_rows : entries_within b from l ≡ all max_pairs (λ k. pair_within b from k l)
  entries_rows = all-rows (λ o. within (used_if (entry_used b o) l) (at b (from + o))) entries_of_pair max_pairs

-- ---- the block, region by region

module _ (b : List ℤ) where
  -- the places below `from + n` are those below `from` and a region of n places, whose limits are known
  region : (from n : ℕ) (limits : ℕ → Limits) → ((k : ℕ) → k < n → limits_at b (from + k) ≡ limits k)
      → all (from + n) (right_at b) ≡ all from (right_at b) && all n (λ k. within (limits k) (at b (from + k)))
  region from n limits h =
      all_split (right_at b) from n
      ∙ ap (λ (t : Bool). all from (right_at b) && t) (all_cong n _ _ (λ k q. ap (λ (l : Limits). within l (at b (from + k))) (h k q)))

  pub head_places : head_right b
      ≡ within (from_to 1 max_trains) (at b trains_place) && within (from_to scale_min scale_max) (at b scale_place)
      && within (from_to 0 max_pairs) (at b pairs_place) && within (from_to 0 max_parts) (at b constant_place)
  unfolding all head_limits
  head_places =
      rw (
        limits_head b trains_place (omega arith),
        limits_head b scale_place (omega arith),
        limits_head b pairs_place (omega arith),
        limits_head b constant_place (omega arith),
      )

  pub ruleset head = (head_places, to_z-of_z)

  pub shape_rows : shape_right b
      ≡ head_right b && row_within b sizes_from max_trains (trains b) (from_to 1 max_choices)
      && row_within b firsts_from max_pairs (pairs b) (from_to 0 (max_trains - 1))
      && row_within b seconds_from max_pairs (pairs b) (from_to 0 (max_trains - 1))
  shape_rows =
      rw (
        region seconds_from max_pairs (λ k. used_if (ltb k (pairs b)) (from_to 0 (max_trains - 1))) (limits-second b),
        region firsts_from max_pairs (λ k. used_if (ltb k (pairs b)) (from_to 0 (max_trains - 1))) (limits-first b),
        region sizes_from max_trains (λ i. used_if (ltb i (trains b)) (from_to 1 max_choices)) (limits-size b),
      )

  pub places_tables : length b ≡ block_length → places_right b
      ≡ shape_right b && choices_within b loaded_choices_from (cost_to max_cost) && choices_within b held_choices_from (cost_to max_parts)
      && entries_within b loaded_entries_from (cost_to max_cost) && entries_within b held_entries_from (cost_to max_parts) && order_within b
  unfolding places_right
  places_tables e =
      rw (
        pass_all (place_right b) (pos 0) b,
        e,
        region order_from max_trains (λ d. used_if (ltb d (trains b)) (from_to 0 (max_trains - 1))) (λ d h. limits_order b d),
        region held_entries_from (max_pairs * entries_of_pair) (λ o. used_if (entry_used b o) (cost_to max_parts)) (limits-held_entries b),
        region loaded_entries_from (max_pairs * entries_of_pair) (λ o. used_if (entry_used b o) (cost_to max_cost)) (limits_loaded_entries b),
        region held_choices_from (max_trains * max_choices) (λ o. used_if (choice_used b o) (cost_to max_parts)) (limits-held_choices b),
        region loaded_choices_from (max_trains * max_choices) (λ o. used_if (choice_used b o) (cost_to max_cost)) (limits_loaded_choices b),
      )

-- ---- the most that a place holds

used_high : (t : Bool) (low high : ℕ) → (used_if t (from_to low high)).high ≤ high
used_high true low high = omega arith
used_high false low high = omega arith

if_most : (t : Bool) (n high : ℕ) → n ≤ high → cond t n 0 ≤ high
if_most true n high h = h
if_most false n high h = omega arith

-- where the places below n are right, what is known of them
module _ (b : List ℤ) (n : ℕ) (e : all n (right_at b) ≡ true) where
  most : (p : ℕ) (l : Limits) → p < n → limits_at b p ≡ l → figure b p ≤ l.high
  most p l h q = (within-figure l b p (rw q at (all_true (right_at b) n e p h))).high

  pub head_most : sizes_from ≤ n → (trains b ≤ max_trains) × (pairs b ≤ max_pairs)
  unfolding head_limits
  head_most h =
      (most trains_place _ (omega arith) (limits_head b trains_place (omega arith)), most pairs_place _ (omega arith) (limits_head b pairs_place (omega arith)))

module _ (b : List ℤ) (e : shape_right b ≡ true) where
  pub trains_most : trains b ≤ max_trains
  trains_most = (head_most b loaded_choices_from e (omega arith)).0

  pub pairs_most : pairs b ≤ max_pairs
  pairs_most = (head_most b loaded_choices_from e (omega arith)).1

  pub size_most : (i : ℕ) → i < max_trains → size b i ≤ max_choices
  size_most i h = omega (arith, most b loaded_choices_from e (size_place i) _ (omega arith) (limits-size b i h), used_high (ltb i (trains b)) 1 max_choices)

  pub pair_trains : (k : ℕ) → k < max_pairs → (first b k < max_trains) × (second b k < max_trains)
  pair_trains k h =
      let u = used_high (ltb k (pairs b)) 0 (max_trains - 1) in (
        omega (arith, most b loaded_choices_from e (first_place k) _ (omega arith) (limits-first b k h), u),
        omega (arith, most b loaded_choices_from e (second_place k) _ (omega arith) (limits-second b k h), u),
      )

  pub choices_most : (i : ℕ) → i < max_trains → choices_used b i ≤ max_choices
  choices_most i h = if_most (ltb i (trains b)) (size b i) max_choices (size_most i h)

  pub entries_most : (k a : ℕ) → k < max_pairs → entries_used b k a ≤ max_choices
  entries_most k a h =
      if_most (ltb k (pairs b)) _ max_choices
      (if_most (ltb a (size b (first b k))) (size b (second b k)) max_choices (size_most (second b k) (pair_trains k h).1))

-- what is known of a block once its shape is right, and of its tables
pub ruleset study = (places_tables, trains_most, pairs_most)

-- what the loops over rows ask at each row
pub ruleset row_calls = (serving, choices_most, entries_most)
