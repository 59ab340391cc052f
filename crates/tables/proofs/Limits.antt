-- The limits of each place, region by region: `limits_at` without its tests.
use mathlib.Core.Path.{◌≡◌, refl, ap}
use mathlib.Core.Bool.{Bool, true, false, cond, ◌&&◌}
use mathlib.Core.List.{List}
use Prim.Native.Nat.{ℕ, ◌+◌, ◌*◌, ◌-◌, ◌/◌, ◌%◌, ◌<◌, ◌≤◌}
use native.Mathlib.Omega.{arith}
use lib.Dec.{leb, ltb, eqb}
use lib.IntN.{ℤ, pos, negsuc}
use borrow.Author.Tests.{lt-ltb, le-ltb, le-leb, leb-true, eqb-true}
use Rattle.theory.proofs.Range.{both_true, not_both}
use Rattle.units.specs.Units.{scale_min, scale_max}
use Rattle.tables.specs.declared.place_limits.Limits.{Limits}
use Rattle.tables.specs.Block.{max_trains, max_choices, max_pairs, max_cost, max_parts, trains_place, scale_place, pairs_place, sizes_from, firsts_from, seconds_from, loaded_choices_from, held_choices_from, loaded_entries_from, held_entries_from, order_from, entries_of_pair, at, nat, figure, trains, pairs, size, first, second}
use Rattle.tables.specs.WellFormed.{from_to, cost_to, within, is_open, used_if, choice_used, entry_used, head_limits, shape_limits, cost_limits, order_limits, limits_at}

-- ---- within

pub within_high : (l : Limits) (z : ℤ) → within l z ≡ true → nat z ≤ l.high
unfolding within
within_high l (pos n) e = leb-true _ _ (both_true (leb l.low n) (leb n l.high) e).1
within_high l (negsuc n) e = omega arith

-- where −1 is not allowed
pub within_parts : (l : Limits) (z : ℤ) → l.closable ≡ false → within l z ≡ true → (z ≡ pos (nat z)) × (l.low ≤ nat z)
unfolding within
within_parts l (pos n) f e = (refl, leb-true _ _ (both_true (leb l.low n) (leb n l.high) e).0)
within_parts l (negsuc n) f e = absurd (not_both (both_true l.closable (eqb n 0) e).0 f)

-- and where it is, no other number below 0
pub within-closed : (l : Limits) (z : ℤ) → within l z ≡ true → is_open z ≡ false → z ≡ negsuc 0
unfolding within is_open
within-closed l (pos n) e f = let z : ◌≡◌ {A = ℕ} 0 1 = cc in absurd (omega arith)
within-closed l (negsuc n) e f = ap negsuc (eqb-true n 0 (both_true l.closable (eqb n 0) e).1)

-- a place that is within its limits, as facts about its figure, which is 0 where the place is below 0
pub record Within (l : Limits) (b : List ℤ) (p : ℕ) : Type 0 where
  pub natural : l.closable ≡ false → at b p ≡ pos (figure b p)
  pub low : l.closable ≡ false → l.low ≤ figure b p
  pub high : figure b p ≤ l.high

pub within-figure : (l : Limits) (b : List ℤ) (p : ℕ) → within l (at b p) ≡ true → Within l b p
unfolding figure
within-figure l b p e =
    record { natural = λ f. (within_parts l (at b p) f e).0; low = λ f. (within_parts l (at b p) f e).1; high = within_high l (at b p) e }

-- a natural number is open
pub natural_open : (z : ℤ) (n : ℕ) → z ≡ pos n → is_open z ≡ true
unfolding is_open
natural_open z n e = rw e

-- an open place holds a natural number
pub open_natural : (b : List ℤ) (p : ℕ) → is_open (at b p) ≡ true → at b p ≡ pos (figure b p)
unfolding figure is_open
open_natural b p e = go (at b p) e
  where
    go : (z : ℤ) → is_open z ≡ true → z ≡ pos (nat z)
    go (pos n) e = refl
    go (negsuc n) e = let z : ◌≡◌ {A = ℕ} 0 1 = cc in absurd (omega arith)

pub within_pos : (l : Limits) (n : ℕ) → l.low ≤ n → n ≤ l.high → within l (pos n) ≡ true
unfolding within
within_pos l n p q = rw (le-leb _ _ p, le-leb _ _ q)

-- ---- which offsets are used

pub choice_used_lem : (b : List ℤ) (i a : ℕ) → a < max_choices → choice_used b (max_choices * i + a) ≡ ltb i (trains b) && ltb a (size b i)
unfolding choice_used
choice_used_lem b i a h =
    let e : (max_choices * i + a) / max_choices ≡ i = omega arith in
    let f : (max_choices * i + a) % 8 ≡ a = omega arith in
    rw (e, f)

pub entry_used_lem : (b : List ℤ) (k a c : ℕ) → a < max_choices → c < max_choices
    → entry_used b (entries_of_pair * k + (max_choices * a + c)) ≡ ltb k (pairs b) && (ltb a (size b (first b k)) && ltb c (size b (second b k)))
unfolding entry_used
entry_used_lem b k a c h q =
    let e : (entries_of_pair * k + (max_choices * a + c)) / 64 ≡ k = omega arith in
    let f : (entries_of_pair * k + (max_choices * a + c)) % entries_of_pair / max_choices ≡ a = omega arith in
    let g : (entries_of_pair * k + (max_choices * a + c)) % max_choices ≡ c = omega arith in
    rw (e, f, g)

-- no offset is that of a pair that is not there
pub entry_absent : (b : List ℤ) (k o : ℕ) → pairs b ≤ k → o < entries_of_pair → entry_used b (entries_of_pair * k + o) ≡ false
unfolding entry_used
entry_absent b k o h q = let e : (entries_of_pair * k + o) / entries_of_pair ≡ k = omega arith in rw (e, le-ltb k (pairs b) h)

-- ---- the limits of each region

module _ (b : List ℤ) where
  pub limits_head : (p : ℕ) → p < sizes_from → limits_at b p ≡ head_limits p
  unfolding limits_at shape_limits
  limits_head p h = rw (lt-ltb p loaded_choices_from (omega arith), lt-ltb p sizes_from h)

  pub limits-size : (i : ℕ) → i < max_trains → limits_at b (sizes_from + i) ≡ used_if (ltb i (trains b)) (from_to 1 max_choices)
  unfolding limits_at shape_limits
  limits-size i h =
      let p = sizes_from + i in
      let e : p - sizes_from ≡ i = omega arith in
      rw (lt-ltb p loaded_choices_from (omega arith), le-ltb p sizes_from (omega arith), lt-ltb p firsts_from (omega arith), e)

  pub limits-first : (k : ℕ) → k < max_pairs → limits_at b (firsts_from + k) ≡ used_if (ltb k (pairs b)) (from_to 0 (max_trains - 1))
  unfolding limits_at shape_limits
  limits-first k h =
      let p = firsts_from + k in
      let e : p - firsts_from ≡ k = omega arith in
      rw (lt-ltb p loaded_choices_from (omega arith), le-ltb p sizes_from (omega arith), le-ltb p firsts_from (omega arith), lt-ltb p seconds_from (omega arith), e)

  pub limits-second : (k : ℕ) → k < max_pairs → limits_at b (seconds_from + k) ≡ used_if (ltb k (pairs b)) (from_to 0 (max_trains - 1))
  unfolding limits_at shape_limits
  limits-second k h =
      let p = seconds_from + k in
      let e : p - seconds_from ≡ k = omega arith in
      rw (lt-ltb p loaded_choices_from (omega arith), le-ltb p sizes_from (omega arith), le-ltb p firsts_from (omega arith), le-ltb p seconds_from (omega arith), e)

  pub limits_loaded_choices : (o : ℕ) → o < max_trains * max_choices → limits_at b (loaded_choices_from + o) ≡ used_if (choice_used b o) (cost_to max_cost)
  unfolding limits_at cost_limits
  limits_loaded_choices o h =
      let p = loaded_choices_from + o in
      let e : p - loaded_choices_from ≡ o = omega arith in
      rw (le-ltb p loaded_choices_from (omega arith), lt-ltb p order_from (omega arith), lt-ltb p held_choices_from (omega arith), e)

  pub limits-held_choices : (o : ℕ) → o < max_trains * max_choices → limits_at b (held_choices_from + o) ≡ used_if (choice_used b o) (cost_to max_parts)
  unfolding limits_at cost_limits
  limits-held_choices o h =
      let p = held_choices_from + o in
      let e : p - held_choices_from ≡ o = omega arith in
      rw (le-ltb p loaded_choices_from (omega arith), lt-ltb p order_from (omega arith), le-ltb p held_choices_from (omega arith), lt-ltb p loaded_entries_from (omega arith), e)

  pub limits_loaded_entries : (o : ℕ) → o < max_pairs * entries_of_pair → limits_at b (loaded_entries_from + o) ≡ used_if (entry_used b o) (cost_to max_cost)
  unfolding limits_at cost_limits
  limits_loaded_entries o h =
      let p = loaded_entries_from + o in
      let e : p - loaded_entries_from ≡ o = omega arith in
      rw (le-ltb p loaded_choices_from (omega arith), lt-ltb p order_from (omega arith), le-ltb p held_choices_from (omega arith), le-ltb p loaded_entries_from (omega arith), lt-ltb p held_entries_from (omega arith), e)

  pub limits-held_entries : (o : ℕ) → o < max_pairs * entries_of_pair → limits_at b (held_entries_from + o) ≡ used_if (entry_used b o) (cost_to max_parts)
  unfolding limits_at cost_limits
  limits-held_entries o h =
      let p = held_entries_from + o in
      let e : p - held_entries_from ≡ o = omega arith in
      rw (le-ltb p loaded_choices_from (omega arith), lt-ltb p order_from (omega arith), le-ltb p held_choices_from (omega arith), le-ltb p loaded_entries_from (omega arith), le-ltb p held_entries_from (omega arith), e)

  pub limits_order : (d : ℕ) → limits_at b (order_from + d) ≡ used_if (ltb d (trains b)) (from_to 0 (max_trains - 1))
  unfolding limits_at order_limits
  limits_order d =
      let p = order_from + d in
      let e : p - order_from ≡ d = omega arith in
      rw (le-ltb p loaded_choices_from (omega arith), le-ltb p order_from (omega arith), e)

-- the limits of the shape go by n and m alone
pub shape_limits_lem : (c b : List ℤ) (p : ℕ) → p < loaded_choices_from → trains c ≡ trains b → pairs c ≡ pairs b → limits_at c p ≡ limits_at b p
unfolding limits_at shape_limits
shape_limits_lem c b p h e f = rw (lt-ltb p loaded_choices_from h, e, f)

-- and none of them may be below 0
record Firm (l : Limits) : Type 0 where
  is : l.closable ≡ false

neither : (t : Bool) {l m : Limits} → Firm l → Firm m → Firm (cond t l m)
neither true p q = p
neither false p q = q

firm : (low high : ℕ) → Firm (from_to low high)
firm low high = record { is = refl }

pub used_closable : (t : Bool) (low high : ℕ) → (used_if t (from_to low high)).closable ≡ false
used_closable t low high = (neither t (firm low high) (firm 0 0)).is

shape_firm : (b : List ℤ) (p : ℕ) → Firm (shape_limits b p)
unfolding shape_limits head_limits
shape_firm b p =
    neither (ltb p sizes_from)
    (neither (eqb p trains_place) (firm 1 max_trains) (neither (eqb p scale_place) (firm scale_min scale_max) (neither (eqb p pairs_place) (firm 0 max_pairs) (firm 0 max_parts))))
    (neither (ltb p firsts_from) (neither (ltb (p - sizes_from) (trains b)) (firm 1 max_choices) (firm 0 0))
    (neither (ltb p seconds_from) (neither (ltb (p - firsts_from) (pairs b)) (firm 0 (max_trains - 1)) (firm 0 0)) (neither (ltb (p - seconds_from) (pairs b)) (firm 0 (max_trains - 1)) (firm 0 0))))

pub shape_closable : (b : List ℤ) (p : ℕ) → p < loaded_choices_from → (limits_at b p).closable ≡ false
unfolding limits_at
shape_closable b p h = rw (lt-ltb p loaded_choices_from h) (shape_firm b p).is
