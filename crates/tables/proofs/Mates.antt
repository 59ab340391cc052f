-- The tables of H and T side by side: one pass over both is a test at each place, and only used places need it.
use mathlib.Core.Path.{◌≡◌, refl, sym, ap, ap₂, ◌∙◌}
use mathlib.Core.Bool.{Bool, true, false, cond, not, ◌&&◌, and-true, and_assoc}
use mathlib.Core.List.{List, [], ◌∷◌}
use Prim.Native.Nat.{ℕ, zero, suc, ◌+◌, ◌*◌, ◌-◌, ◌/◌, ◌<◌, ◌≤◌}
use native.Mathlib.Nat.{zero-add}
use native.Mathlib.Omega.{arith}
use borrow.Author.Tests.{le-ltb}
use lib.IntN.{ℤ, pos, negsuc}
use lib.ListN.{length, take, drop}
use Rattle.theory.specs.Range.{all}
use Rattle.theory.proofs.Range.{both_true, all_true, all_intro, all_split, all_cong, all_head, pass_all}
use Rattle.theory.proofs.Lists.{part_length, part_at}
use Rattle.tables.specs.Block.{block_length, max_trains, max_choices, max_pairs, max_cost, max_parts, entries_of_pair, loaded_choices_from, held_choices_from, loaded_entries_from, held_entries_from, at, trains, pairs}
use Rattle.tables.specs.WellFormed.{from_to, cost_to, used_if, choice_used, entry_used, limits_at, place_right, places_right, is_open, mate, mates, mated}
use Rattle.tables.specs.Rows.{run_mated, right_at}
use Rattle.tables.proofs.Limits.{within-figure, natural_open, limits_loaded_choices, limits-held_choices, limits_loaded_entries, limits-held_entries}
use Rattle.tables.proofs.Rows.{head_most}

-- ---- two numbers

-- mates are open together
pub mate_open : (x y : ℤ) → mate x y ≡ true → is_open x ≡ is_open y
unfolding is_open mate
mate_open (pos m) (pos n) e = refl
mate_open (pos m) (negsuc n) e = let z : ◌≡◌ {A = ℕ} 0 1 = cc in absurd (omega arith)
mate_open (negsuc m) (pos n) e = let z : ◌≡◌ {A = ℕ} 0 1 = cc in absurd (omega arith)
mate_open (negsuc m) (negsuc n) e = refl

pub both_open : (x y : ℤ) → is_open x ≡ true → is_open y ≡ true → mate x y ≡ true
unfolding mate
both_open x y e f = rw (e, f)

-- and whether two numbers are mates depends on that alone
pub mate_same : (x y u v : ℤ) → is_open u ≡ is_open x → is_open v ≡ is_open y → mate u v ≡ mate x y
unfolding mate
mate_same x y u v e f = ap₂ (λ (s t : Bool). cond s t (not t)) e f

-- ---- two tables

at_drop : (n : ℕ) (l : List ℤ) (k : ℕ) → at (drop n l) k ≡ at l (n + k)
at_drop zero l k = rw zero-add
at_drop (suc n) [] k = refl
at_drop (suc n) (x ∷ l) k = let e : suc n + k ≡ suc (n + k) = omega arith in at_drop n l k ∙ ap (at (x ∷ l)) (sym e)

mates-all : (n : ℕ) (l m : List ℤ) → mates n l m ≡ all n (λ k. mate (at l k) (at m k))
unfolding mates all
mates-all zero l m = refl
mates-all (suc n) l m =
    ap (λ (t : Bool). mate (at l 0) (at m 0) && t) (mates-all n (drop 1 l) (drop 1 m) ∙ all_cong n _ _ (λ k h. ap₂ mate (next l k) (next m k)))
    ∙ sym (all_head (λ k. mate (at l k) (at m k)) n)
  where
    next : (l : List ℤ) (k : ℕ) → at (drop 1 l) k ≡ at l (k + 1)
    next l k = let e : 1 + k ≡ k + 1 = omega arith in at_drop 1 l k ∙ ap (at l) e

run_mated_lem : (b : List ℤ) (from to n : ℕ) → mates n (drop from b) (drop to b) ≡ run_mated b from to n
run_mated_lem b from to n = mates-all n (drop from b) (drop to b) ∙ all_cong n _ _ (λ o h. ap₂ mate (at_drop from b o) (at_drop to b o))

mated_runs : (b : List ℤ) → mated b ≡ run_mated b loaded_choices_from held_choices_from (max_trains * max_choices) && run_mated b loaded_entries_from held_entries_from (max_pairs * entries_of_pair)
unfolding mated
mated_runs b = ap₂ ◌&&◌ (run_mated_lem b loaded_choices_from held_choices_from (max_trains * max_choices)) (run_mated_lem b loaded_entries_from held_entries_from (max_pairs * entries_of_pair))

-- ---- a pass over two tables

-- m is what the numbers so far gave, a and b are those that are still to come, and t is what is asked of all
pub record Passing (m : Bool) (a b : List ℤ) (t : Bool) : Type 0 where
  pub even : length a ≡ length b
  pub joined : m && mates (length a) a b ≡ t

pub passing_start : (b p q : List ℤ) (from to n : ℕ) → from + n ≤ length b → to + n ≤ length b
    → p ≡ take (from + n - from) (drop from b) → q ≡ take (to + n - to) (drop to b) → Passing true p q (run_mated b from to n)
passing_start b p q from to n h g d e =
    let l = part_length b from n h in
    record {
      even = rw (d, e) (l ∙ sym (part_length b to n g));
      joined = rw (d, e, l) (mates-all n _ _ ∙ all_cong n _ _ (λ k q. ap₂ mate (part_at b from n k (pos 0) q) (part_at b to n k (pos 0) q)));
    }

pub passing_step : {m r t : Bool} {a b c d : List ℤ} {x y : ℤ} → Passing m a b t → a ≡ x ∷ c → b ≡ y ∷ d → r ≡ mate x y → Passing (m && r) c d t
unfolding mates
passing_step {m} {r} {t} {a} {b} {c} {d} {x} {y} p e f g =
    record {
      even = omega (arith, p.even, ap length e, ap length f);
      joined = rw g (and_assoc m (mate x y) (mates (length c) c d)) ∙ rw (e, f) at p.joined;
    }

pub passing_end : {m t : Bool} {a b : List ℤ} → Passing m a b t → length a ≡ 0 → m ≡ t
unfolding mates
passing_end {m} p e = sym (and-true m) ∙ rw e at p.joined

-- ---- unused places

-- places from `used` on whose numbers are open need no look
short : (b : List ℤ) (from to used whole : ℕ) → used ≤ whole
    → ((o : ℕ) → used ≤ o → o < whole → (is_open (at b (from + o)) ≡ true) × (is_open (at b (to + o)) ≡ true))
    → run_mated b from to whole ≡ run_mated b from to used
short b from to used whole h f =
    let e : whole ≡ used + (whole - used) = omega arith in
    ap (run_mated b from to) e ∙ all_split (λ k. mate (at b (from + k)) (at b (to + k))) used (whole - used)
    ∙ ap (λ (t : Bool). run_mated b from to used && t) (all_intro _ (whole - used) (λ k q. beyond (used + k) (omega arith) (omega arith)))
    ∙ and-true (run_mated b from to used)
  where
    beyond : (o : ℕ) → used ≤ o → o < whole → mate (at b (from + o)) (at b (to + o)) ≡ true
    beyond o l q = let g = f o l q in both_open _ _ g.0 g.1

module _ (b : List ℤ) (w : length b ≡ block_length) (e : places_right b ≡ true) where
  right : all block_length (right_at b) ≡ true
  unfolding places_right
  right = rw w at (sym (pass_all (place_right b) (pos 0) b) ∙ e)

  pub head_counts : (trains b ≤ max_trains) × (pairs b ≤ max_pairs)
  head_counts = head_most b block_length right (omega arith)

  -- a place that is unused is 0
  unused : (t : Bool) (high p : ℕ) → p < block_length → limits_at b p ≡ used_if t (cost_to high) → t ≡ false → is_open (at b p) ≡ true
  unused t high p h l f =
      natural_open _ _ ((within-figure (from_to 0 0) b p (rw (l ∙ ap (λ (u : Bool). used_if u (cost_to high)) f) at (all_true (right_at b) block_length right p h))).natural refl)

  no_choice : (o : ℕ) → max_choices * trains b ≤ o → choice_used b o ≡ false
  unfolding choice_used
  no_choice o h = rw (le-ltb (o / max_choices) (trains b) (omega arith))

  no_entry : (o : ℕ) → entries_of_pair * pairs b ≤ o → entry_used b o ≡ false
  unfolding entry_used
  no_entry o h = rw (le-ltb (o / entries_of_pair) (pairs b) (omega arith))

  pub mated_used : mated b
      ≡ run_mated b loaded_choices_from held_choices_from (max_choices * trains b) && run_mated b loaded_entries_from held_entries_from (entries_of_pair * pairs b)
  mated_used =
      mated_runs b
      ∙ ap₂ ◌&&◌
      (short b loaded_choices_from held_choices_from (max_choices * trains b) (max_trains * max_choices) (omega (arith, head_counts)) (λ o l h. (
        unused (choice_used b o) max_cost (loaded_choices_from + o) (omega arith) (limits_loaded_choices b o h) (no_choice o l),
        unused (choice_used b o) max_parts (held_choices_from + o) (omega arith) (limits-held_choices b o h) (no_choice o l),
      )))
      (short b loaded_entries_from held_entries_from (entries_of_pair * pairs b) (max_pairs * entries_of_pair) (omega (arith, head_counts)) (λ o l h. (
        unused (entry_used b o) max_cost (loaded_entries_from + o) (omega arith) (limits_loaded_entries b o h) (no_entry o l),
        unused (entry_used b o) max_parts (held_entries_from + o) (omega arith) (limits-held_entries b o h) (no_entry o l),
      )))

-- ---- the test and the facts

module _ (b : List ℤ) where
  abbrev choices_mated : Type 0
  choices_mated = (o : ℕ) → o < max_trains * max_choices → mate (at b (loaded_choices_from + o)) (at b (held_choices_from + o)) ≡ true

  abbrev entries_mated : Type 0
  entries_mated = (o : ℕ) → o < max_pairs * entries_of_pair → mate (at b (loaded_entries_from + o)) (at b (held_entries_from + o)) ≡ true

  pub mated-mates : mated b ≡ true → choices_mated × entries_mated
  mated-mates e =
      let f = both_true (run_mated b loaded_choices_from held_choices_from (max_trains * max_choices)) (run_mated b loaded_entries_from held_entries_from (max_pairs * entries_of_pair)) (sym (mated_runs b) ∙ e) in
      (all_true _ (max_trains * max_choices) f.0, all_true _ (max_pairs * entries_of_pair) f.1)

  pub mates-mated : choices_mated → entries_mated → mated b ≡ true
  mates-mated f g = mated_runs b ∙ rw (all_intro _ (max_trains * max_choices) f, all_intro _ (max_pairs * entries_of_pair) g)
