-- The turns of the loops of load.rt, what its calls say together, and what they ask.
use mathlib.Core.Path.{◌≡◌, refl, ap, ◌∙◌}
use mathlib.Core.List.{List}
use mathlib.Core.Logic.{dite}
use Prim.Native.Nat.{ℕ, zero, suc, ◌+◌, ◌*◌, ◌-◌, ◌<◌, ◌≤◌}
use native.Mathlib.Decide.{dec_lt}
use native.Mathlib.Nat.{zero-add, mul-le-mul}
use native.Mathlib.Omega.{arith}
use lib.IntN.{ℤ, pos, negsuc}
use lib.ListN.{length, set, take, replicate, drop, get_or, length-drop, get_or-map}
use lib.Seq.{length-take-le, get_or-take, get_or-drop}
use Rattle.std.specs.Prelude.{map}
use Rattle.std.proofs.lemmas.List.{get_or_past, length-take}
use Rattle.theory.specs.Fold.{iter}
use Rattle.theory.proofs.Sum.{sum_most}
use Rattle.theory.specs.Lists.{nth}
use Rattle.units.specs.Units.{Sound}
use Rattle.tables.specs.Block.{max_trains, max_choices, max_pairs, entries_of_pair, trains_place, scale_place, pairs_place, size_place, first_place, second_place, loaded_choice_place, held_choice_place, loaded_entry_place, held_entry_place, order_place}
use Rattle.tables.specs.WellFormed.{fresh_block}
use Rattle.tables.specs.declared.block.Pair.{Pair}
use Rattle.tables.specs.Plans.{Shape}
use Rattle.tables.specs.Counts.{rows_of, columns_of, pair_entries, choices_before, entries_before}
use Rattle.tables.specs.Numbers.{Numbers, InRange, numbers_shape, forbidden_cost, is_cost}
use Rattle.tables.proofs.Prices.{forbids, permitted, priced_is}
use Rattle.operations.specs.Load.{head_loaded, sizes_loaded, pairs_loaded, run_loaded, choices_loaded, pair_loaded, entries_loaded, order_loaded, loaded_block, cost_loaded, SizesIn, PairsIn, CostsIn}

-- ---- the turns of the loops

abbrev pub size_turn : List ℕ → ℕ → List ℤ → List ℤ
size_turn sizes i d = set d (size_place i) (pos (nth sizes i))

abbrev pub pair_turn : List ℕ → List ℕ → ℕ → List ℤ → List ℤ
pair_turn firsts seconds k d = set (set d (first_place k) (pos (nth firsts k))) (second_place k) (pos (nth seconds k))

abbrev pub run_turn : ℕ → List ℕ → ℕ → ℕ → ℕ → ℕ → List ℤ → List ℤ
run_turn s costs start loaded held a = cost_loaded s (nth costs (start + a)) (loaded + a) (held + a)

abbrev pub train_turn : ℕ → Shape → List ℕ → ℕ → List ℤ → List ℤ
train_turn s t choices i = run_loaded s choices (choices_before t i) (loaded_choice_place i 0) (held_choice_place i 0) (t.size i)

abbrev pub row_turn : ℕ → List ℕ → ℕ → ℕ → ℕ → ℕ → List ℤ → List ℤ
row_turn s entries start columns k a = run_loaded s entries (start + columns * a) (loaded_entry_place k a 0) (held_entry_place k a 0) columns

abbrev pub order_turn : ℕ → List ℤ → List ℤ
order_turn d b = set b (order_place d) (pos d)

abbrev pub entries_turn : ℕ → Shape → List ℕ → ℕ → List ℤ → List ℤ
entries_turn s t entries k = pair_loaded s entries (entries_before t k) (rows_of t k) (columns_of t k) k

-- ---- a turn of the code, as its calls say it

-- a cost, of a permitted entry and of a forbidden one
pub cost_by : (s c p q : ℕ) (b : List ℤ) {d e : List ℤ} {x : ℕ} → (c ≡ forbidden_cost → ⊥)
    → d ≡ set b p (pos c) → x ≡ s * c → e ≡ set d q (pos x) → e ≡ cost_loaded s c p q b
cost_by s c p q b n f g h =
    let t = permitted c n in
    h ∙ rw (f, g, priced_is c c t, priced_is c (s * c) t)

pub closed_by : (s c p q : ℕ) (b : List ℤ) {d e : List ℤ} → c ≡ forbidden_cost → d ≡ set b p (negsuc 0) → e ≡ set d q (negsuc 0) → e ≡ cost_loaded s c p q b
closed_by s c p q b t f g = g ∙ rw (f, forbids c c t, forbids c (s * c) t)

pub head_by : (n s m size : ℕ) {c d e f : List ℤ} → c ≡ replicate size (pos 0) → d ≡ set c trains_place (pos n) → e ≡ set d scale_place (pos s) → f ≡ set e pairs_place (pos m)
    → f ≡ head_loaded n s m (replicate size (pos 0))
head_by n s m size p q r t = cc

-- turns that do the same
turns_same : {A : Type 0} (n : ℕ) (f g : ℕ → A → A) (a : A) → ((i : ℕ) (x : A) → i < n → f i x ≡ g i x) → iter n f a ≡ iter n g a
unfolding iter
turns_same zero f g a e = refl
turns_same (suc n) f g a e = e n (iter n f a) (omega arith) ∙ ap (g n) (turns_same n f g a (λ i x h. e i x (omega arith)))

-- a run that is lent as a part of the costs
run_part : (s : ℕ) (costs : List ℕ) (start loaded held count : ℕ) (b : List ℤ)
    → run_loaded s (take count (drop start costs)) 0 loaded held count b ≡ run_loaded s costs start loaded held count b
run_part s costs start loaded held count b =
    turns_same count (run_turn s (take count (drop start costs)) 0 loaded held) (run_turn s costs start loaded held) b
    (λ a x h. ap (λ (c : ℕ). cost_loaded s c (loaded + a) (held + a) x)
    (ap (nth (take count (drop start costs))) (zero-add a) ∙ get_or-take count (drop start costs) a 0 h ∙ get_or-drop start costs a 0))

pub run_at : (s : ℕ) (costs : List ℕ) (start loaded held count : ℕ) (b : List ℤ) {part : List ℕ} {loaded' held' : ℕ} {c : List ℤ}
    → start + count ≤ length costs → part ≡ take count (drop start costs) → loaded' ≡ loaded → held' ≡ held
    → c ≡ run_loaded s part 0 loaded' held' (length part) b → c ≡ run_loaded s costs start loaded held count b
run_at s costs start loaded held count b h e p q r =
    let f : length (take count (drop start costs)) ≡ count = length-take-le count (drop start costs) (omega (arith, length-drop start costs)) in
    r ∙ rw (e, p, q, f) (run_part s costs start loaded held count b)

pub part_is : (start count : ℕ) {end : ℕ} {l m : List ℕ} → end ≡ start + count → l ≡ m → take (end - start) (drop start l) ≡ take count (drop start m)
part_is start count {end} e f = let n : end - start ≡ count = omega arith in (λ i. take (n i) (drop start (f i)))

-- costs in a part of them
pub costs_part : {costs : List ℕ} → CostsIn costs → (n start : ℕ) → CostsIn (take n (drop start costs))
unfolding is_cost
costs_part {costs} c n start =
    record {
      right = λ o.
          dite (dec_lt o n)
          (λ (h : o < n). rw (get_or-take n (drop start costs) o 0 h, get_or-drop start costs o 0) (c.right (start + o)))
          (λ (h : o < n → ⊥). rw (get_or_past (take n (drop start costs)) o 0 (omega (arith, length-take n (drop start costs)))) refl);
    }

pub loaded_by : (l : Numbers) {c d e f g h : List ℤ}
    → c ≡ head_loaded (length l.sizes) l.scale (length l.firsts) fresh_block
    → d ≡ sizes_loaded l.sizes c → e ≡ pairs_loaded l.firsts l.seconds d → f ≡ choices_loaded l.scale (numbers_shape l) l.choices e
    → g ≡ entries_loaded l.scale (numbers_shape l) l.entries f → h ≡ order_loaded (length l.sizes) g → h ≡ loaded_block l
unfolding loaded_block
loaded_by l p q r t u v = rw (v, u, t, r, q, p)

-- ---- what the private functions ask

module _ {l : Numbers} (r : InRange l) where
  pub in_scale : Sound l.scale
  in_scale = record { low = r.scale.0; high = r.scale.1 }

  pub in_sizes : SizesIn l.sizes
  in_sizes = record { few = r.trains.1; small = λ i h. (r.sizes i h).1 }

  -- the trains of the pairs, for any bound that the trains keep
  pub in_pairs : (n : ℕ) → length l.sizes ≤ n → PairsIn n l.firsts l.seconds
  in_pairs n h = record { few = r.pairs.0; same = r.pairs.1; first = λ k q. omega (arith, r.below k q); second = λ k q. omega (arith, r.below k q) }

  -- a pair has at most 8 rows and 8 columns
  pub pair_lanes : (k : ℕ) → k < length l.firsts → (rows_of (numbers_shape l) k ≤ max_choices) × (columns_of (numbers_shape l) k ≤ max_choices)
  pair_lanes k h = let b = r.below k h in ((r.sizes (nth l.firsts k) (omega arith)).1, (r.sizes (nth l.seconds k) b.1).1)

  -- there are not more costs than places for them
  pub choices_few : length l.choices ≤ max_trains * max_choices
  choices_few = omega (arith, r.choices, r.trains, sum_most (length l.sizes) max_choices (nth l.sizes) (λ i h. (r.sizes i h).1))

  pub entries_few : length l.entries ≤ max_pairs * entries_of_pair
  entries_few =
      omega (arith, r.entries, r.pairs, sum_most (length l.firsts) entries_of_pair (pair_entries (numbers_shape l)) (λ k h. let w = pair_lanes k h in mul-le-mul w.0 w.1))

-- ---- the trains of a pair

pub first_nth : (l : List Pair) (k : ℕ) → nth (map (λ p. p.first) l) k ≡ (get_or l k (record { first = 0; second = 0 })).first
first_nth l k = get_or-map (λ (p : Pair). p.first) l k (record { first = 0; second = 0 })

pub second_nth : (l : List Pair) (k : ℕ) → nth (map (λ p. p.second) l) k ≡ (get_or l k (record { first = 0; second = 0 })).second
second_nth l k = get_or-map (λ (p : Pair). p.second) l k (record { first = 0; second = 0 })
