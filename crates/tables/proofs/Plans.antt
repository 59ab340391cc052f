-- The shape of a study, and totals by it.
use mathlib.Core.Path.{◌≡◌, refl, sym, ap, ap₂, ◌∙◌}
use mathlib.Core.List.{List}
use Prim.Native.Nat.{ℕ, ◌+◌, ◌<◌, ◌≤◌}
use native.Mathlib.Omega.{arith}
use lib.IntN.{ℤ}
use Rattle.theory.specs.Sum.{sum}
use Rattle.theory.proofs.Sum.{sum_cong, sum_term, sum_terms}
use Rattle.tables.specs.Block.{loaded_choice_place, loaded_entry_place, trains, pairs, size, first, second}
use Rattle.tables.specs.WellFormed.{Study}
use Rattle.tables.specs.Plans.{Shape, AlikeShapes, Costs, IsPlan, Open, choice_total, pair_total, total, shape_of}
use Rattle.tables.proofs.Study.{trains_range, pairs_range, size_range, first-below-second, second-below-trains, pairs_apart, SameShape, SameOpen, same_trains, same_pairs, same_size, same_first, same_second}

-- each train has a choice; a pair's trains ascend and are there; no two pairs are alike
pub record Shaped (s : Shape) : Type 0 where
  pub filled : (i : ℕ) → i < s.trains → 0 < s.size i
  pub ascends : (k : ℕ) → k < s.pairs → s.first k < s.second k
  pub inside : (k : ℕ) → k < s.pairs → s.second k < s.trains
  pub apart : (k l : ℕ) → k < s.pairs → l < s.pairs → s.first k ≡ s.first l → s.second k ≡ s.second l → k ≡ l

pub study_shaped : {b : List ℤ} → Study b → Shaped (shape_of b)
study_shaped s =
    record {
      filled = λ i h. (size_range s i h).0;
      ascends = first-below-second s;
      inside = second-below-trains s;
      apart = pairs_apart s;
    }

-- where nothing is forbidden, a choice for each train is a plan
pub open_plan : {s : Shape} → Shaped s → Open s → (x : ℕ → ℕ) → ((i : ℕ) → i < s.trains → x i < s.size i) → IsPlan s x
open_plan {s} sh o x h =
    record {
      below = h;
      choices = λ i l. o.choices i (x i) l (h i l);
      entries = λ k l. o.entries k _ _ l (h (s.first k) (omega (arith, sh.ascends k l, sh.inside k l))) (h (s.second k) (sh.inside k l));
    }

-- a plan's choice is there, by train and by pair
module _ (s : Shape) (sh : Shaped s) (x : ℕ → ℕ) (p : IsPlan s x) (k : ℕ) (h : k < s.pairs) where
  pub plan_first : x (s.first k) < s.size (s.first k)
  plan_first = p.below (s.first k) (omega (arith, sh.ascends k h, sh.inside k h))

  pub plan_second : x (s.second k) < s.size (s.second k)
  plan_second = p.below (s.second k) (sh.inside k h)

-- tables that agree where a plan goes give it the same total
pub total_cong : (s : Shape) (t u : Costs) (x : ℕ → ℕ) → t.constant ≡ u.constant
    → ((i : ℕ) → i < s.trains → t.choice i (x i) ≡ u.choice i (x i))
    → ((k : ℕ) → k < s.pairs → t.pair k (x (s.first k)) (x (s.second k)) ≡ u.pair k (x (s.first k)) (x (s.second k)))
    → total s t x ≡ total s u x
unfolding total choice_total pair_total
total_cong s t u x e f g = omega (arith, sum_cong s.trains _ _ f, sum_cong s.pairs _ _ g)

-- plans that agree on every train cost the same
pub plan_cong : (s : Shape) (t : Costs) (x y : ℕ → ℕ) → ((i : ℕ) → i < s.trains → x i ≡ y i)
    → ((j : ℕ) → j < s.pairs → (s.first j < s.trains) × (s.second j < s.trains)) → total s t x ≡ total s t y
unfolding total choice_total pair_total
plan_cong s t x y same inside =
    omega (
      arith,
      sum_cong s.trains (λ i. t.choice i (x i)) (λ i. t.choice i (y i)) (λ i h. ap (t.choice i) (same i h)),
      sum_cong s.pairs (λ j. t.pair j (x (s.first j)) (x (s.second j))) (λ j. t.pair j (y (s.first j)) (y (s.second j)))
          (λ j h. ap₂ (t.pair j) (same (s.first j) (inside j h).0) (same (s.second j) (inside j h).1)),
    )

-- the constant is at most every total
pub constant_at_most_total : (s : Shape) (t : Costs) (x : ℕ → ℕ) → t.constant ≤ total s t x
unfolding total
constant_at_most_total s t x = omega arith

-- so is each cost that a plan pays
pub choice_at_most_total : (s : Shape) (t : Costs) (x : ℕ → ℕ) (i : ℕ) → i < s.trains → t.constant + t.choice i (x i) ≤ total s t x
unfolding total choice_total
choice_at_most_total s t x i h = omega (arith, sum_term s.trains i (λ j. t.choice j (x j)) h)

pub pair_at_most_total : (s : Shape) (t : Costs) (x : ℕ → ℕ) (k : ℕ) → k < s.pairs
    → t.constant + t.pair k (x (s.first k)) (x (s.second k)) ≤ total s t x
unfolding total pair_total
pair_at_most_total s t x k h = omega (arith, sum_term s.pairs k (λ l. t.pair l (x (s.first l)) (x (s.second l))) h)

-- what a plan pays for a pair and its two trains is at most its total
pub two_at_most_total : (s : Shape) → Shaped s → (t : Costs) (x : ℕ → ℕ) (k : ℕ) → k < s.pairs
    → t.constant + t.choice (s.first k) (x (s.first k)) + t.choice (s.second k) (x (s.second k)) + t.pair k (x (s.first k)) (x (s.second k)) ≤ total s t x
unfolding total choice_total pair_total
two_at_most_total s sh t x k h =
    omega (
      arith,
      sum_terms s.trains (s.first k) (s.second k) (λ i. t.choice i (x i)) (sh.ascends k h) (sh.inside k h),
      sum_term s.pairs k (λ l. t.pair l (x (s.first l)) (x (s.second l))) h,
    )

-- ---- shapes that agree where they are used

-- they give every choice of trains the same total
pub alike_total : {s u : Shape} → AlikeShapes s u → (t : Costs) (x : ℕ → ℕ) → total s t x ≡ total u t x
unfolding total choice_total pair_total
alike_total {s} {u} e t x =
    omega (
      arith,
      ap (λ (n : ℕ). sum n (λ i. t.choice i (x i))) e.trains_same,
      ap (λ (m : ℕ). sum m (λ k. t.pair k (x (u.first k)) (x (u.second k)))) e.pairs_same,
      sum_cong s.pairs (λ k. t.pair k (x (s.first k)) (x (s.second k))) (λ k. t.pair k (x (u.first k)) (x (u.second k)))
          (λ k h. ap₂ (λ (i j : ℕ). t.pair k (x i) (x j)) (e.firsts_same k h) (e.seconds_same k h)),
    )

module _ {s u : Shape} (e : AlikeShapes s u) (sh : Shaped s) where
  -- a pair's trains are as large
  pub first-size : (k : ℕ) → k < s.pairs → s.size (s.first k) ≡ u.size (u.first k)
  first-size k h = e.sizes_same (s.first k) (omega (arith, sh.ascends k h, sh.inside k h)) ∙ ap u.size (e.firsts_same k h)

  pub second-size : (k : ℕ) → k < s.pairs → s.size (s.second k) ≡ u.size (u.second k)
  second-size k h = e.sizes_same (s.second k) (sh.inside k h) ∙ ap u.size (e.seconds_same k h)

  -- and are there alike
  pub alike_inside : (k : ℕ) → k < u.pairs → (u.first k < s.trains) × (u.second k < s.trains)
  alike_inside k h =
      let q : k < s.pairs = omega (arith, e.pairs_same) in
      (omega (arith, e.firsts_same k q, sh.ascends k q, sh.inside k q), omega (arith, e.seconds_same k q, sh.inside k q))

  pub alike_shaped : Shaped u
  alike_shaped =
      record {
        filled = λ i h. let q : i < s.trains = omega (arith, e.trains_same) in omega (arith, e.sizes_same i q, sh.filled i q);
        ascends = λ k h. let q : k < s.pairs = omega (arith, e.pairs_same) in omega (arith, e.firsts_same k q, e.seconds_same k q, sh.ascends k q);
        inside = λ k h. omega (arith, e.trains_same, (alike_inside k h).1);
        apart = λ k l h q f g.
            let p : k < s.pairs = omega (arith, e.pairs_same) in
            let r : l < s.pairs = omega (arith, e.pairs_same) in
            sh.apart k l p r (e.firsts_same k p ∙ f ∙ sym (e.firsts_same l r)) (e.seconds_same k p ∙ g ∙ sym (e.seconds_same l r));
      }

  pub alike_back : AlikeShapes u s
  alike_back =
      record {
        trains_same = sym e.trains_same;
        sizes_same = λ i h. sym (e.sizes_same i (omega (arith, e.trains_same)));
        pairs_same = sym e.pairs_same;
        firsts_same = λ k h. sym (e.firsts_same k (omega (arith, e.pairs_same)));
        seconds_same = λ k h. sym (e.seconds_same k (omega (arith, e.pairs_same)));
        choices_open_same = λ i a h q.
            let r : i < s.trains = omega (arith, e.trains_same) in sym (e.choices_open_same i a r (omega (arith, e.sizes_same i r)));
        entries_open_same = λ k a c h p q.
            let r : k < s.pairs = omega (arith, e.pairs_same) in
            sym (e.entries_open_same k a c r (omega (arith, first-size k r)) (omega (arith, second-size k r)));
      }

  pub alike_then : {v : Shape} → AlikeShapes u v → AlikeShapes s v
  alike_then f =
      record {
        trains_same = e.trains_same ∙ f.trains_same;
        sizes_same = λ i h. e.sizes_same i h ∙ f.sizes_same i (omega (arith, e.trains_same));
        pairs_same = e.pairs_same ∙ f.pairs_same;
        firsts_same = λ k h. e.firsts_same k h ∙ f.firsts_same k (omega (arith, e.pairs_same));
        seconds_same = λ k h. e.seconds_same k h ∙ f.seconds_same k (omega (arith, e.pairs_same));
        choices_open_same = λ i a h q.
            e.choices_open_same i a h q ∙ f.choices_open_same i a (omega (arith, e.trains_same)) (omega (arith, e.sizes_same i h));
        entries_open_same = λ k a c h p q.
            e.entries_open_same k a c h p q
            ∙ f.entries_open_same k a c (omega (arith, e.pairs_same)) (omega (arith, first-size k h)) (omega (arith, second-size k h));
      }

  -- they have the same plans
  pub alike_plan : (x : ℕ → ℕ) → IsPlan u x → IsPlan s x
  alike_plan x p =
      record {
        below = below;
        choices = λ i h. e.choices_open_same i (x i) h (below i h) ∙ p.choices i (omega (arith, e.trains_same));
        entries = λ k h.
            e.entries_open_same k _ _ h (below (s.first k) (omega (arith, sh.ascends k h, sh.inside k h))) (below (s.second k) (sh.inside k h))
            ∙ ap₂ (λ (i j : ℕ). u.entry_open k (x i) (x j)) (e.firsts_same k h) (e.seconds_same k h) ∙ p.entries k (omega (arith, e.pairs_same));
      }
    where
      below : (i : ℕ) → i < s.trains → x i < s.size i
      below i h = omega (arith, p.below i (omega (arith, e.trains_same)), e.sizes_same i h)

-- ---- blocks of the same shape

module _ {b c : List ℤ} (e : SameShape b c) (s : Study b) where
  -- the shape of b, but open where c is
  abbrev open_after_lem : Shape
  open_after_lem =
      record {
        trains = trains b;
        size = size b;
        pairs = pairs b;
        first = first b;
        second = second b;
        choice_open = (shape_of c).choice_open;
        entry_open = (shape_of c).entry_open;
      }

  after : AlikeShapes (shape_of c) open_after_lem
  after =
      record {
        trains_same = same_trains e;
        sizes_same = λ i h. same_size e i (omega (arith, same_trains e, trains_range s));
        pairs_same = same_pairs e;
        firsts_same = λ k h. same_first e k (omega (arith, same_pairs e, pairs_range s));
        seconds_same = λ k h. same_second e k (omega (arith, same_pairs e, pairs_range s));
        choices_open_same = λ i a h q. refl;
        entries_open_same = λ k a c h p q. refl;
      }

  -- totals do not ask what is open
  pub same_shape_total : (t : Costs) (x : ℕ → ℕ) → total (shape_of c) t x ≡ total (shape_of b) t x
  unfolding total choice_total pair_total
  same_shape_total t x = alike_total after t x

  pub same_shape_alike : SameOpen b c → AlikeShapes (shape_of c) (shape_of b)
  same_shape_alike o =
      record {
        trains_same = after.trains_same;
        sizes_same = after.sizes_same;
        pairs_same = after.pairs_same;
        firsts_same = after.firsts_same;
        seconds_same = after.seconds_same;
        choices_open_same = λ i a h q. o (loaded_choice_place i a) (omega arith);
        entries_open_same = λ k a c h p q. o (loaded_entry_place k a c) (omega arith);
      }
