-- Why a reason holds: a plan pays the constant, its choice, and for a pair its entry and the partner's choice, which is one of those over which the least was taken. And which train is named.
use mathlib.Core.Path.{◌≡◌, refl, sym, subst}
use mathlib.Core.Bool.{Bool, true, false, cond, not, ◌&&◌, ◌||◌}
use mathlib.Core.Logic.{◌⊎◌, inl, inr, ⊎_elim}
use Prim.Native.Nat.{ℕ, ◌<◌, ◌≤◌}
use native.Mathlib.Omega.{arith}
use lib.Dec.{eqb}
use borrow.Author.Tests.{eqb-true, eq-eqb, leb-true, le-leb}
use Rattle.std.specs.Prelude.{Option, Some, None}
use Rattle.theory.proofs.Range.{both_true, not_both}
use Rattle.tables.specs.Plans.{Shape, Costs, IsPlan, PairOf, total}
use Rattle.tables.proofs.Plans.{Shaped, choice_at_most_total, two_at_most_total, plan_first, plan_second}
use Rattle.rewriting.specs.declared.sides.Side.TheVariants.{Rows, Columns}
use Rattle.reasons.specs.declared.Reason.TheVariants.{Neither, Own, Partner}
use Rattle.theory.specs.First.{first_passing}
use Rattle.reasons.specs.Reasons.{own_cost, own_reaches, pair_reaches, out_by, partner_in, named, reason_of, reason_number}
use Rattle.theory.proofs.First.{first_is, none_passes}
use Rattle.reasons.proofs.Found.{or_right, pair_one}

both_from : (a b : Bool) → a ≡ true → b ≡ true → a && b ≡ true
both_from true b p q = q
both_from false b p q = absurd (not_both p refl)

either_true : (a b : Bool) → a || b ≡ true → (a ≡ true) ⊎ (b ≡ true)
either_true true b e = inl refl
either_true false b e = inr e

-- ---- which pairs

-- a pair that reaches has the train as its first or as its second
out_either : (s : Shape) (t : Costs) (i a limit k : ℕ) → out_by s t i a limit k ≡ true
    → ((s.first k ≡ i) × (pair_reaches s t Rows k i a limit ≡ true)) ⊎ ((s.second k ≡ i) × (pair_reaches s t Columns k i a limit ≡ true))
unfolding out_by
out_either s t i a limit k e =
    ⊎_elim
    (λ (l : eqb (s.first k) i && pair_reaches s t Rows k i a limit ≡ true). let p = both_true _ _ l in inl (eqb-true (s.first k) i p.0, p.1))
    (λ (r : eqb (s.second k) i && pair_reaches s t Columns k i a limit ≡ true). let p = both_true _ _ r in inr (eqb-true (s.second k) i p.0, p.1))
    (either_true _ _ e)

-- ---- what a plan with the choice costs

module _ {s : Shape} (sh : Shaped s) (t : Costs) (x : ℕ → ℕ) (plan : IsPlan s x) where
  -- 01
  own_holds : (i : ℕ) → i < s.trains → (limit : ℕ) → own_reaches s t i (x i) limit ≡ true → limit ≤ total s t x
  unfolding own_reaches
  own_holds i h limit e = omega (arith, leb-true limit (own_cost t i (x i)) (or_right (s.choice_open i (x i)) _ (plan.choices i h) e), choice_at_most_total s t x i h)

  -- 02, by rows and by columns
  rows_hold : (k : ℕ) → k < s.pairs → (limit : ℕ) → pair_reaches s t Rows k (s.first k) (x (s.first k)) limit ≡ true → limit ≤ total s t x
  rows_hold k h limit e =
      let o = both_from _ _ (plan.choices (s.second k) (sh.inside k h)) (plan.entries k h) in
      omega (arith, pair_one s t Rows k (s.first k) (x (s.first k)) limit e (x (s.second k)) (plan_second s sh x plan k h) o, two_at_most_total s sh t x k h)

  columns_hold : (k : ℕ) → k < s.pairs → (limit : ℕ) → pair_reaches s t Columns k (s.second k) (x (s.second k)) limit ≡ true → limit ≤ total s t x
  columns_hold k h limit e =
      let o = both_from _ _ (plan.choices (s.first k) (omega (arith, sh.ascends k h, sh.inside k h))) (plan.entries k h) in
      omega (arith, pair_one s t Columns k (s.second k) (x (s.second k)) limit e (x (s.first k)) (plan_first s sh x plan k h) o, two_at_most_total s sh t x k h)

  out_holds : (i limit k : ℕ) → k < s.pairs → out_by s t i (x i) limit k ≡ true → limit ≤ total s t x
  out_holds i limit k h e =
      ⊎_elim
      (λ (p : (s.first k ≡ i) × (pair_reaches s t Rows k i (x i) limit ≡ true)). rows_hold k h limit (subst (λ (j : ℕ). pair_reaches s t Rows k j (x j) limit ≡ true) (sym p.0) p.1))
      (λ (p : (s.second k ≡ i) × (pair_reaches s t Columns k i (x i) limit ≡ true)). columns_hold k h limit (subst (λ (j : ℕ). pair_reaches s t Columns k j (x j) limit ≡ true) (sym p.0) p.1))
      (out_either s t i (x i) limit k e)

-- 'where 01 or 02 stands, every plan with that choice costs the limit or more': of every shape, in parts
pub reason_holds : {s : Shape} → Shaped s → (t : Costs) (x : ℕ → ℕ) → IsPlan s x → (i : ℕ) → i < s.trains → (limit : ℕ)
    → (reason_number (reason_of s t i (x i) limit) ≡ 0 → ⊥) → limit ≤ total s t x
unfolding reason_of
reason_holds {s} sh t x plan i h limit r = go (own_reaches s t i (x i) limit) refl r
  where
    by : (so : Option ℕ) → first_passing s.pairs (out_by s t i (x i) limit) ≡ so → (reason_number (named s i so) ≡ 0 → ⊥) → limit ≤ total s t x
    by (Some k) e q = let w = first_is s.pairs (out_by s t i (x i) limit) k e in out_holds sh t x plan i limit k w.there w.passes
    by None e q = absurd (q refl)

    go : (u : Bool) → own_reaches s t i (x i) limit ≡ u → (reason_number (cond u Own (named s i (first_passing s.pairs (out_by s t i (x i) limit)))) ≡ 0 → ⊥) → limit ≤ total s t x
    go true e q = own_holds sh t x plan i h limit e
    go false e q = by (first_passing s.pairs (out_by s t i (x i) limit)) refl q

-- ---- which train is named

-- the first pair that has the train and reaches the limit, and the named train in it; the choice alone does not
pub record Names (s : Shape) (t : Costs) (i a limit j : ℕ) : Type 0 where
  pub alone : own_reaches s t i a limit ≡ false
  pub pair : ℕ
  pub there : pair < s.pairs
  pub trains : PairOf s i j pair
  pub reaches : out_by s t i a limit pair ≡ true
  pub earlier : (l : ℕ) → l < pair → out_by s t i a limit l ≡ false

-- the train that such a pair has beside i
partner_is : (s : Shape) (i k : ℕ) → (s.first k ≡ i) ⊎ (s.second k ≡ i) → PairOf s i (partner_in s i k) k
partner_is s i k h = go (eqb (s.first k) i) refl
  where
    go : (u : Bool) → eqb (s.first k) i ≡ u → PairOf s i (cond u (s.second k) (s.first k)) k
    go true e = inl (eqb-true (s.first k) i e, refl)
    go false e = inr (⊎_elim (λ (q : s.first k ≡ i). absurd (not_both (eq-eqb (s.first k) i q) e)) (λ (q : s.second k ≡ i). q) h, refl)

partner_same : (i j : ℕ) → Partner i ≡ Partner j → i ≡ j
partner_same i j e = cc

pub reason_names : (s : Shape) (t : Costs) (i a limit j : ℕ) → reason_of s t i a limit ≡ Partner j → Names s t i a limit j
unfolding reason_of
reason_names s t i a limit j e = go (own_reaches s t i a limit) refl (first_passing s.pairs (out_by s t i a limit)) refl e
  where
    go : (u : Bool) → own_reaches s t i a limit ≡ u → (so : Option ℕ) → first_passing s.pairs (out_by s t i a limit) ≡ so → cond u Own (named s i so) ≡ Partner j → Names s t i a limit j
    go true o so q e = let z : ◌≡◌ {A = ℕ} 0 1 = cc in absurd (omega arith)
    go false o None q e = let z : ◌≡◌ {A = ℕ} 0 1 = cc in absurd (omega arith)
    go false o (Some k) q e =
        let w = first_is s.pairs (out_by s t i a limit) k q in
        let m = partner_is s i k (⊎_elim (λ p. inl p.0) (λ p. inr p.0) (out_either s t i a limit k w.passes)) in
        record { alone = o; pair = k; there = w.there; trains = subst (λ (l : ℕ). PairOf s i l k) (partner_same (partner_in s i k) j e) m; reaches = w.passes; earlier = w.earlier }

-- ---- each reason, by what stands

module _ (s : Shape) (t : Costs) (i a limit : ℕ) where
  -- 'or the choice is forbidden': 01 at every limit
  pub forbidden_own : s.choice_open i a ≡ false → reason_of s t i a limit ≡ Own
  unfolding reason_of own_reaches
  forbidden_own e = rw e refl

  -- 01 is of the choice alone
  pub reason_own : reason_of s t i a limit ≡ Own → own_reaches s t i a limit ≡ true
  unfolding reason_of
  reason_own e = go (own_reaches s t i a limit) (first_passing s.pairs (out_by s t i a limit)) e
    where
      go : (u : Bool) (so : Option ℕ) → cond u Own (named s i so) ≡ Own → u ≡ true
      go true so q = refl
      go false None q = let z : ◌≡◌ {A = ℕ} 0 1 = cc in absurd (omega arith)
      go false (Some k) q = let z : ◌≡◌ {A = ℕ} 0 1 = cc in absurd (omega arith)

  -- '00 means neither'
  pub reason_neither : reason_of s t i a limit ≡ Neither → (own_reaches s t i a limit ≡ false) × ((k : ℕ) → k < s.pairs → out_by s t i a limit k ≡ false)
  unfolding reason_of
  reason_neither e = go (own_reaches s t i a limit) (first_passing s.pairs (out_by s t i a limit)) refl e
    where
      go : (u : Bool) (so : Option ℕ) → first_passing s.pairs (out_by s t i a limit) ≡ so → cond u Own (named s i so) ≡ Neither → (u ≡ false) × ((k : ℕ) → k < s.pairs → out_by s t i a limit k ≡ false)
      go true so p q = let z : ◌≡◌ {A = ℕ} 0 1 = cc in absurd (omega arith)
      go false None p q = (refl, none_passes s.pairs (out_by s t i a limit) p)
      go false (Some k) p q = let z : ◌≡◌ {A = ℕ} 0 1 = cc in absurd (omega arith)

-- a limit of 0 is reached by every choice
pub limit_none : (s : Shape) (t : Costs) (i a : ℕ) → reason_of s t i a 0 ≡ Own
unfolding reason_of own_reaches
limit_none s t i a = rw (le-leb 0 (own_cost t i a) (omega arith)) (go (s.choice_open i a))
  where
    go : (u : Bool) → cond (not u || true) Own (named s i (first_passing s.pairs (out_by s t i a 0))) ≡ Own
    go true = refl
    go false = refl
