-- A plan that costs nothing beyond the constant, where nothing is forbidden, train by train from 0 up: a train that is second to no pair takes its free choice; a train that is second
-- to one pair takes the free entry of that pair in the row of its first train, which is lower and has chosen. Shapes and costs only, for every size.
use mathlib.Core.Path.{◌≡◌, sym, ◌∙◌}
use mathlib.Core.Bool.{true}
use mathlib.Core.Logic.{◌⊎◌, inl, inr, ⊎_elim, dite, ◌≢◌}
use Prim.Native.Nat.{ℕ, zero, suc, ◌+◌, ◌<◌, ◌≤◌}
use native.Mathlib.Decide.{ℕ_discrete}
use native.Mathlib.Numerals.{add-one}
use native.Mathlib.Omega.{arith}
use Rattle.theory.specs.Sum.{update}
use Rattle.theory.proofs.Range.{below_suc}
use Rattle.theory.proofs.Sum.{sum_cong, sum-zero, update_same, update_other}
use Rattle.tables.specs.Plans.{Shape, Costs, IsPlan, Open, choice_total, pair_total, total, Branches, LeastOf}
use Rattle.tables.proofs.Plans.{Shaped, open_plan, constant_at_most_total}

-- a permitted choice of train i that costs nothing
pub record FreeChoice (s : Shape) (t : Costs) (i : ℕ) : Type 0 where
  pub which : ℕ
  pub below : which < s.size i
  pub permitted : s.choice_open i which ≡ true
  pub is : t.choice i which ≡ 0

-- a permitted entry of row a of pair k that costs nothing
pub record FreeEntry (s : Shape) (t : Costs) (k a : ℕ) : Type 0 where
  pub which : ℕ
  pub below : which < s.size (s.second k)
  pub permitted : s.entry_open k a which ≡ true
  pub is : t.pair k a which ≡ 0

-- what a round leaves: a permitted choice of a pair's second train costs nothing, each other train with a permitted choice has a free one, and each row of a pair with a permitted entry a free one
pub record Settled (s : Shape) (t : Costs) : Type 0 where
  pub seconds : (k a : ℕ) → k < s.pairs → a < s.size (s.second k) → s.choice_open (s.second k) a ≡ true → t.choice (s.second k) a ≡ 0
  pub others : (i a : ℕ) → i < s.trains → a < s.size i → s.choice_open i a ≡ true → ((k : ℕ) → k < s.pairs → s.second k ≢ i) → FreeChoice s t i
  pub rows : (k a y : ℕ) → k < s.pairs → a < s.size (s.first k) → y < s.size (s.second k) → s.entry_open k a y ≡ true → FreeEntry s t k a

-- a number below m at which f is v, or there is none
pub record Found (m : ℕ) (f : ℕ → ℕ) (v : ℕ) : Type 0 where
  pub which : ℕ
  pub below : which < m
  pub is : f which ≡ v

pub find : (m : ℕ) (f : ℕ → ℕ) (v : ℕ) → Found m f v ⊎ ((k : ℕ) → k < m → f k ≢ v)
find zero f v = inr (λ k h e. omega arith)
find (suc m) f v =
    dite (ℕ_discrete (f m) v) (λ e. inl (record { which = m; below = omega arith; is = e }))
    (λ ne. ⊎_elim
    (λ (w : Found m f v). inl (record { which = w.which; below = omega (arith, w.below); is = w.is }))
    (λ (w : (k : ℕ) → k < m → f k ≢ v). inr (λ k h e. ⊎_elim (λ (q : k ≡ m). ne (rw q at e)) (λ (q : k < m). w k q e) (below_suc k m h)))
    (find m f v))

-- choices for the first n trains, at which neither they nor the pairs among them cost anything
pub record Begun (s : Shape) (t : Costs) (n : ℕ) : Type 0 where
  pub plan : ℕ → ℕ
  pub inside : (i : ℕ) → i < n → plan i < s.size i
  pub choices : (i : ℕ) → i < n → t.choice i (plan i) ≡ 0
  pub pairs : (k : ℕ) → k < s.pairs → s.second k < n → t.pair k (plan (s.first k)) (plan (s.second k)) ≡ 0

module _ (s : Shape) (t : Costs) (sh : Shaped s) where
  -- choice a for the next train: what is asked of it, and of the pairs to which it is second
  next : (n a : ℕ) (g : Begun s t n) → a < s.size n → t.choice n a ≡ 0
      → ((k : ℕ) → k < s.pairs → s.second k ≡ n → t.pair k (g.plan (s.first k)) a ≡ 0) → Begun s t (n + 1)
  next n a g h c p =
      record {
        plan = y;
        inside = λ i l. at_train i l (λ v. v < s.size i) (λ e. rw e h) (λ q. g.inside i q);
        choices = λ i l. at_train i l (λ v. t.choice i v ≡ 0) (λ e. rw e c) (λ q. g.choices i q);
        pairs = λ k l q. at_pair k l q (ℕ_discrete (s.second k) n);
      }
    where
      y : ℕ → ℕ
      y = update g.plan n a

      earlier : (i : ℕ) → i < n → y i ≡ g.plan i
      earlier i l = update_other g.plan n a i (λ e. omega arith)

      at_train : (i : ℕ) → i < n + 1 → (P : ℕ → Type 0) → (i ≡ n → P a) → (i < n → P (g.plan i)) → P (y i)
      at_train i l P v w = by (ℕ_discrete i n)
        where
          by : Dec (i ≡ n) → P (y i)
          by (yes e) = rw (update_same g.plan n a i e) (v e)
          by (no e) = rw (update_other g.plan n a i e) (w (omega arith))

      at_pair : (k : ℕ) → k < s.pairs → s.second k < n + 1 → Dec (s.second k ≡ n) → t.pair k (y (s.first k)) (y (s.second k)) ≡ 0
      at_pair k l q (yes e) =
          rw (earlier (s.first k) (omega (arith, sh.ascends k l)), update_same g.plan n a (s.second k) e) (p k l e)
      at_pair k l q (no e) =
          rw (earlier (s.first k) (omega (arith, sh.ascends k l)), earlier (s.second k) (omega arith)) (g.pairs k l (omega arith))

  module _ (v : Open s) (o : Branches s) (w : Settled s t) where
    -- one train more
    more : (n : ℕ) → n < s.trains → Begun s t n → Begun s t (n + 1)
    more n h g = ⊎_elim second other (find s.pairs s.second n)
      where
        entry : (f : Found s.pairs s.second n) → FreeEntry s t f.which (g.plan (s.first f.which)) → Begun s t (n + 1)
        entry f r =
            next n r.which g (rw f.is at r.below) (rw f.is at (w.seconds f.which r.which f.below r.below (v.choices (s.second f.which) r.which (sh.inside f.which f.below) r.below)))
            (λ l q e. rw (o.one l f.which q f.below (e ∙ sym f.is)) r.is)

        second : Found s.pairs s.second n → Begun s t (n + 1)
        second f =
            let k = f.which in
            let a = g.plan (s.first k) in
            let q = g.inside (s.first k) (omega (arith, sh.ascends k f.below, f.is)) in
            let r = sh.filled (s.second k) (sh.inside k f.below) in
            entry f (w.rows k a 0 f.below q r (v.entries k a 0 f.below q r))

        other : ((k : ℕ) → k < s.pairs → s.second k ≢ n) → Begun s t (n + 1)
        other f =
            let r = w.others n 0 h (sh.filled n h) (v.choices n 0 h (sh.filled n h)) f in
            next n r.which g r.below r.is (λ k q e. absurd (f k q e))

    pub begun : (n : ℕ) → n ≤ s.trains → Begun s t n
    begun zero h = record { plan = λ i. 0; inside = λ i l. absurd (omega arith); choices = λ i l. absurd (omega arith); pairs = λ k l q. absurd (omega arith) }
    begun (suc n) h = rw (← add-one n) (more n (omega arith) (begun n (omega arith)))

    -- where nothing is forbidden and no two pairs have the same second train, the constant is the least total
    pub settled-least : LeastOf s (total s t) t.constant
    unfolding total choice_total pair_total
    settled-least =
        let g = begun s.trains (omega arith) in
        record {
          least = λ x p. constant_at_most_total s t x;
          plan = g.plan;
          is_plan = open_plan sh v g.plan g.inside;
          is = omega (
            arith,
            sum_cong s.trains (λ i. t.choice i (g.plan i)) (λ i. 0) g.choices,
            sum-zero s.trains,
            sum_cong s.pairs (λ k. t.pair k (g.plan (s.first k)) (g.plan (s.second k))) (λ k. 0) (λ k q. g.pairs k q (sh.inside k q)),
            sum-zero s.pairs,
          );
        }

-- the least of what agrees on plans is the same
pub least_as : {s : Shape} {f g : (ℕ → ℕ) → ℕ} {v : ℕ} → LeastOf s f v → ((x : ℕ → ℕ) → IsPlan s x → f x ≡ g x) → LeastOf s g v
least_as l e =
    record {
      least = λ x p. omega (arith, l.least x p, e x p);
      plan = l.plan;
      is_plan = l.is_plan;
      is = sym (e l.plan l.is_plan) ∙ l.is;
    }
