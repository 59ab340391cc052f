-- The ceiling holds against every rival by lifts and moves: over the product of all its denominators its amounts are naturals, and what it leaves is a rewriting of the costs,
-- which keeps their weighted total. W times its constant is at most that, since no open entry is below 0.
use mathlib.Core.Path.{◌≡◌, refl, subst}
use mathlib.Core.Bool.{Bool, true, false, cond}
use Prim.Native.Nat.{ℕ, ◌+◌, ◌*◌, ◌-◌, ◌≤◌, ◌<◌, ◌∣◌}
use native.Mathlib.Nat.{mul-add, mul_comm, mul-pos, zero-mul, dvd-mul_left, dvd-mul_right, dvd-mul_left_of_dvd, dvd-mul_right_of_dvd, dvd_trans}
use native.Mathlib.Omega.{arith}
use lib.Dec.{eqb}
use borrow.Author.Tests.{eqb-true}
use Rattle.theory.specs.Sum.{sum}
use Rattle.tables.specs.Plans.{Costs, Shape}
use Rattle.certificates.specs.Rival.{Fraction, as_fraction, sum_of, scaled}
use Rattle.certificates.proofs.Fractions.{Over, over_number, over_plus, over_times, over_sum, at_most_over, over_at_most, up as numerator, up_over, prod, prod_divides, prod_above}
use Rattle.tables.proofs.Plans.{Shaped}
use Rattle.certificates.specs.Certify.{Weights, weighted}
use Rattle.certificates.proofs.Agrees.{Agrees}
use Rattle.certificates.proofs.Rivals.{weighted-scaled}
use Rattle.weights.specs.Weights.{Spares}
use Rattle.weights.specs.Moves.{Moves, given, Rewritten}
use Rattle.weights.specs.Rival.{Amounts, given_of, Leaves, LiftsAtMost}
use Rattle.weights.proofs.Rewritten.{rewritten_weighted}

-- ---- over one denominator: the rival's amounts are naturals

-- moves that take from each open entry of t no more than is there and comes
record Leaving (s : Shape) (t : Costs) (up down : Moves) : Type 0 where
  choices : (i a : ℕ) → i < s.trains → a < s.size i → s.choice_open i a ≡ true → up.lift i + given s down i a ≤ t.choice i a + down.lift i + given s up i a
  entries : (k a c : ℕ) → k < s.pairs → a < s.size (s.first k) → c < s.size (s.second k) → s.entry_open k a c ≡ true
      → up.row k a + up.column k c ≤ t.pair k a c + down.row k a + down.column k c

module _ (s : Shape) (t : Costs) (up down : Moves) where
  -- the costs, with a constant that the losses are taken from
  before : Costs
  before = record { constant = t.constant + sum s.trains down.lift; choice = t.choice; pair = t.pair }

  -- what the moves leave
  after : Costs
  after =
      record {
        constant = t.constant + sum s.trains up.lift;
        choice = λ i a. t.choice i a + down.lift i + given s up i a - (up.lift i + given s down i a);
        pair = λ k a c. t.pair k a c + down.row k a + down.column k c - (up.row k a + up.column k c);
      }

  left_rewritten : Leaving s t up down → Rewritten s before after up down
  unfolding before after
  left_rewritten l =
      record {
        constant = omega arith;
        choices = λ i a p q o. omega (arith, l.choices i a p q o);
        entries = λ k a c p q r o. omega (arith, l.entries k a c p q r o);
      }

  -- W × the constant that results is at most the weighted total, before the losses are taken off
  leaving_bound : Shaped s → (w : Weights) → Agrees s w → Spares s w → Leaving s t up down
      → w.full_weight * (t.constant + sum s.trains up.lift) ≤ weighted s w t + w.full_weight * sum s.trains down.lift
  unfolding weighted before after
  leaving_bound sh w ag sp l =
      omega (
        arith,
        rewritten_weighted s sh w ag sp before after up down (left_rewritten l),
        mul-add w.full_weight t.constant (sum s.trains down.lift),
      )

-- ---- the common denominator

-- where a test holds
over_if : (d : ℕ) (b : Bool) (f : Fraction) (u : ℕ) → (b ≡ true → Over d f u) → Over d (cond b f (as_fraction 0)) (cond b u 0)
over_if d true f u h = h refl
over_if d false f u h = subst (Over d (as_fraction 0)) (zero-mul d) (over_number d 0)

module _ (s : Shape) (m : Amounts) where
  -- the denominators of the lifts, of the rows and of the columns
  lift_dens : ℕ
  lift_dens = prod s.trains (λ i. (m.lift i).den)

  row_dens : ℕ
  row_dens = prod s.pairs (λ k. prod (s.size (s.first k)) (λ a. (m.row k a).den))

  column_dens : ℕ
  column_dens = prod s.pairs (λ k. prod (s.size (s.second k)) (λ c. (m.column k c).den))

  dens : ℕ
  dens = lift_dens * (row_dens * column_dens)

  dens_above : 0 < dens
  unfolding dens lift_dens row_dens column_dens
  dens_above =
      mul-pos (prod_above s.trains _ (λ i. (m.lift i).above))
      (mul-pos (prod_above s.pairs _ (λ k. prod_above (s.size (s.first k)) _ (λ a. (m.row k a).above)))
      (prod_above s.pairs _ (λ k. prod_above (s.size (s.second k)) _ (λ c. (m.column k c).above))))

  -- over any number that they divide, the amounts are naturals
  module _ (d : ℕ) (h : dens ∣ d) where
    numerators : Moves
    numerators = record { lift = λ i. numerator d (m.lift i); row = λ k a. numerator d (m.row k a); column = λ k c. numerator d (m.column k c) }

    lift_over : (i : ℕ) → i < s.trains → Over d (m.lift i) (numerator d (m.lift i))
    unfolding dens lift_dens
    lift_over i p = up_over d (m.lift i) (dvd_trans _ (dvd-mul_right_of_dvd _ (prod_divides s.trains (λ j. (m.lift j).den) i p) (row_dens * column_dens)) h)

    row_over : (k a : ℕ) → k < s.pairs → a < s.size (s.first k) → Over d (m.row k a) (numerator d (m.row k a))
    unfolding dens row_dens
    row_over k a p q =
        up_over d (m.row k a) (dvd_trans _ (dvd-mul_left_of_dvd _ (dvd-mul_right_of_dvd _
        (dvd_trans _ (prod_divides (s.size (s.first k)) (λ b. (m.row k b).den) a q) (prod_divides s.pairs (λ l. prod (s.size (s.first l)) (λ b. (m.row l b).den)) k p))
        column_dens) lift_dens) h)

    column_over : (k c : ℕ) → k < s.pairs → c < s.size (s.second k) → Over d (m.column k c) (numerator d (m.column k c))
    unfolding dens column_dens
    column_over k c p q =
        up_over d (m.column k c) (dvd_trans _ (dvd-mul_left_of_dvd _ (dvd-mul_left_of_dvd _
        (dvd_trans _ (prod_divides (s.size (s.second k)) (λ b. (m.column k b).den) c q) (prod_divides s.pairs (λ l. prod (s.size (s.second l)) (λ b. (m.column l b).den)) k p))
        row_dens) lift_dens) h)

    lifts_over : Over d (sum_of s.trains m.lift) (sum s.trains numerators.lift)
    unfolding numerators
    lifts_over = over_sum d s.trains m.lift _ lift_over

    given_over : (i a : ℕ) → a < s.size i → Over d (given_of s m i a) (given s numerators i a)
    unfolding given_of given numerators
    given_over i a q =
        over_sum d s.pairs _ _ (λ k p.
        over_plus d _ _ _ _
        (over_if d (eqb (s.first k) i) (m.row k a) _ (λ e. row_over k a p (rw (eqb-true (s.first k) i e) q)))
        (over_if d (eqb (s.second k) i) (m.column k a) _ (λ e. column_over k a p (rw (eqb-true (s.second k) i e) q))))

-- ---- of every rival by lifts and moves: W × the sum of its lifts is at most E

module _ (s : Shape) (t : Costs) (up down : Amounts) where
  common : ℕ
  common = dens s up * dens s down

  up_divides : dens s up ∣ common
  unfolding common
  up_divides = dvd-mul_right (dens s up) (dens s down)

  down_divides : dens s down ∣ common
  unfolding common
  down_divides = dvd-mul_left (dens s down) (dens s up)

  common_above : 0 < common
  unfolding common
  common_above = mul-pos (dens_above s up) (dens_above s down)

  gains : Moves
  gains = numerators s up common up_divides

  losses : Moves
  losses = numerators s down common down_divides

  -- its amounts, over the common denominator
  leaves_over : Leaves s t up down → Leaving s (scaled common t) gains losses
  unfolding gains losses numerators
  leaves_over l =
      let d = common in
      record {
        choices = λ i a p q o.
            omega (
              arith,
              mul_comm d (t.choice i a),
              at_most_over d _ _ _ _
                  (over_plus d _ _ _ _ (lift_over s up d up_divides i p) (given_over s down d down_divides i a q))
                  (over_plus d _ _ _ _ (over_plus d _ _ _ _ (over_number d (t.choice i a)) (lift_over s down d down_divides i p)) (given_over s up d up_divides i a q))
                  (l.choices i a p q o),
            );
        entries = λ k a c p q r o.
            omega (
              arith,
              mul_comm d (t.pair k a c),
              at_most_over d _ _ _ _
                  (over_plus d _ _ _ _ (row_over s up d up_divides k a p q) (column_over s up d up_divides k c p r))
                  (over_plus d _ _ _ _ (over_plus d _ _ _ _ (over_number d (t.pair k a c)) (row_over s down d down_divides k a p q)) (column_over s down d down_divides k c p r))
                  (l.entries k a c p q r o),
            );
      }

  pub moved_ceiling : Shaped s → (w : Weights) → Agrees s w → Spares s w → Leaves s t up down → LiftsAtMost s w.full_weight (weighted s w t) up down
  unfolding LiftsAtMost gains losses
  moved_ceiling sh w ag sp l =
      let d = common in
      over_at_most d _ _ _ _
      (over_times d w.full_weight _ _ (lifts_over s up d up_divides))
      (over_plus d _ _ _ _ (over_number d (weighted s w t)) (over_times d w.full_weight _ _ (lifts_over s down d down_divides)))
      common_above
      (omega (
        arith,
        mul_comm d (weighted s w t),
        weighted-scaled s d t w,
        leaving_bound s (scaled d t) gains losses sh w ag sp (leaves_over l),
        mul-add w.full_weight (d * t.constant) (sum s.trains gains.lift),
      ))
