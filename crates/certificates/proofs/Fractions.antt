-- The bound holds of every rival: over the product of all its denominators, its costs are whole numbers.
use mathlib.Core.Path.{◌≡◌, sym, ap, ap₂, subst, subst₂, ◌∙◌}
use mathlib.Core.Logic.{⊎_elim}
use Prim.Native.Nat.{ℕ, zero, suc, ◌+◌, ◌*◌, ◌/◌, ◌≤◌, ◌<◌, ◌∣◌}
use native.Mathlib.Nat.{add-mul, zero-mul, mul-one, mul_comm, mul_assoc, mul_right_comm, mul-le-mul_right, mul-pos, eq-or-lt_of_le, le_of_suc-le-suc, le_antisymm, le_of_eq, le_of_mul-le-mul_right, div-mul_cancel, dvd-mul_left, dvd-mul_right, dvd-mul_left_of_dvd, dvd-mul_right_of_dvd, dvd_trans}
use native.Mathlib.Omega.{arith}
use Rattle.theory.specs.Sum.{sum}
use Rattle.tables.specs.Plans.{Shape, Costs, IsPlan, Open, choice_total, pair_total, total}
use Rattle.tables.proofs.Plans.{Shaped, plan_first, plan_second}
use Rattle.certificates.specs.Certify.{Weights, weighted}
use Rattle.certificates.specs.Rival.{Fraction, as_fraction, plus, times, sum_of, Same, AtMost, Rival, rival_total, IsRival, ConstantAtMost}
use Rattle.certificates.proofs.Agrees.{Agrees}
use Rattle.certificates.proofs.Rivals.{rival_bound}

-- ---- fractions over one denominator

-- the fraction f is u over d
unfoldable pub Over : ℕ → Fraction → ℕ → Type 0
Over d f u = u * f.den ≡ f.num * d

module _ (d : ℕ) where
  pub over_number : (n : ℕ) → Over d (as_fraction n) (n * d)
  unfolding Over as_fraction
  over_number n = mul-one (n * d)

  pub over_plus : (f g : Fraction) (u v : ℕ) → Over d f u → Over d g v → Over d (plus f g) (u + v)
  unfolding Over plus
  over_plus f g u v p q =
      add-mul u v (f.den * g.den)
      ∙ ap₂ ◌+◌ (sym (mul_assoc u f.den g.den) ∙ ap (λ (k : ℕ). k * g.den) p ∙ mul_right_comm f.num d g.den)
      (ap (λ (k : ℕ). v * k) (mul_comm f.den g.den) ∙ sym (mul_assoc v g.den f.den) ∙ ap (λ (k : ℕ). k * f.den) q ∙ mul_right_comm g.num d f.den)
      ∙ sym (add-mul (f.num * g.den) (g.num * f.den) d)

  pub over_times : (n : ℕ) (f : Fraction) (u : ℕ) → Over d f u → Over d (times n f) (n * u)
  unfolding Over times
  over_times n f u p = mul_assoc n u f.den ∙ ap (λ (k : ℕ). n * k) p ∙ sym (mul_assoc n f.num d)

  pub over_sum : (n : ℕ) (f : ℕ → Fraction) (u : ℕ → ℕ) → ((i : ℕ) → i < n → Over d (f i) (u i)) → Over d (sum_of n f) (sum n u)
  unfolding sum_of sum Over as_fraction
  over_sum zero f u h = sym (zero-mul d)
  over_sum (suc n) f u h = over_plus (sum_of n f) (f n) (sum n u) (u n) (over_sum n f u (λ i l. h i (omega arith))) (h n (omega arith))

  -- two fractions compare as their numerators do
  crossed : (f g : Fraction) (u : ℕ) → Over d f u → u * (f.den * g.den) ≡ f.num * g.den * d
  unfolding Over
  crossed f g u p = sym (mul_assoc u f.den g.den) ∙ ap (λ (k : ℕ). k * g.den) p ∙ mul_right_comm f.num d g.den

  module _ (f g : Fraction) (u v : ℕ) (p : Over d f u) (q : Over d g v) where
    crossed_back : v * (f.den * g.den) ≡ g.num * f.den * d
    crossed_back = ap (λ (k : ℕ). v * k) (mul_comm f.den g.den) ∙ crossed g f v q

    over_same : Same f g → u ≡ v
    unfolding Same
    over_same e =
        let h : u * (f.den * g.den) ≡ v * (f.den * g.den) = crossed f g u p ∙ ap (λ (k : ℕ). k * d) e ∙ sym crossed_back in
        let m : 0 < f.den * g.den = mul-pos f.above g.above in
        le_antisymm (le_of_mul-le-mul_right (le_of_eq h) m) (le_of_mul-le-mul_right (le_of_eq (sym h)) m)

    -- the numerators compare as two fractions do
    pub at_most_over : AtMost f g → u ≤ v
    unfolding AtMost
    at_most_over l =
        le_of_mul-le-mul_right {k = f.den * g.den} (subst₂ ◌≤◌ (sym (crossed f g u p)) (sym crossed_back) (mul-le-mul_right d l)) (mul-pos f.above g.above)

    pub over_at_most : 0 < d → u ≤ v → AtMost f g
    unfolding AtMost
    over_at_most h l = le_of_mul-le-mul_right {k = d} (subst₂ ◌≤◌ (crossed f g u p) crossed_back (mul-le-mul_right (f.den * g.den) l)) h

-- the numerator of f over d
unfoldable pub up : ℕ → Fraction → ℕ
up d f = f.num * (d / f.den)

pub up_over : (d : ℕ) (f : Fraction) → f.den ∣ d → Over d f (up d f)
unfolding up Over
up_over d f h = mul_assoc f.num (d / f.den) f.den ∙ ap (λ (k : ℕ). f.num * k) (div-mul_cancel f.den h)

-- ---- the common denominator

-- products, which each of their factors divides
unfoldable pub prod : ℕ → (ℕ → ℕ) → ℕ
prod zero f = 1
prod (suc n) f = prod n f * f n

pub prod_divides : (n : ℕ) (f : ℕ → ℕ) (i : ℕ) → i < n → f i ∣ prod n f
unfolding prod
prod_divides zero f i h = absurd (omega arith)
prod_divides (suc n) f i h =
    ⊎_elim (λ e. subst (λ (j : ℕ). f j ∣ prod n f * f n) (sym e) (dvd-mul_left (f n) (prod n f)))
    (λ l. dvd-mul_right_of_dvd (f i) (prod_divides n f i l) (f n))
    (eq-or-lt_of_le (le_of_suc-le-suc h))

pub prod_above : (n : ℕ) (f : ℕ → ℕ) → ((i : ℕ) → 0 < f i) → 0 < prod n f
unfolding prod
prod_above zero f h = omega arith
prod_above (suc n) f h = mul-pos (prod_above n f h) (h n)

module _ (s : Shape) (r : Rival) where
  -- the denominators of the constant, of the choices and of the pairs
  constant_dens : ℕ
  constant_dens = r.gain.den * r.loss.den

  choice_dens : ℕ
  choice_dens = prod s.trains (λ i. prod (s.size i) (λ a. (r.choice i a).den))

  pair_dens : ℕ
  pair_dens = prod s.pairs (λ k. prod (s.size (s.first k)) (λ a. prod (s.size (s.second k)) (λ c. (r.pair k a c).den)))

  common : ℕ
  common = constant_dens * (choice_dens * pair_dens)

  common_above : 0 < common
  unfolding common constant_dens choice_dens pair_dens
  common_above =
      mul-pos
      (mul-pos r.gain.above r.loss.above)
      (mul-pos
      (prod_above s.trains _ (λ i. prod_above (s.size i) _ (λ a. (r.choice i a).above)))
      (prod_above s.pairs _ (λ k. prod_above (s.size (s.first k)) _ (λ a. prod_above (s.size (s.second k)) _ (λ c. (r.pair k a c).above)))))

  -- the rival's numerators over it
  numerators : Costs
  numerators = record { constant = up common r.gain; choice = λ i a. up common (r.choice i a); pair = λ k a c. up common (r.pair k a c) }

  gain_over : Over common r.gain (up common r.gain)
  unfolding common constant_dens
  gain_over = up_over common r.gain (dvd-mul_right_of_dvd _ (dvd-mul_right r.gain.den r.loss.den) (choice_dens * pair_dens))

  loss_over : Over common r.loss (up common r.loss)
  unfolding common constant_dens
  loss_over = up_over common r.loss (dvd-mul_right_of_dvd _ (dvd-mul_left r.loss.den r.gain.den) (choice_dens * pair_dens))

  choice_over : (i a : ℕ) → i < s.trains → a < s.size i → Over common (r.choice i a) (up common (r.choice i a))
  unfolding common choice_dens
  choice_over i a p q =
      up_over common (r.choice i a) (dvd-mul_left_of_dvd _ (dvd-mul_right_of_dvd _
      (dvd_trans (r.choice i a).den (prod_divides (s.size i) (λ c. (r.choice i c).den) a q) (prod_divides s.trains (λ j. prod (s.size j) (λ c. (r.choice j c).den)) i p))
      pair_dens) constant_dens)

  pair_over : (k a c : ℕ) → k < s.pairs → a < s.size (s.first k) → c < s.size (s.second k) → Over common (r.pair k a c) (up common (r.pair k a c))
  unfolding common pair_dens
  pair_over k a c p q o =
      up_over common (r.pair k a c) (dvd-mul_left_of_dvd _ (dvd-mul_left_of_dvd _
      (dvd_trans (r.pair k a c).den (prod_divides (s.size (s.second k)) (λ e. (r.pair k a e).den) c o)
      (dvd_trans _ (prod_divides (s.size (s.first k)) (λ d. prod (s.size (s.second k)) (λ e. (r.pair k d e).den)) a q)
      (prod_divides s.pairs (λ l. prod (s.size (s.first l)) (λ d. prod (s.size (s.second l)) (λ e. (r.pair l d e).den))) k p)))
      choice_dens) constant_dens)

  total_over : Shaped s → (x : ℕ → ℕ) → IsPlan s x → Over common (rival_total s r x) (total s numerators x)
  unfolding rival_total total choice_total pair_total numerators
  total_over sh x p =
      over_plus common _ _ _ _
      (over_plus common r.gain _ _ _ gain_over (over_sum common s.trains _ _ (λ i l. choice_over i (x i) l (p.below i l))))
      (over_sum common s.pairs _ _ (λ k l. pair_over k (x (s.first k)) (x (s.second k)) l (plan_first s sh x p k l) (plan_second s sh x p k l)))

-- ---- of every rival: W times its constant is at most E

module _ (s : Shape) (sh : Shaped s) (o : Open s) (w : Weights) (ag : Agrees s w) (t : Costs) (r : Rival) (is : IsRival s (total s t) r) where
  -- the rival's totals, over the common denominator
  totals : (x : ℕ → ℕ) → IsPlan s x → common s r * total s t x + up (common s r) r.loss ≡ total s (numerators s r) x
  unfolding IsRival
  totals x p =
      let d = common s r in
      ap (λ (v : ℕ). v + up d r.loss) (mul_comm d (total s t x))
      ∙ sym (over_same d _ _ _ _ (total_over s r sh x p) (over_plus d _ _ _ _ (over_number d (total s t x)) (loss_over s r)) (is x p))

  pub every_rival : ConstantAtMost w.full_weight (weighted s w t) r
  unfolding ConstantAtMost numerators
  every_rival =
      let d = common s r in
      over_at_most d _ _ _ _
      (over_times d w.full_weight r.gain _ (gain_over s r))
      (over_plus d _ _ _ _ (over_number d (weighted s w t)) (over_times d w.full_weight r.loss _ (loss_over s r)))
      (common_above s r)
      (omega (arith, mul_comm d (weighted s w t), rival_bound s sh o w ag d (up d r.loss) t (numerators s r) totals))
