-- An order that has each number once: a place's number and a number's place undo each other, and sums and tests over the numbers may be taken by places. The counts say so: of a number at two places the count is 2, of one at none 0.
use mathlib.Core.Path.{◌≡◌, refl, sym, ap, ap₂, subst, ◌∙◌}
use mathlib.Core.Bool.{Bool, true, cond, ◌&&◌}
use mathlib.Core.Logic.{dite}
use Prim.Native.Nat.{ℕ, zero, suc, ◌*◌, ◌<◌}
use native.Mathlib.Nat.{mul-one, mul-zero}
use native.Mathlib.Decide.{ℕ_discrete, dec_lt}
use native.Mathlib.Omega.{arith}
use lib.Dec.{ltb, eqb}
use borrow.Author.Tests.{eq-eqb, ne_eqb, eqb-true, ltb-true, lt-ltb}
use Rattle.std.proofs.lemmas.List.Edits.{Swapped}
use Rattle.theory.specs.Sum.{sum, update}
use Rattle.theory.specs.Range.{all}
use Rattle.theory.specs.Order.{times, each_once, IsOrder, rank, ascending}
use Rattle.theory.proofs.Sum.{sum_cong, sum_term, sum-zero, sum_one, sum_two, sum_pick, sum_swap, sum-scale, update_same, update_other}
use Rattle.theory.proofs.Range.{both_true, bool_ext, all_true, all_intro, all_cong}

-- a place below n of which f is not 0
record Somewhere (n : ℕ) (f : ℕ → ℕ) : Type 0 where
  pub place : ℕ
  pub below : place < n
  pub there : 0 < f place

-- a sum that is not 0 has such a term
sum_somewhere : (n : ℕ) (f : ℕ → ℕ) → 0 < sum n f → Somewhere n f
unfolding sum
sum_somewhere zero f h = absurd (omega arith)
sum_somewhere (suc n) f h =
    dite (dec_lt 0 (f n))
    (λ q. record { place = n; below = omega arith; there = q })
    (λ q. let r = sum_somewhere n f (omega arith) in record { place = r.place; below = omega (arith, r.below); there = r.there })

module _ {n : ℕ} {order : ℕ → ℕ} (is : IsOrder n order) where
  pub order_below : (d : ℕ) → d < n → order d < n
  unfolding each_once
  order_below d h = ltb-true (order d) n (all_true (λ e. ltb (order e) n) n (both_true (all n (λ e. ltb (order e) n)) _ is.once).0 d h)

  pub order_times : (i : ℕ) → i < n → times n order i ≡ 1
  unfolding each_once
  order_times i h = eqb-true (times n order i) 1 (all_true (λ j. eqb (times n order j) 1) n (both_true (all n (λ d. ltb (order d) n)) _ is.once).1 i h)

  -- no number is at two places
  pub order_apart : (d e : ℕ) → d < n → e < n → order d ≡ order e → d ≡ e
  order_apart d e p q s =
      dite (ℕ_discrete d e) (λ r. r)
      (λ r. let i = order d in
      let f : ℕ → ℕ = λ c. cond (eqb (order c) i) 1 0 in
      let g = update f d 0 in
      let at_d : f d ≡ 1 = rw (eq-eqb i i refl) in
      let at_e : f e ≡ 1 = rw (eq-eqb (order e) i (sym s)) in
      absurd (omega (
        arith,
        order_times i (order_below d p),
        sum_one n d f g p (λ c l z. sym (update_other f d 0 c z)),
        update_same f d 0 d refl,
        sum_term n e g q,
        update_other f d 0 e (λ z. r (sym z)),
        at_d,
        at_e,
      )))

  -- a place's number is at that place
  pub rank_order : (d : ℕ) → d < n → rank n order (order d) ≡ d
  unfolding rank
  rank_order d h =
      let f : ℕ → ℕ = λ c. cond (eqb (order c) (order d)) c 0 in
      let here : f d ≡ d = rw (eq-eqb (order d) (order d) refl) in
      omega (arith, sum_one n d f (λ c. 0) h (λ c l z. rw (ne_eqb (order c) (order d) (λ s. z (order_apart c d l h s)))), sum-zero n, here)

  somewhere : (i : ℕ) → i < n → Somewhere n (λ c. cond (eqb (order c) i) 1 0)
  somewhere i h = sum_somewhere n _ (omega (arith, order_times i h))

  -- where a test gives 1, the number is there
  found : (i c : ℕ) → 0 < cond (eqb (order c) i) 1 0 → order c ≡ i
  found i c h = dite (ℕ_discrete (order c) i) (λ e. e) (λ e. absurd (omega (arith, rw (ne_eqb (order c) i e) at h)))

  rank_somewhere : (i : ℕ) (h : i < n) → rank n order i ≡ (somewhere i h).place
  rank_somewhere i h = let s = somewhere i h in ap (rank n order) (sym (found i s.place s.there)) ∙ rank_order s.place s.below

  pub rank_below : (i : ℕ) → i < n → rank n order i < n
  rank_below i h = omega (arith, rank_somewhere i h, (somewhere i h).below)

  -- the number at a number's place is that number
  pub order_rank : (i : ℕ) → i < n → order (rank n order i) ≡ i
  order_rank i h = let s = somewhere i h in ap order (rank_somewhere i h) ∙ found i s.place s.there

  -- a sum over the numbers, by places
  pub sum_reorder : (g : ℕ → ℕ) → sum n (λ d. g (order d)) ≡ sum n g
  sum_reorder g =
      sum_cong n _ _ (λ d h. sym (at_place d h))
      ∙ sum_swap n n (λ d i. cond (eqb (order d) i) (g i) 0)
      ∙ sum_cong n _ _ at_number
    where
      turned : (d i : ℕ) → cond (eqb (order d) i) (g i) 0 ≡ cond (eqb (order d) i) (g (order d)) 0
      turned d i = dite (ℕ_discrete (order d) i) (λ e. ap (λ (j : ℕ). cond (eqb (order d) i) (g j) 0) (sym e)) (λ e. rw (ne_eqb (order d) i e))

      at_place : (d : ℕ) → d < n → sum n (λ i. cond (eqb (order d) i) (g i) 0) ≡ g (order d)
      at_place d h = sum_cong n _ _ (λ i l. turned d i) ∙ sum_pick n (order d) (g (order d)) (order_below d h)

      weighed : (i d : ℕ) → cond (eqb (order d) i) (g i) 0 ≡ g i * cond (eqb (order d) i) 1 0
      weighed i d = dite (ℕ_discrete (order d) i) (λ e. rw (eq-eqb (order d) i e) (sym (mul-one (g i)))) (λ e. rw (ne_eqb (order d) i e) (sym (mul-zero (g i))))

      at_number : (i : ℕ) → i < n → sum n (λ d. cond (eqb (order d) i) (g i) 0) ≡ g i
      at_number i h =
          sum_cong n _ _ (λ d l. weighed i d) ∙ sum-scale n (g i) (λ d. cond (eqb (order d) i) 1 0)
          ∙ ap (λ (v : ℕ). g i * v) (order_times i h) ∙ mul-one (g i)

  -- and a test of all of them
  pub all_reorder : (p : ℕ → Bool) → all n (λ d. p (order d)) ≡ all n p
  all_reorder p =
      bool_ext (all n (λ d. p (order d))) (all n p)
      (λ e. all_intro p n (λ i h. subst (λ (j : ℕ). p j ≡ true) (order_rank i h) (all_true (λ d. p (order d)) n e (rank n order i) (rank_below i h))))
      (λ e. all_intro (λ d. p (order d)) n (λ d h. all_true p n e (order d) (order_below d h)))

-- ---- when a list of numbers is an order

pub order_intro : (n : ℕ) (order : ℕ → ℕ) → ((d : ℕ) → d < n → order d < n) → ((i : ℕ) → i < n → times n order i ≡ 1) → IsOrder n order
unfolding each_once
order_intro n order h g =
    record { once = rw (all_intro (λ d. ltb (order d) n) n (λ d l. lt-ltb (order d) n (h d l)), all_intro (λ i. eqb (times n order i) 1) n (λ i l. eq-eqb (times n order i) 1 (g i l))) }

-- the test goes by the first n numbers alone
pub once_cong : (n : ℕ) (f g : ℕ → ℕ) → ((d : ℕ) → d < n → f d ≡ g d) → each_once n f ≡ each_once n g
unfolding each_once
once_cong n f g h =
    ap₂ ◌&&◌ (all_cong n _ _ (λ d q. ap (λ (t : ℕ). ltb t n) (h d q)))
    (all_cong n _ _ (λ t q. ap (λ (k : ℕ). eqb k 1) (sum_cong n _ _ (λ d l. ap (λ (v : ℕ). cond (eqb v t) 1 0) (h d l)))))

pub order_cong : {n : ℕ} (f g : ℕ → ℕ) → ((d : ℕ) → d < n → f d ≡ g d) → IsOrder n f → IsOrder n g
order_cong {n} f g h is = record { once = sym (once_cong n f g h) ∙ is.once }

-- so are the places
pub rank_cong : {n : ℕ} {f g : ℕ → ℕ} → ((d : ℕ) → d < n → f d ≡ g d) → (i : ℕ) → rank n f i ≡ rank n g i
unfolding rank
rank_cong {n} e i = sum_cong n _ _ (λ d h. ap (λ (v : ℕ). cond (eqb v i) d 0) (e d h))

-- two numbers that change places
pub swapped_order : {n : ℕ} {f g : ℕ → ℕ} (p q : ℕ) → Swapped f g p q → p < n → q < n → (p ≡ q → ⊥) → IsOrder n f → IsOrder n g
swapped_order {n} {f} {g} p q w a b ne is = order_intro n g below counts
  where
    below : (d : ℕ) → d < n → g d < n
    below d h =
        dite (ℕ_discrete d p)
        (λ (e : d ≡ p). rw (e, w.0) (order_below is q b))
        (λ e. dite (ℕ_discrete d q) (λ (c : d ≡ q). rw (c, w.1) (order_below is p a)) (λ c. rw (w.2 d e c) (order_below is d h)))

    one : ℕ → ℕ → ℕ
    one i v = cond (eqb v i) 1 0

    counts : (i : ℕ) → i < n → times n g i ≡ 1
    counts i h =
        omega (
          arith,
          order_times is i h,
          sum_two n p q (λ d. one i (f d)) (λ d. one i (g d)) a b ne (λ d r e c. ap (one i) (sym (w.2 d e c))),
          ap (one i) w.0,
          ap (one i) w.1,
        )

-- ---- the ascending order

ascending_times : (n i : ℕ) → i < n → times n ascending i ≡ 1
ascending_times n i h =
    sum_cong n _ _ (λ d l. ap (λ (t : Bool). cond t 1 0) (eqb_turned d i)) ∙ sum_pick n i 1 h
  where
    eqb_turned : (d e : ℕ) → eqb d e ≡ eqb e d
    eqb_turned d e = dite (ℕ_discrete d e) (λ s. rw (eq-eqb d e s, eq-eqb e d (sym s))) (λ s. rw (ne_eqb d e s, ne_eqb e d (λ r. s (sym r))))

pub ascending_order : (n : ℕ) → IsOrder n ascending
ascending_order n = order_intro n ascending (λ d h. h) (ascending_times n)

pub rank_ascending : (n i : ℕ) → i < n → rank n ascending i ≡ i
rank_ascending n i h = rank_order (ascending_order n) i h
