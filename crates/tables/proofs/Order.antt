-- The places of each train in an order are counted, and each train is there exactly once where each count is 1.
use mathlib.Core.Path.{◌≡◌, sym, ap, ◌∙◌}
use mathlib.Core.Bool.{Bool, true, false, cond}
use mathlib.Core.List.{List}
use mathlib.Core.Logic.{⊎_elim}
use Prim.Native.Nat.{ℕ, ◌+◌, ◌<◌, ◌≤◌}
use native.Mathlib.Decide.{ℕ_discrete}
use native.Mathlib.Nat.{mul-one}
use native.Mathlib.Omega.{arith}
use lib.Dec.{ltb, eqb}
use lib.ListN.{length, set, replicate, length-set, length-replicate}
use lib.Seq.{get_or-set_same, get_or-set_other}
use borrow.Author.Tests.{lt-ltb, le-ltb, eq-eqb, ne_eqb}
use Rattle.std.proofs.lemmas.List.{get_or-replicate}
use Rattle.theory.specs.Range.{all}
use Rattle.theory.specs.Lists.{nth}
use Rattle.theory.specs.Order.{times, each_once}
use Rattle.theory.proofs.Range.{below_suc, all_intro, all_false, all_cong}
use Rattle.theory.proofs.Sum.{sum_none, sum_more, sum_most}
use Rattle.tables.specs.Block.{max_trains}

-- of f 0 to f (d - 1), each of which is below n, the list l holds how often each number came
pub record Counted (n : ℕ) (f : ℕ → ℕ) (d : ℕ) (l : List ℕ) : Type 0 where
  pub room : n ≤ max_trains
  pub long : length l ≡ max_trains
  pub below : (e : ℕ) → e < d → f e < n
  pub counts : (t : ℕ) → t < max_trains → nth l t ≡ times d f t

pub counted_none : (n : ℕ) (f : ℕ → ℕ) → n ≤ max_trains → Counted n f 0 (replicate max_trains 0)
counted_none n f h =
    record {
      room = h;
      long = length-replicate {A = ℕ} max_trains 0;
      below = λ e q. absurd (omega arith);
      counts = λ t q. get_or-replicate max_trains t 0 0 q ∙ sym (sum_none _);
    }

one_or_none : (b : Bool) → cond b 1 0 ≤ 1
one_or_none true = omega arith
one_or_none false = omega arith

module _ {n : ℕ} {f : ℕ → ℕ} {d : ℕ} {l : List ℕ} (c : Counted n f d l) where
  -- none came more often than there were places
  pub counted_few : (t : ℕ) → t < max_trains → nth l t ≤ d
  counted_few t h = omega (arith, c.counts t h, sum_most d 1 (λ e. cond (eqb (f e) t) 1 0) (λ e q. one_or_none (eqb (f e) t)), mul-one d)

  pub counted_more : f d < n → Counted n f (d + 1) (set l (f d) (nth l (f d) + 1))
  counted_more h =
      record {
        room = c.room;
        long = length-set l (f d) (nth l (f d) + 1) ∙ c.long;
        below = λ e q. ⊎_elim (λ (s : e ≡ d). rw s h) (λ (s : e < d). c.below e s) (below_suc e d (omega arith));
        counts = λ t q. at_number t q (ℕ_discrete t (f d));
      }
    where
      at_number : (t : ℕ) → t < max_trains → Dec (t ≡ f d) → nth (set l (f d) (nth l (f d) + 1)) t ≡ times (d + 1) f t
      at_number t q (yes e) =
          let here : cond {A = ℕ} (eqb (f d) t) 1 0 ≡ 1 = rw (eq-eqb (f d) t (sym e)) in
          rw (← e) (omega (arith, get_or-set_same l t (nth l t + 1) 0 (omega (arith, c.long)), c.counts t q, sum_more d (λ e. cond (eqb (f e) t) 1 0), here))
      at_number t q (no s) =
          let here : cond {A = ℕ} (eqb (f d) t) 1 0 ≡ 0 = rw (ne_eqb (f d) t (λ r. s (sym r))) in
          omega (arith, get_or-set_other l (f d) t (nth l (f d) + 1) 0 s, c.counts t q, sum_more d (λ e. cond (eqb (f e) t) 1 0), here)

  -- a number that is not below n is none of them
  pub counted_beyond : d < n → n ≤ f d → each_once n f ≡ false
  unfolding each_once
  counted_beyond h q = rw (all_false (λ e. ltb (f e) n) n d h (le-ltb (f d) n q))

-- all are counted
pub counted_all : {n : ℕ} {f : ℕ → ℕ} {l : List ℕ} → Counted n f n l → each_once n f ≡ all n (λ t. eqb (nth l t) 1)
unfolding each_once
counted_all {n} {f} {l} c =
    rw (all_intro (λ d. ltb (f d) n) n (λ d h. lt-ltb (f d) n (c.below d h)))
    (all_cong n _ _ (λ t h. ap (λ (k : ℕ). eqb k 1) (sym (c.counts t (omega (arith, c.room))))))
