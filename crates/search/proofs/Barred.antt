-- What a train brings in depends on the trains up to it only. Choices that bring no forbidden entry in are a plan, and a plan brings none in.
use mathlib.Core.Path.{◌≡◌, refl, ap, ap₂}
use mathlib.Core.Bool.{Bool, true, false, not, cond, ◌&&◌}
use mathlib.Core.Logic.{dite}
use Prim.Native.Nat.{ℕ, ◌+◌, ◌<◌}
use native.Mathlib.Decide.{ℕ_discrete}
use native.Mathlib.Omega.{arith}
use lib.Dec.{eqb}
use borrow.Author.Tests.{eq-eqb, ne_eqb, not-false}
use Rattle.theory.specs.Range.{all}
use Rattle.theory.proofs.Range.{both_true, all_true, all_intro, all_cong}
use Rattle.tables.specs.Plans.{Shape, IsPlan, Open}
use Rattle.rows.specs.Limits.{Walkable}
use Rattle.search.specs.Walk.{entry_passes, barred}

module _ (s : Shape) (x : ℕ → ℕ) (t : ℕ) where
  -- the test and the facts
  pub record Permitted : Type 0 where
    pub choice : s.choice_open t (x t) ≡ true
    pub entries : (k : ℕ) → k < s.pairs → s.second k ≡ t → s.entry_open k (x (s.first k)) (x (s.second k)) ≡ true

  pub barred_none : barred s x t ≡ false → Permitted
  unfolding barred
  barred_none e =
      let f = both_true (s.choice_open t (x t)) (all s.pairs (entry_passes s x t)) (not-false _ e) in
      record { choice = f.0; entries = λ k h q. rw (eq-eqb (s.second k) t q) at (all_true (entry_passes s x t) s.pairs f.1 k h) }

  pub permitted_barred : Permitted → barred s x t ≡ false
  unfolding barred
  permitted_barred p = rw (p.choice, all_intro (entry_passes s x t) s.pairs at_pair)
    where
      at_pair : (k : ℕ) → k < s.pairs → entry_passes s x t k ≡ true
      at_pair k h =
          dite (ℕ_discrete (s.second k) t)
          (λ (e : s.second k ≡ t). rw (eq-eqb (s.second k) t e) (p.entries k h e))
          (λ n. rw (ne_eqb (s.second k) t n))

module _ {s : Shape} (o : Walkable s) where
  -- pairs come before their second train
  pub barred_cong : (x y : ℕ → ℕ) (t : ℕ) → ((i : ℕ) → i < t + 1 → x i ≡ y i) → barred s x t ≡ barred s y t
  unfolding barred
  barred_cong x y t same = ap not (ap₂ ◌&&◌ (ap (s.choice_open t) (same t (omega arith))) (all_cong s.pairs _ _ at_pair))
    where
      at_pair : (k : ℕ) → k < s.pairs → entry_passes s x t k ≡ entry_passes s y t k
      at_pair k h =
          dite (ℕ_discrete (s.second k) t)
          (λ (e : s.second k ≡ t). ap (λ (v : Bool). cond (eqb (s.second k) t) v true)
          (ap₂ (s.entry_open k) (same (s.first k) (omega (arith, o.ascends k h))) (same (s.second k) (omega arith))))
          (λ n. rw (ne_eqb (s.second k) t n))

  pub permitted_plan : (x : ℕ → ℕ) → ((i : ℕ) → i < s.trains → x i < s.size i) → ((i : ℕ) → i < s.trains → barred s x i ≡ false) → IsPlan s x
  permitted_plan x below free =
      record {
        below = below;
        choices = λ i h. (barred_none s x i (free i h)).choice;
        entries = λ k h. (barred_none s x (s.second k) (free (s.second k) (o.inside k h))).entries k h refl;
      }

  -- with nothing forbidden, no choice brings a forbidden entry in
  pub open_permitted : Open s → (x : ℕ → ℕ) (t : ℕ) → t < s.trains → ((i : ℕ) → i < t + 1 → x i < s.size i) → barred s x t ≡ false
  open_permitted free x t h below =
      permitted_barred s x t
      (record {
        choice = free.choices t (x t) h (below t (omega arith));
        entries = λ k q e.
            free.entries k _ _ q (below (s.first k) (omega (arith, o.ascends k q))) (below (s.second k) (omega arith));
      })

pub plan_permitted : {s : Shape} (x : ℕ → ℕ) → IsPlan s x → (t : ℕ) → t < s.trains → barred s x t ≡ false
plan_permitted {s} x is t h = permitted_barred s x t (record { choice = is.choices t h; entries = λ k q e. is.entries k q })
