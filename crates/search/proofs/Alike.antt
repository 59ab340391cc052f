-- A walk looks at the choices of decided trains only, and writes those of the others before it shows them: lists that differ at trains left lead to the same walk.
use mathlib.Core.Path.{◌≡◌, refl, sym, ap₂, ◌∙◌}
use mathlib.Core.Bool.{Bool}
use mathlib.Core.List.{List, [], ◌∷◌}
use mathlib.Core.Logic.{⊎_elim, dite}
use Prim.Native.Nat.{ℕ, zero, suc, ◌+◌, ◌-◌, ◌<◌}
use native.Mathlib.Nat.{eq-or-lt_of_le}
use native.Mathlib.Decide.{dec_lt}
use native.Mathlib.Omega.{arith}
use lib.Dec.{leb}
use lib.ListN.{length, get_or, set, length-set}
use lib.Seq.{get_or-set_same, get_or-set_other}
use Rattle.tables.specs.Block.{max_trains}
use Rattle.tables.specs.Plans.{choices_of, Shape, Costs}
use Rattle.rows.specs.Walled.{wall}
use Rattle.rows.specs.Limits.{Walkable}
use Rattle.search.specs.Walk.{Walk, barred, added, Decided, one_try, tried_from, choice_try, opened_train}
use Rattle.search.specs.Sought.{Sought, meets_at}
use Rattle.search.specs.Held.{Alike, try_of}
use Rattle.search.proofs.Barred.{barred_cong}
use Rattle.search.proofs.Totals.{added_cong, partial_cong}

-- lists that agree everywhere
list_same : (x y : List ℕ) → length x ≡ length y → ((i : ℕ) → get_or x i 0 ≡ get_or y i 0) → x ≡ y
list_same [] [] e h = refl
list_same [] (c ∷ y) e h = absurd (omega arith)
list_same (a ∷ x) [] e h = absurd (omega arith)
list_same (a ∷ x) (c ∷ y) e h = λ i. h 0 i ∷ list_same x y (omega arith) (λ k. h (suc k)) i

pub alike_refl : (t n : ℕ) (x : List ℕ) → Alike t n x x
alike_refl t n x = record { same = refl; before = λ i h. refl; after = λ i h. refl }

pub alike_trans : {t n : ℕ} {x y z : List ℕ} → Alike t n x y → Alike t n y z → Alike t n x z
alike_trans p q =
    record { same = p.same ∙ q.same; before = λ i h. p.before i h ∙ q.before i h; after = λ i h. p.after i h ∙ q.after i h }

-- agreeing further is agreeing
pub alike_less : {t n : ℕ} {x y : List ℕ} → Alike (t + 1) n x y → Alike t n x y
alike_less p = record { same = p.same; before = λ i h. p.before i (omega arith); after = p.after }

-- a choice that is written at a train left
pub alike_set : (t n a : ℕ) (x : List ℕ) → t < n → Alike t n x (set x t a)
alike_set t n a x h =
    record {
      same = sym (length-set x t a);
      before = λ i q. sym (get_or-set_other x t i a 0 (λ e. omega arith));
      after = λ i q. sym (get_or-set_other x t i a 0 (λ e. omega arith));
    }

-- the same choice, written in both
pub alike_next : {t n : ℕ} (a : ℕ) {x y : List ℕ} → t < n → t < length x → Alike t n x y → Alike (t + 1) n (set x t a) (set y t a)
alike_next {t} {n} a {x} {y} h l p =
    record {
      same = length-set x t a ∙ p.same ∙ sym (length-set y t a);
      before = λ i q.
          ⊎_elim
          (λ (e : i ≡ t). rw e (get_or-set_same x t a 0 l ∙ sym (get_or-set_same y t a 0 (omega (arith, p.same)))))
          (λ (e : i < t). get_or-set_other x t i a 0 (λ f. omega arith) ∙ p.before i e ∙ sym (get_or-set_other y t i a 0 (λ f. omega arith)))
          (eq-or-lt_of_le (omega arith));
      after = λ i q. get_or-set_other x t i a 0 (λ f. omega arith) ∙ p.after i q ∙ sym (get_or-set_other y t i a 0 (λ f. omega arith));
    }

module _ {s : Shape} (o : Walkable s) (c : Costs) where
  -- a try, given that the next train is
  choice_alike : (budget : ℕ) (next : ℕ → List ℕ → Walk → Walk) (t partial a : ℕ) (x y : List ℕ)
      → ((i : ℕ) → i < t + 1 → choices_of (set x t a) i ≡ choices_of (set y t a) i)
      → ((total : ℕ) (u : Walk) → next total (set x t a) u ≡ next total (set y t a) u)
      → (v : Walk) → choice_try s c budget next t partial x a v ≡ choice_try s c budget next t partial y a v
  choice_alike budget next t partial a x y h n v =
      let total = partial + added s c (choices_of (set y t a)) t in
      let bar = barred s (choices_of (set y t a)) t in
      ap₂ (λ (r : Bool) (z : ℕ). one_try budget r (partial + z) (next (partial + z) (set x t a)) v)
      (barred_cong o (choices_of (set x t a)) (choices_of (set y t a)) t h)
      (added_cong o c (choices_of (set x t a)) (choices_of (set y t a)) t h)
      ∙ (λ i. one_try budget bar total (λ u. n total u i) v)

  pub opened_alike : (meets : ℕ → Bool) (budget left t partial : ℕ) (x y : List ℕ) → t + left ≡ s.trains → length x ≡ max_trains → Alike t s.trains x y
      → (w : Walk) → opened_train s c meets budget left t partial x w ≡ opened_train s c meets budget left t partial y w
  unfolding opened_train
  opened_alike meets budget zero t partial x y e l p w =
      let f : x ≡ y = list_same x y p.same (λ i. dite (dec_lt i s.trains) (λ q. p.before i (omega arith)) (λ q. p.after i (omega arith))) in
      rw f
  opened_alike meets budget (suc left) t partial x y e l p w =
      let next : (a : ℕ) → Alike (t + 1) s.trains (set x t a) (set y t a) = λ a. alike_next a (omega arith) (omega (arith, l, o.room)) p in
      λ i. tried_from (λ a v. choice_alike budget (opened_train s c meets budget left (t + 1)) t partial a x y (next a).before
      (λ total u. opened_alike meets budget left (t + 1) total (set x t a) (set y t a) (omega arith) (length-set x t a ∙ l) (next a) u) v i) (s.size t) 0 w

  -- where trains are decided
  pub decided_alike : (t n partial : ℕ) (x y : List ℕ) → Alike t n x y → Decided s c t partial x → Decided s c t partial y
  decided_alike t n partial x y p d =
      record {
        whole = sym p.same ∙ d.whole;
        below = λ i h. rw (← p.before i h) (d.below i h);
        permitted = λ i h. barred_cong o (choices_of y) (choices_of x) i (λ j q. sym (p.before j (omega arith))) ∙ d.permitted i h;
        total = d.total ∙ partial_cong o c (choices_of x) (choices_of y) t p.before;
      }

-- in the terms of the code
pub try_alike : (p : Sought) → Walkable p.shape → (budget t a total : ℕ) (x y : List ℕ) → t < p.shape.trains → length x ≡ max_trains → Alike t p.shape.trains x y
    → (w : Walk) → try_of p budget t total x a w ≡ try_of p budget t total y a w
unfolding try_of
try_alike p o budget t a total x y h l k w =
    let q = alike_next a h (omega (arith, l, o.room)) k in
    λ i. one_try budget (leb wall total) total (λ u. opened_alike o p.costs (meets_at p) budget (p.shape.trains - (t + 1)) (t + 1) total (set x t a) (set y t a) (omega arith) (length-set x t a ∙ l) q u i) w
