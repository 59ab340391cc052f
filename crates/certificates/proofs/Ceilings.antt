-- What an accepted certificate says: its weights' sums agree, none stands on what is forbidden, it shows E, E fits, and no rival's constant is above E/W.
use mathlib.Core.Path.{◌≡◌, refl, sym, ap, ap₂, ◌∙◌}
use mathlib.Core.Bool.{Bool, true, false, cond}
use mathlib.Core.List.{List}
use Prim.Native.Nat.{ℕ, zero, suc, ◌*◌, ◌^◌, ◌<◌, ◌≤◌}
use native.Mathlib.Omega.{arith}
use lib.Dec.{eqb}
use lib.IntN.{ℤ}
use Rattle.theory.proofs.Range.{both_true}
use Rattle.tables.specs.Block.{constant}
use Rattle.tables.specs.WellFormed.{Study}
use Rattle.tables.specs.Plans.{Shape, AlikeShapes, IsPlan, Open, total, shape_of, held_costs}
use Rattle.tables.specs.LineLimits.{max_full_weight}
use Rattle.tables.proofs.Plans.{Shaped, study_shaped, alike_shaped, alike_back, alike_plan}
use Rattle.std.specs.Prelude.{Result, Ok, Err}
use Rattle.refusals.specs.declared.Refusal.{Refusal}
use Rattle.refusals.specs.declared.Refusal.TheVariants.{Sums, ForbiddenWeight}
use Rattle.certificates.specs.declared.certify.Ceiling.{Ceiling}
use Rattle.certificates.specs.Certify.{Weights, balanced, spared, weighted, weights_of, ceiling, certificate}
use Rattle.certificates.specs.Runs.{trains_match, pairs_match}
use Rattle.certificates.specs.Rival.{Fraction, plus, sum_of, Rival, rival_total, IsRival, ConstantAtMost}
use Rattle.certificates.proofs.Agrees.{Agrees, balanced_agrees}
use Rattle.certificates.proofs.Fractions.{every_rival}
use Rattle.certificates.proofs.Runs.{balanced_runs, weighted_runs, floor_most, parts_most}

-- what the answer `Ok c` says
pub record Certified (b : List ℤ) (w : Weights) (c : Ceiling) : Type 0 where
  pub right : balanced (shape_of b) w ≡ true
  pub spares : spared (shape_of b) w ≡ true
  pub agrees : Agrees (shape_of b) w
  pub shown : c.weighted ≡ weighted (shape_of b) w (held_costs b)
  pub reached : c.reached ≡ eqb (weighted (shape_of b) w (held_costs b)) (w.full_weight * constant b)

-- the ceiling of weights that are right and spare what is forbidden
abbrev shows : List ℤ → Weights → Ceiling
shows b w = record { reached = eqb (ceiling b w) (w.full_weight * constant b); weighted = ceiling b w }

pub certify_ceiling : (b : List ℤ) (w : Weights) {c : Ceiling} → certificate b w ≡ Ok c → Certified b w c
certify_ceiling b w {c} e = go (balanced (shape_of b) w) refl (spared (shape_of b) w) refl e
  where
    go : (t : Bool) → balanced (shape_of b) w ≡ t → (u : Bool) → spared (shape_of b) w ≡ u → cond t (cond u (Ok (shows b w)) (Err ForbiddenWeight)) (Err Sums) ≡ Ok c → Certified b w c
    go true p true q e =
        let h : shows b w ≡ c = cc in
        record {
          right = p;
          spares = q;
          agrees = balanced_agrees (shape_of b) w p;
          shown = sym (ap (λ (d : Ceiling). d.weighted) h);
          reached = sym (ap (λ (d : Ceiling). d.reached) h);
        }
    go true p false q e = let z : ◌≡◌ {A = ℕ} 0 1 = cc in absurd (omega arith)
    go false p u q e = let z : ◌≡◌ {A = ℕ} 0 1 = cc in absurd (omega arith)

-- what holds where the sums disagree, where a weight stands on what is forbidden, and of each ceiling, holds of every answer
pub certify_cases : (b : List ℤ) (w : Weights) (P : Result Ceiling Refusal → Type 0) → P (Err Sums) → P (Err ForbiddenWeight) → ((c : Ceiling) → certificate b w ≡ Ok c → P (Ok c))
    → P (certificate b w)
certify_cases b w P x y z = go (balanced (shape_of b) w) (spared (shape_of b) w) z
  where
    go : (t u : Bool) → ((c : Ceiling) → cond t (cond u (Ok (shows b w)) (Err ForbiddenWeight)) (Err Sums) ≡ Ok c → P (Ok c)) → P (cond t (cond u (Ok (shows b w)) (Err ForbiddenWeight)) (Err Sums))
    go true true z = z (shows b w) refl
    go true false z = y
    go false u z = x

-- E is far below what 64 bits hold
pub certify_fits : {b : List ℤ} (full_weight : ℕ) (l : List ℕ) {c : Ceiling} → Study b → full_weight ≤ max_full_weight → certificate b (weights_of b full_weight l) ≡ Ok c → c.weighted < 2 ^ 63
certify_fits {b} full_weight l s h e =
    let k = certify_ceiling b (weights_of b full_weight l) e in
    let f = both_true (trains_match b l full_weight) (pairs_match b l) (sym (balanced_runs b full_weight l) ∙ k.right) in
    omega (arith, k.shown, weighted_runs b full_weight l, floor_most s h, parts_most l s h f.0 f.1)

-- 'W × the constant of every rival is at most E', of a rival that gives every plan the total that the held costs give it
pub certify_rival : {b : List ℤ} (w : Weights) {c : Ceiling} → Study b → Open (shape_of b) → certificate b w ≡ Ok c
    → (r : Rival) → IsRival (shape_of b) (total (shape_of b) (held_costs b)) r → ConstantAtMost w.full_weight c.weighted r
certify_rival {b} w s o e r is =
    let k = certify_ceiling b w e in
    rw k.shown (every_rival (shape_of b) (study_shaped s) o w k.agrees (held_costs b) r is)

-- totals that agree have the same rivals
pub rival_cong : (s : Shape) (f g : (ℕ → ℕ) → ℕ) (r : Rival) → ((x : ℕ → ℕ) → IsPlan s x → f x ≡ g x) → IsRival s f r → IsRival s g r
unfolding IsRival
rival_cong s f g r same is x p = rw (same x p) at (is x p)

-- ---- shapes that agree have the same rivals

sum_of_cong : (n : ℕ) (f g : ℕ → Fraction) → ((i : ℕ) → i < n → f i ≡ g i) → sum_of n f ≡ sum_of n g
unfolding sum_of
sum_of_cong zero f g h = refl
sum_of_cong (suc n) f g h = ap₂ plus (sum_of_cong n f g (λ i l. h i (omega arith))) (h n (omega arith))

pub rival_alike : {s u : Shape} → AlikeShapes u s → Shaped u → (f : (ℕ → ℕ) → ℕ) (r : Rival) → IsRival s f r → IsRival u f r
unfolding IsRival rival_total
rival_alike {s} {u} e sh f r is x p = rw (sum_of_cong u.pairs _ _ at_pair, e.trains_same, e.pairs_same) (is x (alike_plan (alike_back e sh) (alike_shaped e sh) x p))
  where
    at_pair : (k : ℕ) → k < u.pairs → r.pair k (x (u.first k)) (x (u.second k)) ≡ r.pair k (x (s.first k)) (x (s.second k))
    at_pair k h = rw (e.firsts_same k h, e.seconds_same k h)
