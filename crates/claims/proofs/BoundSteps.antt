-- The bound in steps, by the ledger: the block's H holds the ledger's costs, and what is forbidden there reads as 0, which every number divides. So the step of the block is the ledger's.
use mathlib.Core.Path.{◌≡◌, refl, sym, ◌∙◌}
use mathlib.Core.Bool.{Bool, true, false}
use mathlib.Core.List.{List}
use mathlib.Core.Logic.{◌⊎◌, inl, inr, ⊎_elim}
use Prim.Native.Nat.{ℕ, ◌<◌}
use native.Mathlib.Nat.{dvd-zero}
use native.Mathlib.Omega.{arith}
use lib.IntN.{ℤ, pos, negsuc}
use Rattle.tables.specs.Block.{loaded_choice_place, loaded_entry_place, at, nat, figure, trains, pairs, size, first, second, loaded_choice, loaded_entry}
use Rattle.tables.specs.WellFormed.{is_open}
use Rattle.tables.proofs.Plans.{study_shaped, first-size, second-size}
use Rattle.bounds.specs.Steps as step
use Rattle.bounds.specs.Steps.{step_of, Used}
use Rattle.bounds.proofs.Steps.{step_divides, step_greatest, step_none}
use Rattle.bounds.proofs.Plans.{bound_covers, bound_in_steps, bound_least}
use Rattle.claims.specs.Ledger.{Ledger}
use Rattle.claims.specs.Steps.{LoadedCost, choice, entry, IsStep, InSteps, BoundsInSteps}
use Rattle.claims.proofs.Keeps.{Keeps}
use Rattle.claims.proofs.After.{after_load}

-- a closed place reads as 0
closed_figure : (b : List ℤ) (p : ℕ) → is_open (at b p) ≡ false → figure b p ≡ 0
unfolding figure is_open
closed_figure b p e = go (at b p) e
  where
    go : (z : ℤ) → is_open z ≡ false → nat z ≡ 0
    go (pos n) e = cc
    go (negsuc n) e = refl

module _ {g : Ledger} {b : List ℤ} (k : Keeps g b) where
  -- a cost of the ledger is a used entry of H
  cost_used : {v : ℕ} → LoadedCost g v → Used b v
  cost_used (choice i a h q o) =
      let e = k.same.shape_same in
      let l : i < trains b = omega (arith, e.trains_same) in
      let m : a < size b i = omega (arith, e.sizes_same i l) in
      rw (k.same.choices_same i a l m) at (step.choice i a l m)
  cost_used (entry j a c h p q o) =
      let e = k.same.shape_same in
      let sh = study_shaped k.study in
      let l : j < pairs b = omega (arith, e.pairs_same) in
      let m : a < size b (first b j) = omega (arith, first-size e sh j l) in
      let n : c < size b (second b j) = omega (arith, second-size e sh j l) in
      rw (k.same.entries_same j a c l m n) at (step.entry j a c l m n)

  -- and a used entry is a cost of the ledger, or 0, where it is forbidden
  used_cost : {v : ℕ} → Used b v → (v ≡ 0) ⊎ LoadedCost g v
  used_cost (step.choice i a h q) = go (is_open (at b (loaded_choice_place i a))) refl
    where
      go : (t : Bool) → is_open (at b (loaded_choice_place i a)) ≡ t → (loaded_choice b i a ≡ 0) ⊎ LoadedCost g (loaded_choice b i a)
      go false f = inl (closed_figure b (loaded_choice_place i a) f)
      go true f =
          let e = k.same.shape_same in
          inr (rw (k.same.choices_same i a h q) (choice i a (omega (arith, e.trains_same)) (omega (arith, e.sizes_same i h)) (sym (e.choices_open_same i a h q) ∙ f)))
  used_cost (step.entry j a c h p q) = go (is_open (at b (loaded_entry_place j a c))) refl
    where
      go : (t : Bool) → is_open (at b (loaded_entry_place j a c)) ≡ t → (loaded_entry b j a c ≡ 0) ⊎ LoadedCost g (loaded_entry b j a c)
      go false f = inl (closed_figure b (loaded_entry_place j a c) f)
      go true f =
          let e = k.same.shape_same in
          let sh = study_shaped k.study in
          inr (rw (k.same.entries_same j a c h p q) (entry j a c (omega (arith, e.pairs_same)) (omega (arith, first-size e sh j h)) (omega (arith, second-size e sh j h)) (sym (e.entries_open_same j a c h p q) ∙ f)))

  keeps_step : IsStep g (step_of b)
  keeps_step =
      record {
        divides = λ v p. step_divides b (cost_used p);
        greatest = λ c v d p h. step_greatest b c (λ w u. ⊎_elim (λ (e : w ≡ 0). rw e (dvd-zero c)) (λ (q : LoadedCost g w). d w q) (used_cost u)) (cost_used p) h;
        one = λ z. step_none b (λ w u. ⊎_elim (λ (e : w ≡ 0). e) (λ (q : LoadedCost g w). z w q) (used_cost u));
      }

  keeps_steps : InSteps g b
  keeps_steps =
      let n = k.same.scale_same in
      record {
        step = step_of b;
        is_step = keeps_step;
        multiple = bound_in_steps k.study;
        covers = rw n at (bound_covers k.study);
        least = λ q e. bound_least k.study q (rw n e);
      }

-- every list with an accepted load
pub bounds_in_steps : BoundsInSteps
bounds_in_steps calls y = keeps_steps (after_load calls y)
