-- 'a load line whose search straight after loading, with enough budget, tries as many choices as any study of those sizes': on the block that the dearest study loads, a budget of at least the number of tries is not spent and all of
-- them are counted; a smaller one is spent. Its cost of 1 never meets the published bound, which is 0.
use mathlib.Core.Path.{◌≡◌, refl, ap, ◌∙◌}
use mathlib.Core.Bool.{Bool, true, false, not}
use mathlib.Core.List.{List}
use Prim.Native.Nat.{ℕ, ◌<◌, ◌≤◌}
use native.Mathlib.Omega.{arith}
use Rattle.theory.proofs.Tries.{tries_of_cong}
use Rattle.units.specs.Units.{rounded_up}
use Rattle.tables.specs.Block.{trains, size, scale, order}
use Rattle.tables.specs.Plans.{shape_of}
use Rattle.tables.proofs.Study.{trains_range}
use Rattle.operations.specs.Load.{loaded_block}
use Rattle.operations.proofs.Loaded.{load_scale_lem, load_constant}
use Rattle.bounds.specs.Bounds.{bound_of}
use Rattle.bounds.proofs.Plans.{none_published}
use Rattle.orders.specs.Ordered.{ordered_shape}
use Rattle.search.specs.Walk.{all_tries, at_bound}
use Rattle.search.specs.Ordered.{walked_in, searched_in, searched}
use Rattle.search.specs.Answer.{search_answer}
use Rattle.search.proofs.Theorems.{search_count, search_spent, search_ends}
use Rattle.dearest.specs.Dearest.{SizesRight, dearest_tries, dearest}
use Rattle.dearest.proofs.Loaded.{dearest_in_range, dearest_study, dearest_order, dearest_block_tries, dearest_level}
use Rattle.tries.proofs.Level.{ordered_level, level_tries}

module _ {sizes : List ℕ} (r : SizesRight sizes) where
  -- its scale is 1, and no point is to be covered
  one_part : scale (loaded_block (dearest sizes)) ≡ 1
  unfolding dearest
  one_part = load_scale_lem (dearest_in_range r)

  no_bound : bound_of (loaded_block (dearest sizes)) ≡ 0
  unfolding rounded_up
  no_bound = none_published (dearest_study r) (rw (one_part, load_constant (dearest_in_range r)))

  -- so a total of 1 does not meet the bound
  above : at_bound (loaded_block (dearest sizes)) 1 ≡ false
  unfolding rounded_up
  above = rw (one_part, no_bound)

  -- in the order of loading the tries are those of the sizes
  tries_are : all_tries (ordered_shape (order (loaded_block (dearest sizes))) (shape_of (loaded_block (dearest sizes)))) ≡ dearest_tries sizes
  tries_are =
      let b = loaded_block (dearest sizes) in
      tries_of_cong (trains b) (λ d. size b (order b d)) (size b) (λ d h. ap (size b) (dearest_order r d h)) ∙ dearest_block_tries r

  module _ (budget : ℕ) where
    -- unspent, it has tried everything
    all_tried : (searched (loaded_block (dearest sizes)) budget).spent ≡ false → (searched (loaded_block (dearest sizes)) budget).count ≡ dearest_tries sizes
    unfolding searched searched_in walked_in
    all_tried e =
        let b = loaded_block (dearest sizes) in
        let z = trains_range (dearest_study r) in
        level_tries z.1 (ordered_level (dearest_level r) (order b) (dearest_order r)) (at_bound b) above budget (omega arith) e ∙ tries_are

    -- with a budget for all tries it ends, after that many
    pub dearest_ends : dearest_tries sizes ≤ budget → ((searched (loaded_block (dearest sizes)) budget).spent ≡ false) × ((searched (loaded_block (dearest sizes)) budget).count ≡ dearest_tries sizes)
    dearest_ends h = let e = search_ends (dearest_study r) budget (omega (arith, tries_are)) in (e, all_tried e)

    -- with less it is spent, with the budget as its count
    pub dearest_spent : budget < dearest_tries sizes → ((searched (loaded_block (dearest sizes)) budget).spent ≡ true) × ((searched (loaded_block (dearest sizes)) budget).count ≡ budget)
    dearest_spent h = let e = by (searched (loaded_block (dearest sizes)) budget).spent refl in (e, search_spent (dearest_study r) budget e)
      where
        by : (t : Bool) → (searched (loaded_block (dearest sizes)) budget).spent ≡ t → (searched (loaded_block (dearest sizes)) budget).spent ≡ true
        by true e = e
        by false e = absurd (omega (arith, all_tried e, search_count (dearest_study r) budget))

    -- ---- the answer

    pub dearest_answer_ended : dearest_tries sizes ≤ budget → ((search_answer (loaded_block (dearest sizes)) budget).ended ≡ true) × ((search_answer (loaded_block (dearest sizes)) budget).count ≡ dearest_tries sizes)
    unfolding search_answer
    dearest_answer_ended h = let d = dearest_ends (omega arith) in (ap not d.0, d.1)

    pub dearest_answer_spent : budget < dearest_tries sizes → ((search_answer (loaded_block (dearest sizes)) budget).ended ≡ false) × ((search_answer (loaded_block (dearest sizes)) budget).count ≡ budget)
    unfolding search_answer
    dearest_answer_spent h = let d = dearest_spent (omega arith) in (ap not d.0, d.1)
