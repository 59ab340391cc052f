-- A forbidden choice is left at once. Else the two sums are of figures within their limits, so they fit; each refusal stands at its test, in the order of `add_outcome`, and past both the two writes are `added`.
use mathlib.Core.Path.{◌≡◌, sym, ◌∙◌}
use Prim.Native.Nat.{ℕ, ◌+◌, ◌*◌, ◌<◌, ◌≤◌}
use native.Mathlib.Nat.{mul-le-mul}
use native.Mathlib.Omega.{arith}
use lib.IntN.{ℤ}
use mathlib.Core.List.{List}
use Rattle.std.proofs.lemmas.Map.Keys.{le_from_not_gt}
use Rattle.units.specs.Units.{scale_max}
use Rattle.tables.specs.Block.{max_trains, max_choices, max_cost, max_parts, trains, scale, size, loaded_choice, held_choice}
use Rattle.tables.specs.WellFormed.{Study}
use Rattle.tables.proofs.Study.{trains_range, size_range, scale_range, loaded_choice_range, held_choice_range}
use Rattle.operations.proofs.Added.{add-closed, both_within, added_by}
use Rattle.operations.proofs.add.add.Goals as goal

-- the train and the choice are there, and the figures are within their limits
record Known (b : List ℤ) (i a p : ℕ) : Type 0 where
  train : i < max_trains
  choice : a < max_choices
  loaded : loaded_choice b i a ≤ max_cost
  held : held_choice b i a ≤ max_parts
  parts : scale b * p ≤ scale_max * max_cost

known : {b : List ℤ} {i a p : ℕ} → (Study b) × (i < trains b) × (a < size b i) × (p ≤ max_cost) → Known b i a p
known {b} {i} {a} {p} r =
    record {
      train = omega (arith, trains_range r.0);
      choice = omega (arith, size_range r.0 i r.1);
      loaded = (loaded_choice_range r.0 i a r.1 r.2).high;
      held = (held_choice_range r.0 i a r.1 r.2).high;
      parts = mul-le-mul (scale_range r.0).1 r.3;
    }

pub choice_open-requires : goal.choice_open-requires
choice_open-requires c = omega (arith, known c.requires)

pub returns-then-not-choice_open-clause-block_after : goal.returns-then-not-choice_open-clause-block_after
returns-then-not-choice_open-clause-block_after c =
    let a = c.args in
    (add-closed a.i a.a a.points.0 a.block.now (sym c.if-not-choice_open.ensures)).1

pub loaded_choice-requires : goal.loaded_choice-requires
loaded_choice-requires c = omega (arith, known c.requires)

pub add-loaded-requires : goal.add-loaded-requires
add-loaded-requires c = omega (arith, known c.requires)

pub held_choice-requires : goal.held_choice-requires
held_choice-requires c = omega (arith, known c.requires)

pub growth-requires : goal.growth-requires
growth-requires c = let r = scale_range c.requires.0 in (r.0, r.1, c.requires.3)

pub add-held-requires : goal.add-held-requires
add-held-requires c = omega (arith, known c.requires)

pub put_loaded_choice-requires : goal.put_loaded_choice-requires
put_loaded_choice-requires c = omega (arith, known c.requires)

pub put_held_choice-requires : goal.put_held_choice-requires
put_held_choice-requires c = omega (arith, known c.requires)

pub returns-clause-block_after : goal.returns-clause-block_after
returns-clause-block_after c =
    let a = c.args in
    let permitted = sym c.if-not-choice_open.ensures in
    let loaded : c.add-loaded.result.0 ≡ loaded_choice a.block.now a.i a.a + a.points.0 = omega arith in
    let held : c.add-held.result.0 ≡ held_choice a.block.now a.i a.a + scale a.block.now * a.points.0 = omega arith in
    let h : c.add-loaded.result.0 ≤ max_cost = le_from_not_gt _ _ (sym c.if-gt.ensures) in
    let q : c.add-held.result.0 ≤ max_parts = le_from_not_gt _ _ (sym c.if-gt-2.ensures) in
    added_by a.i a.a a.points.0 a.block.now permitted loaded held c.put_loaded_choice.ensures c.put_held_choice.ensures
    ∙ (both_within a.i a.a a.points.0 a.block.now permitted (rw loaded at h) (rw held at q)).1
