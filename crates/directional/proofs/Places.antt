-- The permitted entries of b in a block c that has b's shape and its H: where they stand in c, that they are natural there, and what a round takes of a choice.
use mathlib.Core.Path.{◌≡◌, refl, sym, ap, ap₂, ◌∙◌}
use mathlib.Core.Bool.{Bool, true, false, cond}
use mathlib.Core.List.{List}
use mathlib.Core.Logic.{inl}
use Prim.Native.Nat.{ℕ, ◌<◌, ◌≤◌}
use native.Mathlib.Omega.{arith}
use lib.IntN.{ℤ, pos}
use lib.ListN.{length}
use Rattle.tables.specs.Block.{block_length, max_trains, max_choices, loaded_choice_place, held_choice_place, held_entry_place, at, figure, pairs, size, first, second, held_choice, held_entry}
use Rattle.tables.specs.Plans.{shape_of}
use Rattle.tables.specs.WellFormed.{is_open}
use Rattle.tables.proofs.Study.{same_figure, figure_at}
use Rattle.rewriting.specs.declared.sides.Side.TheVariants.{Rows, Columns}
use Rattle.rewriting.specs.Moves.{Room, ShapeInRange}
use Rattle.rewriting.specs.Leasts.{open_place, NonNegative}
use Rattle.rewriting.proofs.Shape.{room_figure, SameLoaded, lanes_most}
use Rattle.rewriting.proofs.Opens.{open_choice, open_entry, open_same}
use Rattle.directional.specs.Directional.{cost_taken}

-- a block as long as it must be, without an open number below 0
pub record Whole (c : List ℤ) : Type 0 where
  pub long : length c ≡ block_length
  pub non_negative : NonNegative c

pub natural_as : (c : List ℤ) (p n : ℕ) → at c p ≡ pos n → at c p ≡ pos (figure c p)
natural_as c p n e = e ∙ ap pos (sym (figure_at c p n e))

-- ---- what is taken of a choice

pub cost_low : (c : List ℤ) (i a : ℕ) → cost_taken c i a ≤ held_choice c i a
unfolding cost_taken
cost_low c i a = go ((shape_of c).choice_open i a)
  where
    go : (t : Bool) → cond t (held_choice c i a) 0 ≤ held_choice c i a
    go true = omega arith
    go false = omega arith

-- no further than the numbers of the block
pub cost_room : (c : List ℤ) (i a h : ℕ) → Room c h → cost_taken c i a ≤ h
cost_room c i a h o = omega (arith, cost_low c i a, room_figure (held_choice_place i a) c h o)

-- the two ways of the test
pub cost_open : (c : List ℤ) (i a : ℕ) → (shape_of c).choice_open i a ≡ true → cost_taken c i a ≡ held_choice c i a
unfolding cost_taken
cost_open c i a e = rw e

pub cost_closed : (c : List ℤ) (i a : ℕ) → (shape_of c).choice_open i a ≡ false → cost_taken c i a ≡ 0
unfolding cost_taken
cost_closed c i a e = rw e

-- it is the same where H and the choice are
pub cost_same : {c d : List ℤ} → SameLoaded c d → (i a : ℕ) → i < max_trains → a < max_choices → at d (held_choice_place i a) ≡ at c (held_choice_place i a) → cost_taken d i a ≡ cost_taken c i a
unfolding cost_taken
cost_same {c} {d} e i a h q o =
    ap₂ (λ (t : Bool) (v : ℕ). cond t v 0)
    (ap is_open (e.loaded (loaded_choice_place i a) (record { table = inl (record { low = omega arith; high = omega arith }) }))) (same_figure c d (held_choice_place i a) o)

-- ---- b and c

module _ {b c : List ℤ} (s : ShapeInRange b) (u : SameLoaded b c) where
  module _ (i a : ℕ) (h : i < max_trains) (q : a < size b i) where
    -- H is as it was
    choice_loaded : (shape_of c).choice_open i a ≡ (shape_of b).choice_open i a
    choice_loaded =
        let z = s.sizes i h in
        ap is_open (u.loaded (loaded_choice_place i a) (record { table = inl (record { low = omega arith; high = omega arith }) }))

    pub choice_same : open_place c (held_choice_place i a) ≡ (shape_of b).choice_open i a
    choice_same = let z = s.sizes i h in open_same u (held_choice_place i a) ∙ open_choice b i a h (omega arith)

    pub choice_natural : NonNegative c → (shape_of b).choice_open i a ≡ true → at c (held_choice_place i a) ≡ pos (held_choice c i a)
    choice_natural w o = let z = s.sizes i h in w.natural (held_choice_place i a) (omega arith) (choice_same ∙ o)

    pub cost_all : (shape_of b).choice_open i a ≡ true → cost_taken c i a ≡ held_choice c i a
    cost_all o = cost_open c i a (choice_loaded ∙ o)

    pub cost_most : (high : ℕ) → ((shape_of b).choice_open i a ≡ true → held_choice c i a ≤ high) → cost_taken c i a ≤ high
    cost_most high f = by ((shape_of b).choice_open i a) refl
      where
        by : (t : Bool) → (shape_of b).choice_open i a ≡ t → cost_taken c i a ≤ high
        by true e = omega (arith, cost_all e, f e)
        by false e = omega (arith, cost_closed c i a (choice_loaded ∙ e))

  module _ (k a y : ℕ) (h : k < pairs b) (q : a < size b (first b k)) (r : y < size b (second b k)) where
    pub entry_same : open_place c (held_entry_place k a y) ≡ (shape_of b).entry_open k a y
    entry_same = open_same u (held_entry_place k a y) ∙ open_entry b k a y (omega (arith, s.pairs)) (omega (arith, lanes_most s Rows k h)) (omega (arith, lanes_most s Columns k h))

    pub entry_natural : NonNegative c → (shape_of b).entry_open k a y ≡ true → at c (held_entry_place k a y) ≡ pos (held_entry c k a y)
    entry_natural w o = w.natural (held_entry_place k a y) (omega (arith, s.pairs, lanes_most s Rows k h, lanes_most s Columns k h)) (entry_same ∙ o)
