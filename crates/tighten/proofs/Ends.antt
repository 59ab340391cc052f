-- Where a tightening ends, for the crates above: it is a rewriting, in which no open number falls below 0, the constant only grows, and each train with a permitted choice is left one that
-- costs nothing.
use mathlib.Core.Path.{◌≡◌, sym, ◌∙◌}
use mathlib.Core.Bool.{true}
use mathlib.Core.List.{List}
use Prim.Native.Nat.{ℕ, ◌+◌, ◌*◌, ◌<◌, ◌≤◌}
use native.Mathlib.Omega.{arith}
use lib.IntN.{ℤ}
use Rattle.theory.specs.Fold.{iter}
use Rattle.tables.specs.Block.{max_parts, constant_place, held_choices_from, held_entries_from, trains, pairs, size, constant}
use Rattle.tables.specs.Plans.{IsPlan, Open, shape_of, held_total}
use Rattle.tables.specs.WellFormed.{holds_study, Study}
use Rattle.tables.proofs.Limits.{natural_open}
use Rattle.tables.proofs.Study.{same_figure}
use Rattle.rewriting.specs.Judged.{kept}
use Rattle.rewriting.specs.Moves.{ShapeInRange}
use Rattle.rewriting.specs.Leasts.{NonNegative, train_tightened}
use Rattle.rewriting.proofs.Shape.{study_shape_in_range, study_room, SameLoaded, shape_in_range_kept, Moved, none, moved_loaded, moved_map, moved_more, moved_then, all_moves, Any}
use Rattle.rewriting.proofs.Opens.{study_constant, study_non_negative}
use Rattle.rewriting.proofs.Rewritten.{loaded_alike, rewrites_open, judged_cases}
use Rattle.rewriting.proofs.Falls.{Falling, falling_start, Tight, moved_falling, moved_raises, trains-tightened, Zero}
use Rattle.weights.proofs.Held.{rewrites_within}
use Rattle.tighten.specs.Tighten.{pair_tightened, pairs_tightened, tightened, tighten_block}
use Rattle.tighten.proofs.Folds.{zero_back, trains-zero, pairs-tightened}

module _ {b : List ℤ} (s : Study b) where
  begins : Falling held_entries_from max_parts max_parts b
  begins = falling_start (study_non_negative s) (study_room s)

  pairs_chain : Moved (Tight held_entries_from) b (0 + 16 * pairs b) (pairs_tightened b)
  pairs_chain = pairs-tightened (study_shape_in_range s) (pairs b) 0 b (omega arith) none

  -- the most that a number is away from 0 after the pairs
  abbrev pairs_most : ℕ
  pairs_most = max_parts + (0 + 16 * pairs b) * (2 * max_parts + 3)

  abbrev pairs_falling : Falling held_entries_from max_parts pairs_most (pairs_tightened b)
  pairs_falling = moved_falling (study_shape_in_range s) begins pairs_chain

  -- no open number falls below 0 in the pairs' turns
  pub pairs_natural : (m : ℕ) → m ≤ pairs b → NonNegative (iter m pair_tightened b)
  pairs_natural m h = (moved_falling (study_shape_in_range s) begins (pairs-tightened (study_shape_in_range s) m 0 b h none)).whole

  between_loaded : SameLoaded b (pairs_tightened b)
  between_loaded = moved_loaded (study_shape_in_range s) pairs_chain

  between : ShapeInRange (pairs_tightened b)
  between = shape_in_range_kept between_loaded.shape (study_shape_in_range s)

  trains_chain : (m : ℕ) → m ≤ trains (pairs_tightened b) → Moved (Tight held_choices_from) (pairs_tightened b) (0 + m) (iter m train_tightened (pairs_tightened b))
  trains_chain m h = trains-tightened between m 0 (pairs_tightened b) h none

  -- a tightening is a chain of moves: what every rewriting keeps, it keeps
  pub tighten_rewrites : Moved Any b all_moves (tightened b)
  unfolding tightened
  tighten_rewrites =
      moved_more (omega (arith, (study_shape_in_range s).pairs, between.trains))
      (moved_then (study_shape_in_range s) (moved_map (λ run c α r. tt) pairs_chain) (moved_map (λ run c α r. tt) (trains_chain (trains (pairs_tightened b)) (omega arith))))

  start_falling : Falling held_choices_from pairs_most pairs_most (pairs_tightened b)
  start_falling = falling_start pairs_falling.whole pairs_falling.most

  -- no open number falls below 0
  pub tighten_natural : NonNegative (tightened b)
  unfolding tightened
  tighten_natural = (moved_falling between start_falling (trains_chain (trains (pairs_tightened b)) (omega arith))).whole

  -- the constant only grows
  raised : constant b ≤ constant (tightened b)
  unfolding tightened
  raised =
      omega (
        arith,
        moved_raises {source = held_entries_from} (omega arith) (study_shape_in_range s) begins pairs_chain,
        moved_raises {source = held_choices_from} (omega arith) between start_falling (trains_chain (trains (pairs_tightened b)) (omega arith)),
      )

  pub tighten_raises_constant : constant b ≤ constant (tighten_block b)
  tighten_raises_constant =
      judged_cases s tighten_rewrites (λ c. constant b ≤ constant c) (omega arith)
      (λ t. omega (
        arith,
        raised,
        same_figure (tightened b) (kept b (tightened b)) constant_place (rewrites_open s tighten_rewrites constant_place (natural_open _ _ (study_constant s))),
      ))

  -- each train with a permitted choice has one that costs nothing
  pub tighten_leaves_zero : (i : ℕ) → i < trains b → (a : ℕ) → a < size b i → (shape_of b).choice_open i a ≡ true → Zero b (tightened b) i
  unfolding tightened
  tighten_leaves_zero i h a q o =
      let l = loaded_alike (study_shape_in_range s) between_loaded in
      zero_back (study_shape_in_range s) between_loaded i h
      (trains-zero between start_falling (trains (pairs_tightened b)) (omega arith) i (omega (arith, l.trains_same)) a (omega (arith, l.sizes_same i h)) (sym (l.choices_open_same i a h q) ∙ o))

  -- where nothing is forbidden and no plan's total is above L, nothing is declined
  pub tighten_within : Open (shape_of b) → ((x : ℕ → ℕ) → IsPlan (shape_of b) x → held_total b x ≤ max_parts) → holds_study (kept b (tightened b)) ≡ true
  tighten_within o low = rewrites_within s tighten_rewrites o tighten_natural low
