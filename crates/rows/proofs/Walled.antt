-- What a place counts in a search: its number where it is open, else the wall; so never more than the wall.
use mathlib.Core.Path.{◌≡◌, sym, ◌∙◌}
use mathlib.Core.Bool.{Bool, true, false, cond}
use mathlib.Core.List.{List}
use Prim.Native.Nat.{ℕ, ◌<◌, ◌≤◌}
use native.Mathlib.Omega.{arith}
use lib.IntN.{ℤ}
use Rattle.tables.specs.Block.{max_trains, max_choices, max_pairs, max_parts, loaded_choices_from, at, figure}
use Rattle.tables.specs.WellFormed.{Study, is_open}
use Rattle.tables.proofs.Limits.{natural_open}
use Rattle.tables.proofs.Study.{shape_natural, held_choice_high, held_entry_high}
use Rattle.rows.specs.Walled.{wall, walled, walled_choice, walled_entry}

-- by the answer to whether the place is open
module _ (b : List ℤ) (p : ℕ) {t : Bool} (e : t ≡ is_open (at b p)) where
  pub walled_read : t ≡ true → walled b p ≡ figure b p
  unfolding walled
  walled_read f = rw (sym e ∙ f)

  pub walled_stop : t ≡ false → walled b p ≡ wall
  unfolding walled
  walled_stop f = rw (sym e ∙ f)

walled_low : (b : List ℤ) (p : ℕ) → figure b p ≤ max_parts → walled b p ≤ wall
unfolding walled
walled_low b p h = go (is_open (at b p))
  where
    go : (t : Bool) → cond t (figure b p) wall ≤ wall
    go true = omega arith
    go false = omega arith

module _ {b : List ℤ} (s : Study b) where
  -- what is no cost is never forbidden
  pub walled_shape : (p : ℕ) → p < loaded_choices_from → walled b p ≡ figure b p
  unfolding walled
  walled_shape p h = rw (natural_open _ _ (shape_natural s p h))

  -- also past a train's last choice
  pub walled_choice_low : (i a : ℕ) → i < max_trains → a < max_choices → walled_choice b i a ≤ wall
  walled_choice_low i a h q = walled_low b _ (held_choice_high s i a h q)

  pub walled_entry_low : (k a c : ℕ) → k < max_pairs → a < max_choices → c < max_choices → walled_entry b k a c ≤ wall
  walled_entry_low k a c h p q = walled_low b _ (held_entry_high s k a c h p q)
