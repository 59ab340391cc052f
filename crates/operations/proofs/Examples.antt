-- Additions to document 01's study J, loaded with 1 and with 2 parts a point: one table, and one statement over all of it, which the checker computes.
use mathlib.Core.Bool.{Bool, true, ◌&&◌}
use mathlib.Core.List.{List, [], ◌∷◌}
use Prim.Native.Nat.{ℕ}
use lib.Dec.{T, eqb}
use lib.IntN.{ℤ}
use Rattle.theory.specs.Sum.{sum}
use Rattle.theory.specs.Fold.{iter}
use Rattle.refusals.specs.Verdicts.{verdict_number}
use Rattle.tables.specs.Block.{figure, loaded_choice_place, held_choice_place, loaded_entry_place, held_entry_place}
use Rattle.tables.specs.WellFormed.{is_open}
use Rattle.tables.specs.Numbers.{numbers, permits, priced}
use Rattle.operations.specs.Add.{added, add_outcome, add_block}
use Rattle.operations.specs.Load.{loaded_block}

-- J with s parts a point: two trains of two choices, one pair
abbrev study_of : ℕ → List ℤ
study_of s = loaded_block (numbers s (2 ∷ 2 ∷ []) (2 ∷ 0 ∷ 0 ∷ 0 ∷ []) (0 ∷ []) (1 ∷ []) (1 ∷ 0 ∷ 3 ∷ 2 ∷ []))

-- 'J is the first line above, loaded'
unfoldable pub study : List ℤ
study = study_of 1

-- what stands at a place afterwards
pub record Left : Type 0 where
  pub place : ℕ
  pub holds : ℕ

unfoldable pub at_place : ℕ → ℕ → Left
at_place p v = record { place = p; holds = v }

unfoldable pub left_right : List ℤ → List Left → Bool
left_right b [] = true
left_right b (l ∷ ls) = eqb (figure b l.place) l.holds && left_right b ls

-- an addition to J, document 01's number of what it answers, and what it leaves
pub record Case : Type 0 where
  pub scale : ℕ
  pub train : ℕ
  pub choice : ℕ
  pub points : ℕ
  pub answers : ℕ
  pub leaves : List Left

pub right : List Case → Bool
right [] = true
right (c ∷ cs) =
    (eqb (verdict_number (add_outcome c.train c.choice c.points (study_of c.scale))) c.answers && left_right (add_block c.train c.choice c.points (study_of c.scale)) c.leaves) && right cs

pub table : List Case
table =
    -- points added to choice 0 of train 0; 1,000,000 of them pass the limit: 10
    record { scale = 1; train = 0; choice = 0; points = 5; answers = 0; leaves = at_place (loaded_choice_place 0 0) 7 ∷ at_place (held_choice_place 0 0) 7 ∷ [] }
    ∷ record { scale = 1; train = 0; choice = 0; points = 1000000; answers = 10; leaves = at_place (loaded_choice_place 0 0) 2 ∷ at_place (held_choice_place 0 0) 2 ∷ [] }
    -- with 2 parts a point T is, and grows by, twice as much
    ∷ record {
      scale = 2;
      train = 0;
      choice = 0;
      points = 5;
      answers = 0;
      leaves = at_place (loaded_choice_place 0 0) 7 ∷ at_place (held_choice_place 0 0) 14 ∷ at_place (loaded_entry_place 0 1 0) 3 ∷ at_place (held_entry_place 0 1 0) 6 ∷ [];
    }
    ∷ []

pub table_right : T (right table)
unfolding is_open permits priced at_place sum figure iter added loaded_block right left_right table
table_right = tt
