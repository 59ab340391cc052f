-- Document 01's fresh block, its study J as its load leaves it, and studies without pairs.
use Rattle.std.specs.Prelude.{refl, true, List, [], ◌∷◌, ℕ}
use Prim.Native.String.{String}
use Rattle.tables.specs.WellFormed.{fresh_block}
use Rattle.cases.specs.Written.{Written}
use Rattle.cases.specs.Calls.{Block, held, held_in}
use Rattle.cases.specs.Computed.{computed}

unfoldable pub fresh : Block
unfolding computed
fresh = record { numbers = fresh_block; formed = true; shown = refl }

-- the line: two trains of two choices, one part a point, and one pair
unfoldable pub j_line : String
j_line = "01 02 0001 02 02 000002 000000 000000 000000 01 00 01 000001 000000 000003 000002"

-- J with this constant, and these costs in parts
unfoldable pub j_with : ℕ → List (List ℕ) → List (List ℕ) → Written
j_with c0 choices entries =
    record {
      scale = 1;
      constant = c0;
      sizes = 2 ∷ 2 ∷ [];
      firsts = 0 ∷ [];
      seconds = 1 ∷ [];
      loaded_choices = (2 ∷ 0 ∷ []) ∷ (0 ∷ 0 ∷ []) ∷ [];
      held_choices = choices;
      loaded_entries = ((1 ∷ 0 ∷ []) ∷ (3 ∷ 2 ∷ []) ∷ []) ∷ [];
      held_entries = entries ∷ [];
    }

-- 'J is the first line above, loaded'
unfoldable pub j : Block
unfolding computed j_with
j = held (j_with 0 ((2 ∷ 0 ∷ []) ∷ (0 ∷ 0 ∷ []) ∷ []) ((1 ∷ 0 ∷ []) ∷ (3 ∷ 2 ∷ []) ∷ [])) refl

-- J with train 1 first
unfoldable pub turned : Block
unfolding computed j_with
turned = held_in (1 ∷ 0 ∷ []) (j_with 0 ((2 ∷ 0 ∷ []) ∷ (0 ∷ 0 ∷ []) ∷ []) ((1 ∷ 0 ∷ []) ∷ (3 ∷ 2 ∷ []) ∷ [])) refl

-- a study without pairs: how many parts a point has, its sizes, its choices in points; then its constant and its choices in parts
unfoldable pub without_pairs : ℕ → List ℕ → List (List ℕ) → ℕ → List (List ℕ) → Written
without_pairs s sizes points c0 choices =
    record { scale = s; constant = c0; sizes = sizes; firsts = []; seconds = []; loaded_choices = points; held_choices = choices; loaded_entries = []; held_entries = [] }
