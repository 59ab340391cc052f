-- Document 01's certificate on its study J, before and after J is tightened: one table, and one statement over all of it, which the checker computes.
use mathlib.Core.Bool.{Bool, true, false, ◌&&◌}
use mathlib.Core.List.{List, [], ◌∷◌}
use Prim.Native.Nat.{ℕ}
use lib.Dec.{T, eqb}
use lib.IntN.{ℤ, pos, negsuc}
use lib.ListN.{set}
use Rattle.theory.specs.Sum.{sum}
use Rattle.theory.specs.Range.{all}
use Rattle.tables.specs.Block.{trains_place, scale_place, pairs_place, constant_place, size_place, first_place, second_place, loaded_choice_place, held_choice_place, held_entry_place, figure}
use Rattle.tables.specs.WellFormed.{fresh_block, is_open}
use Rattle.tables.specs.Plans.{held_costs}
use Rattle.std.specs.Prelude.{Result, Ok, Err}
use Rattle.refusals.specs.declared.Refusal.{Refusal}
use Rattle.refusals.specs.declared.Refusal.TheVariants.{Sums, ForbiddenWeight}
use Rattle.certificates.specs.declared.certify.Ceiling.{Ceiling}
use Rattle.certificates.specs.Certify.{train_balanced, row_balanced, column_balanced, pair_balanced, balanced, choice_spared, entry_spared, spared, over_choices, over_pairs, weighted, weights_of, certificate}

-- the shape of J: two trains of two choices, s = 1, and one pair
shape : List ℤ
shape =
    set (set (set (set (set (set (set fresh_block trains_place (pos 2)) scale_place (pos 1)) pairs_place (pos 1)) (size_place 0) (pos 2)) (size_place 1) (pos 2)) (first_place 0) (pos 0)) (second_place 0) (pos 1)

-- T of J, loaded
loaded : List ℤ
loaded = set (set (set (set shape (held_choice_place 0 0) (pos 2)) (held_entry_place 0 0 0) (pos 1)) (held_entry_place 0 1 0) (pos 3)) (held_entry_place 0 1 1) (pos 2)

-- T of J, tightened
tightened : List ℤ
tightened = set (set shape constant_place (pos 2)) (held_choice_place 1 0) (pos 1)

-- J, loaded, with choice 1 of train 0 forbidden
closed : List ℤ
closed = set (set loaded (loaded_choice_place 0 1) (negsuc 0)) (held_choice_place 0 1) (negsuc 0)

pub record Case : Type 0 where
  pub block : List ℤ
  pub full_weight : ℕ
  pub weights : List ℕ
  -- whether the sums agree, whether the weights spare what is forbidden, whether the ceiling is reached, and E
  pub agree : Bool
  pub spare : Bool
  pub reached : Bool
  pub ceiling : ℕ

same_bool : Bool → Bool → Bool
same_bool true b = b
same_bool false true = false
same_bool false false = true

shows : Result Ceiling Refusal → Case → Bool
shows (Err Sums) c = same_bool c.agree false
shows (Err ForbiddenWeight) c = c.agree && same_bool c.spare false
shows (Err _) c = false
shows (Ok d) c = c.agree && c.spare && same_bool d.reached c.reached && eqb d.weighted c.ceiling

pub right : List Case → Bool
right [] = true
right (c ∷ cs) = shows (certificate c.block (weights_of c.block c.full_weight c.weights)) c && right cs

pub table : List Case
table =
    -- '85000000000000000002000001': E = 2, not reached
    record { block = loaded; full_weight = 1; weights = 1 ∷ 0 ∷ 0 ∷ 1 ∷ 0 ∷ 1 ∷ 0 ∷ 0 ∷ []; agree = true; spare = true; reached = false; ceiling = 2 }
    -- '85010000000000000002000001': E = 2 = W × c0
    ∷ record { block = tightened; full_weight = 1; weights = 1 ∷ 0 ∷ 0 ∷ 1 ∷ 0 ∷ 1 ∷ 0 ∷ 0 ∷ []; agree = true; spare = true; reached = true; ceiling = 2 }
    -- refusal 14: all weights 0, with W = 1
    ∷ record { block = loaded; full_weight = 1; weights = 0 ∷ 0 ∷ 0 ∷ 0 ∷ 0 ∷ 0 ∷ 0 ∷ 0 ∷ []; agree = false; spare = true; reached = false; ceiling = 0 }
    -- rows that agree and columns that do not
    ∷ record { block = loaded; full_weight = 1; weights = 1 ∷ 0 ∷ 0 ∷ 1 ∷ 1 ∷ 0 ∷ 0 ∷ 0 ∷ []; agree = false; spare = true; reached = false; ceiling = 0 }
    -- columns that agree and rows that do not
    ∷ record { block = loaded; full_weight = 1; weights = 1 ∷ 0 ∷ 0 ∷ 1 ∷ 0 ∷ 0 ∷ 0 ∷ 1 ∷ []; agree = false; spare = true; reached = false; ceiling = 0 }
    -- refusal 18: the weights of a plan that takes the forbidden choice
    ∷ record { block = closed; full_weight = 1; weights = 0 ∷ 1 ∷ 0 ∷ 1 ∷ 0 ∷ 0 ∷ 0 ∷ 1 ∷ []; agree = true; spare = false; reached = false; ceiling = 0 }
    -- the sums are judged first
    ∷ record { block = closed; full_weight = 1; weights = 0 ∷ 1 ∷ 0 ∷ 1 ∷ 0 ∷ 0 ∷ 0 ∷ 0 ∷ []; agree = false; spare = false; reached = false; ceiling = 0 }
    -- and a plan that does not take it
    ∷ record { block = closed; full_weight = 1; weights = 1 ∷ 0 ∷ 0 ∷ 1 ∷ 0 ∷ 1 ∷ 0 ∷ 0 ∷ []; agree = true; spare = true; reached = false; ceiling = 2 }
    ∷ []

pub table_right : T (right table)
unfolding sum all figure is_open choice_spared entry_spared spared closed held_costs train_balanced row_balanced column_balanced pair_balanced balanced over_choices over_pairs weighted shape loaded tightened same_bool shows right table
table_right = tt
