-- Studies written as clauses and the numbers of the load that they stand for: one table, and one statement over all of it, which the checker computes.
use mathlib.Core.Path.{◌≡◌, refl}
use mathlib.Core.Bool.{Bool, true, false, ◌&&◌}
use mathlib.Core.List.{List, [], ◌∷◌, ◌++◌}
use Prim.Native.Nat.{ℕ}
use lib.Dec.{T, eqb}
use lib.IntN.{ℤ, pos, negsuc}
use lib.ListN.{drop, replicate}
use Rattle.theory.specs.Sum.{sum}
use Rattle.theory.specs.Range.{all}
use Rattle.theory.specs.Lists.{list_from}
use Rattle.refusals.specs.declared.Refusal.TheVariants.{CostAbove, PairsAbove}
use Rattle.refusals.specs.Verdicts.{Fine, Declined}
use Rattle.tables.specs.Numbers.{Numbers, numbers}
use Rattle.clauses.specs.Clauses.{Clauses, clauses, literals_right, cell_of, other_of, cell_from, charged_to, unnamed_to, named, codes_below, pair_codes, clause_numbers, costs_within, sums_within}
use Rattle.clauses.specs.Outcomes.{clauses_outcome}

-- two lists are alike
unfoldable pub alike : List ℕ → List ℕ → Bool
alike [] [] = true
alike [] (y ∷ m) = false
alike (x ∷ l) [] = false
alike (x ∷ l) (y ∷ m) = eqb x y && alike l m

pub record Case : Type 0 where
  pub trains : ℕ
  pub scale : ℕ
  pub study : Clauses
  pub loads : Numbers

-- the numbers are those of the load
unfoldable pub right : List Case → Bool
right [] = true
right (c ∷ cs) =
    let l = clause_numbers c.trains c.scale c.study in
    let m = c.loads in
    (eqb l.scale m.scale && alike l.sizes m.sizes && alike l.choices m.choices && alike l.firsts m.firsts && alike l.seconds m.seconds && alike l.entries m.entries) && right cs

unfoldable pub table : List Case
table =
    -- 1 or 2: 5; −1: 2; −2 or 1: 1
    record {
      trains = 2;
      scale = 1;
      study = clauses (pos 1 ∷ negsuc 0 ∷ negsuc 1 ∷ []) (pos 2 ∷ pos 0 ∷ pos 1 ∷ []) (5 ∷ 2 ∷ 1 ∷ []);
      loads = numbers 1 (2 ∷ 2 ∷ []) (2 ∷ 0 ∷ 0 ∷ 0 ∷ []) (0 ∷ []) (1 ∷ []) (0 ∷ 0 ∷ 1 ∷ 5 ∷ []);
    }
    -- two clauses of one entry, in either order, add up
    ∷ record {
      trains = 2;
      scale = 1;
      study = clauses (pos 1 ∷ pos 2 ∷ []) (pos 2 ∷ pos 1 ∷ []) (5 ∷ 7 ∷ []);
      loads = numbers 1 (2 ∷ 2 ∷ []) (0 ∷ 0 ∷ 0 ∷ 0 ∷ []) (0 ∷ []) (1 ∷ []) (0 ∷ 0 ∷ 0 ∷ 12 ∷ []);
    }
    -- a clause of weight 0 makes its pair
    ∷ record {
      trains = 3;
      scale = 1;
      study = clauses (pos 3 ∷ []) (negsuc 0 ∷ []) (0 ∷ []);
      loads = numbers 1 (2 ∷ 2 ∷ 2 ∷ []) (0 ∷ 0 ∷ 0 ∷ 0 ∷ 0 ∷ 0 ∷ []) (0 ∷ []) (2 ∷ []) (0 ∷ 0 ∷ 0 ∷ 0 ∷ []);
    }
    -- pairs come out ascending
    ∷ record {
      trains = 3;
      scale = 2;
      study = clauses (pos 3 ∷ negsuc 0 ∷ pos 2 ∷ []) (negsuc 1 ∷ pos 3 ∷ pos 1 ∷ []) (4 ∷ 6 ∷ 8 ∷ []);
      loads =
          numbers 2 (2 ∷ 2 ∷ 2 ∷ []) (0 ∷ 0 ∷ 0 ∷ 0 ∷ 0 ∷ 0 ∷ []) (0 ∷ 0 ∷ 1 ∷ []) (1 ∷ 2 ∷ 2 ∷ [])
          (0 ∷ 0 ∷ 0 ∷ 8 ∷ 0 ∷ 6 ∷ 0 ∷ 0 ∷ 0 ∷ 4 ∷ 0 ∷ 0 ∷ []);
    }
    -- no clause
    ∷ record { trains = 1; scale = 1; study = clauses [] [] []; loads = numbers 1 (2 ∷ []) (0 ∷ 0 ∷ []) [] [] [] }
    ∷ []

pub table_right : T (right table)
unfolding sum all cell_of other_of cell_from charged_to unnamed_to named codes_below pair_codes list_from clause_numbers alike right table
table_right = tt

-- ---- what is declined

-- 19: literals of absent trains, a first literal of 0, one train twice; 0 may be the second
pub literals : (literals_right 2 (pos 1) (pos 2) ≡ true) × ((literals_right 2 (negsuc 1) (pos 0) ≡ true) × ((literals_right 2 (pos 0) (pos 1) ≡ false) × ((literals_right 2 (negsuc 127) (pos 0) ≡ false)
    × ((literals_right 2 (pos 1) (pos 3) ≡ false) × ((literals_right 2 (pos 1) (negsuc 0) ≡ false) × (literals_right 2 (pos 1) (pos 1) ≡ false))))))
unfolding literals_right
literals = (refl, (refl, (refl, (refl, (refl, (refl, refl))))))

-- 10: sums of 1,000,001, of a choice and of an entry; one of 1,000,000 is taken
pub above : (clauses_outcome 2 1 (clauses (pos 1 ∷ pos 1 ∷ []) (pos 0 ∷ pos 0 ∷ []) (1000000 ∷ 1 ∷ [])) ≡ Declined CostAbove)
    × ((clauses_outcome 2 1 (clauses (pos 1 ∷ pos 2 ∷ []) (pos 2 ∷ pos 1 ∷ []) (1000000 ∷ 1 ∷ [])) ≡ Declined CostAbove)
    × (clauses_outcome 2 1 (clauses (pos 1 ∷ pos 2 ∷ []) (pos 2 ∷ pos 1 ∷ []) (999999 ∷ 1 ∷ [])) ≡ Fine))
unfolding sum all cell_of other_of cell_from charged_to unnamed_to named codes_below pair_codes list_from clause_numbers costs_within sums_within clauses_outcome
above = (refl, (refl, refl))

-- 20: 49 clauses of 49 pairs, and the last 48 of them
pub pair_firsts : List ℤ
pair_firsts = pos 1 ∷ pos 1 ∷ pos 1 ∷ pos 1 ∷ pos 1 ∷ pos 1 ∷ pos 1 ∷ pos 1 ∷ pos 1 ∷ pos 1 ∷ pos 1 ∷ pos 1 ∷ pos 1 ∷ pos 1 ∷ pos 1 ∷ pos 1 ∷ pos 1 ∷ pos 1 ∷ pos 1 ∷ pos 1 ∷ pos 1 ∷ pos 1 ∷ pos 1 ∷ pos 2 ∷ pos 2 ∷ pos 2 ∷ pos 2 ∷ pos 2 ∷ pos 2 ∷ pos 2 ∷ pos 2 ∷ pos 2 ∷ pos 2 ∷ pos 2 ∷ pos 2 ∷ pos 2 ∷ pos 2 ∷ pos 2 ∷ pos 2 ∷ pos 2 ∷ pos 2 ∷ pos 2 ∷ pos 2 ∷ pos 2 ∷ pos 2 ∷ pos 3 ∷ pos 3 ∷ pos 3 ∷ pos 3 ∷ []

pub pair_seconds : List ℤ
pair_seconds = pos 2 ∷ pos 3 ∷ pos 4 ∷ pos 5 ∷ pos 6 ∷ pos 7 ∷ pos 8 ∷ pos 9 ∷ pos 10 ∷ pos 11 ∷ pos 12 ∷ pos 13 ∷ pos 14 ∷ pos 15 ∷ pos 16 ∷ pos 17 ∷ pos 18 ∷ pos 19 ∷ pos 20 ∷ pos 21 ∷ pos 22 ∷ pos 23 ∷ pos 24 ∷ pos 3 ∷ pos 4 ∷ pos 5 ∷ pos 6 ∷ pos 7 ∷ pos 8 ∷ pos 9 ∷ pos 10 ∷ pos 11 ∷ pos 12 ∷ pos 13 ∷ pos 14 ∷ pos 15 ∷ pos 16 ∷ pos 17 ∷ pos 18 ∷ pos 19 ∷ pos 20 ∷ pos 21 ∷ pos 22 ∷ pos 23 ∷ pos 24 ∷ pos 4 ∷ pos 5 ∷ pos 6 ∷ pos 7 ∷ []

-- 20 where a sum is above the limit too: the last weight is 1,000,001
pub pairs_most : (clauses_outcome 24 1 (clauses pair_firsts pair_seconds (replicate 48 0 ++ (1000001 ∷ []))) ≡ Declined PairsAbove)
    × ((clauses_outcome 24 1 (clauses (drop 1 pair_firsts) (drop 1 pair_seconds) (replicate 47 0 ++ (1000001 ∷ []))) ≡ Declined CostAbove)
    × (clauses_outcome 24 1 (clauses (drop 1 pair_firsts) (drop 1 pair_seconds) (replicate 48 0)) ≡ Fine))
unfolding sum all cell_of other_of cell_from charged_to unnamed_to named codes_below pair_codes list_from clause_numbers costs_within sums_within clauses_outcome pair_firsts pair_seconds
pairs_most = (refl, (refl, refl))
