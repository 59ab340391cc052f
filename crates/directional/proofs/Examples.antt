-- Rounds of small studies, with all that they leave, and rounds that are declined: tables, and one statement over all of each, which the checker computes.
use mathlib.Core.Bool.{Bool, true, false, ◌&&◌}
use mathlib.Core.List.{List, [], ◌∷◌}
use Prim.Native.Nat.{ℕ, ◌+◌}
use lib.Dec.{T, eqb}
use lib.IntN.{ℤ, pos, negsuc}
use lib.ListN.{length, set}
use Rattle.theory.specs.Sum.{sum}
use Rattle.theory.specs.Range.{all, pass}
use Rattle.theory.specs.Order.{each_once}
use Rattle.theory.specs.Fold.{iter, down}
use Rattle.refusals.specs.declared.Refusal.TheVariants.{PartsOutside}
use Rattle.refusals.specs.Refusals.{refusal_number}
use Rattle.refusals.specs.Verdicts.{verdict_number}
use Rattle.tables.specs.Block.{max_parts, trains_place, scale_place, pairs_place, constant_place, size_place, first_place, second_place, loaded_choices_from, held_choices_from, loaded_entries_from, held_entries_from, choice_place, entry_place, order_place, figure}
use Rattle.tables.specs.Numbers.{forbidden_cost, permits, priced}
use Rattle.tables.specs.WellFormed.{within, choice_used, entry_used, head_limits, shape_limits, cost_limits, order_limits, limits_at, places_right, before, follows, pair_right, pairs_right, order_right, is_open, mate, mates, mated, holds_study, fresh_block}
use Rattle.rewriting.specs.Judged.{kept}
use Rattle.rewriting.specs.Moves.{move_run}
use Rattle.rewriting.specs.Leasts.{mate_place, open_place, found_of, run_least, run_tightened}
use Rattle.directional.specs.Directional.{cost_taken, pair_round, pair_turn, train_round, directed, direct_outcome, direct_block}

-- ---- a study as its tables are written: the constant, the costs of each train's choices, and of each pair its trains and its rows

pub record Joined : Type 0 where
  pub first : ℕ
  pub second : ℕ
  pub rows : List (List ℕ)

pub record Written : Type 0 where
  pub constant : ℕ
  pub trains : List (List ℕ)
  pub pairs : List Joined

join : ℕ → ℕ → List (List ℕ) → Joined
join i j rows = record { first = i; second = j; rows = rows }

study : ℕ → List (List ℕ) → List Joined → Written
study c ts js = record { constant = c; trains = ts; pairs = js }

-- a forbidden entry, as a load writes it
abbrev closed : ℕ
closed = forbidden_cost

put : ℕ → ℕ → List ℤ → List ℤ
put p v b = set b p (pos v)

-- costs from place p of T on, and what is forbidden of them from place q of H on, where all else is 0: of H a round reads no more
row : ℕ → ℕ → List ℕ → List ℤ → List ℤ
row p q [] b = b
row p q (v ∷ vs) b = set (set (row (p + 1) (q + 1) vs b) q (priced v 0)) p (priced v v)

trains_from : ℕ → List (List ℕ) → List ℤ → List ℤ
trains_from i [] b = b
trains_from i (t ∷ ts) b =
    put (size_place i) (length t) (put (order_place i) i (row (choice_place held_choices_from i 0) (choice_place loaded_choices_from i 0) t (trains_from (i + 1) ts b)))

rows_from : ℕ → ℕ → List (List ℕ) → List ℤ → List ℤ
rows_from k a [] b = b
rows_from k a (r ∷ rs) b = row (entry_place held_entries_from k a 0) (entry_place loaded_entries_from k a 0) r (rows_from k (a + 1) rs b)

pairs_from : ℕ → List Joined → List ℤ → List ℤ
pairs_from k [] b = b
pairs_from k (j ∷ js) b = put (first_place k) j.first (put (second_place k) j.second (rows_from k 0 j.rows (pairs_from (k + 1) js b)))

held : Written → List ℤ
held w =
    put trains_place (length w.trains)
    (put scale_place 1
    (put pairs_place (length w.pairs) (put constant_place w.constant (trains_from 0 w.trains (pairs_from 0 w.pairs fresh_block)))))

-- ---- the tables

-- a study, and what a round leaves of it
pub record Case : Type 0 where
  pub before : Written
  pub after : Written

same_number : ℤ → ℤ → Bool
same_number (pos m) (pos n) = eqb m n
same_number (pos m) (negsuc n) = false
same_number (negsuc m) (pos n) = false
same_number (negsuc m) (negsuc n) = eqb m n

same : List ℤ → List ℤ → Bool
same [] [] = true
same [] (y ∷ c) = false
same (x ∷ b) [] = false
same (x ∷ b) (y ∷ c) = same_number x y && same b c

pub right : List Case → Bool
unfolding put row trains_from rows_from pairs_from held same_number same join study permits priced sum all pass each_once figure iter down within choice_used entry_used head_limits shape_limits cost_limits order_limits limits_at places_right before follows pair_right pairs_right order_right is_open mate mates mated holds_study kept move_run mate_place open_place found_of run_least run_tightened cost_taken pair_round pair_turn train_round directed
right [] = true
right (c ∷ cs) = same (direct_block (held c.before)) (held c.after) && right cs

-- studies of which a round answers 12
pub declined : List Written → Bool
unfolding right
declined [] = true
declined (w ∷ ws) = eqb (verdict_number (direct_outcome (held w))) (refusal_number PartsOutside) && declined ws

pub table : List Case
table =
    -- trains 0 and 1, which a tightening leaves at 0, and two trains without a pair, which lift
    record {
      before = study 0 ((1 ∷ 0 ∷ []) ∷ (0 ∷ 1 ∷ []) ∷ (5 ∷ 2 ∷ []) ∷ (3 ∷ []) ∷ []) (join 0 1 ((0 ∷ 0 ∷ []) ∷ (1 ∷ 0 ∷ []) ∷ []) ∷ []);
      after = study 6 ((0 ∷ 0 ∷ []) ∷ (0 ∷ 0 ∷ []) ∷ (3 ∷ 0 ∷ []) ∷ (0 ∷ []) ∷ []) (join 0 1 ((0 ∷ 1 ∷ []) ∷ (0 ∷ 0 ∷ []) ∷ []) ∷ []);
    }
    -- a tree of four trains, whose least total is 12
    ∷ record {
      before = study 0 ((2 ∷ 0 ∷ []) ∷ (4 ∷ 6 ∷ []) ∷ (0 ∷ 4 ∷ []) ∷ (2 ∷ 0 ∷ []) ∷ []) (join 0 1 ((4 ∷ 4 ∷ []) ∷ (4 ∷ 2 ∷ []) ∷ []) ∷ join 0 2 ((0 ∷ 6 ∷ []) ∷ (4 ∷ 0 ∷ []) ∷ []) ∷ join 2 3 ((0 ∷ 4 ∷ []) ∷ (6 ∷ 2 ∷ []) ∷ []) ∷ []);
      after = study 12 ((0 ∷ 2 ∷ []) ∷ (0 ∷ 0 ∷ []) ∷ (0 ∷ 0 ∷ []) ∷ (0 ∷ 0 ∷ []) ∷ []) (join 0 1 ((0 ∷ 2 ∷ []) ∷ (0 ∷ 0 ∷ []) ∷ []) ∷ join 0 2 ((0 ∷ 10 ∷ []) ∷ (0 ∷ 0 ∷ []) ∷ []) ∷ join 2 3 ((0 ∷ 2 ∷ []) ∷ (6 ∷ 0 ∷ []) ∷ []) ∷ []);
    }
    -- train 2 has two partners of lower number: below the least total, which is 5
    ∷ record {
      before = study 0 ((1 ∷ 2 ∷ []) ∷ (2 ∷ 2 ∷ []) ∷ (2 ∷ 0 ∷ []) ∷ []) (join 0 2 ((1 ∷ 2 ∷ []) ∷ (2 ∷ 0 ∷ []) ∷ []) ∷ join 1 2 ((2 ∷ 2 ∷ []) ∷ (0 ∷ 1 ∷ []) ∷ []) ∷ []);
      after = study 4 ((1 ∷ 0 ∷ []) ∷ (2 ∷ 0 ∷ []) ∷ (0 ∷ 0 ∷ []) ∷ []) (join 0 2 ((1 ∷ 0 ∷ []) ∷ (4 ∷ 0 ∷ []) ∷ []) ∷ join 1 2 ((0 ∷ 0 ∷ []) ∷ (0 ∷ 1 ∷ []) ∷ []) ∷ []);
    }
    -- numbers above L on the way: with c_1(0) the entries of column 0 are 86,400,000,000 each
    ∷ record {
      before = study 0 ((0 ∷ 0 ∷ []) ∷ (43200000000 ∷ 21600000000 ∷ []) ∷ []) (join 0 1 ((43200000000 ∷ 0 ∷ []) ∷ (43200000000 ∷ 0 ∷ []) ∷ []) ∷ []);
      after = study 21600000000 ((0 ∷ 0 ∷ []) ∷ (0 ∷ 0 ∷ []) ∷ []) (join 0 1 ((64800000000 ∷ 0 ∷ []) ∷ (64800000000 ∷ 0 ∷ []) ∷ []) ∷ []);
    }
    ∷ []

pub table_right : T (right table)
unfolding right table
table_right = tt

-- document 02, change 5
pub forbidden : List Case
forbidden =
    -- a forbidden c_1(1) is not taken, and a forbidden entry is given nothing
    record {
      before = study 0 ((0 ∷ 1 ∷ []) ∷ (4 ∷ closed ∷ []) ∷ []) (join 0 1 ((closed ∷ 0 ∷ []) ∷ (2 ∷ 5 ∷ []) ∷ []) ∷ []);
      after = study 0 ((0 ∷ 6 ∷ []) ∷ (0 ∷ closed ∷ []) ∷ []) (join 0 1 ((closed ∷ 0 ∷ []) ∷ (1 ∷ 0 ∷ []) ∷ []) ∷ []);
    }
    -- c_1(0) goes into a column without a permitted entry, and is lost; the least of row 0 of pair (2, 3) goes to a forbidden choice, and is lost; train 5 has no permitted choice, and row 0
    -- of pair (4, 5) no permitted entry: nothing moves there
    ∷ record {
      before = study 0 ((0 ∷ 0 ∷ []) ∷ (3 ∷ 4 ∷ []) ∷ (closed ∷ 0 ∷ []) ∷ (0 ∷ 0 ∷ []) ∷ (2 ∷ 1 ∷ []) ∷ (closed ∷ []) ∷ []) (join 0 1 ((closed ∷ 1 ∷ []) ∷ (closed ∷ 2 ∷ []) ∷ []) ∷ join 2 3 ((2 ∷ 3 ∷ []) ∷ (1 ∷ 1 ∷ []) ∷ []) ∷ join 4 5 ((closed ∷ []) ∷ (4 ∷ []) ∷ []) ∷ []);
      after = study 8 ((0 ∷ 1 ∷ []) ∷ (0 ∷ 0 ∷ []) ∷ (closed ∷ 0 ∷ []) ∷ (0 ∷ 0 ∷ []) ∷ (0 ∷ 3 ∷ []) ∷ (closed ∷ []) ∷ []) (join 0 1 ((closed ∷ 0 ∷ []) ∷ (closed ∷ 0 ∷ []) ∷ []) ∷ join 2 3 ((0 ∷ 1 ∷ []) ∷ (0 ∷ 0 ∷ []) ∷ []) ∷ join 4 5 ((closed ∷ []) ∷ (0 ∷ []) ∷ []) ∷ []);
    }
    ∷ []

pub forbidden_right : T (right forbidden)
unfolding right forbidden
forbidden_right = tt

-- the constant would end above L
pub above : List Written
above =
    -- the constant is at L
    study max_parts ((3 ∷ []) ∷ []) []
    -- c_0(0), which no plan can take, is at L
    ∷ study 1 ((max_parts ∷ []) ∷ (0 ∷ []) ∷ []) (join 0 1 ((closed ∷ []) ∷ []) ∷ [])
    ∷ []

pub above_declined : T (declined above)
unfolding declined above
above_declined = tt
