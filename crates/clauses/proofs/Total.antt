-- 'Each plan's total in H must be the weights of the clauses it fails.' A plan goes through one cell of each code. Summed over clauses and then over codes, a clause counts at its own code, where the plan fails it;
-- summed over codes and then over clauses, it is the costs of the cells: those of one train twice are the choices' costs, those of named codes the pairs', and the others are 0. For every n, every count and every plan.
use mathlib.Core.Path.{◌≡◌, refl, sym, ap, ◌∙◌}
use mathlib.Core.Bool.{Bool, true, false, cond}
use mathlib.Core.Logic.{dite}
use Prim.Native.Nat.{ℕ, ◌+◌, ◌*◌, ◌/◌, ◌%◌, ◌<◌, min}
use native.Mathlib.Decide.{ℕ_discrete}
use native.Mathlib.Omega.{arith}
use borrow.Author.Tests.{eq-eqb, ne_eqb}
use lib.Dec.{eqb}
use lib.ListN.{length}
use Rattle.theory.specs.Sum.{sum}
use Rattle.theory.specs.Lists.{nth}
use Rattle.theory.proofs.Sum.{sum_cong, sum-add, sum_swap}
use Rattle.theory.proofs.Lists.{list_nth}
use Rattle.tables.specs.Block.{max_trains}
use Rattle.tables.specs.Counts.{choice_index, entry_index}
use Rattle.tables.specs.Plans.{IsPlan, choice_total, pair_total, total}
use Rattle.tables.specs.Numbers.{choice_given, entry_given, numbers_shape, numbers_costs}
use Rattle.clauses.specs.Clauses.{Clauses, count, InLimits, failed, failed_weight, clause_choices, clause_entries, max_codes, clause_cell, charged_to, cell_cost, named, pair_codes, choice_cost_at, entry_cost_at, clause_numbers, sums_within}
use Rattle.clauses.proofs.Sums.{sum_rows, sum_rest, sum_only}
use Rattle.clauses.proofs.Codes.{codes-sum}
use Rattle.clauses.proofs.Cells.{plan_cell, clause_cell_lem, cell_term}
use Rattle.clauses.proofs.Pairs.{own_unnamed, unnamed_none, absent_none}
use Rattle.clauses.proofs.Ranges.{clause_trains, clause_pairs, clause_size, choices_before_lem, clause_first_lem, clause_second_lem, small_paid, choices_most, entries_most, pair_trains, pair_lanes, entries_before_lem}

-- what a plan pays at code o
abbrev code_cost : Clauses → (ℕ → ℕ) → ℕ → ℕ
code_cost cs x o = cell_cost cs (plan_cell x o)

module _ {n s : ℕ} {cs : Clauses} (g : InLimits n s cs) (within : sums_within (clause_numbers n s cs) ≡ true) (x : ℕ → ℕ) (plan : (t : ℕ) → t < n → x t < clause_choices) where
  -- the exchange
  failed_by_codes : failed_weight cs x ≡ sum max_codes (code_cost cs x)
  unfolding failed_weight charged_to
  failed_by_codes =
      sum_cong (count cs) (λ k. cond (failed cs x k) (nth cs.weights k) 0) (λ k. sum max_codes (λ o. cond (eqb (clause_cell cs k) (plan_cell x o)) (nth cs.weights k) 0))
      (λ k h. sym (cell_term g.trains.1 (clause_cell_lem g.clear k h) x plan (nth cs.weights k)))
      ∙ sum_swap (count cs) max_codes (λ k o. cond (eqb (clause_cell cs k) (plan_cell x o)) (nth cs.weights k) 0)

  -- a code is one train twice, or named, or costs nothing
  code_parts : (o : ℕ) → code_cost cs x o ≡ cond (named cs o) (code_cost cs x o) 0 + cond (eqb (o / max_trains) (o % max_trains)) (code_cost cs x o) 0
  code_parts o =
      dite (ℕ_discrete (o / max_trains) (o % max_trains)) (λ (e : o / max_trains ≡ o % max_trains). rw (own_unnamed cs o e, eq-eqb (o / max_trains) (o % max_trains) e) (omega arith))
      (λ d. rw (ne_eqb (o / max_trains) (o % max_trains) d) (by d (named cs o) refl))
    where
      by : (o / max_trains ≡ o % max_trains → ⊥) → (t : Bool) → named cs o ≡ t → code_cost cs x o ≡ cond t (code_cost cs x o) 0 + 0
      by d true e = omega arith
      by d false e = unnamed_none g.trains.1 g.clear o (clause_choices * min 1 (x (o / max_trains)) + min 1 (x (o % max_trains))) (omega arith) d e

  -- the codes of one train twice, by trains
  own_sum : sum max_codes (λ o. cond (eqb (o / max_trains) (o % max_trains)) (code_cost cs x o) 0) ≡ sum n (λ i. code_cost cs x (max_trains * i + i))
  own_sum =
      let f : ℕ → ℕ = λ o. cond (eqb (o / max_trains) (o % max_trains)) (code_cost cs x o) 0 in
      sum_rows max_trains max_trains f
      ∙ sum_cong max_trains (λ i. sum max_trains (λ a. f (max_trains * i + a))) (λ i. code_cost cs x (max_trains * i + i)) at_row
      ∙ sum_rest n max_trains (λ i. code_cost cs x (max_trains * i + i)) g.trains.1
      (λ i l h. absent_none g.trains.1 g.clear i (clause_choices * min 1 (x ((max_trains * i + i) / max_trains)) + min 1 (x ((max_trains * i + i) % max_trains))) h l (omega arith))
    where
      at_row : (i : ℕ) → i < max_trains → sum max_trains (λ a. cond (eqb ((max_trains * i + a) / max_trains) ((max_trains * i + a) % max_trains)) (code_cost cs x (max_trains * i + a)) 0) ≡ code_cost cs x (max_trains * i + i)
      at_row i h =
          sum_only max_trains i (λ a. cond (eqb ((max_trains * i + a) / max_trains) ((max_trains * i + a) % max_trains)) (code_cost cs x (max_trains * i + a)) 0) h
          (λ a l d. rw (ne_eqb ((max_trains * i + a) / max_trains) ((max_trains * i + a) % max_trains) (λ e. d (omega arith))))
          ∙ rw (eq-eqb ((max_trains * i + i) / max_trains) ((max_trains * i + i) % max_trains) (omega arith))

  -- a choice's cost is that of its code
  at_choice : (i : ℕ) → i < n → (numbers_costs (clause_numbers n s cs)).choice i (x i) ≡ code_cost cs x (max_trains * i + i)
  unfolding clause_numbers
  at_choice i h =
      let q = plan i h in
      let e : choice_index (numbers_shape (clause_numbers n s cs)) i (x i) ≡ clause_choices * i + x i = omega (arith, choices_before_lem n s cs i (omega arith)) in
      let d : (clause_choices * i + x i) / clause_choices ≡ i = omega arith in
      let r : (clause_choices * i + x i) % clause_choices ≡ x i = omega arith in
      let p : (max_trains * i + i) / max_trains ≡ i = omega (arith, g.trains) in
      let t : (max_trains * i + i) % max_trains ≡ i = omega (arith, g.trains) in
      let u : min 1 (x i) ≡ x i = omega arith in
      small_paid (choice_given (clause_numbers n s cs) i (x i)) (choices_most n s cs within _)
      ∙ ap (nth (clause_numbers n s cs).choices) e ∙ list_nth (choice_cost_at (cell_cost cs)) 0 (clause_choices * n) (clause_choices * i + x i) (omega arith) ∙ rw (d, r, p, t, u)

  -- an entry's cost is that of its pair's code
  at_pair : (k : ℕ) → k < length (pair_codes cs)
      → (numbers_costs (clause_numbers n s cs)).pair k (x (nth (clause_numbers n s cs).firsts k)) (x (nth (clause_numbers n s cs).seconds k)) ≡ code_cost cs x (nth (pair_codes cs) k)
  unfolding clause_numbers
  at_pair k h =
      let o = nth (pair_codes cs) k in
      let w = pair_trains g k h in
      let a = x (o / max_trains) in
      let c = x (o % max_trains) in
      let p = plan (o / max_trains) (omega arith) in
      let q = plan (o % max_trains) w.1 in
      let e : entry_index (numbers_shape (clause_numbers n s cs)) k (x (nth (clause_numbers n s cs).firsts k)) (x (nth (clause_numbers n s cs).seconds k)) ≡ clause_entries * k + (clause_choices * a + c) =
      rw (entries_before_lem g k (omega arith), (pair_lanes g k h).1) (omega (arith, ap x (clause_first_lem n s cs k), ap x (clause_second_lem n s cs k))) in
      let d : (clause_entries * k + (clause_choices * a + c)) / clause_entries ≡ k = omega arith in
      let r : (clause_entries * k + (clause_choices * a + c)) % clause_entries ≡ clause_choices * a + c = omega arith in
      let u : min 1 a ≡ a = omega arith in
      let v : min 1 c ≡ c = omega arith in
      small_paid (entry_given (clause_numbers n s cs) k (x (nth (clause_numbers n s cs).firsts k)) (x (nth (clause_numbers n s cs).seconds k))) (entries_most n s cs within _)
      ∙ ap (nth (clause_numbers n s cs).entries) e ∙ list_nth (entry_cost_at (cell_cost cs) (pair_codes cs)) 0 (clause_entries * length (pair_codes cs)) (clause_entries * k + (clause_choices * a + c)) (omega arith) ∙ rw (d, r, u, v)

  -- over all pairs, it is that of the named codes
  pairs-sum : sum (length (pair_codes cs)) (λ k. code_cost cs x (nth (pair_codes cs) k)) ≡ sum max_codes (λ o. cond (named cs o) (code_cost cs x o) 0)
  unfolding pair_codes
  pairs-sum = codes-sum (named cs) (code_cost cs x) max_codes

  by_codes : total (numbers_shape (clause_numbers n s cs)) (numbers_costs (clause_numbers n s cs)) x ≡ failed_weight cs x
  unfolding total choice_total pair_total
  by_codes =
      let l = clause_numbers n s cs in
      let f : ℕ → ℕ = λ i. (numbers_costs l).choice i (x i) in
      let h : ℕ → ℕ = λ k. (numbers_costs l).pair k (x (nth l.firsts k)) (x (nth l.seconds k)) in
      omega (
        arith,
        ap (λ (t : ℕ). sum t f) (clause_trains n s cs),
        ap (λ (m : ℕ). sum m h) (clause_pairs n s cs),
        sum_cong n f (λ i. code_cost cs x (max_trains * i + i)) at_choice,
        sum_cong (length (pair_codes cs)) h (λ k. code_cost cs x (nth (pair_codes cs) k)) at_pair,
        own_sum,
        pairs-sum,
        failed_by_codes,
        sum_cong max_codes (code_cost cs x) (λ o. cond (named cs o) (code_cost cs x o) 0 + cond (eqb (o / max_trains) (o % max_trains)) (code_cost cs x o) 0) (λ o q. code_parts o),
        sum-add max_codes (λ o. cond (named cs o) (code_cost cs x o) 0) (λ o. cond (eqb (o / max_trains) (o % max_trains)) (code_cost cs x o) 0),
      )

-- the total of a plan
pub plan_total : {n s : ℕ} {cs : Clauses} → InLimits n s cs → sums_within (clause_numbers n s cs) ≡ true → (x : ℕ → ℕ) → IsPlan (numbers_shape (clause_numbers n s cs)) x
    → total (numbers_shape (clause_numbers n s cs)) (numbers_costs (clause_numbers n s cs)) x ≡ failed_weight cs x
plan_total {n} {s} {cs} g within x plan =
    by_codes g within x (λ t h. omega (arith, plan.below t (omega (arith, clause_trains n s cs)), clause_size n s cs t h))
