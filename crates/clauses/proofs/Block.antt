-- What a study written as clauses comes to where it is not declined: its numbers are in range, nothing is forbidden, each plan costs the weights of the clauses that it fails, and the block is a study. What else
-- holds of a loaded block follows from the range, by the laws of `operations`.
use mathlib.Core.Path.{◌≡◌}
use mathlib.Core.Bool.{Bool, true, false, not}
use mathlib.Core.List.{List}
use mathlib.Core.Logic.{◌⊎◌, inl, inr}
use Prim.Native.Nat.{ℕ, ◌≤◌}
use borrow.Author.Tests.{ltb-false, not-true}
use native.Mathlib.Omega.{arith}
use lib.IntN.{ℤ}
use lib.ListN.{length}
use Rattle.refusals.specs.declared.Refusal.{Refusal}
use Rattle.refusals.specs.declared.Refusal.TheVariants.{CostAbove, PairsAbove}
use Rattle.refusals.specs.Verdicts.{Fine, Declined, then, unless}
use Rattle.refusals.proofs.Verdicts.{then_fine, unless_fine}
use Rattle.tables.specs.Block.{max_pairs}
use Rattle.tables.specs.WellFormed.{Study}
use Rattle.tables.specs.Plans.{IsPlan, Open, total}
use Rattle.tables.specs.Numbers.{choice_given, entry_given, numbers_shape, numbers_costs, InRange}
use Rattle.operations.specs.Load.{loaded_block}
use Rattle.operations.proofs.Loaded.{load_study}
use Rattle.clauses.specs.Clauses.{Clauses, InLimits, failed_weight, pair_codes, clause_numbers, pairs_above, sums_within}
use Rattle.clauses.specs.Outcomes.{numbers_outcome, clauses_outcome, clauses_block}
use Rattle.clauses.proofs.Ranges.{in_range_lem, small_permits, choices_most, entries_most}
use Rattle.clauses.proofs.Total.{plan_total}

-- what 20 and 10 leave
pub record Passed (n s : ℕ) (cs : Clauses) : Type 0 where
  pub few : length (pair_codes cs) ≤ max_pairs
  pub within : sums_within (clause_numbers n s cs) ≡ true

pub clauses_passed : (n s : ℕ) (cs : Clauses) → clauses_outcome n s cs ≡ Fine → Passed n s cs
unfolding clauses_outcome
clauses_passed n s cs e =
    let w = then_fine (unless (not (pairs_above cs)) PairsAbove) (numbers_outcome (clause_numbers n s cs)) e in
    record {
      few = ltb-false max_pairs (length (pair_codes cs)) (not-true (pairs_above cs) (unless_fine (not (pairs_above cs)) PairsAbove w.0));
      within = unless_fine (sums_within (clause_numbers n s cs)) CostAbove w.1;
    }

-- it is declined with 20 or with 10
pub clauses-declined : (n s : ℕ) (cs : Clauses) (r : Refusal) → clauses_outcome n s cs ≡ Declined r → (r ≡ PairsAbove) ⊎ (r ≡ CostAbove)
unfolding clauses_outcome
clauses-declined n s cs r = go (pairs_above cs) (sums_within (clause_numbers n s cs))
  where
    go : (t u : Bool) → then (unless (not t) PairsAbove) (unless u CostAbove) ≡ Declined r → (r ≡ PairsAbove) ⊎ (r ≡ CostAbove)
    go true u e = let z : Declined PairsAbove ≡ Declined r = e in inl cc
    go false false e = let z : Declined CostAbove ≡ Declined r = e in inr cc
    go false true e = let z : Fine ≡ Declined r = e in let h : ◌≡◌ {A = ℕ} 0 1 = cc in absurd (omega arith)

module _ {n s : ℕ} {cs : Clauses} (g : InLimits n s cs) (fine : clauses_outcome n s cs ≡ Fine) where
  -- the numbers are those of a load, so every law of loads holds of them and of their block
  pub clauses_in_range : InRange (clause_numbers n s cs)
  clauses_in_range = let p = clauses_passed n s cs fine in in_range_lem g p.few p.within

  -- no entry is forbidden
  pub clauses_open : Open (numbers_shape (clause_numbers n s cs))
  clauses_open =
      let w = (clauses_passed n s cs fine).within in
      let l = clause_numbers n s cs in
      record {
        choices = λ i a h q. small_permits (choice_given l i a) (choices_most n s cs w _);
        entries = λ k a c h p q. small_permits (entry_given l k a c) (entries_most n s cs w _);
      }

  -- 'Each plan's total in H must be the weights of the clauses it fails'
  pub clauses-total : (x : ℕ → ℕ) → IsPlan (numbers_shape (clause_numbers n s cs)) x
      → total (numbers_shape (clause_numbers n s cs)) (numbers_costs (clause_numbers n s cs)) x ≡ failed_weight cs x
  clauses-total = plan_total g (clauses_passed n s cs fine).within

  module _ (b : List ℤ) where
    -- 'the line sets the costs as a load does', whatever stood in the block
    pub clauses_loaded : clauses_block n s cs b ≡ loaded_block (clause_numbers n s cs)
    clauses_loaded = rw fine

    pub clauses_study : Study (clauses_block n s cs b)
    clauses_study = rw clauses_loaded (load_study clauses_in_range)
