-- What the calls of loads.rt say together: the numbers are those of the clauses, and the outcome and the block follow from how many pairs there are and from whether the sums are within the limit.
use mathlib.Core.Path.{◌≡◌, refl, ap, ◌∙◌}
use mathlib.Core.Bool.{true, false}
use mathlib.Core.List.{List, map}
use Prim.Native.Nat.{ℕ, ◌+◌, ◌*◌, ◌/◌, ◌%◌, ◌<◌, ◌≤◌}
use native.Mathlib.Omega.{arith}
use borrow.Author.Tests.{lt-ltb, le-ltb}
use lib.IntN.{ℤ}
use lib.ListN.{length, replicate}
use Rattle.theory.specs.Lists.{nth, list_of}
use Rattle.theory.proofs.Lists.{list_cong}
use Rattle.refusals.specs.declared.Refusal.TheVariants.{CostAbove, PairsAbove}
use Rattle.refusals.specs.Verdicts.{Fine, Declined}
use Rattle.tables.specs.Block.{max_trains, max_pairs}
use Rattle.tables.specs.Numbers.{Numbers, numbers}
use Rattle.operations.specs.Load.{loaded_block}
use Rattle.clauses.specs.Clauses.{Clauses, count, clause_choices, clause_entries, max_codes, cell_cost, named, pair_codes, choice_cost_at, entry_cost_at, numbers_from, clause_numbers, sums_within}
use Rattle.clauses.specs.declared.clause.Clause.{Clause}
use Rattle.clauses.specs.Given.{clauses_given}
use Rattle.clauses.specs.Charges.{Charged}
use Rattle.clauses.proofs.Given.{given_count}
use Rattle.clauses.specs.Outcomes.{clauses_outcome, clauses_block}
use Rattle.clauses.proofs.Codes.{codes_pass}

-- ---- what the clauses come to

-- each pair's code is one of the codes
pairs_small : (cs : Clauses) (k : ℕ) → k < length (pair_codes cs) → nth (pair_codes cs) k < max_codes
unfolding pair_codes
pairs_small cs k h = (codes_pass (named cs) max_codes k h).below

pub codes_small : (cs : Clauses) {codes : List ℕ} → codes ≡ pair_codes cs → (k : ℕ) → k < length codes → nth codes k < max_codes
codes_small cs e = rw e (pairs_small cs)

-- cells that hold the costs, and codes of the pairs, give the numbers of the clauses
pub clauses-numbers : (n s : ℕ) (cs : Clauses) (cells : List ℕ) {codes : List ℕ} → n ≤ max_trains → Charged cs (count cs) cells → codes ≡ pair_codes cs
    → numbers_from n s (nth cells) codes ≡ clause_numbers n s cs
unfolding clause_numbers
clauses-numbers n s cs cells {codes} few g e =
    let l = pair_codes cs in
    let p : list_of (clause_choices * n) (choice_cost_at (nth cells)) ≡ list_of (clause_choices * n) (choice_cost_at (cell_cost cs)) =
    list_cong (clause_choices * n) (choice_cost_at (nth cells)) (choice_cost_at (cell_cost cs)) (λ o h. g.costs (clause_entries * (max_trains * (o / clause_choices) + o / clause_choices) + (clause_choices * (o % clause_choices) + o % clause_choices)) (omega arith)) in
    let q : list_of (clause_entries * length l) (entry_cost_at (nth cells) l) ≡ list_of (clause_entries * length l) (entry_cost_at (cell_cost cs) l) =
    list_cong (clause_entries * length l) (entry_cost_at (nth cells) l) (entry_cost_at (cell_cost cs) l) (λ o h. g.costs (clause_entries * nth l (o / clause_entries) + o % clause_entries) (omega (arith, pairs_small cs (o / clause_entries) (omega arith)))) in
    ap (numbers_from n s (nth cells)) e ∙ (λ i. numbers s (replicate n clause_choices) (p i) (map (λ o. o / max_trains) l) (map (λ o. o % max_trains) l) (q i))

-- so do numbers that are made of them
pub clauses_made : (n s : ℕ) (l : List Clause) (cells : List ℕ) {codes : List ℕ} {m : Numbers} → n ≤ max_trains → Charged (clauses_given l) (length l) cells → codes ≡ pair_codes (clauses_given l)
    → m ≡ numbers_from n s (nth cells) codes → m ≡ clause_numbers n s (clauses_given l)
clauses_made n s l cells few g e f = f ∙ clauses-numbers n s (clauses_given l) cells few (rw (← given_count l) at g) e

-- ---- 20, then 10

module _ (n s : ℕ) (cs : Clauses) (b : List ℤ) where
  pub pairs-declined : max_pairs < length (pair_codes cs) → (Declined PairsAbove ≡ clauses_outcome n s cs) × (b ≡ clauses_block n s cs b)
  unfolding clauses_outcome
  pairs-declined h = rw (lt-ltb max_pairs (length (pair_codes cs)) h) (refl, refl)

  module _ (h : length (pair_codes cs) ≤ max_pairs) where
    pub sums-declined : sums_within (clause_numbers n s cs) ≡ false → (Declined CostAbove ≡ clauses_outcome n s cs) × (b ≡ clauses_block n s cs b)
    unfolding clauses_outcome
    sums-declined e = rw (le-ltb max_pairs (length (pair_codes cs)) h, e) (refl, refl)

    pub sums_taken : sums_within (clause_numbers n s cs) ≡ true → (Fine ≡ clauses_outcome n s cs) × (loaded_block (clause_numbers n s cs) ≡ clauses_block n s cs b)
    unfolding clauses_outcome
    sums_taken e = rw (le-ltb max_pairs (length (pair_codes cs)) h, e) (refl, refl)
