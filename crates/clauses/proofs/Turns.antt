-- The turns of the loops of charges.rt: one clause more in a table changes the place of its cell, or of its code, and no other.
use mathlib.Core.Path.{◌≡◌, sym, ap, ◌∙◌}
use mathlib.Core.Bool.{Bool, true, false, cond, not, ◌&&◌, and-true, and-false}
use mathlib.Core.List.{List}
use mathlib.Core.Logic.{dite}
use Prim.Native.Nat.{ℕ, ◌+◌, ◌*◌, ◌/◌, ◌%◌, ◌<◌, ◌≤◌}
use native.Mathlib.Decide.{ℕ_discrete}
use native.Mathlib.Omega.{arith}
use borrow.Author.Tests.{eq-eqb, ne_eqb}
use lib.Dec.{eqb, ltb}
use lib.ListN.{set, get_or, replicate, length-set, length-replicate, get_or-replicate}
use lib.Seq.{get_or-set_same, get_or-set_other}
use Rattle.tables.specs.Block.{max_trains, max_cost}
use Rattle.theory.specs.Lists.{nth}
use Rattle.theory.proofs.Sum.{sum_none, sum_more, sum_most}
use Rattle.theory.proofs.Range.{all-zero, all_next}
use Rattle.clauses.specs.Clauses.{Clauses, count, Clear, clause_entries, max_codes, max_cells, clause_cell, charged_to, unnamed_to, named, codes_below, pair_codes}
use Rattle.clauses.specs.Charges.{Charged, Marked, marked_pair}
use Rattle.clauses.proofs.Codes.{codes_cong}

module _ (cs : Clauses) where
  -- ---- costs

  pub charged_none : Charged cs 0 (replicate max_cells 0)
  unfolding charged_to
  charged_none =
      record { whole = length-replicate {A = ℕ} max_cells 0; costs = λ o h. get_or-replicate {A = ℕ} max_cells o 0 0 h ∙ sym (sum_none (λ k. cond (eqb (clause_cell cs k) o) (nth cs.weights k) 0)) }

  cost_more : (k o : ℕ) → charged_to cs (k + 1) o ≡ charged_to cs k o + cond (eqb (clause_cell cs k) o) (nth cs.weights k) 0
  unfolding charged_to
  cost_more k o = sum_more k (λ j. cond (eqb (clause_cell cs j) o) (nth cs.weights j) 0)

  -- a weight that is added is the clause's own
  pub charged_more : (k : ℕ) (cells : List ℕ) {o w : ℕ} → Charged cs k cells → o ≡ clause_cell cs k → w ≡ nth cs.weights k → o < max_cells → Charged cs (k + 1) (set cells o (nth cells o + w))
  charged_more k cells {o} {w} g e f h = record { whole = length-set cells o (nth cells o + w) ∙ g.whole; costs = at_cell }
    where
      at_cell : (p : ℕ) → p < max_cells → nth (set cells o (nth cells o + w)) p ≡ charged_to cs (k + 1) p
      at_cell p q =
          dite (ℕ_discrete p o)
          (λ (d : p ≡ o). rw (d, get_or-set_same cells o (nth cells o + w) 0 (omega (arith, g.whole)), cost_more k o, eq-eqb (clause_cell cs k) o (sym e)) (omega (arith, g.costs o h, f)))
          (λ n. rw (get_or-set_other cells o p (nth cells o + w) 0 n, cost_more k p, ne_eqb (clause_cell cs k) p (λ d. n (sym d ∙ sym e))) (omega (arith, g.costs p q)))

  -- no sum passes 500 × 1,000,000
  pub cost_most : {n : ℕ} → Clear n cs → (k o : ℕ) → k ≤ count cs → charged_to cs k o ≤ k * max_cost
  unfolding charged_to
  cost_most g k o h =
      sum_most k max_cost (λ j. cond (eqb (clause_cell cs j) o) (nth cs.weights j) 0) (λ j q. by j (eqb (clause_cell cs j) o) (g.weights j (omega arith)))
    where
      by : (j : ℕ) (t : Bool) → nth cs.weights j ≤ max_cost → cond t (nth cs.weights j) 0 ≤ max_cost
      by j true l = l
      by j false l = omega arith

  -- ---- marks

  pub marked_none : Marked cs 0 (replicate max_codes false)
  unfolding unnamed_to
  marked_none =
      record {
        whole = length-replicate {A = Bool} max_codes false;
        holds = λ o h. get_or-replicate {A = Bool} max_codes o false false h ∙ sym (ap not (all-zero (λ k. not (eqb (clause_cell cs k / clause_entries) o))));
      }

  unnamed_more : (k o : ℕ) → unnamed_to cs (k + 1) o ≡ unnamed_to cs k o && not (eqb (clause_cell cs k / clause_entries) o)
  unfolding unnamed_to
  unnamed_more k o = all_next (λ j. not (eqb (clause_cell cs j / clause_entries) o)) k

  pub marked_more : (k : ℕ) (marks : List Bool) {o : ℕ} → Marked cs k marks → o ≡ clause_cell cs k → o < max_cells → Marked cs (k + 1) (set marks (o / clause_entries) true)
  marked_more k marks {o} g e h = record { whole = length-set marks (o / clause_entries) true ∙ g.whole; holds = at_code }
    where
      at_code : (p : ℕ) → p < max_codes → get_or (set marks (o / clause_entries) true) p false ≡ not (unnamed_to cs (k + 1) p)
      at_code p q =
          dite (ℕ_discrete p (o / clause_entries))
          (λ (d : p ≡ o / clause_entries). rw (d, get_or-set_same marks (o / clause_entries) true false (omega (arith, g.whole)), unnamed_more k (o / clause_entries), eq-eqb (clause_cell cs k / clause_entries) (o / clause_entries) (ap (λ (c : ℕ). c / clause_entries) (sym e)), and-false (unnamed_to cs k (o / clause_entries))))
          (λ n. rw (get_or-set_other marks (o / clause_entries) p true false n, unnamed_more k p, ne_eqb (clause_cell cs k / clause_entries) p (λ d. n (sym d ∙ ap (λ (c : ℕ). c / clause_entries) (sym e))), and-true (unnamed_to cs k p)) (g.holds p q))

  -- marked pairs are those that are named
  pub marked_codes : (marks : List Bool) → Marked cs (count cs) marks → codes_below (marked_pair marks) max_codes ≡ pair_codes cs
  unfolding pair_codes named
  marked_codes marks g =
      codes_cong (marked_pair marks) (named cs) max_codes
      (λ o h. ap (λ (t : Bool). ltb (o / max_trains) (o % max_trains) && t) (g.holds o h))
