-- The pairs of clauses: a code that is named is of two trains that are there, and cells of other codes cost nothing. From the one cell of each clause.
use mathlib.Core.Path.{◌≡◌, ◌∙◌}
use mathlib.Core.Bool.{true, false, cond, not}
use mathlib.Core.Logic.{dite}
use Prim.Native.Nat.{ℕ, ◌+◌, ◌*◌, ◌/◌, ◌%◌, ◌<◌, ◌≤◌}
use native.Mathlib.Decide.{dec_lt}
use native.Mathlib.Omega.{arith}
use borrow.Author.Tests.{ltb-true, lt-ltb, le-ltb, eqb-false, ne_eqb, not-true, not-false}
use lib.Dec.{ltb, eqb}
use Rattle.tables.specs.Block.{max_trains}
use Rattle.theory.specs.Lists.{nth}
use Rattle.theory.proofs.Sum.{sum_cong, sum-zero}
use Rattle.theory.proofs.Range.{both_true, not_both, all_true, all_intro}
use Rattle.clauses.specs.Clauses.{Clauses, count, Clear, clause_entries, clause_cell, charged_to, cell_cost, unnamed_to, named}
use Rattle.clauses.proofs.Cells.{clause_cell_lem}

-- no clause has code o
abbrev Unnamed : Clauses → ℕ → Type 0
Unnamed cs o = (k : ℕ) → k < count cs → clause_cell cs k / clause_entries ≡ o → ⊥

-- so its cells cost nothing
cost_none : (cs : Clauses) (o q : ℕ) → q < clause_entries → Unnamed cs o → cell_cost cs (clause_entries * o + q) ≡ 0
unfolding charged_to
cost_none cs o q h none =
    sum_cong (count cs) (λ k. cond (eqb (clause_cell cs k) (clause_entries * o + q)) (nth cs.weights k) 0) (λ k. 0)
    (λ k l. rw (ne_eqb (clause_cell cs k) (clause_entries * o + q) (λ e. none k l (omega arith))))
    ∙ sum-zero (count cs)

-- where no clause passes the test of `named`, none has the code
none_all : (cs : Clauses) (o : ℕ) → unnamed_to cs (count cs) o ≡ true → Unnamed cs o
unfolding unnamed_to
none_all cs o e k h = eqb-false (clause_cell cs k / clause_entries) o (not-true (eqb (clause_cell cs k / clause_entries) o) (all_true (λ k. not (eqb (clause_cell cs k / clause_entries) o)) (count cs) e k h))

all_none : (cs : Clauses) (o : ℕ) → Unnamed cs o → unnamed_to cs (count cs) o ≡ true
unfolding unnamed_to
all_none cs o none = all_intro (λ k. not (eqb (clause_cell cs k / clause_entries) o)) (count cs) (λ k h. rw (ne_eqb (clause_cell cs k / clause_entries) o (none k h)))

module _ {n : ℕ} {cs : Clauses} (few : n ≤ max_trains) (g : Clear n cs) where
  -- a clause's code is of two trains that are there, the smaller first
  code_ascends : (o : ℕ) → (o % max_trains < o / max_trains) → Unnamed cs o
  code_ascends o h k l e = let d = clause_cell_lem g k l in omega (arith, d.is, d.ascends, d.inside, d.small, few)

  code_inside : (o : ℕ) → n ≤ o % max_trains → Unnamed cs o
  code_inside o h k l e = let d = clause_cell_lem g k l in omega (arith, d.is, d.ascends, d.inside, d.small, few)

  pub named_pair : (o : ℕ) → named cs o ≡ true → (o / max_trains < o % max_trains) × (o % max_trains < n)
  unfolding named
  named_pair o e =
      let w = both_true (ltb (o / max_trains) (o % max_trains)) (not (unnamed_to cs (count cs) o)) e in (
        ltb-true (o / max_trains) (o % max_trains) w.0,
        dite (dec_lt (o % max_trains) n) (λ (q : o % max_trains < n). q)
            (λ m. absurd (not_both (all_none cs o (code_inside o (omega arith))) (not-true _ w.1))),
      )

  -- a code of two trains that is not named: its cells cost nothing
  pub unnamed_none : (o q : ℕ) → q < clause_entries → (o / max_trains ≡ o % max_trains → ⊥) → named cs o ≡ false → cell_cost cs (clause_entries * o + q) ≡ 0
  unfolding named
  unnamed_none o q h d e =
      cost_none cs o q h
      (dite (dec_lt (o / max_trains) (o % max_trains))
      (λ (l : o / max_trains < o % max_trains). none_all cs o (not-false _ (rw (lt-ltb (o / max_trains) (o % max_trains) l) at e)))
      (λ m. code_ascends o (omega arith)))

  -- nor do those of a train that is not there
  pub absent_none : (i q : ℕ) → i < max_trains → n ≤ i → q < clause_entries → cell_cost cs (clause_entries * (max_trains * i + i) + q) ≡ 0
  absent_none i q l h r = cost_none cs (max_trains * i + i) q r (code_inside (max_trains * i + i) (omega arith))

-- one train twice is no pair
pub own_unnamed : (cs : Clauses) (o : ℕ) → o / max_trains ≡ o % max_trains → named cs o ≡ false
unfolding named
own_unnamed cs o e = rw (le-ltb (o / max_trains) (o % max_trains) (omega arith))
