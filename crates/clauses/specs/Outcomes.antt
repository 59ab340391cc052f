-- What a study written as clauses answers, and the block that it leaves. '20, over 48 pairs, after 5 and before 10.'
use Rattle.std.specs.Prelude.{not, List, ℕ, ℤ}
use Rattle.refusals.specs.declared.Refusal.TheVariants.{CostAbove, PairsAbove}
use Rattle.refusals.specs.Verdicts.{Verdict, then, unless, settled}
use Rattle.tables.specs.Numbers.{Numbers}
use Rattle.operations.specs.Load.{loaded_block}
use Rattle.clauses.specs.Clauses.{Clauses, pairs_above, clause_numbers, sums_within}

-- numbers whose sums are judged: 10
abbrev pub numbers_outcome : Numbers → Verdict
numbers_outcome l = unless (sums_within l) CostAbove

-- and the block that they leave: one that is declined stays
abbrev pub numbers_block : Numbers → List ℤ → List ℤ
numbers_block l b = settled (numbers_outcome l) b (loaded_block l)

-- 20, then 10
unfoldable pub clauses_outcome : ℕ → ℕ → Clauses → Verdict
clauses_outcome n s cs = then (unless (not (pairs_above cs)) PairsAbove) (numbers_outcome (clause_numbers n s cs))

-- 'the line sets the costs as a load does'; one that is declined leaves the block
abbrev pub clauses_block : ℕ → ℕ → Clauses → List ℤ → List ℤ
clauses_block n s cs b = settled (clauses_outcome n s cs) b (loaded_block (clause_numbers n s cs))
