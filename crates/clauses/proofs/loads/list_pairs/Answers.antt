-- The pairs so far are those of the codes so far, and the trains of a pair are read from its code again.
use native.Mathlib.Omega.{arith}
use lib.Seq.{take_all}
use Rattle.tables.specs.declared.block.Pair.{Pair}
use Rattle.clauses.proofs.Lists.{map_of_map}
use Rattle.clauses.proofs.loads.list_pairs.Invariants.{pair_of}
use Rattle.clauses.proofs.loads.list_pairs.Goals as goal

pub returns-clause-firsts : goal.returns-clause-firsts
returns-clause-firsts c =
    let l = c.args.codes.now in
    rw (c.loop-code.invariant, take_all c.loop-code.code-index l (omega arith)) (map_of_map (λ (p : Pair). p.first) pair_of l)

pub returns-clause-seconds : goal.returns-clause-seconds
returns-clause-seconds c =
    let l = c.args.codes.now in
    rw (c.loop-code.invariant, take_all c.loop-code.code-index l (omega arith)) (map_of_map (λ (p : Pair). p.second) pair_of l)
