-- Each place of the run is asked.
use native.Mathlib.Omega.{arith}
use lib.IntN.{pos}
use borrow.Author.Tests.{tests}
use Rattle.std.proofs.Common.{rules}
use Rattle.theory.proofs.Chains.{part_all}
use Rattle.tables.specs.WellFormed.{within}
use Rattle.tables.proofs.well_formed.run_within.Goals as goal

pub returns : goal.returns
returns c = let a = c.args in part_all (within a.limits) a.b.now a.from a.count (pos 0) _ _ _ c.all.ensures.ran (omega arith) (cc) (λ x b q k. search (rules, tests))
