-- The pairs so far match, and the first that does not ends the loop. `from` is where the weights of pair k begin.
use mathlib.Core.Path.{sym, ◌∙◌}
use native.Mathlib.Omega.{arith}
use Rattle.theory.proofs.Range.{all_false}
use Rattle.certificates.specs.Runs.{pairs_match}
use Rattle.certificates.proofs.weighing.Weighing.pairs_match.Goals as goal

pub returns-then-not-pair_matches : goal.returns-then-not-pair_matches
unfolding pairs_match
returns-then-not-pair_matches c = sym (all_false _ _ c.loop-k.k (omega arith) (sym c.pair_matches.ensures ∙ c.if-not-pair_matches.true))
