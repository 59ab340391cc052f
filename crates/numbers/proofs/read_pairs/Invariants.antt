use mathlib.Core.Path.{◌≡◌}
use Rattle.std.specs.Prelude.{map}
use Rattle.theory.specs.Lists.{list_of}
use Rattle.tables.specs.Block.{first, second}
use Rattle.numbers.proofs.read_pairs.Given as goal

abbrev pub invariant-loop-k : goal.invariant-loop-k
invariant-loop-k l =
    (map (λ p. p.first) l.out.items ≡ list_of l.k (first l.study.numbers.now))
    × (map (λ p. p.second) l.out.items ≡ list_of l.k (second l.study.numbers.now))
