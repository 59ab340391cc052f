use mathlib.Core.Path.{◌≡◌}
use Prim.Native.Nat.{ℕ, ◌/◌, ◌%◌}
use lib.ListN.{take}
use Rattle.std.specs.Prelude.{map}
use Rattle.tables.specs.Block.{max_trains}
use Rattle.tables.specs.declared.block.Pair.{Pair}
use Rattle.clauses.proofs.loads.list_pairs.Given as goal

-- the trains of a code
abbrev pub pair_of : ℕ → Pair
pair_of o = record { first = o / max_trains; second = o % max_trains }

abbrev pub invariant-loop-code : goal.invariant-loop-code
invariant-loop-code l = l.pairs.items ≡ map pair_of (take l.code-index l.codes)
