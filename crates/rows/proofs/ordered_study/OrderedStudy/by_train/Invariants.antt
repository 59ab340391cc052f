-- The trains at the places passed so far have their choices, and what stands past the last place stays.
use mathlib.Core.Path.{◌≡◌}
use Prim.Native.Nat.{ℕ, ◌<◌, ◌≤◌}
use lib.ListN.{length}
use Rattle.theory.specs.Lists.{nth}
use Rattle.tables.specs.Block.{trains}
use Rattle.rows.proofs.ordered_study.OrderedStudy.by_train.Given as goal

abbrev pub invariant-loop-d : goal.invariant-loop-d
invariant-loop-d l =
    (length l.by_train ≡ length l.choices)
    × ((e : ℕ) → e < l.d → nth l.by_train (nth l.self.order e) ≡ nth l.choices e)
    × ((t : ℕ) → trains l.self.study.numbers.now ≤ t → nth l.by_train t ≡ nth l.choices t)
