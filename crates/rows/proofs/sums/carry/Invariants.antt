use Prim.Native.Nat.{ℕ}
use Rattle.tables.specs.Plans.{Shape, Costs, choices_of}
use Rattle.rows.specs.Sums.{Summed, Steady, Carrying}
use Rattle.rows.specs.Table.{begin_of}
use Rattle.rows.proofs.sums.carry.Given as goal

abbrev pub invariant-loop-k : goal.invariant-loop-k
invariant-loop-k l =
    ((s : Shape) (c : Costs) (scale bound : ℕ) → Carrying s c scale bound l.table l.initial.rows l.t l.chosen → Summed s c (choices_of l.chosen) l.rows l.k)
    × Steady (begin_of l.table l.t) l.initial.rows l.rows
