-- The costs of the pairs so far are listed, and each turn adds those of one.
use mathlib.Core.Path.{sym, ap, ◌∙◌}
use mathlib.Core.List.{List, ◌++◌}
use Prim.Native.Nat.{ℕ, ◌<◌}
use native.Mathlib.Omega.{arith}
use lib.ListN.{length}
use Rattle.theory.proofs.Joined.{joined_none, joined_length}
use Rattle.tables.specs.Block.{pairs}
use Rattle.tables.specs.Plans.{shape_of}
use Rattle.tables.specs.Counts.{pair_entries}
use Rattle.tables.proofs.Counting.{entries_part, entry_count_most}
use Rattle.operations.specs.Saved.{pair_costs}
use Rattle.operations.proofs.Grown.{joined_next}
use Rattle.numbers.proofs.Saved.{pair_costs_length}
use Rattle.numbers.proofs.read_entries.Goals as goal

pub loop-k-init : goal.loop-k-init
loop-k-init c = c.clear.ensures ∙ sym (joined_none _)

pub read_pair-requires : goal.read_pair-requires
read_pair-requires c =
    let b = c.args.study.numbers.now in
    let k = c.loop-k.k in
    let h : k < pairs b = omega (arith, c.pairs-k-end.ensures) in
    let e = ap (λ (l : List ℕ). length l) c.loop-k.invariant ∙ joined_length (pair_costs b) (pair_entries (shape_of b)) k (λ j q. pair_costs_length b j) in
    omega (arith, entries_part (shape_of b) k (pairs b) h, entry_count_most c.args.study.held)

pub loop-k-preserved : goal.loop-k-preserved
loop-k-preserved c =
    let b = c.args.study.numbers.now in
    let k = c.loop-k.k in
    c.read_pair.ensures ∙ ap (λ (l : List ℕ). l ++ pair_costs b k) c.loop-k.invariant ∙ sym (joined_next (pair_costs b) k)
