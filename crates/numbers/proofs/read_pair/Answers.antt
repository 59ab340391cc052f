-- The first a rows are added, and each turn adds one.
use mathlib.Core.Path.{sym, ap, ap₂, ◌∙◌}
use mathlib.Core.List.{List, ◌++◌, append-nil, append_assoc}
use Prim.Native.Nat.{ℕ}
use native.Mathlib.Nat.{mul_comm}
use native.Mathlib.Omega.{arith}
use lib.ListN.{length, length-append}
use Rattle.theory.specs.Lists.{joined}
use Rattle.theory.proofs.Sum.{sum_const, row_part}
use Rattle.theory.proofs.Joined.{joined_none, joined_length}
use Rattle.tables.specs.Plans.{shape_of}
use Rattle.tables.specs.Counts.{rows_of, columns_of}
use Rattle.tables.proofs.Study.{pairs_range}
use Rattle.tables.proofs.Counting.{rows_range, columns_range}
use Rattle.operations.specs.Saved.{row_costs}
use Rattle.operations.proofs.Grown.{joined_next}
use Rattle.numbers.proofs.Saved.{row_costs_length, row_list}
use Rattle.numbers.proofs.read_pair.Goals as goal

pub loop-a-init : goal.loop-a-init
loop-a-init c =
    let old = c.args.entries.now.items in
    sym (ap (λ (l : List ℕ). old ++ l) (joined_none (row_costs c.args.study.numbers.now c.args.k)) ∙ append-nil old)

pub entry_place-from-requires : goal.entry_place-from-requires
entry_place-from-requires c =
    let s = c.args.study.held in
    omega (arith, c.requires, pairs_range s, rows_range s c.args.k c.requires.0, c.rows_of-a-end.ensures)

pub read_costs-requires : goal.read_costs-requires
read_costs-requires c =
    let s = c.args.study.held in
    let b = c.args.study.numbers.now in
    let k = c.args.k in
    let a = c.loop-a.a in
    let n = columns_of (shape_of b) k in
    let e = ap (λ (l : List ℕ). length l) c.loop-a.invariant ∙ length-append c.args.entries.now.items (joined a (row_costs b k)) in
    let f = joined_length (row_costs b k) (λ _. n) a (λ j h. row_costs_length b k j) ∙ sum_const a n in
    omega (
      arith,
      pairs_range s,
      rows_range s k c.requires.0,
      columns_range s k c.requires.0,
      row_part (rows_of (shape_of b) k) n a (omega (arith, c.rows_of-a-end.ensures)),
      mul_comm a n,
      c.entry_place-from.ensures,
      c.columns_of-columns.ensures,
    )

pub loop-a-preserved : goal.loop-a-preserved
loop-a-preserved c =
    let b = c.args.study.numbers.now in
    let k = c.args.k in
    let a = c.loop-a.a in
    let old = c.args.entries.now.items in
    c.read_costs.ensures ∙ ap₂ ◌++◌ c.loop-a.invariant (row_list b k a c.entry_place-from.ensures c.columns_of-columns.ensures)
    ∙ append_assoc old (joined a (row_costs b k)) (row_costs b k a) ∙ ap (λ (l : List ℕ). old ++ l) (sym (joined_next (row_costs b k) a))
