-- The costs of the trains so far are listed, and each turn adds those of one.
use mathlib.Core.Path.{sym, ap, ap₂, ◌∙◌}
use mathlib.Core.List.{List, ◌++◌}
use Prim.Native.Nat.{ℕ}
use native.Mathlib.Omega.{arith}
use lib.ListN.{length}
use Rattle.theory.proofs.Joined.{joined_none, joined_length}
use Rattle.tables.specs.Block.{size}
use Rattle.tables.proofs.Study.{trains_range, size_range}
use Rattle.tables.proofs.Counting.{choices_most}
use Rattle.operations.specs.Saved.{train_costs}
use Rattle.operations.proofs.Grown.{joined_next}
use Rattle.numbers.proofs.Saved.{train_list, train_costs_length}
use Rattle.numbers.proofs.read_choices.Goals as goal

pub loop-i-init : goal.loop-i-init
loop-i-init c = c.clear.ensures ∙ sym (joined_none _)

pub choice_place-from-requires : goal.choice_place-from-requires
choice_place-from-requires c = omega (arith, trains_range c.args.study.held, c.trains-i-end.ensures)

pub size-requires : goal.size-requires
size-requires c = omega (arith, trains_range c.args.study.held, c.trains-i-end.ensures)

pub read_costs-requires : goal.read_costs-requires
read_costs-requires c =
    let s = c.args.study.held in
    let b = c.args.study.numbers.now in
    let i = c.loop-i.i in
    let e = ap (λ (l : List ℕ). length l) c.loop-i.invariant ∙ joined_length (train_costs b) (size b) i (λ j h. train_costs_length b j) in
    omega (arith, trains_range s, size_range s i (omega (arith, c.trains-i-end.ensures)), choices_most s i (omega (arith, c.trains-i-end.ensures)), c.choice_place-from.ensures, c.size.ensures)

pub loop-i-preserved : goal.loop-i-preserved
loop-i-preserved c =
    let b = c.args.study.numbers.now in
    let i = c.loop-i.i in
    c.read_costs.ensures ∙ ap₂ ◌++◌ c.loop-i.invariant (train_list b i c.choice_place-from.ensures c.size.ensures) ∙ sym (joined_next (train_costs b) i)
