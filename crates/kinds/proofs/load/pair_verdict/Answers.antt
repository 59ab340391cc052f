-- Both trains must be there before either is judged; then the pair's order, and only then its costs, whose count the two sizes give.
use mathlib.Core.Path.{◌≡◌, sym, ◌∙◌}
use mathlib.Core.Bool.{true}
use native.Mathlib.Omega.{arith}
use Rattle.kinds.specs.Load.{pair_ordered}
use Rattle.kinds.proofs.LoadFields.{pair_ordered_lem}
use Rattle.kinds.proofs.load.pair_verdict.Goals as goal

pub entry_count-requires-clause-below : goal.entry_count-requires-clause-below
entry_count-requires-clause-below c =
    let e : pair_ordered c.args.load.frame.line.now c.args.k ≡ true = sym c.pair_ordered.ensures ∙ c.if-not-pair_ordered.false in
    let o = pair_ordered_lem c.args.load.frame.line.now c.args.k e in
    (rw c.requires.places.0 (omega (arith, o)), rw c.requires.places.0 o.second_below)
