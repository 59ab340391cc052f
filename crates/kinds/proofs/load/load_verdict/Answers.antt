-- n and s are judged, then the sizes, then what is behind them, whose places they give.
use mathlib.Core.Path.{◌≡◌, sym, ◌∙◌}
use Rattle.refusals.specs.Verdicts.{Fine}
use Rattle.kinds.specs.Load.{sizes_verdict}
use Rattle.kinds.proofs.LoadFields.{sized}
use Rattle.kinds.proofs.load.load_verdict.Goals as goal

pub invariant_of-load : goal.invariant_of-load
invariant_of-load c =
    let l = c.args.frame.line.now in
    let sizes : sizes_verdict l ≡ Fine = rw (← c.number_in.ensures) (sym c.run_verdict.ensures ∙ c.in_ok-run_verdict.was) in
    record { sized = sized l (sym c.head_verdict.ensures ∙ c.in_ok-head_verdict.was) sizes }
