-- Once the line was judged fine, its request is made.
use mathlib.Core.Path.{sym, ◌∙◌}
use Rattle.kinds.proofs.LoadAccepted.{load_fine}
use Rattle.kinds.proofs.load.read_load.Goals as goal

pub scale-requires : goal.scale-requires
scale-requires c = (load_fine c.args.frame.line.now (sym c.load_verdict.ensures ∙ c.in_ok-load_verdict.was)).head
