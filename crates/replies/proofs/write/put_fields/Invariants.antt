use mathlib.Core.List.{[], map}
use lib.ListN.{take}
use Rattle.replies.specs.Replies.{fields_digits}
use Rattle.replies.specs.Wrote.{Wrote}
use Rattle.replies.proofs.write.put_fields.Given as goal

abbrev pub invariant-loop-width : goal.invariant-loop-width
invariant-loop-width l =
    let k = l.width-index in
    Wrote l.initial.reply (fields_digits (take k (map (λ f. f.0) l.fields)) (take k (map (λ f. f.1) l.fields)) []) l.reply l.at
