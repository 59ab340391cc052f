use mathlib.Core.Path.{◌≡◌}
use mathlib.Core.List.{[], ◌++◌}
use lib.ListN.{take}
use Rattle.tables.specs.Counts.{entries_before}
use Rattle.operations.specs.Given.{numbers_given}
use Rattle.lines.specs.Text.{pairs_digits, text_shape}
use Rattle.replies.specs.Wrote.{Wrote}
use Rattle.saving.proofs.write.write_pairs.Given as goal

abbrev pub invariant-loop-pair : goal.invariant-loop-pair
invariant-loop-pair l =
    let s = text_shape (numbers_given l.given.numbers.now) in
    (l.start ≡ entries_before s l.pair-index) × Wrote l.initial.reply (take l.at l.initial.reply ++ pairs_digits s l.given.numbers.now.entries.items 0 l.pair-index []) l.reply l.end
