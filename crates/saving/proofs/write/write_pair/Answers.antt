-- Two fields and a run, one after the other, are the pair.
use mathlib.Core.Path.{refl}
use native.Mathlib.Omega.{arith}
use lib.ListN.{length, take}
use Rattle.theory.specs.Lists.{nth}
use Rattle.lines.specs.Layout.{count_width}
use Rattle.replies.proofs.Writing.{wrote_field, wrote_as, wrote_front, wrote_through}
use Rattle.saving.proofs.Writing.{pair_fields}
use Rattle.saving.proofs.write.write_pair.Goals as goal

pub returns : goal.returns
returns c =
    let a = c.args in
    let first = wrote_field (wrote_front a.reply.now a.at (omega arith)) count_width refl c.put_field-first_end.ensures in
    let second = wrote_field first count_width refl c.put_field-second_end.ensures in
    wrote_as (wrote_through second _ c.write_run.ensures) (pair_fields (take a.at a.reply.now) a.pair.first a.pair.second (length a.costs.now) (nth a.costs.now))
