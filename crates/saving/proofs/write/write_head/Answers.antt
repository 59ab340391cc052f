-- Three fields and a run, one after the other, are the head.
use mathlib.Core.Path.{refl}
use Rattle.lines.specs.Layout.{kind_width, count_width, scale_width}
use Rattle.replies.proofs.Writing.{wrote_none, wrote_field, wrote_as, wrote_through}
use Rattle.saving.proofs.Writing.{head_fields}
use Rattle.saving.proofs.write.write_head.Goals as goal

pub returns : goal.returns
returns c =
    let a = c.args in
    let kind = wrote_field wrote_none kind_width c.into.ensures c.put_field-kind_end.ensures in
    let trains = wrote_field kind count_width refl c.put_field-trains_end.ensures in
    let scale = wrote_field trains scale_width c.number.ensures.value c.put_field-scale_end.ensures in
    wrote_as (wrote_through scale _ c.write_run.ensures) (head_fields a.scale a.sizes.now)
