-- The kind, n and the choices stand in front, and the two figures are written behind them.
use mathlib.Core.Path.{◌≡◌}
use mathlib.Core.List.{List, [], ◌++◌}
use Prim.Native.Nat.{ℕ}
use native.Mathlib.Omega.{arith}
use Rattle.units.specs.Units.{number_of_points}
use Rattle.frames.specs.Fields.{field_digits}
use Rattle.frames.proofs.RunDigits.{run_first}
use Rattle.lines.specs.Layout.{kind_width, figure_width}
use Rattle.lines.specs.Text.{choices_digits, record_digits}
use Rattle.lines.proofs.Records.{choices_text_length}
use Rattle.replies.specs.Replies.{reply_kind, record_reply}
use Rattle.replies.proofs.Writing.{digits-first, wrote_field, wrote_as}
use Rattle.replies.proofs.replies.write_record.Goals as goal

-- a record as its parts, one after the other
record_parts : (v : ℕ) (choices : List ℕ) (bound cost : ℕ)
    → field_digits kind_width v (choices_digits choices []) ++ field_digits figure_width bound [] ++ field_digits figure_width cost [] ≡ field_digits kind_width v (record_digits choices bound cost)
unfolding record_digits
record_parts v choices bound cost = simp (digits-first, run_first)

pub put_field-end-requires : goal.put_field-end-requires
put_field-end-requires c = omega (arith, c.requires, c.write_choices-behind.ensures.count, choices_text_length (reply_kind c.args.kind) c.args.choices.now [])

pub put_field-requires : goal.put_field-requires
put_field-requires c =
    omega (arith, c.requires, c.put_field-end.ensures.0, c.write_choices-behind.ensures.count, choices_text_length (reply_kind c.args.kind) c.args.choices.now [])

pub returns : goal.returns
unfolding record_reply
returns c =
    let a = c.args in
    wrote_as (wrote_field (wrote_field c.write_choices-behind.ensures figure_width c.into.ensures c.put_field-end.ensures) figure_width c.into-2.ensures c.put_field.ensures)
    (record_parts (reply_kind a.kind) a.choices.now (number_of_points a.bound) (number_of_points a.cost))
