-- The numbers are those of the kind and of n, and the choices are written behind them.
use mathlib.Core.Path.{refl}
use mathlib.Core.List.{List, [], ◌∷◌}
use Prim.Native.Nat.{ℕ}
use native.Mathlib.Omega.{arith}
use lib.ListN.{length}
use Rattle.lines.specs.Layout.{kind_width, count_width}
use Rattle.replies.specs.Replies.{fields_digits, reply_kind, numbers_digits}
use Rattle.replies.proofs.Writing.{wrote_as, wrote_through}
use Rattle.replies.proofs.ReplyFields.{fields_first, fields_end}
use Rattle.replies.proofs.replies.write_choices.Goals as goal

-- of the fields before the choices
abbrev widths : List ℕ
widths = kind_width ∷ count_width ∷ []

pub write_numbers-requires : goal.write_numbers-requires
write_numbers-requires c = omega (arith, c.requires, fields_end widths _ refl c.put_fields-end.ensures)

pub returns : goal.returns
unfolding fields_digits
returns c =
    let a = c.args in
    let choices = numbers_digits a.choices.now in
    let fields = rw c.reply_kind.ensures at c.put_fields-end.ensures in
    wrote_as (wrote_through fields choices c.write_numbers.ensures) (fields_first widths (reply_kind a.kind ∷ length a.choices.now ∷ []) [] choices)
