-- The numbers are those of the reply's fields, and the plan is written behind them.
use mathlib.Core.Path.{refl}
use mathlib.Core.List.{[]}
use native.Mathlib.Omega.{arith}
use Rattle.replies.specs.Replies.{search_widths, plan_digits, search_reply}
use Rattle.replies.proofs.Writing.{wrote_as, wrote_through}
use Rattle.replies.proofs.ReplyFields.{fields_first, fields_end}
use Rattle.replies.proofs.replies.write_search.Goals as goal

pub write_plan-requires : goal.write_plan-requires
write_plan-requires c = omega (arith, fields_end search_widths _ refl c.put_fields-end.ensures)

pub returns : goal.returns
unfolding search_reply
returns c =
    let a = c.args in
    let fields = rw (c.reply_kind.ensures, c.ending.ensures, c.shown_cost.ensures) at c.put_fields-end.ensures in
    wrote_as (wrote_through fields (plan_digits a.n a.f) c.write_plan.ensures) (fields_first search_widths _ [] _)
