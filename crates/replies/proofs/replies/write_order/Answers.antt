-- The number is that of the reply's field, and the trains are written behind it.
use mathlib.Core.Path.{refl}
use mathlib.Core.List.{[]}
use native.Mathlib.Omega.{arith}
use Rattle.replies.specs.Replies.{order_widths, numbers_digits, order_reply}
use Rattle.replies.proofs.Writing.{wrote_as, wrote_through}
use Rattle.replies.proofs.ReplyFields.{fields_first, fields_end}
use Rattle.replies.proofs.replies.write_order.Goals as goal

pub write_numbers-requires : goal.write_numbers-requires
write_numbers-requires c = omega (arith, c.requires, fields_end order_widths _ refl c.put_fields-end.ensures)

pub returns : goal.returns
unfolding order_reply
returns c =
    let fields = rw c.reply_kind.ensures at c.put_fields-end.ensures in
    wrote_as (wrote_through fields (numbers_digits c.args.trains.now) c.write_numbers.ensures) (fields_first order_widths _ [] _)
