-- The plain reply stands in the first part of the buffer, of whole bytes and with room for one more, and its second form is written over it.
use mathlib.Core.Path.{◌≡◌, ◌∙◌}
use Prim.Native.Nat.{◌*◌, ◌-◌}
use native.Mathlib.Omega.{arith}
use lib.ListN.{length, take, drop, length-append, length-drop}
use lib.Seq.{length-take-le}
use Rattle.radio.specs.Forms.{sum_width}
use Rattle.radio.specs.Answer.{radio_answer}
use Rattle.radio.proofs.Writing.{wrote_inside, wrote_part, wrote_over, plain_even}
use Rattle.radio.proofs.answer.answer_radio.Goals as goal

pub write_radio-requires : goal.write_radio-requires
write_radio-requires c =
    let b = c.args.reply.now in
    let room = length b - 2 * sum_width in
    let long : length (take room b) ≡ room = length-take-le room b (omega arith) in
    let plain = c.answer_plain-n.ensures in (
      omega (arith, plain.reply.count, plain_even c.args.line.now c.args.block.now (length (take room b)) (omega arith) c.requires.2),
      omega (arith, wrote_inside plain.reply c.answer_plain-n.auto.reply, length-append c.answer_plain-n.new.reply (drop room b), length-drop room b),
    )

pub returns : goal.returns
unfolding radio_answer
returns c =
    let b = c.args.reply.now in
    let room = length b - 2 * sum_width in
    let long : length (take room b) ≡ room = length-take-le room b (omega arith) in
    let plain = rw long at c.answer_plain-n.ensures in
    record {
      block = plain.block;
      reply =
          wrote_over (wrote_part b room (omega arith) (c.answer_plain-n.auto.reply ∙ long) plain.reply)
          (plain_even c.args.line.now c.args.block.now room (omega arith) c.requires.2)
          c.write_radio.ensures;
    }
