-- A line of no characters is none; any other is answered.
use borrow.Author.Rules.{rules}
use Rattle.stream.proofs.Steps.{last_none, last_some}
use Rattle.stream.proofs.splitting.last_line.Goals as goal

pub returns-then-is_empty : goal.returns-then-is_empty
returns-then-is_empty c = last_none _ _ _ (search rules)

pub returns : goal.returns
returns c = last_some _ _ _ (search rules) c.reply_line.ensures
