-- The place of the first line feed, or else the part's length, is the line's length.
use borrow.Author.Rules.{rules}
use borrow.Author.Tests.{tests}
use mathlib.Core.Path.{◌≡◌, ◌∙◌}
use Rattle.std.specs.List.{position}
use Rattle.std.proofs.lemmas.Iterator.Search.{position_from_yields_List}
use Rattle.std.proofs.lemmas.Iterator.{YieldsList-from_slice}
use Rattle.stream.proofs.Lines.{ends_line, first_line_feed}
use Rattle.stream.proofs.splitting.line_length.Goals as goal

pub returns : goal.returns
returns c =
    let e : c.position.result ≡ position ends_line c.args.part.now =
    position_from_yields_List ends_line _ _ _ c.position.ensures.ran (YieldsList-from_slice c.args.part.now cc) (λ x b q k. search (rules, tests))
    in
    c.unwrap_or.ensures ∙ rw e (first_line_feed c.args.part.now)
