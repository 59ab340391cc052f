-- The order is the block's.
use Rattle.std.proofs.Common.{rules, ap, ◌∙◌, sym}
use Rattle.theory.specs.Lists.{nth}
use Rattle.theory.proofs.Order.{order_cong}
use Rattle.tables.proofs.Study.{trains_range}
use Rattle.tables.specs.Block.{scale, order}
use Rattle.search.specs.Ordered.{searched}
use Rattle.search.specs.Answer.{shown, search_answer, answer_in}
use Rattle.search.proofs.Studies.{order_searched}
use Rattle.search.proofs.Theorems.{order_is}
use Rattle.search.proofs.answer.search.Goals as goal

pub search_in-requires-clause-each_once : goal.search_in-requires-clause-each_once
search_in-requires-clause-each_once c = order_cong (order c.args.study.numbers.now) (nth c.from_fn-order.result) (λ d h. let q = trains_range c.args.study.held in sym (search rules)) (order_is c.args.study.held)

pub returns : goal.returns
unfolding answer_in search_answer searched
returns c =
    c.search_in.ensures ∙ ap (shown (scale c.args.study.numbers.now)) (order_searched c.args.study.numbers.now (λ d h. let q = trains_range c.args.study.held in search rules) c.args.budget)
