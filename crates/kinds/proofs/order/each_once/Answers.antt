-- The trains are listed, and the list has each once just where the line has.
use mathlib.Core.Path.{◌≡◌, ap, ◌∙◌}
use mathlib.Core.List.{List}
use Prim.Native.Nat.{ℕ}
use lib.ListN.{length}
use Rattle.std.proofs.Common.{rules}
use Rattle.theory.specs.Lists.{list_of, nth}
use Rattle.theory.specs.Order.{each_once}
use Rattle.theory.proofs.Lists.{list_length, list_nth}
use Rattle.theory.proofs.Order.{once_cong}
use Rattle.lines.specs.Layout.{order_train}
use Rattle.kinds.proofs.order.each_once.Goals as goal

pub returns : goal.returns
returns c =
    let n = c.args.n in
    let f = order_train c.args.line.now in
    let listed : c.as_slice.result.now ≡ list_of n f = search rules in
    c.each_once.ensures
    ∙ ap (λ (l : List ℕ). each_once (length l) (nth l)) listed
    ∙ ap (λ (m : ℕ). each_once m (nth (list_of n f))) (list_length f n)
    ∙ once_cong n (nth (list_of n f)) f (λ d h. list_nth f 0 n d h)
