-- The first n places of the order are listed, and the list has each train once just where the order has.
use mathlib.Core.Path.{◌≡◌, ap, ◌∙◌}
use Prim.Native.Nat.{ℕ, ◌<◌}
use native.Mathlib.Omega.{arith}
use lib.ListN.{length, take, get_or}
use Rattle.std.proofs.Common.{rules}
use Rattle.std.proofs.lemmas.List.{get_or-take}
use Rattle.theory.specs.Lists.{nth}
use Rattle.theory.specs.Order.{each_once}
use Rattle.theory.proofs.Order.{once_cong}
use Rattle.tables.specs.Block.{max_trains, trains, order}
use Rattle.tables.specs.WellFormed.{order_right}
use Rattle.tables.proofs.well_formed.order_right.Goals as goal

pub returns : goal.returns
unfolding order_right
returns c =
    let b = c.args.b.now in
    let l = c.from_fn-order.result in
    let n : length (take c.trains.result l) ≡ trains b = search rules in
    let there : (d : ℕ) → d < max_trains → get_or l d 0 ≡ order b d = λ d h. search rules in
    let same : (d : ℕ) → d < trains b → nth (take c.trains.result l) d ≡ order b d = λ d h. get_or-take c.trains.result l d 0 (omega (arith, c.trains.ensures)) ∙ there d (omega (arith, c.requires)) in
    c.each_once.ensures ∙ ap (λ (m : ℕ). each_once m (nth (take c.trains.result l))) n ∙ once_cong (trains b) (nth (take c.trains.result l)) (order b) same
