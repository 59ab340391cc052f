-- The table is that of the listing, opening the first place with nothing tried is the whole walk, and the answer is what that comes to, its plan by trains.
use mathlib.Core.Path.{◌≡◌, refl, sym, ap, ap₂, ◌∙◌}
use mathlib.Core.List.{List}
use Prim.Native.Nat.{ℕ}
use native.Mathlib.Omega.{arith}
use lib.IntN.{ℤ}
use Rattle.theory.specs.Lists.{nth}
use Rattle.tables.specs.Block.{scale, trains, constant}
use Rattle.rows.specs.Listing.{numbers_of}
use Rattle.search.specs.Walk.{at_bound}
use Rattle.search.specs.Answer.{shown, answer_in}
use Rattle.search.specs.Ordered.{walk_by_train, walked_in, searched_in}
use Rattle.search.specs.Sought.{sought_in}
use Rattle.search.specs.Held.{walk_of}
use Rattle.search.proofs.Held.{held_start, held_by_train}
use Rattle.search.proofs.Studies.{listing_started, listing_starts}
use Rattle.search.proofs.answer.search_in.Goals as goal

pub open_train-left-requires : goal.open_train-left-requires
open_train-left-requires c =
    let o = c.new-walk.ensures.started in
    let l = c.new.result in
    record {
      sought = sought_in l;
      at = listing_started l (rw c.new-walk.ensures.table c.new-2.ensures) c.lay_own.ensures o.chosen (c.constant.ensures ∙ ap constant (sym c.new.ensures.study));
      going = rw o.best (record { unmet = λ h. refl; low = omega arith });
    }

pub returns : goal.returns
unfolding answer_in searched_in
returns c =
    let o = c.new-walk.ensures.started in
    let l = c.new.result in
    let b = numbers_of l in
    let order = nth l.ordered.order in
    let e = c.constant.ensures ∙ ap constant (sym c.new.ensures.study) in
    let w : walk_of c.args.budget c.open_train-left.result c.open_train-left.new.self.best ≡ walked_in order b (at_bound b) c.args.budget =
    c.open_train-left.ensures.walk (sought_in l) c.args.budget (listing_started l (rw c.new-walk.ensures.table c.new-2.ensures) c.lay_own.ensures o.chosen e) (rw o.best (omega arith))
    ∙ rw (o.chosen, o.best) (sym (listing_starts l c.args.budget e (held_start c.args.budget))) in
    c.answer_of.ensures
    ∙ ap₂ shown c.new-2.ensures.scale_held (held_by_train c.args.budget c.open_train-left.result c.open_train-left.new.self.best (trains b) order c.by_train.ensures ∙ ap (walk_by_train (trains b) order) w)
    ∙ ap₂ (λ (b : List ℤ) (r : List ℕ). shown (scale b) (searched_in (nth r) b c.args.budget)) c.new.ensures.study c.new.ensures.order
