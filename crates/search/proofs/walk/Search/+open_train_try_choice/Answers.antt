-- Each way of the code is a way of the definition: a try by its tests, the tries of a train one after the other, for all that is sought and has this table.
use Rattle.std.proofs.Common.{◌≡◌, ◌+◌, ◌-◌, ◌<◌, sym, ap, ◌∙◌, refl, arith, get_or, Bor}
use Rattle.rows.specs.declared.table.Table.{Table}
use Rattle.rows.specs.Walled.{wall}
use Rattle.rows.proofs.Rows.{steady_refl}
use Rattle.search.specs.Held.{walk_of, meets_by}
use Rattle.search.proofs.Tries.{none_left}
use Rattle.search.proofs.Alike.{alike_refl, alike_set}
use Rattle.search.proofs.Held.{laid-meets, becomes_left, becomes_going, held_out, held-dropped, held_whole, held_opens, tries_next, at_sums, at_room, at_place, carrying_at, later_refl, later_trans, trying_later, later_opens}
use Rattle.search.proofs.walk.Search.+open_train_try_choice.Goals as goal

pub open_train-row_from-row-requires-clause-row_count_bound : goal.open_train-row_from-row-requires-clause-row_count_bound
open_train-row_from-row-requires-clause-row_count_bound t c = at_place c.requires.at

pub open_train-row_from-row-requires-clause-by_index : goal.open_train-row_from-row-requires-clause-by_index
open_train-row_from-row-requires-clause-by_index t c = λ a h. at_room c.requires.at (steady_refl _ _) a h

pub open_train-loop-a-init : goal.open_train-loop-a-init
open_train-loop-a-init t c = (later_refl c.requires.going, λ u budget partial p f h. refl)

pub open_train-try_choice-rest-requires : goal.open_train-try_choice-rest-requires
open_train-try_choice-rest-requires t c =
    let l = c.loop-a in
    let q = c.requires in
    let p = q.at in
    let z = p.searchable.low.sizes c.args.t p.train in
    let e = p.laid.sizes c.args.t p.train in
    let h : l.a < q.sought.shape.size c.args.t = omega (arith, e) in
    let g = c.from.ensures ∙ (at_sums p c.row_from-row.ensures).each l.a (omega (arith, z)) in
    let n = ap (λ (r : Bor Table). r.now.trains) l.invariant.0.table in
    let d = ap (λ (r : Bor Table). get_or r.now.sizes c.args.t 0) l.invariant.0.table in
    (omega (arith, p.train, p.laid.trains_held, z, e, n, d), record { sought = q.sought; at = trying_later p h g l.invariant.0; going = l.invariant.0.going })

pub open_train-loop-a-preserved : goal.open_train-loop-a-preserved
open_train-loop-a-preserved t c =
    let l = c.loop-a in
    let e = l.invariant.0 in
    let r = c.try_choice-rest.ensures in (
      later_trans e r.later,
      λ u budget partial p f m.
          let h : l.a < u.shape.size c.args.t = omega (arith, p.laid.sizes c.args.t p.train) in
          let g = c.from.ensures ∙ f.each l.a (omega (arith, p.searchable.low.sizes c.args.t p.train)) in
          tries_next p h g e.kept e.steady budget _ (walk_of budget l.rest l.self.best) (r.walk u budget (trying_later p h g e) (omega (arith, e.fewer))) ∙ l.invariant.1 u budget partial p f m,
    )

pub open_train-returns : goal.open_train-returns
open_train-returns t c =
    let l = c.loop-a in
    record {
      walk = λ u budget p m.
          let e : l.a ≡ u.shape.size c.args.t = omega (arith, p.laid.sizes c.args.t p.train) in
          sym (none_left _ _ _ _ e) ∙ l.invariant.1 u budget _ p (at_sums p c.row_from-row.ensures) m;
      later = l.invariant.0;
    }

pub try_choice-returns-then-left-le-NO_TRY : goal.try_choice-returns-then-left-le-NO_TRY
try_choice-returns-then-left-le-NO_TRY t c =
    let s = c.args.self.now in
    record {
      walk = λ u budget p m. held_out u budget c.args.t c.args.a c.args.total.0 c.args.left s.best s.chosen m c.requires.going c.if-left-le-NO_TRY.true;
      later = record { table = refl; fewer = omega arith; going = record { unmet = λ h. absurd (omega arith); low = c.requires.going.low }; kept = alike_refl _ _ _; steady = steady_refl _ _ };
    }

pub try_choice-returns-then-self-from : goal.try_choice-returns-then-self-from
try_choice-returns-then-self-from t c =
    let s = c.args.self.now in
    record {
      walk = λ u budget p m. held-dropped u budget c.args.t c.args.a c.args.total.0 c.args.left s.best s.chosen m c.requires.going (omega arith) (rw c.from.ensures at c.if-self-from.true);
      later = record {
        table = refl;
        fewer = omega arith;
        going = record { unmet = λ h. c.requires.going.unmet (omega arith); low = c.requires.going.low };
        kept = alike_refl _ _ _;
        steady = steady_refl _ _;
      };
    }

pub try_choice-returns-then-u-self : goal.try_choice-returns-then-u-self
try_choice-returns-then-u-self t c =
    let s = c.args.self.now in
    let q = c.requires.at in
    let m = meets_by s.table.now c.args.total.0 in
    let e = c.from.ensures in
    rw (c.become_best.ensures.best, c.become_best.ensures.left)
    (record {
      walk = λ u budget p n. held_whole u budget c.args.t c.args.a c.args.total.0 c.args.left s.best s.chosen n c.requires.going (omega arith) (rw e at c.if-self-from.false) m (laid-meets u p.laid c.args.total.0) (c.if-u-self.true ∙ p.laid.trains_held);
      later = record {
        table = refl;
        fewer = omega (arith, becomes_left m c.args.total.0 (c.args.left - 1) s.chosen);
        going = becomes_going m c.args.total.0 (c.args.left - 1) _ (omega (arith, e, c.requires.going.low, c.if-self-from.false));
        kept = alike_set _ _ _ _ (omega (arith, q.train, q.laid.trains_held));
        steady = steady_refl _ _;
      };
    })

pub try_choice-carry-requires : goal.try_choice-carry-requires
try_choice-carry-requires t c =
    let q = c.requires in
    let low : c.args.total.0 < wall = omega (arith, q.going.low, c.from.ensures, c.if-self-from.false) in
    let g = q.sought in
    record { shape = g.shape; costs = g.walls; scale = g.scale; bound = g.bound; at = carrying_at q.at low }

pub try_choice-open_train-requires : goal.try_choice-open_train-requires
try_choice-open_train-requires t c =
    let q = c.requires in
    let p = q.at in
    let g = q.sought in
    let h : c.args.t + 1 < g.shape.trains = omega (arith, p.train, p.laid.trains_held, c.if-u-self.false) in
    let low : c.args.total.0 < wall = omega (arith, q.going.low, c.from.ensures, c.if-self-from.false) in (
      omega (arith, p.choice, p.laid.sizes c.args.t p.train),
      record {
        sought = g;
        at = record { searchable = p.searchable; laid = p.laid; train = h; decided = p.decided low; summed = c.carry.ensures.summed g.shape g.walls g.scale g.bound (carrying_at p low) };
        going = record { unmet = λ n. q.going.unmet (omega arith); low = q.going.low };
      },
    )

pub try_choice-returns : goal.try_choice-returns
try_choice-returns t c =
    let s = c.args.self.now in
    let o = c.requires in
    let q = o.at in
    let r = c.open_train.ensures in
    let d = c.carry.ensures in
    let low : c.args.total.0 < wall = omega (arith, o.going.low, c.from.ensures, c.if-self-from.false) in
    record {
      walk = λ u budget p m.
          let h : c.args.t + 1 < u.shape.trains = omega (arith, p.train, p.laid.trains_held, c.if-u-self.false) in
          held_opens u budget c.args.t c.args.a c.args.total.0 c.args.left s.best s.chosen m o.going (omega arith) (rw c.from.ensures at c.if-self-from.false) p.searchable h (p.decided low)
          (r.walk u budget (record { searchable = p.searchable; laid = p.laid; train = h; decided = p.decided low; summed = d.summed u.shape u.walls u.scale u.bound (carrying_at p low) }) (omega arith));
      later = later_opens c.args.a q.laid q.train d.steady (omega arith) r.later;
    }
