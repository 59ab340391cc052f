-- The invariant: `at` and `last` are where pair k and the one before it begin, within the line, and the pairs so far are fine.
use mathlib.Core.Path.{◌≡◌, sym, ◌∙◌}
use Prim.Native.Nat.{◌+◌, ◌-◌}
use native.Mathlib.Omega.{arith}
use Rattle.std.specs.Prelude.{Err}
use Rattle.std.proofs.Common.{rules}
use Rattle.refusals.specs.Verdicts.{first_of}
use Rattle.refusals.proofs.Verdicts.{first_none, first_more, first_err}
use Rattle.lines.specs.Layout.{pair_at}
use Rattle.kinds.specs.Load.{pair_verdict, rest_verdict}
use Rattle.kinds.proofs.LoadFields.{FinePair, pair_fine, pair_next, pair_ordered_lem}
use Rattle.kinds.proofs.load.rest_verdict.Goals.{In_ok-pair_verdict}
use Rattle.kinds.proofs.load.rest_verdict.Goals as goal

pub loop-k-init : goal.loop-k-init
loop-k-init c = record { at = c.requires.2; last = c.requires.2; behind = omega arith; there = c.requires.1; fine = first_none _ }

pub returns-in_err-pair_verdict : goal.returns-in_err-pair_verdict
unfolding rest_verdict
returns-in_err-pair_verdict c =
    let r = c.in_err-pair_verdict.field-0.0 in
    let e : first_of c.args.m (pair_verdict c.args.load.frame.line.now) ≡ Err r = first_err _ _ c.loop-k.k (omega arith) c.loop-k.invariant.fine (sym c.pair_verdict.ensures ∙ c.in_err-pair_verdict.was) in
    rw e (search rules)

fine : (c : In_ok-pair_verdict) → FinePair c.args.load.frame.line.now c.loop-k.k
fine c = pair_fine _ _ (sym c.pair_verdict.ensures ∙ c.in_ok-pair_verdict.was)

pub entry_count-requires : goal.entry_count-requires
entry_count-requires c =
    let o = pair_ordered_lem c.args.load.frame.line.now c.loop-k.k (fine c).ordered in record {
      there = omega (arith, (fine c).there);
      below = (rw c.loop-k.invariant.at (omega (arith, o)), rw c.loop-k.invariant.at o.second_below);
    }

pub loop-k-preserved : goal.loop-k-preserved
loop-k-preserved c =
    let f = fine (goal.at.loop-k-preserved c).In_ok-pair_verdict in
    let line = c.args.load.frame.line.now in
    let k = c.loop-k.k in
    let e : (k + 1) - 1 ≡ k = omega arith in
    let n : pair_at line (k + 1) ≡ c.pair_end-at.result = rw (c.pair_end-at.ensures, c.entry_count.ensures.value, c.loop-k.invariant.at) (pair_next line k) in record {
      at = sym n;
      last = rw e c.loop-k.invariant.at;
      behind = omega (arith, c.pair_end-at.ensures);
      there = omega (arith, n, f.next);
      fine = first_more _ k c.loop-k.invariant.fine (sym c.pair_verdict.ensures ∙ c.in_ok-pair_verdict.was);
    }

pub returns : goal.returns
unfolding rest_verdict
returns c =
    let e : c.loop-k.k ≡ c.args.m = omega arith in
    rw (rw e at c.loop-k.invariant.fine, sym (rw e at c.loop-k.invariant.at), sym c.bytes.ensures) c.end_verdict.ensures
