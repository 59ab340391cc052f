-- Each turn stores the two trains of one pair, as the definition does.
use Rattle.std.specs.Prelude.{map}
use mathlib.Core.Path.{◌≡◌, sym}
use native.Mathlib.Omega.{arith}
use lib.ListN.{length}
use Rattle.std.proofs.lemmas.List.{length-map}
use Rattle.theory.proofs.Fold.{iter-zero, iter_turn}
use Rattle.tables.specs.declared.block.Pair.{Pair}
use Rattle.operations.proofs.LoadTurns.{pair_turn, first_nth, second_nth}
use Rattle.operations.proofs.load.load_pairs.Goals as goal

pub loop-k-init : goal.loop-k-init
loop-k-init c = sym (iter-zero _ _)

pub put_first-requires : goal.put_first-requires
put_first-requires c =
    let l = c.args.pairs.now in
    let e = length-map l (λ (p : Pair). p.first) in
    omega (arith, c.requires.few, c.requires.first c.loop-k.k (omega arith), first_nth l c.loop-k.k)

pub put_second-requires : goal.put_second-requires
put_second-requires c =
    let l = c.args.pairs.now in
    let e = length-map l (λ (p : Pair). p.first) in
    omega (arith, c.requires.few, c.requires.second c.loop-k.k (omega arith), second_nth l c.loop-k.k)

pub loop-k-preserved : goal.loop-k-preserved
loop-k-preserved c =
    let l = c.args.pairs.now in
    iter_turn (pair_turn (map (λ p. p.first) l) (map (λ p. p.second) l)) c.args.b.now c.loop-k.invariant (rw (first_nth l c.loop-k.k, second_nth l c.loop-k.k) cc)

pub returns : goal.returns
returns c =
    let e : c.loop-k.k ≡ length (map (λ p. p.first) c.args.pairs.now) = omega (arith, length-map c.args.pairs.now (λ (p : Pair). p.first)) in
    rw e at c.loop-k.invariant
