-- The trains of the pairs so far are listed, and each turn lists those of one.
use mathlib.Core.Path.{sym, ap, ◌∙◌}
use mathlib.Core.List.{List, [], ◌∷◌}
use Prim.Native.Nat.{ℕ}
use native.Mathlib.Omega.{arith}
use lib.ListN.{length}
use Rattle.std.specs.Prelude.{map}
use Rattle.std.proofs.lemmas.List.{length-map, map-append}
use Rattle.theory.proofs.Lists.{list_length}
use Rattle.tables.specs.declared.block.Pair.{Pair}
use Rattle.tables.specs.Block.{first, second}
use Rattle.tables.proofs.Study.{pairs_range}
use Rattle.operations.proofs.Grown.{list_begun, list_turn}
use Rattle.numbers.proofs.read_pairs.Goals as goal

pub loop-k-init : goal.loop-k-init
loop-k-init c = rw c.clear.ensures (sym (list_begun _), sym (list_begun _))

pub trains_of-requires : goal.trains_of-requires
trains_of-requires c = omega (arith, pairs_range c.args.study.held, c.pairs-k-end.ensures)

pub push-requires : goal.push-requires
push-requires c =
    let e = ap (λ (l : List ℕ). length l) c.loop-k.invariant.0 ∙ list_length (first c.args.study.numbers.now) c.loop-k.k in
    omega (arith, pairs_range c.args.study.held, c.pairs-k-end.ensures, length-map c.loop-k.out.items (λ (p : Pair). p.first))

pub loop-k-preserved : goal.loop-k-preserved
loop-k-preserved c =
    let b = c.args.study.numbers.now in
    let l = c.loop-k.out.items in
    let x = c.trains_of.result in (
      list_turn (first b) c.loop-k.k c.loop-k.invariant.0 c.trains_of.ensures.first (ap (λ (m : List Pair). map (λ p. p.first) m) c.push.ensures.items ∙ map-append (λ (p : Pair). p.first) l (x ∷ [])),
      list_turn (second b) c.loop-k.k c.loop-k.invariant.1 c.trains_of.ensures.second (ap (λ (m : List Pair). map (λ p. p.second) m) c.push.ensures.items ∙ map-append (λ (p : Pair). p.second) l (x ∷ [])),
    )
