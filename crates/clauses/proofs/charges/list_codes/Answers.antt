-- The marked pairs among the codes so far are listed.
use mathlib.Core.Path.{◌≡◌, sym, ap, ◌∙◌}
use mathlib.Core.Bool.{Bool, true, false}
use mathlib.Core.List.{List, [], ◌∷◌, ◌++◌}
use Prim.Native.Nat.{ℕ, ◌+◌, ◌/◌, ◌%◌}
use borrow.Author.Tests.{lt-ltb, le-ltb}
use native.Mathlib.Omega.{arith}
use lib.ListN.{length}
use Rattle.tables.specs.Block.{max_trains}
use Rattle.clauses.specs.Clauses.{max_codes, codes_below}
use Rattle.clauses.specs.Charges.{marked_pair}
use Rattle.clauses.proofs.Codes.{codes_begun, codes_skip, codes_next, codes_few}
use Rattle.clauses.proofs.charges.list_codes.Goals.{then-o+then-marks-o, else-o, else-o-via-then-o+else-marks-o, else-o-via-else-o}
use Rattle.clauses.proofs.charges.list_codes.Goals as goal

pub loop-o-init : goal.loop-o-init
loop-o-init c = c.requires ∙ sym (codes_begun (marked_pair c.args.marks.now))

pub push-requires : goal.push-requires
push-requires c =
    let e = ap (λ (l : List ℕ). length l) c.loop-o.invariant in
    omega (arith, codes_few (marked_pair c.args.marks.now) c.loop-o.o)

-- a code that is a pair's is pushed, and any other is not
pushed : (m : List Bool) (o : ℕ) {l k : List ℕ} → l ≡ codes_below (marked_pair m) o → marked_pair m o ≡ true → k ≡ l ++ (o ∷ []) → k ≡ codes_below (marked_pair m) (o + 1)
pushed m o e t f = rw (codes_next (marked_pair m) o t, f, e)

passed_by : (m : List Bool) (o : ℕ) {l k : List ℕ} → l ≡ codes_below (marked_pair m) o → marked_pair m o ≡ false → k ≡ l → k ≡ codes_below (marked_pair m) (o + 1)
passed_by m o e t f = rw (codes_skip (marked_pair m) o t, f, e)

pub loop-o-preserved : goal.loop-o-preserved
loop-o-preserved c =
    let m = c.args.marks.now in
    let o = c.loop-o.o in
    elim c.if-o.branch [
      | then-o+then-marks-o w ↦ pushed m o c.loop-o.invariant (rw (lt-ltb (o / max_trains) (o % max_trains) w.if-o.true) w.if-marks-o.true) (ap (λ v. v.items) w.codes-is ∙ w.push.ensures.items)
      | else-o w ↦
          elim w.else-o.branch [
            | else-o-via-then-o+else-marks-o w' ↦ passed_by m o c.loop-o.invariant (rw (lt-ltb (o / max_trains) (o % max_trains) w'.if-o.true) w'.if-marks-o.false) (ap (λ v. v.items) w.codes-is)
            | else-o-via-else-o w' ↦ passed_by m o c.loop-o.invariant (rw (le-ltb (o / max_trains) (o % max_trains) w'.if-o.false)) (ap (λ v. v.items) w.codes-is)
          ]
    ]

pub returns : goal.returns
returns c =
    let e : c.loop-o.o ≡ max_codes = omega arith in
    rw e at c.loop-o.invariant
