-- Both literals must be there before either is judged; then 19, which signs have no say in, and only then the weight.
use mathlib.Core.Path.{◌≡◌, sym, ap, ◌∙◌}
use mathlib.Core.Bool.{Bool}
use Prim.Native.Nat.{ℕ, ◌+◌}
use lib.IntN.{ℤ, pos, nat_abs}
use Rattle.std.proofs.Common.{rules}
use Rattle.clauses.specs.Clauses.{literals_right}
use Rattle.lines.specs.Layout.{signed_in, literal_width, literal_field, load_trains, clause_first, clause_second}
use Rattle.kinds.specs.Clauses.{clause_verdict}
use Rattle.kinds.proofs.clause_fields.clause_verdict.Goals.{After-right}
use Rattle.kinds.proofs.clause_fields.clause_verdict.Goals as goal

-- the test on how far two literals are from 0 is the test on them
by_size : (n : ℕ) (z w : ℤ) {m a b : ℕ} {r : Bool} → m ≡ n → a ≡ nat_abs z → b ≡ nat_abs w → r ≡ literals_right m (pos a) (pos b) → r ≡ literals_right n z w
unfolding literals_right
by_size n z w e f g h = rw (← e, ← f, ← g) h

right : (c : After-right) → let l = c.args.frame.line.now in
    c.right.result ≡ literals_right (load_trains l) (clause_first l c.args.k) (clause_second l c.args.k)
right c =
    let l = c.args.frame.line.now in
    by_size (load_trains l) (clause_first l c.args.k) (clause_second l c.args.k) c.number_in-n.ensures
    (c.literal_size-first.ensures ∙ ap (λ (p : ℕ). nat_abs (signed_in l (literal_field p))) c.clause_at-at.ensures)
    (c.literal_size-second.ensures ∙ ap (λ (p : ℕ). nat_abs (signed_in l (literal_field (p + literal_width)))) c.clause_at-at.ensures)
    c.right.ensures

pub returns-then-not-right : goal.returns-then-not-right
unfolding clause_verdict
returns-then-not-right c =
    let e = sym (right (goal.at.returns-then-not-right c).After-right) ∙ c.if-not-right.true in
    rw e (search rules)

pub returns : goal.returns
unfolding clause_verdict
returns c =
    let e = sym (right (goal.at.returns c).After-right) ∙ c.if-not-right.false in
    rw e (search rules)
