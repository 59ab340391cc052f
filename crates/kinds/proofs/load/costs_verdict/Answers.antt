-- What was judged fine bounds the place of the next group of fields.
use mathlib.Core.Path.{◌≡◌, refl, sym, ap, ◌∙◌}
use Prim.Native.Nat.{◌≤◌}
use native.Mathlib.Omega.{arith}
use Rattle.tables.specs.Block.{max_pairs}
use Rattle.frames.specs.Digits.{bytes}
use Rattle.lines.specs.declared.field.Field.{Field}
use Rattle.lines.specs.Layout.{number_in, end_of, pair_count_field, load_pairs}
use Rattle.lines.specs.Verdicts.{field_verdict}
use Rattle.lines.proofs.Judged.{field-within}
use Rattle.kinds.proofs.LoadFields.{pair_start}
use Rattle.kinds.proofs.load.costs_verdict.Goals.{In_ok-field_verdict}
use Rattle.kinds.proofs.load.costs_verdict.Goals as goal

-- m is there, and not above its limit
there : (c : In_ok-field_verdict) → let l = c.args.load.frame.line.now in
    (end_of (pair_count_field l) ≤ bytes l) × (load_pairs l ≤ max_pairs)
there c =
    let l = c.args.load.frame.line.now in
    let w = field-within l (pair_count_field l) refl (ap (λ (f : Field). field_verdict l f) (sym c.pair_count_field-pairs.ensures) ∙ sym c.field_verdict.ensures ∙ c.in_ok-field_verdict.was) in
    (w.0, w.1.1)

pub number_in-requires : goal.number_in-requires
number_in-requires c =
    rw c.pair_count_field-pairs.ensures (omega (arith, (there (goal.at.number_in-requires c).In_ok-field_verdict).0), omega arith)

pub rest_verdict-requires : goal.rest_verdict-requires
rest_verdict-requires c =
    let l = c.args.load.frame.line.now in
    let w = there (goal.at.rest_verdict-requires c).In_ok-field_verdict in
    let end : c.end.result ≡ end_of (pair_count_field l) = c.end.ensures ∙ ap end_of c.pair_count_field-pairs.ensures in
    let count : c.number_in.result ≡ load_pairs l = c.number_in.ensures ∙ ap (number_in l) c.pair_count_field-pairs.ensures in
    (omega (arith, count, w.1), omega (arith, end, w.0), end ∙ sym (pair_start l))
