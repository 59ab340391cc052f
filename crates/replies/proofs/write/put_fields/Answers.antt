-- The invariant: the first k fields are written, one after the other. A turn writes one more.
use mathlib.Core.Path.{sym}
use mathlib.Core.List.{List, map}
use Prim.Native.Nat.{ℕ}
use native.Mathlib.Omega.{arith}
use lib.ListN.{take, get_or-map, length-map, length-take}
use lib.Seq.{take_all}
use Rattle.theory.specs.Lists.{nth}
use Rattle.replies.proofs.Writing.{wrote_none, wrote_field, wrote_as}
use Rattle.replies.proofs.ReplyFields.{fields_none, fields_more, fields_end, bytes_inside}
use Rattle.replies.proofs.write.put_fields.Goals as goal

-- the widths of fields, and their numbers
abbrev widths : List (ℕ × ℕ) → List ℕ
widths = map (λ f. f.0)

abbrev numbers : List (ℕ × ℕ) → List ℕ
numbers = map (λ f. f.1)

pub loop-width-init : goal.loop-width-init
loop-width-init c = wrote_as wrote_none fields_none

pub put_field-at-requires : goal.put_field-at-requires
put_field-at-requires c =
    let fs = c.args.fields.now in
    let k = c.loop-width.width-index in
    let end = fields_end (take k (widths fs)) (take k (numbers fs)) (simp (length-take, length-map)) c.loop-width.invariant in
    omega (arith, end, bytes_inside (widths fs) k (simp length-map c.loop-width-test.true), get_or-map (λ (f : ℕ × ℕ). f.0) fs k (0, 0))

pub loop-width-preserved : goal.loop-width-preserved
loop-width-preserved c =
    let fs = c.args.fields.now in
    let k = c.loop-width.width-index in
    let width = get_or-map (λ (f : ℕ × ℕ). f.0) fs k (0, 0) in
    let number = get_or-map (λ (f : ℕ × ℕ). f.1) fs k (0, 0) in
    wrote_as (wrote_field c.loop-width.invariant (nth (widths fs) k) (sym number) (rw width c.put_field-at.ensures))
    (fields_more (widths fs) (numbers fs) k (simp length-map c.loop-width-test.true) (simp length-map))

pub returns : goal.returns
returns c =
    let fs = c.args.fields.now in
    let k = c.loop-width.width-index in
    rw (take_all k (widths fs) (simp length-map c.loop-width-test.false), take_all k (numbers fs) (simp length-map c.loop-width-test.false)) at c.loop-width.invariant
