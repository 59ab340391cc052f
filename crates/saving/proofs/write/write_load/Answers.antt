-- The head, a run, a field and the pairs, one after the other, are the line; each begins where the one before it ends.
use mathlib.Core.Path.{◌≡◌, sym, ap, ◌∙◌}
use mathlib.Core.List.{List, [], ◌++◌}
use Prim.Native.Nat.{ℕ, ◌+◌, ◌*◌, ◌≤◌}
use native.Mathlib.Omega.{arith}
use lib.ListN.{length, take, length-map}
use Rattle.theory.specs.Lists.{nth}
use Rattle.tables.specs.declared.block.Pair.{Pair}
use Rattle.tables.specs.Numbers.{Numbers}
use Rattle.operations.specs.Given.{numbers_given}
use Rattle.frames.specs.Runs.{run_digits}
use Rattle.frames.proofs.RunDigits.{run_length}
use Rattle.lines.specs.Layout.{count_width, cost_width, size_field}
use Rattle.lines.specs.Text.{head_digits}
use Rattle.lines.proofs.Pairs.{head_length}
use Rattle.replies.specs.Wrote.{Wrote}
use Rattle.replies.proofs.Writing.{wrote_field, wrote_as, wrote_through, wrote_end}
use Rattle.saving.proofs.Writing.{load_fields}
use Rattle.saving.proofs.write.write_load.Goals as goal

-- where the head ends, and where the choice costs
head_end : (x : Numbers) {d b : List ℕ} {head : ℕ} → Wrote d (head_digits x.scale x.sizes []) b head → head ≡ 2 * (size_field.at + count_width * length x.sizes)
head_end x o = o.count ∙ head_length x.scale x.sizes

choices_end : (x : Numbers) {b e : List ℕ} {head choices : ℕ} → Wrote b (take head b ++ run_digits cost_width (length x.choices) (nth x.choices) []) e choices → head ≤ length b → choices ≡ head + 2 * (cost_width * length x.choices)
choices_end x p h = omega (arith, wrote_end (run_digits cost_width (length x.choices) (nth x.choices) []) p h, run_length cost_width (length x.choices) (nth x.choices) [])

pub write_run-choices_end-requires : goal.write_run-choices_end-requires
write_run-choices_end-requires c =
    let x = numbers_given c.args.given.numbers.now in
    let head = head_end x (rw c.as_slice.ensures.value at c.write_head-head_end.ensures) in
    omega (arith, head, ap length c.as_slice-choices.ensures.value, c.requires)

pub put_field-count_end-requires : goal.put_field-count_end-requires
put_field-count_end-requires c =
    let x = numbers_given c.args.given.numbers.now in
    let head = head_end x (rw c.as_slice.ensures.value at c.write_head-head_end.ensures) in
    omega (arith, head, choices_end x (rw c.as_slice-choices.ensures.value at c.write_run-choices_end.ensures) (omega (arith, head, c.requires)), c.requires)

pub write_pairs-requires : goal.write_pairs-requires
write_pairs-requires c =
    let x = numbers_given c.args.given.numbers.now in
    let head = head_end x (rw c.as_slice.ensures.value at c.write_head-head_end.ensures) in
    let choices = choices_end x (rw c.as_slice-choices.ensures.value at c.write_run-choices_end.ensures) (omega (arith, head, c.requires)) in
    omega (arith, head, choices, c.requires, c.put_field-count_end.ensures.0, length-map c.args.given.numbers.now.pairs.items (λ (p : Pair). p.first))

pub returns : goal.returns
returns c =
    let x = numbers_given c.args.given.numbers.now in
    let head = rw c.as_slice.ensures.value at c.write_head-head_end.ensures in
    let choices = rw c.as_slice-choices.ensures.value at c.write_run-choices_end.ensures in
    let m = length-map c.args.given.numbers.now.pairs.items (λ (p : Pair). p.first) in
    let pairs = rw (← m) at c.write_pairs.ensures in
    wrote_as (wrote_through (wrote_field (wrote_through head _ choices) count_width (c.len-m.ensures.value ∙ sym m) c.put_field-count_end.ensures) _ pairs) (load_fields x)
