-- The invariant: `at` is where pair k begins, and the numbers so far are those of the line's sizes, choices and first k pairs.
use mathlib.Core.Path.{◌≡◌, refl, sym, ap, ◌∙◌}
use mathlib.Core.List.{List}
use Prim.Native.Nat.{ℕ, ◌+◌, ◌*◌, ◌<◌, ◌≤◌}
use native.Mathlib.Omega.{arith}
use lib.ListN.{length}
use Rattle.theory.specs.Lists.{list_from}
use Rattle.refusals.specs.Verdicts.{Fine}
use Rattle.tables.specs.Block.{max_pairs, entries_of_pair}
use Rattle.tables.specs.declared.block.Pair.{Pair}
use Rattle.tables.specs.Numbers.{Numbers}
use Rattle.frames.specs.Digits.{bytes}
use Rattle.lines.specs.declared.request.Load.{Load}
use Rattle.lines.specs.declared.request.Request.TheVariants as request
use Rattle.lines.specs.Layout.{number_in, end_of, further, size_field, first_field, second_field, entry_field, choice_field, pair_count_field, load_trains, load_scale, choice_count, load_pairs, entry_count, pair_at, load_first, load_second}
use Rattle.lines.specs.Verdicts.{field_run}
use Rattle.lines.proofs.Judged.{field-within}
use Rattle.kinds.specs.Load.{load_verdict, load_request}
use Rattle.kinds.proofs.LoadFields.{FinePair, pair_next, pair_start, pair_ordered_lem, choice_count_most}
use Rattle.kinds.proofs.LoadAccepted.{load_fine, load_sized, load_pair}
use Rattle.decoding.specs.Numbers.{entries_of, numbers_of}
use Rattle.decoding.proofs.Entries.{entries_none, entries_more, pair_inside}
use Rattle.decoding.proofs.LoadRange.{load_in_range}
use Rattle.decoding.proofs.Size.{entries_most}
use Rattle.decoding.proofs.Pushed.{pushed, item_count}
use Rattle.decoding.proofs.decode_load_in.Goals.{In-loop-k}
use Rattle.decoding.proofs.decode_load_in.Goals as goal

-- where the long fields of a load line stand
abbrev runs_of : List ℕ → Load
runs_of l = record {
  scale = load_scale l;
  sizes = field_run size_field.at (load_trains l);
  choices = field_run (choice_field l).at (choice_count l);
  pairs = field_run (end_of (pair_count_field l)) (load_pairs l);
}

asked : (l : List ℕ) (q : Load) → request.Load q ≡ load_request l → q ≡ runs_of l
asked l q e = cc

-- m is there, and not above its limit
count_there : (l : List ℕ) → load_verdict l ≡ Fine → (end_of (pair_count_field l) ≤ bytes l) × (load_pairs l ≤ max_pairs)
count_there l e = let w = field-within l (pair_count_field l) refl (load_fine l e).count in (w.0, w.1.1)

pub decode-requires : goal.decode-requires
decode-requires c =
    let l = c.args.frame.line.now in
    let s = load_sized (load_fine l c.requires.0) in
    let q = asked l c.args.q c.requires.1 in
    let at = ap (λ (r : Load). r.sizes.at) q in
    let count = ap (λ (r : Load). r.sizes.count) q in
    let none = ap (λ (x : Numbers). length x.sizes) c.requires.2 in
    (omega arith, ((omega (arith, at, count, s.there), omega arith), omega (arith, none, count, s.trains)))

pub decode-requires-2 : goal.decode-requires-2
decode-requires-2 c =
    let l = c.args.frame.line.now in
    let s = load_sized (load_fine l c.requires.0) in
    let q = asked l c.args.q c.requires.1 in
    let at = ap (λ (r : Load). r.choices.at) q in
    let count = ap (λ (r : Load). r.choices.count) q in
    let none = ap (λ (x : Numbers). length x.choices) c.requires.2 in
    (omega arith, ((omega (arith, at, count, count_there l c.requires.0), omega arith), omega (arith, none, count, choice_count_most s)))

pub invariant_of-sized : goal.invariant_of-sized
invariant_of-sized c = record { sized = load_sized (load_fine c.args.frame.line.now c.requires.0) }

pub loop-k-init : goal.loop-k-init
unfolding list_from
loop-k-init c =
    let l = c.args.frame.line.now in
    let q = asked l c.args.q c.requires.1 in
    let n = c.requires.2 in record {
      at = ap (λ (r : Load). r.pairs.at) q ∙ sym (pair_start l);
      numbers = rw (
        c.decode.ensures,
        c.decode-2.ensures,
        ap (λ (x : Numbers). x.scale) n,
        ap (λ (x : Numbers). x.sizes) n,
        ap (λ (x : Numbers). x.choices) n,
        ap (λ (x : Numbers). x.firsts) n,
        ap (λ (x : Numbers). x.seconds) n,
        ap (λ (x : Numbers). x.entries) n,
        q,
        entries_none l,
      );
    }

module _ (c : In-loop-k) where
  -- there is another pair
  more : c.loop-k._k < load_pairs c.args.frame.line.now
  more = omega (arith, ap (λ (r : Load). r.pairs.count) (asked c.args.frame.line.now c.args.q c.requires.1))

  pair : FinePair c.args.frame.line.now c.loop-k._k
  pair = load_pair (load_fine c.args.frame.line.now c.requires.0) c.loop-k._k more

  -- it is inside the line, and its costs are among those of all pairs
  inside : let l = c.args.frame.line.now in
      ((further (entry_field c.loop-k.at) (entry_count l c.loop-k.at)).at ≤ bytes l)
      × (length (entries_of l c.loop-k._k) + entry_count l c.loop-k.at ≤ length (entries_of l (load_pairs l)))
  inside = pair_inside c.args.frame.line.now c.loop-k._k c.loop-k.at _ c.loop-k.invariant.at refl more pair

pub entry_count-count-requires : goal.entry_count-count-requires
entry_count-count-requires c =
    let l = c.args.frame.line.now in
    let p = pair (goal.at.entry_count-count-requires c).In-loop-k in
    let o = pair_ordered_lem l c.loop-k._k p.ordered in record {
      there = omega (arith, p.there);
      below = (rw c.loop-k.invariant.at (omega (arith, o)), rw c.loop-k.invariant.at o.second_below);
    }

pub trains_of-requires : goal.trains_of-requires
trains_of-requires c = omega (arith, (pair (goal.at.trains_of-requires c).In-loop-k).there)

pub push-requires : goal.push-requires
push-requires c =
    let l = c.args.frame.line.now in
    let pairs = c.loop-k.numbers.pairs.items in
    let n : length pairs ≡ c.loop-k._k = item_count (λ (x : Pair). x.first) (load_first l) pairs c.loop-k._k (ap (λ (x : Numbers). x.firsts) c.loop-k.invariant.numbers) in
    (omega arith, omega (arith, n, more (goal.at.push-requires c).In-loop-k, count_there l c.requires.0))

pub overflow_add-at : goal.overflow_add-at
overflow_add-at c = omega (arith, (pair (goal.at.overflow_add-at c).In-loop-k).there)

pub decode-requires-in-loop-k : goal.decode-requires-in-loop-k
unfolding numbers_of
decode-requires-in-loop-k c =
    let l = c.args.frame.line.now in
    let i = inside (goal.at.decode-requires-in-loop-k c).In-loop-k in
    let count = c.entry_count-count.ensures.value in
    let so_far : length c.loop-k.numbers.entries.items ≡ length (entries_of l c.loop-k._k) = ap (λ (x : Numbers). length x.entries) c.loop-k.invariant.numbers in
    let most : length (entries_of l (load_pairs l)) ≤ max_pairs * entries_of_pair = entries_most (load_in_range l c.requires.0) in
    let room : length c.loop-k.numbers.entries.items + c.entry_count-count.result ≤ 3072 = omega (arith, i, count, so_far, most) in
    (omega arith, ((omega (arith, i, count), omega arith), room))

pub pair_end-at-requires : goal.pair_end-at-requires
pair_end-at-requires c =
    (omega (arith, (pair (goal.at.pair_end-at-requires c).In-loop-k).there, c.args.frame.framed.short), omega (arith, c.entry_count-count.ensures.most))

pub loop-k-preserved : goal.loop-k-preserved
loop-k-preserved c =
    let l = c.args.frame.line.now in
    let k = c.loop-k._k in
    let p = c.trains_of.result in
    let pairs = c.loop-k.numbers.pairs.items in
    let e = c.loop-k.invariant.numbers in
    let count : c.entry_count-count.result ≡ entry_count l (pair_at l k) = c.entry_count-count.ensures.value ∙ ap (entry_count l) c.loop-k.invariant.at in
    let first : p.first ≡ load_first l k = c.trains_of.ensures.first ∙ ap (λ (at : ℕ). number_in l (first_field at)) c.loop-k.invariant.at in
    let second : p.second ≡ load_second l k = c.trains_of.ensures.second ∙ ap (λ (at : ℕ). number_in l (second_field at)) c.loop-k.invariant.at in
    let entries : c.decode-in-loop-k.new.out.items ≡ entries_of l (k + 1) = c.decode-in-loop-k.ensures ∙ rw (ap (λ (x : Numbers). x.entries) e, count, c.loop-k.invariant.at) (sym (entries_more l k)) in record {
      at = c.pair_end-at.ensures ∙ rw (count, c.loop-k.invariant.at) (sym (pair_next l k));
      numbers = rw (
        ap (λ (x : Numbers). x.scale) e,
        ap (λ (x : Numbers). x.sizes) e,
        ap (λ (x : Numbers). x.choices) e,
        pushed (λ (x : Pair). x.first) (load_first l) pairs k p c.push.ensures.items (ap (λ (x : Numbers). x.firsts) e) first,
        pushed (λ (x : Pair). x.second) (load_second l) pairs k p c.push.ensures.items (ap (λ (x : Numbers). x.seconds) e) second,
        entries,
      );
    }

pub returns : goal.returns
unfolding numbers_of
returns c =
    let l = c.args.frame.line.now in
    let e : c.loop-k._k ≡ load_pairs l = omega (arith, ap (λ (r : Load). r.pairs.count) (asked l c.args.q c.requires.1)) in
    rw e at c.loop-k.invariant.numbers
