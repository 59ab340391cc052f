-- What no line but a load changes, in either form: an addition writes natural numbers where such stood; moves never meet H, and the tables of a study are mates, so that T is forbidden where H is.
use Rattle.std.specs.Prelude.{Ok, Err}
use mathlib.Core.Path.{◌≡◌, refl, sym, ap, ◌∙◌}
use mathlib.Core.Bool.{false}
use mathlib.Core.List.{List}
use Prim.Native.Nat.{ℕ, ◌+◌, ◌*◌, ◌<◌, ◌≤◌}
use lib.IntN.{ℤ}
use Rattle.theory.proofs.Range.{not_both}
use Rattle.theory.proofs.Lists.{list_length}
use Rattle.refusals.specs.Verdicts.{Verdict, settled}
use Rattle.tables.specs.Block.{loaded_choices_from, order_from, at}
use Rattle.tables.specs.WellFormed.{is_open, Study}
use Rattle.operations.specs.Add.{added, add_outcome}
use Rattle.operations.proofs.Added.{add_same_open}
use Rattle.operations.proofs.Order.{ordered_same_open}
use Rattle.rewriting.specs.Judged.{kept, judged, judged_block}
use Rattle.rewriting.specs.Leasts.{mate_place}
use Rattle.rewriting.proofs.Shape.{Moved, Any}
use Rattle.rewriting.proofs.Opens.{mate_loaded, mates_open}
use Rattle.rewriting.proofs.Rewritten.{judged_study, judged_loaded}
use Rattle.shift.specs.Shift.{shifted}
use Rattle.shift.proofs.Ends.{shift_rewrites}
use Rattle.tighten.specs.Tighten.{tightened}
use Rattle.tighten.proofs.Ends.{tighten_rewrites}
use Rattle.directional.specs.Directional.{directed}
use Rattle.directional.proofs.Ends.{direct_rewrites}
use Rattle.frames.specs.Fields.{field}
use Rattle.frames.specs.Runs.{run_of, signed_run_of}
use Rattle.lines.specs.declared.kind.Kind.{Kind}
use Rattle.lines.specs.declared.kind.Kind.TheVariants as kind
use Rattle.lines.specs.declared.request.Request.{Request}
use Rattle.lines.specs.declared.request.Request.TheVariants.{Load, Add, Shift, Tighten, Round, Clauses, Order}
use Rattle.lines.specs.Layout.{count_width, move_width}
use Rattle.reader.proofs.LineKind.{line_known}
use Rattle.requests.specs.Answer.{operated, requested}
use Rattle.requests.specs.Wrote.{Asks}
use Rattle.requests.proofs.Ready.{study_ready, add_ready, order_ready}
use Rattle.requests.proofs.Outcomes.{operated_leaves, requested_leaves}
use Rattle.requests.proofs.LineCases.{line_cases}
use Rattle.radio.specs.Forms.{as_plain}
use Rattle.claims.specs.Ledger.{by_kind, loads}
use Rattle.claims.specs.Forbidden.{ForbiddenStays}
use Rattle.claims.proofs.Asking.{block_cases}
use Rattle.claims.proofs.ByKind.{by_kind_lem}

-- at every place of H and T, what is forbidden in b is so in c, and what is permitted too
abbrev Alike : List ℤ → List ℤ → Type 0
Alike b c = (p : ℕ) → loaded_choices_from ≤ p → p < order_from → is_open (at c p) ≡ is_open (at b p)

-- a rewriting, done or declined
judged_alike : {b c : List ℤ} {n : ℕ} → Study b → Moved Any b n c → Alike b (judged_block b c)
judged_alike s v p l h = sym (mates_open (judged_study s v) p l) ∙ ap is_open ((judged_loaded s v).loaded (mate_place p) (mate_loaded p l)) ∙ mates_open s p l

-- an addition, done or declined
settled_alike : (b c : List ℤ) (v : Verdict) → Alike b c → Alike b (settled v b c)
settled_alike b c (Ok _) e = e
settled_alike b c (Err r) e = λ p l h. refl

-- by the block that an operation leaves
operated_alike : (b c : List ℤ) (kind : Kind) (v : Verdict) → Alike b (settled v b c) → Alike b (operated kind v b c).block
operated_alike b c kind v e p l h = ap (λ (d : List ℤ). is_open (at d p)) (operated_leaves kind v b c) ∙ e p l h

module _ (l : List ℕ) (b : List ℤ) (other : by_kind loads false l ≡ false) (room : ℕ) where
  -- a request that is no load: one of the kinds that change the block, or of one that leaves it
  requested_alike : (q : Request) → Asks l b q room → Alike b (requested q l b).block
  unfolding requested
  requested_alike (Load q) a = absurd (not_both (by_kind_lem loads false l (line_known l b (Load q) a.asked)) other)
  requested_alike (Add q) a =
      let r = add_ready a in
      operated_alike b (added q.train q.choice q.points.0 b) kind.Add (add_outcome q.train q.choice q.points.0 b)
      (settled_alike b (added q.train q.choice q.points.0 b) (add_outcome q.train q.choice q.points.0 b) (λ p m h. add_same_open r.study q.train q.choice q.points.0 r.train r.choice p m))
  requested_alike (Shift q) a =
      let lifts = signed_run_of l q.lifts.at move_width q.lifts.count in
      let moves = signed_run_of l q.moves.at move_width q.moves.count in
      let s = study_ready a refl in
      operated_alike b (kept b (shifted lifts moves b)) kind.Shift (judged b (shifted lifts moves b)) (judged_alike s (shift_rewrites s lifts moves))
  requested_alike Tighten a = let s = study_ready a refl in operated_alike b (kept b (tightened b)) kind.Tighten (judged b (tightened b)) (judged_alike s (tighten_rewrites s))
  requested_alike Round a = let s = study_ready a refl in operated_alike b (kept b (directed b)) kind.Round (judged b (directed b)) (judged_alike s (direct_rewrites s))
  requested_alike (Clauses q) a = absurd (not_both (by_kind_lem loads false l (line_known l b (Clauses q) a.asked)) other)
  requested_alike (Order q) a =
      let r = order_ready a in
      λ p m h. ordered_same_open r.study (run_of l q.trains.at count_width q.trains.count) (list_length (λ k. field l (q.trains.at + count_width * k) count_width) q.trains.count ∙ r.count) (rw (← r.count) r.once) p m
  requested_alike q a = λ p m h. ap (λ (c : List ℤ). is_open (at c p)) (requested_leaves q l b refl)

pub forbidden_stays : ForbiddenStays
forbidden_stays l b buffer other =
    block_cases l b buffer (Alike b) (λ p m q. refl)
    (λ room h e.
    line_cases (as_plain l) b room h e (λ a. Alike b a.block) (λ r e p m q. refl) (λ q a f. requested_alike (as_plain l) b other room q a) (λ q a f p m z. refl))
