-- One call: it keeps block and ledger together, and what is claimed of it holds.
use Rattle.std.specs.Prelude.{Ok, Err}
use Rattle.certificates.specs.declared.certify.Ceiling.{Ceiling}
use mathlib.Core.Path.{◌≡◌, refl, sym, ap, subst, ◌∙◌}
use mathlib.Core.Bool.{Bool, true, false}
use mathlib.Core.List.{List, []}
use mathlib.Core.Logic.{◌⊎◌, inl, inr, dite}
use Prim.Native.Nat.{ℕ, ◌+◌, ◌*◌, ◌<◌, ◌≤◌, ◌^◌}
use native.Mathlib.Decide.{ℕ_discrete, dec_lt}
use native.Mathlib.Omega.{arith}
use lib.IntN.{ℤ}
use lib.ListN.{length}
use Rattle.theory.specs.Lists.{nth}
use Rattle.theory.proofs.Lists.{list_length, list_nth}
use Rattle.theory.proofs.Order.{once_cong}
use Rattle.theory.proofs.Range.{not_both}
use Rattle.refusals.specs.declared.Refusal.{Refusal}
use Rattle.refusals.specs.declared.Refusal.TheVariants.{CostAbove, PartsOutside, Sums, ForbiddenWeight, PairsAbove, Figures, Tries, WrongSum}
use Rattle.refusals.specs.Verdicts.{Verdict, Fine, Declined, settled, unless}
use Rattle.refusals.specs.Refusals.{refusal_number}
use Rattle.tables.specs.Block.{max_trains, max_pairs, max_cost, max_parts, trains, scale, size, first, second, loaded_choice, held_choice}
use Rattle.tables.specs.LineLimits.{max_full_weight}
use Rattle.tables.specs.WellFormed.{holds_study, Study}
use Rattle.tables.specs.Plans.{IsPlan, Open, shape_of, plan_open, loaded_costs, loaded_total}
use Rattle.tables.specs.Counts.{move_count, weight_count}
use Rattle.tables.proofs.Plans.{study_shaped, alike_inside, same_shape_total}
use Rattle.tables.proofs.Study.{study_well_formed, trains_range, pairs_range, constant_range, size_range, loaded_choice_range}
use Rattle.bounds.specs.Bounds.{bound_of}
use Rattle.bounds.proofs.Plans.{bound_room}
use Rattle.operations.specs.Add.{add_open, added, add_outcome}
use Rattle.operations.specs.Load.{loaded_block}
use Rattle.operations.specs.Order.{ordered_block}
use Rattle.operations.proofs.Added.{added-closed, add-closed, cost_above, parts_above, both_within, add_study, add-within, add_same_shape, add_choice_lem, add_choice_kept, add_entry_kept}
use Rattle.clauses.specs.Outcomes.{clauses_outcome}
use Rattle.clauses.proofs.Block.{clauses-declined, clauses_in_range, clauses-total}
use Rattle.rewriting.specs.Judged.{kept, judged, judged_block}
use Rattle.rewriting.proofs.Rewritten.{rewrites_holds}
use Rattle.shift.specs.Shift.{shifted}
use Rattle.shift.proofs.Ends.{shift_rewrites}
use Rattle.tighten.specs.Tighten.{tightened}
use Rattle.tighten.proofs.Ends.{tighten_rewrites, tighten_within}
use Rattle.directional.specs.Directional.{directed}
use Rattle.directional.proofs.Ends.{direct_rewrites}
use Rattle.certificates.specs.Certify.{weights_of, certificate}
use Rattle.certificates.proofs.Ceilings.{certify_cases, certify_ceiling, certify_fits}
use Rattle.reasons.specs.Reasons.{reason_at}
use Rattle.reasons.proofs.Costs.{shown_low}
use Rattle.records.specs.Records.{record_right}
use Rattle.dearest.specs.Dearest.{dearest}
use Rattle.frames.specs.Digits.{bytes}
use Rattle.frames.specs.Frames.{Framed}
use Rattle.frames.specs.Runs.{run_of, signed_run_of}
use Rattle.lines.specs.declared.kind.Kind.{Kind}
use Rattle.lines.specs.declared.kind.Kind.TheVariants as kind
use Rattle.lines.specs.declared.request.Request.{Request}
use Rattle.lines.specs.declared.request.Request.TheVariants.{Load, Add, Shift, Tighten, Certify, Search, Save, Round, Clauses, Explain, Order, Screen, Planner, Record, Dearest}
use Rattle.lines.specs.declared.request.Line.TheVariants.{Refused}
use Rattle.lines.specs.Kinds.{new_kind, request_kind}
use Rattle.lines.specs.Layout.{kind_of, move_width, weight_width, add_train, add_choice, add_points, certify_full_weight, search_budget, weight_field, lift_field, move_field, load_trains, load_scale, explain_train, explain_choice, explain_limit, count_width, order_field, order_train, figure_width, record_trains, record_choice_field, record_bound, record_cost, plan_choice_field, plan_choice}
use Rattle.lines.specs.Text.{load_digits}
use Rattle.lines.specs.Verdicts.{field_run}
use Rattle.kinds.specs.Load.{load_verdict, load_request}
use Rattle.kinds.specs.Clauses.{clauses_verdict, clauses_request}
use Rattle.kinds.specs.Lines.{add_request, shift_request, certify_request, search_request, explain_request, order_request}
use Rattle.kinds.specs.Records.{screen_request, planner_request, plan_request}
use Rattle.kinds.specs.Dearest.{dearest_verdict, dearest_request}
use Rattle.kinds.proofs.Accepted.{FineExplain, FineOrder, add_fine, certify_fine, explain_fine, order_fine}
use Rattle.kinds.proofs.RecordsAccepted.{FineRecord, FinePlan, record_fine, plan_fine}
use Rattle.decoding.specs.Numbers.{numbers_of}
use Rattle.decoding.specs.Clauses.{clauses_of, clause_numbers_of}
use Rattle.decoding.proofs.LoadRange.{load_in_range}
use Rattle.decoding.proofs.ClausesRange.{clauses_in_limits}
use Rattle.decoding.proofs.Written.{load_kind}
use Rattle.reader.specs.Reading.{line_of}
use Rattle.reader.proofs.LineAccepted.{Makes, line_makes, add_there, explain_there}
use Rattle.reader.proofs.LineKind.{line_known}
use Rattle.reader.proofs.LineRefused.{of_reading, line_refused}
use Rattle.search.specs.Answer.{search_answer}
use Rattle.search.proofs.Theorems.{answer_entries}
use Rattle.replies.specs.Replies.{refusal_reply, reply_kind, bound_reply, certify_reply, search_reply, reason_reply, order_reply, screen_reply, record_reply, longest_fixed}
use Rattle.replies.specs.Shown.{kind_shown, accepted}
use Rattle.replies.proofs.ReadBack.{bound_kind, certify_kind, search_kind, reason_kind, order_kind, screen_kind, record_kind}
use Rattle.replies.proofs.Accepted.{empty_refused, refusal_refused}
use Rattle.requests.specs.Answer.{Answer, answered, declined, operated, certified, saved, recorded, choices_in, requested, line_answer}
use Rattle.requests.proofs.Records.{recorded_cases}
use Rattle.requests.proofs.Dearest.{dearest_cases}
use Rattle.requests.proofs.LineCases.{line_cases}
use Rattle.saving.proofs.Together.{save_kind}
use Rattle.radio.specs.Forms.{as_plain}
use Rattle.service.specs.Calls.{exchange}
use Rattle.claims.specs.Ledger.{Ledger, by_kind, changed, fed}
use Rattle.claims.specs.Claims.{outside, figures, malformed, sizes_of, BoundClaim, Claim, shown_kind, never_outside, writes_record, AtCall}
use Rattle.claims.proofs.ByKind.{by_kind_lem, kind_accepted}
use Rattle.claims.proofs.Found.{ceiling_holds, moved_holds, known_plan, known_low, ended_least, reason_low, partner_named}
use Rattle.claims.proofs.Keeps.{Keeps, open_in, bound_low, total_most, entry_most, scaled_most, held-total_most}
use Rattle.claims.proofs.Kept.{load_keeps, judged_keeps, add-scaled, add_keeps, order_keeps}
use Rattle.claims.proofs.Lines.{at_refused, at_accepted, refused_as, empty_shows, bound_claim, round_claim, ceiling_claim, Right, search_claim, explain_claim, order_claim}
use Rattle.claims.proofs.OnePlan.{one_plan_holds}
use Rattle.claims.proofs.PlainCalls.{plain_call, plain_outcome, plain_cases}
use Rattle.claims.proofs.SaveClaims.{save_claim}
use Rattle.claims.proofs.RecordClaims.{screen_right, planner_right, written_right, unwritten_forbidden}
use Rattle.claims.proofs.DearestClaims.{dearest_claim}
use Rattle.claims.proofs.RoundClaims.{round_done, round_keeps, round_settled}

-- ---- what the ledger makes of a line

module _ (g : Ledger) (l reply : List ℕ) where
  pub fed_refused : accepted reply ≡ false → fed (exchange l reply) g ≡ g
  unfolding fed
  fed_refused e = rw e

  pub fed_kind : (k : Kind) → accepted reply ≡ true → new_kind (kind_of l) ≡ Ok k → fed (exchange l reply) g ≡ changed k l g
  unfolding fed
  fed_kind k e known = rw (e, known)

-- ---- a good call

-- of a call that had the block b
pub record Good (g : Ledger) (b : List ℤ) (l : List ℕ) (a : Answer) : Type 0 where
  pub keeps : Keeps (fed (exchange l a.reply) g) a.block
  pub call : AtCall (fed (exchange l a.reply) g) b (exchange l a.reply)

-- by the ledger h that the line leaves
good_by : (g h : Ledger) (b : List ℤ) (l : List ℕ) (a : Answer) → fed (exchange l a.reply) g ≡ h → Keeps h a.block → AtCall h b (exchange l a.reply) → Good g b l a
good_by g h b l a e k c = record { keeps = rw e k; call = rw e c }

-- an accepted line of kind k, which is answered under k: by the ledger as k changes it
module _ (g : Ledger) (b : List ℤ) (l : List ℕ) (k : Kind) (known : new_kind (kind_of l) ≡ Ok k) where
  -- on any block, also on one that the ledger does not keep
  pub accepted_call : (reply : List ℕ) → kind_shown reply ≡ shown_kind k → Claim k (changed k l g) b (exchange l reply) → AtCall (fed (exchange l reply) g) b (exchange l reply)
  accepted_call reply shown claim = rw (fed_kind g l reply k (kind_accepted k reply shown) known) (at_accepted (changed k l g) b l reply k known shown claim)

  good_kind : (a : Answer) → kind_shown a.reply ≡ shown_kind k → Keeps (changed k l g) a.block → Claim k (changed k l g) b (exchange l a.reply) → Good g b l a
  good_kind a shown keeps claim = record { keeps = rw (fed_kind g l a.reply k (kind_accepted k a.reply shown) known) keeps; call = accepted_call a.reply shown claim }

-- ---- declined calls

-- a refusal that no claim excludes: not 16; to an addition, a tightening or a round, where nothing is forbidden, not 12; and to a plan whose record is to be written not 23, unless it has a forbidden
-- entry
pub record Allowed (g : Ledger) (l : List ℕ) (r : Refusal) : Type 0 where
  pub not_outside : by_kind never_outside false l ≡ true → Open g.shape → refusal_number r ≡ outside → ⊥
  pub unwritten : by_kind writes_record false l ≡ true → refusal_number r ≡ figures → plan_open g.shape (plan_choice l) ≡ false
  pub not_malformed : refusal_number r ≡ malformed → ⊥

-- one under another number than these
allowed : (g : Ledger) (l : List ℕ) (r : Refusal) → (refusal_number r ≡ outside → ⊥) → (refusal_number r ≡ figures → ⊥) → (refusal_number r ≡ malformed → ⊥) → Allowed g l r
allowed g l r o f m = record { not_outside = λ _ _. o; unwritten = λ _ q. absurd (f q); not_malformed = m }

-- 24
pub tries_allowed : (g : Ledger) (l : List ℕ) → Allowed g l Tries
tries_allowed g l = allowed g l Tries (λ q. omega arith) (λ q. omega arith) (λ q. omega arith)

-- 25
pub wrong_allowed : (g : Ledger) (l : List ℕ) → Allowed g l WrongSum
wrong_allowed g l = allowed g l WrongSum (λ q. omega arith) (λ q. omega arith) (λ q. omega arith)

-- what the reader declines
pub line_allowed : (g : Ledger) (l : List ℕ) (b : List ℤ) (r : Refusal) → line_of l b ≡ Refused r → Allowed g l r
line_allowed g l b r e = allowed g l r (apart outside refl) (apart figures refl) (apart malformed refl)
  where
    apart : (n : ℕ) → of_reading n ≡ false → refusal_number r ≡ n → ⊥
    apart n h q = not_both (line_refused l b r e) (ap of_reading q ∙ h)

module _ (g : Ledger) (b : List ℤ) (l : List ℕ) where
  pub declined-call : (r : Refusal) → Allowed g l r → AtCall g b (exchange l (refusal_reply r))
  declined-call r w =
      at_refused g b l (refusal_reply r) (refusal_refused r) (λ u o d. w.not_outside u o (refused_as r outside d)) (λ u d. w.unwritten u (refused_as r figures d))
      (λ d. w.not_malformed (refused_as r malformed d))

  pub empty_call : AtCall g b (exchange l [])
  empty_call = at_refused g b l [] empty_refused (λ u o. empty_shows outside) (λ u d. absurd (empty_shows figures d)) (empty_shows malformed)

-- they leave both block and ledger
good_declined : {g : Ledger} {b : List ℤ} → Keeps g b → (l : List ℕ) (r : Refusal) → Allowed g l r → Good g b l (declined b r)
good_declined {g} {b} k l r w = good_by g g b l (declined b r) (fed_refused g l (refusal_reply r) (refusal_refused r)) k (declined-call g b l r w)

-- ---- replies that show a bound

-- the bound that a reply shows fits its field
bound_fits : {b : List ℤ} → Study b → bound_of b < 256 ^ figure_width
bound_fits s = omega (arith, bound_room s)

-- of a kind that claims no more and is answered under its own byte
good_bound : (g : Ledger) (old : List ℤ) (l : List ℕ) (k : Kind) (b : List ℤ) → new_kind (kind_of l) ≡ Ok k → reply_kind k ≡ shown_kind k
    → (BoundClaim (changed k l g) (exchange l (bound_reply k b)) → Claim k (changed k l g) old (exchange l (bound_reply k b))) → Keeps (changed k l g) b → Good g old l (answered b (bound_reply k b))
good_bound g old l k b known own claim keeps =
    good_kind g old l k known (answered b (bound_reply k b)) (bound_kind k b ∙ own) keeps (claim (bound_claim (changed k l g) l k b (bound_fits keeps.study) (bound_low keeps)))

-- ---- load, on any block

pub good_load : (g : Ledger) (l : List ℕ) (b : List ℤ) → new_kind (kind_of l) ≡ Ok kind.Load → load_verdict l ≡ Fine → Good g b l (requested (load_request l) l b)
unfolding requested
good_load g l b e v = good_bound g b l kind.Load (loaded_block (numbers_of l)) e refl (λ c. c) (load_keeps (numbers_of l) (load_in_range l v))

-- ---- a study written as clauses, on any block

-- the answer to it, by its outcome
abbrev pub clauses_answer : List ℕ → List ℤ → Verdict → Answer
clauses_answer l b v = operated kind.Clauses v b (loaded_block (clause_numbers_of l))

abbrev pub outcome_of : List ℕ → Verdict
outcome_of l = clauses_outcome (load_trains l) (load_scale l) (clauses_of l)

pub good_clauses : (g : Ledger) (l : List ℕ) (b : List ℤ) → new_kind (kind_of l) ≡ Ok kind.Clauses → clauses_verdict l ≡ Fine → outcome_of l ≡ Fine → Good g b l (clauses_answer l b Fine)
good_clauses g l b e v fine =
    let r = clauses_in_limits l v in
    good_bound g b l kind.Clauses (loaded_block (clause_numbers_of l)) e refl (λ c. record { bound_shown_lem = c; weights = clauses-total r fine }) (load_keeps (clause_numbers_of l) (clauses_in_range r fine))

-- it is declined with 20 or 10 only
pub clauses_allowed : (g : Ledger) (l : List ℕ) (r : Refusal) → new_kind (kind_of l) ≡ Ok kind.Clauses → outcome_of l ≡ Declined r → Allowed g l r
clauses_allowed g l r e f =
    record {
      not_outside = λ u. absurd (not_both u (by_kind_lem never_outside false l e));
      unwritten = λ u. absurd (not_both u (by_kind_lem writes_record false l e));
      not_malformed = apart (clauses-declined (load_trains l) (load_scale l) (clauses_of l) r f);
    }
  where
    apart : (r ≡ PairsAbove) ⊎ (r ≡ CostAbove) → refusal_number r ≡ malformed → ⊥
    apart (inl q) h = let x : ◌≡◌ {A = ℕ} 20 16 = sym (ap refusal_number q) ∙ h in omega arith
    apart (inr q) h = let x : ◌≡◌ {A = ℕ} 10 16 = sym (ap refusal_number q) ∙ h in omega arith

-- ---- the other kinds

module _ {g : Ledger} {b : List ℤ} (k : Keeps g b) (l : List ℕ) where
  -- a rewriting whose moves end at c is done where c, with what is forbidden put back, holds a study; else it is declined with 12
  good_judged : (kd : Kind) (c : List ℤ) → new_kind (kind_of l) ≡ Ok kd → reply_kind kd ≡ shown_kind kd → Keeps (changed kd l g) (judged_block b c)
      → (BoundClaim (changed kd l g) (exchange l (bound_reply kd (kept b c))) → holds_study (kept b c) ≡ true → Claim kd (changed kd l g) b (exchange l (bound_reply kd (kept b c))))
      → (never_outside kd ≡ true → Open g.shape → holds_study (kept b c) ≡ true) → Good g b l (operated kd (judged b c) b (kept b c))
  good_judged kd c e own keeps claim never = go (holds_study (kept b c)) refl keeps
    where
      go : (t : Bool) → holds_study (kept b c) ≡ t → Keeps (changed kd l g) (settled (unless t PartsOutside) b (kept b c))
          → Good g b l (operated kd (unless t PartsOutside) b (kept b c))
      go true h x = good_bound g b l kd (kept b c) e own (λ d. claim d h) x
      go false h x =
          good_declined k l PartsOutside
          (record { not_outside = λ w o _. not_both (never (sym (by_kind_lem never_outside false l e) ∙ w) o) h; unwritten = λ w q. absurd (omega arith); not_malformed = λ q. omega arith })

  -- a shift
  good_shift : new_kind (kind_of l) ≡ Ok kind.Shift → Good g b l (requested (shift_request (trains b) (move_count (shape_of b))) l b)
  unfolding requested
  good_shift e =
      let lifts = signed_run_of l lift_field.at move_width (trains b) in
      let moves = signed_run_of l (move_field (trains b)).at move_width (move_count (shape_of b)) in
      good_judged kind.Shift (shifted lifts moves b) e refl (judged_keeps k (shift_rewrites k.study lifts moves)) (λ d h. d) (λ w. absurd (not_both w refl))

  -- a tightening, which is done where nothing is forbidden
  good_tighten : new_kind (kind_of l) ≡ Ok kind.Tighten → Good g b l (requested Tighten l b)
  unfolding requested
  good_tighten e =
      good_judged kind.Tighten (tightened b) e refl (judged_keeps k (tighten_rewrites k.study)) (λ d h. d) (λ w o. tighten_within k.study (open_in k o) (held-total_most k))

  -- and so is a round
  good_round : new_kind (kind_of l) ≡ Ok kind.Round → Good g b l (requested Round l b)
  unfolding requested
  good_round e =
      good_judged kind.Round (directed b) e refl (round_keeps k)
      (λ d h. let s = rewrites_holds k.study (direct_rewrites k.study) h in
      round_claim g l kind.Round (kept b (directed b)) (omega (arith, constant_range s)) (bound_fits s) (round_settled k) d)
      (λ w o. round_done k o)

  -- ---- an addition

  module _ (there : add_train l < trains b) (in_size : add_choice l < size b (add_train l)) where
    abbrev sum_block : List ℤ
    sum_block = added (add_train l) (add_choice l) (add_points l) b

    -- where nothing is forbidden and no cost of the sum is above the limit, no plan's total is
    module _ (o : Open (shape_of b)) (low : loaded_choice b (add_train l) (add_choice l) + add_points l ≤ max_cost) where
      sum_choice : (j c : ℕ) → j < trains b → c < size b j → loaded_choice sum_block j c ≤ max_cost
      sum_choice j c h q =
          dite (ℕ_discrete j (add_train l))
          (λ (e : j ≡ add_train l). dite (ℕ_discrete c (add_choice l))
          (λ (f : c ≡ add_choice l). rw (e, f) (omega (arith, add_choice_lem k.study (add_train l) (add_choice l) (add_points l) there in_size (o.choices (add_train l) (add_choice l) there in_size))))
          (λ n. omega (arith, add_choice_kept k.study (add_train l) (add_choice l) (add_points l) there in_size j c h q (λ _. n), (loaded_choice_range k.study j c h q).high)))
          (λ n. omega (arith, add_choice_kept k.study (add_train l) (add_choice l) (add_points l) there in_size j c h q (λ w. absurd (n w)), (loaded_choice_range k.study j c h q).high))

      sum_loaded : (x : ℕ → ℕ) → IsPlan (shape_of b) x → loaded_total sum_block x ≤ (max_trains + max_pairs) * max_cost
      unfolding loaded_costs
      sum_loaded x p =
          rw (same_shape_total (add_same_shape k.study (add_train l) (add_choice l) (add_points l) there in_size) k.study (loaded_costs sum_block) x)
          (total_most (shape_of b) (loaded_costs sum_block) x (trains_range k.study).1 (pairs_range k.study) refl (λ i h. sum_choice i (x i) h (p.below i h))
          (λ j h. omega (arith, add_entry_kept k.study (add_train l) (add_choice l) (add_points l) there in_size j (x (first b j)) (x (second b j)), entry_most k.study x p j h)))

      -- so 12 is not the answer: within the highest cost the addition is done
      within_done : add_outcome (add_train l) (add_choice l) (add_points l) b ≡ Fine
      within_done =
          add-within k.study (add_train l) (add_choice l) (add_points l) there in_size o low
          (λ x p. rw (add-scaled k (add_train l) (add_choice l) (add_points l) there in_size x p) (scaled_most k.study (loaded_total sum_block x) (sum_loaded x p)))

    module _ (e : new_kind (kind_of l) ≡ Ok kind.Add) where
      -- by its verdict
      by_add : (v : Verdict) → v ≡ add_outcome (add_train l) (add_choice l) (add_points l) b → Good g b l (operated kind.Add v b sum_block) → Good g b l (requested (add_request l) l b)
      unfolding requested
      by_add v q x = subst (λ (o : Verdict). Good g b l (operated kind.Add o b sum_block)) q x

      -- done: at a forbidden choice nothing changes
      good_sum : Study sum_block → Good g b l (operated kind.Add Fine b sum_block)
      good_sum s = good_bound g b l kind.Add sum_block e refl (λ c. c) (add_keeps l k there in_size s)

      -- declined with 12, where the sum is within the highest cost: something is forbidden
      parts_allowed : loaded_choice b (add_train l) (add_choice l) + add_points l ≤ max_cost → Declined PartsOutside ≡ add_outcome (add_train l) (add_choice l) (add_points l) b → Allowed g l PartsOutside
      parts_allowed low d =
          record {
            not_outside = λ w o q. let z : Declined PartsOutside ≡ Fine = d ∙ within_done (open_in k o) low in let y : ◌≡◌ {A = ℕ} 0 1 = cc in omega arith;
            unwritten = λ w q. absurd (omega arith);
            not_malformed = λ q. omega arith;
          }

      good_added : Good g b l (requested (add_request l) l b)
      good_added = go (add_open (add_train l) (add_choice l) b) refl
        where
          go : (t : Bool) → add_open (add_train l) (add_choice l) b ≡ t → Good g b l (requested (add_request l) l b)
          go false o =
              by_add Fine (add-closed (add_train l) (add_choice l) (add_points l) b o).0 (good_sum (subst Study (sym (added-closed (add_train l) (add_choice l) (add_points l) b o)) k.study))
          go true o =
              dite (dec_lt max_cost (loaded_choice b (add_train l) (add_choice l) + add_points l))
              (λ (h : max_cost < loaded_choice b (add_train l) (add_choice l) + add_points l).
              by_add (Declined CostAbove) (cost_above (add_train l) (add_choice l) (add_points l) b o h).0
              (good_declined k l CostAbove (allowed g l CostAbove (λ q. omega arith) (λ q. omega arith) (λ q. omega arith))))
              (λ m. dite (dec_lt max_parts (held_choice b (add_train l) (add_choice l) + scale b * add_points l))
              (λ (h : max_parts < held_choice b (add_train l) (add_choice l) + scale b * add_points l).
              let d = parts_above (add_train l) (add_choice l) (add_points l) b o (omega arith) h in
              by_add (Declined PartsOutside) d.0 (good_declined k l PartsOutside (parts_allowed (omega arith) d.0)))
              (λ n.
              let d = both_within (add_train l) (add_choice l) (add_points l) b o (omega arith) (omega arith) in
              by_add Fine d.0 (good_sum (subst Study (sym d.1) (add_study k.study (add_train l) (add_choice l) (add_points l) there in_size)))))

  -- ---- certificates, searches and saves change nothing

  good_certify : new_kind (kind_of l) ≡ Ok kind.Certify → (1 ≤ certify_full_weight l) × (certify_full_weight l ≤ max_full_weight) → Good g b l (requested (certify_request l (weight_count (shape_of b))) l b)
  unfolding requested
  good_certify e low =
      certify_cases b (weights_of b (certify_full_weight l) weights) (λ v. Good g b l (certified (certify_full_weight l) v b))
      (good_declined k l Sums (allowed g l Sums (λ q. omega arith) (λ q. omega arith) (λ q. omega arith)))
      (good_declined k l ForbiddenWeight (allowed g l ForbiddenWeight (λ q. omega arith) (λ q. omega arith) (λ q. omega arith)))
      accepted_lem
    where
      weights : List ℕ
      weights = run_of l weight_field.at weight_width (weight_count (shape_of b))

      accepted_lem : (c : Ceiling) → certificate b (weights_of b (certify_full_weight l) weights) ≡ Ok c → Good g b l (certified (certify_full_weight l) (Ok c) b)
      accepted_lem c h =
          let w = certify_ceiling b (weights_of b (certify_full_weight l) weights) h in
          good_kind g b l kind.Certify e (answered b (certify_reply (certify_full_weight l) c)) (certify_kind (certify_full_weight l) c) k
          (ceiling_claim g b l (certify_full_weight l) c low.0 (omega (arith, low.1)) (omega (arith, certify_fits (certify_full_weight l) weights k.study low.1 h)) (rw w.shown w.reached)
          (one_plan_holds k l h) (ceiling_holds k (weights_of b (certify_full_weight l) weights) h) (moved_holds k (weights_of b (certify_full_weight l) weights) h))

  found_right : (budget : ℕ) → Right g (trains b) (search_answer b budget)
  found_right budget =
      record {
        trains = k.same.shape_same.trains_same;
        inside = alike_inside k.same.shape_same (study_shaped k.study);
        low = λ e. omega (arith, known_low k budget e);
        small = λ i h. omega (arith, (answer_entries k.study budget).1 i h, size_range k.study i h);
        plan = known_plan k budget;
        ended = ended_least k budget;
      }

  good_search : new_kind (kind_of l) ≡ Ok kind.Search → Good g b l (requested (search_request l) l b)
  unfolding requested
  good_search e =
      let f = search_answer b (search_budget l) in
      good_kind g b l kind.Search e (answered b (search_reply (trains b) f)) (search_kind (trains b) f) k (search_claim g l (trains b) f (found_right (search_budget l)))

  good_save : new_kind (kind_of l) ≡ Ok kind.Save → Good g b l (requested Save l b)
  unfolding requested
  good_save e = good_kind g b l kind.Save e (saved b) (save_kind k.study) k (save_claim k l)

  good_explain : new_kind (kind_of l) ≡ Ok kind.Explain → FineExplain l b → Good g b l (requested (explain_request l) l b)
  unfolding requested
  good_explain e f =
      let i = explain_train l in
      let a = explain_choice l in
      let r = reason_at b i a (explain_limit l) in
      let there = explain_there k.study f in
      good_kind g b l kind.Explain e (answered b (reason_reply r)) (reason_kind r) k
      (explain_claim g l r (shown_low k.study i a (explain_limit l)) (reason_low k i a (explain_limit l) there.0) (partner_named k i a (explain_limit l)))

  good_order : new_kind (kind_of l) ≡ Ok kind.Order → FineOrder l (trains b) → Good g b l (requested (order_request (trains b)) l b)
  unfolding requested
  good_order e f =
      let n = trains b in
      let order = run_of l order_field.at count_width n in
      let same : (d : ℕ) → d < n → nth order d ≡ order_train l d = λ d h. list_nth (order_train l) 0 n d h in
      let whole : length order ≡ n = list_length (order_train l) n in
      let once = once_cong n (nth order) (order_train l) same ∙ f.once in
      let t = k.same.shape_same.trains_same in
      good_kind g b l kind.Order e (answered (ordered_block order b) (order_reply order)) (order_kind order) (order_keeps order k whole once)
      (order_claim g l order (whole ∙ t) (omega (arith, t, trains_range k.study)) (rw (← t) once) (λ d h. same d (omega (arith, t))))

  good_clauses_line : new_kind (kind_of l) ≡ Ok kind.Clauses → clauses_verdict l ≡ Fine → Good g b l (requested (clauses_request l) l b)
  unfolding requested
  good_clauses_line e v = go (outcome_of l) refl
    where
      go : (o : Verdict) → outcome_of l ≡ o → Good g b l (clauses_answer l b o)
      go (Ok _) f = good_clauses g l b e v f
      go (Err r) f = good_declined k l r (clauses_allowed g l r e f)

  -- ---- plan records change nothing

  good_screen : new_kind (kind_of l) ≡ Ok kind.Screen → FineRecord l b → Good g b l (requested (screen_request l) l b)
  unfolding requested
  good_screen e f =
      let choices = choices_in l (field_run record_choice_field.at (record_trains l)) in
      good_kind g b l kind.Screen e (answered b (screen_reply choices)) (screen_kind choices) k (screen_right k f)

  -- a record that is right is shown, another declined with 23
  good_recorded : (kd : Kind) (choices : List ℕ) (bound cost : ℕ) → new_kind (kind_of l) ≡ Ok kd → reply_kind kd ≡ shown_kind kd → Keeps (changed kd l g) b
      → (record_right b (nth choices) bound cost ≡ true → Claim kd (changed kd l g) b (exchange l (record_reply kd choices bound cost)))
      → (record_right b (nth choices) bound cost ≡ false → by_kind writes_record false l ≡ true → plan_open g.shape (plan_choice l) ≡ false)
      → Good g b l (recorded kd choices bound cost b)
  good_recorded kd choices bound cost e own keeps claim unwritten =
      recorded_cases kd choices bound cost b (Good g b l)
      (λ r. good_kind g b l kd e (answered b (record_reply kd choices bound cost)) (record_kind kd choices bound cost ∙ own) keeps (claim r))
      (λ r. good_declined k l Figures (record { not_outside = λ w o q. omega arith; unwritten = λ w q. unwritten r w; not_malformed = λ q. omega arith }))

  good_planner : new_kind (kind_of l) ≡ Ok kind.Planner → Framed l (bytes l) → FineRecord l b → Good g b l (requested (planner_request l) l b)
  unfolding requested
  good_planner e w f =
      good_recorded kind.Planner (choices_in l (field_run record_choice_field.at (record_trains l))) (record_bound l) (record_cost l) e refl k (planner_right k f w)
      (λ r u. absurd (not_both u (by_kind_lem writes_record false l e)))

  good_record : new_kind (kind_of l) ≡ Ok kind.Record → FinePlan l b → Good g b l (requested (plan_request (trains b)) l b)
  unfolding requested
  good_record e f =
      let choices = choices_in l (field_run plan_choice_field.at (trains b)) in
      good_recorded kind.Record choices (bound_of b) (loaded_total b (nth choices)) e refl k (written_right k f) (λ r u. unwritten_forbidden k f r)

  -- ---- the dearest study changes nothing, given or declined

  good_dearest : new_kind (kind_of l) ≡ Ok kind.Dearest → dearest_verdict l ≡ Fine → Good g b l (requested (dearest_request l) l b)
  unfolding requested
  good_dearest e v =
      let text = load_digits (dearest (sizes_of l)) in
      dearest_cases (sizes_of l) b (Good g b l)
      (λ w. good_kind g b l kind.Dearest e (answered b text) (load_kind (dearest (sizes_of l))) k (dearest_claim l v w))
      (λ w. good_declined k l Tries (tries_allowed g l))

  -- ---- every request

  as_asked : (q r : Request) → q ≡ r → Good g b l (requested r l b) → Good g b l (requested q l b)
  as_asked q r e x = subst (λ (s : Request). Good g b l (requested s l b)) (sym e) x

  good_request : (q : Request) → Framed l (bytes l) → Makes l b q → new_kind (kind_of l) ≡ Ok (request_kind q) → Good g b l (requested q l b)
  good_request (Load q) w m e = as_asked (Load q) (load_request l) m.0 (good_load g l b e m.1)
  good_request (Add q) w m e =
      let there = add_there k.study (add_fine l b m.1) in
      as_asked (Add q) (add_request l) m.0 (good_added there.0 there.1 e)
  good_request (Shift q) w m e = as_asked (Shift q) (shift_request (trains b) (move_count (shape_of b))) m.0 (good_shift e)
  good_request Tighten w m e = good_tighten e
  good_request (Certify q) w m e = as_asked (Certify q) (certify_request l (weight_count (shape_of b))) m.0 (good_certify e (certify_fine l (weight_count (shape_of b)) m.1).full_weight)
  good_request (Search q) w m e = as_asked (Search q) (search_request l) m.0 (good_search e)
  good_request Save w m e = good_save e
  good_request Round w m e = good_round e
  good_request (Clauses q) w m e = as_asked (Clauses q) (clauses_request l) m.0 (good_clauses_line e m.1)
  good_request (Explain q) w m e = as_asked (Explain q) (explain_request l) m.0 (good_explain e (explain_fine l b m.1))
  good_request (Order q) w m e = as_asked (Order q) (order_request (trains b)) m.0 (good_order e (order_fine l (trains b) m.1))
  good_request (Screen q) w m e = as_asked (Screen q) (screen_request l) m.0 (good_screen e (record_fine l b m.1))
  good_request (Planner q) w m e = as_asked (Planner q) (planner_request l) m.0 (good_planner e w (record_fine l b m.1))
  good_request (Record q) w m e = as_asked (Record q) (plan_request (trains b)) m.0 (good_record e (plan_fine l b m.1))
  good_request (Dearest q) w m e = as_asked (Dearest q) (dearest_request l) m.0 (good_dearest e m.1)

  -- 17, at once or for a reply that does not fit
  good_empty : Good g b l (answered b [])
  good_empty = good_by g g b l (answered b []) (fed_refused g l [] empty_refused) k (empty_call g b l)

  -- a line on a block that the ledger keeps, where there is room for every fixed reply
  pub good_line : (room : ℕ) → longest_fixed ≤ room → Good g b l (line_answer l b room)
  good_line room h =
      line_cases l b room h (study_well_formed k.study) (Good g b l)
      (λ r e. good_declined k l r (line_allowed g l b r e))
      (λ q a f. let m = line_makes l b q a.asked in good_request q m.0 m.1 (line_known l b q a.asked))
      (λ q a f. good_empty)

-- a call on it, with the two additions removed
pub good_call : {g : Ledger} {b : List ℤ} → Keeps g b → (l buffer : List ℕ) → Good g b (plain_call l b buffer).line (plain_outcome l b buffer)
good_call {g} {b} k l buffer =
    plain_cases l b buffer (study_well_formed k.study) (Good g b) (good_empty k (as_plain l)) (good_declined k (as_plain l) WrongSum (wrong_allowed g (as_plain l))) (good_line k (as_plain l))
