-- What a reply's characters say, read back: each figure is the one that was written.
use mathlib.Core.Path.{◌≡◌, refl, ap, ◌∙◌}
use mathlib.Core.Bool.{Bool, true, false, cond, not, ◌&&◌}
use mathlib.Core.List.{List, []}
use Prim.Native.Nat.{ℕ, ◌*◌, ◌<◌, ◌^◌}
use native.Mathlib.Omega.{arith}
use lib.Dec.{eqb}
use lib.IntN.{ℤ}
use lib.ListN.{length, drop}
use Rattle.theory.specs.Lists.{nth}
use Rattle.refusals.specs.declared.Refusal.{Refusal}
use Rattle.refusals.specs.declared.Refusal.TheVariants.{Characters}
use Rattle.refusals.specs.Refusals.{refusal_number}
use Rattle.tables.specs.Block.{constant}
use Rattle.bounds.specs.Bounds.{bound_of}
use Rattle.certificates.specs.declared.certify.Ceiling.{Ceiling}
use Rattle.reasons.specs.declared.Reason.{Reason}
use Rattle.reasons.specs.declared.Reason.TheVariants.{Neither, Own, Partner}
use Rattle.reasons.specs.Reasons.{reason_number, reason_train}
use Rattle.lines.specs.declared.kind.Kind.{Kind}
use Rattle.lines.specs.declared.kind.Kind.TheVariants.{Certify, Search, Explain, Order, Screen}
use Rattle.lines.specs.Layout.{kind_width, count_width, figure_width, record_trains, record_choice, record_bound, record_cost}
use Rattle.lines.specs.Text.{choices_digits, record_digits}
use Rattle.lines.proofs.KindNumbers.{number_low}
use Rattle.lines.proofs.Records.{first_byte, behind_first, choices_trains, choices_choice, trains_recorded, choice_recorded, bound_recorded, cost_recorded}
use Rattle.search.specs.declared.answer.Found.{Found}
use Rattle.search.specs.Answer.{is_found}
use Rattle.replies.specs.Replies.{choice_width, refusal_widths, refusal_byte, refusal_reply, reply_kind, bound_widths, bound_reply, certify_widths, flag, certify_reply, search_widths, ending, shown_cost, shown_choice, search_reply, refusal_numbers, bound_numbers, certify_numbers, search_numbers, plan_digits, reason_widths, reason_numbers, reason_reply, order_widths, order_numbers, numbers_digits, order_reply, screen_reply, record_reply}
use Rattle.replies.specs.Shown.{kind_shown, number_shown, constant_shown, bound_shown, flag_shown, weighted_shown, full_weight_shown, ending_shown, says_ended, says_ended_without, count_shown, cost_shown, plan_shown, reason_shown, train_shown, order_shown}
use Rattle.replies.proofs.ReplyFields.{fields_shown, run_shown}

flag_low : (t : Bool) → flag t < 256
flag_low true = omega arith
flag_low false = omega arith

-- the three endings of a search, by whether it ended and whether it found a plan
ending_low : (ended found : Bool) → cond ended (cond found 1 2) 0 < 256
ending_low true true = omega arith
ending_low true false = omega arith
ending_low false found = omega arith

ending_with : (ended found : Bool) → eqb (cond ended (cond found 1 2) 0) 1 ≡ ended && found
ending_with true true = refl
ending_with true false = refl
ending_with false found = refl

ending_without : (ended found : Bool) → eqb (cond ended (cond found 1 2) 0) 2 ≡ ended && not found
ending_without true true = refl
ending_without true false = refl
ending_without false found = refl

-- ---- refusals

refusal_low : (r : Refusal) → refusal_number r < 256
refusal_low Characters = omega arith
refusal_low r = omega arith

module _ (r : Refusal) where
  pub refusal_kind : kind_shown (refusal_reply r) ≡ refusal_byte
  unfolding refusal_reply
  refusal_kind = fields_shown refusal_widths (refusal_numbers r) [] refl 0 (omega arith) (omega arith)

  pub refusal_number_lem : number_shown (refusal_reply r) ≡ refusal_number r
  unfolding refusal_reply
  refusal_number_lem = fields_shown refusal_widths (refusal_numbers r) [] refl 1 (omega arith) (refusal_low r)

-- ---- 81 to 84, 88 and 89

module _ (kind : Kind) (b : List ℤ) where
  pub bound_kind : kind_shown (bound_reply kind b) ≡ reply_kind kind
  unfolding bound_reply
  bound_kind = fields_shown bound_widths (bound_numbers kind b) [] refl 0 (omega arith) (omega (arith, number_low kind))

  pub constant-shown : constant b < 256 ^ figure_width → constant_shown (bound_reply kind b) ≡ constant b
  unfolding bound_reply
  constant-shown h = fields_shown bound_widths (bound_numbers kind b) [] refl 1 (omega arith) h

  pub bound_shown_lem : bound_of b < 256 ^ figure_width → bound_shown (bound_reply kind b) ≡ bound_of b
  unfolding bound_reply
  bound_shown_lem h = fields_shown bound_widths (bound_numbers kind b) [] refl 2 (omega arith) h

-- ---- 85

module _ (full_weight : ℕ) (c : Ceiling) where
  pub certify_kind : kind_shown (certify_reply full_weight c) ≡ reply_kind Certify
  unfolding certify_reply
  certify_kind = fields_shown certify_widths (certify_numbers full_weight c) [] refl 0 (omega arith) (omega arith)

  pub certify_flag : flag_shown (certify_reply full_weight c) ≡ flag c.reached
  unfolding certify_reply
  certify_flag = fields_shown certify_widths (certify_numbers full_weight c) [] refl 1 (omega arith) (flag_low c.reached)

  pub certify_weighted : c.weighted < 256 ^ 8 → weighted_shown (certify_reply full_weight c) ≡ c.weighted
  unfolding certify_reply
  certify_weighted h = fields_shown certify_widths (certify_numbers full_weight c) [] refl 2 (omega arith) h

  pub certify_full_weight_lem : full_weight < 256 ^ 3 → full_weight_shown (certify_reply full_weight c) ≡ full_weight
  unfolding certify_reply
  certify_full_weight_lem h = fields_shown certify_widths (certify_numbers full_weight c) [] refl 3 (omega arith) h

-- ---- 86

module _ (n : ℕ) (f : Found) where
  pub search_kind : kind_shown (search_reply n f) ≡ reply_kind Search
  unfolding search_reply
  search_kind = fields_shown search_widths (search_numbers f) (plan_digits n f) refl 0 (omega arith) (omega arith)

  -- 01, 02 or 00
  pub ending-shown : ending_shown (search_reply n f) ≡ ending f
  unfolding search_reply
  ending-shown = fields_shown search_widths (search_numbers f) (plan_digits n f) refl 1 (omega arith) (ending_low f.ended (is_found f))

  -- 01: it ended, with a plan
  pub search_ended : says_ended (search_reply n f) ≡ f.ended && is_found f
  search_ended = ap (λ (v : ℕ). eqb v 1) ending-shown ∙ ending_with f.ended (is_found f)

  -- 02: it ended, without one
  pub search_without : says_ended_without (search_reply n f) ≡ f.ended && not (is_found f)
  search_without = ap (λ (v : ℕ). eqb v 2) ending-shown ∙ ending_without f.ended (is_found f)

  -- how many choices it tried
  pub count-shown : f.count < 256 ^ 4 → count_shown (search_reply n f) ≡ f.count
  unfolding search_reply
  count-shown h = fields_shown search_widths (search_numbers f) (plan_digits n f) refl 2 (omega arith) h

  pub search_cost : shown_cost f < 256 ^ figure_width → cost_shown (search_reply n f) ≡ shown_cost f
  unfolding search_reply
  search_cost h = fields_shown search_widths (search_numbers f) (plan_digits n f) refl 3 (omega arith) h

  pub search_plan : (i : ℕ) → i < n → shown_choice f i < 256 ^ choice_width → plan_shown (search_reply n f) i ≡ shown_choice f i
  unfolding search_reply
  search_plan i h q = run_shown search_widths (search_numbers f) choice_width n (shown_choice f) [] refl i h q

-- ---- 8A

reason_low : (r : Reason) → reason_number r < 256
reason_low Neither = omega arith
reason_low Own = omega arith
reason_low (Partner j) = omega arith

module _ (r : Reason) where
  pub reason_kind : kind_shown (reason_reply r) ≡ reply_kind Explain
  unfolding reason_reply
  reason_kind = fields_shown reason_widths (reason_numbers r) [] refl 0 (omega arith) (omega arith)

  pub reason-shown : reason_shown (reason_reply r) ≡ reason_number r
  unfolding reason_reply
  reason-shown = fields_shown reason_widths (reason_numbers r) [] refl 1 (omega arith) (reason_low r)

  pub train-shown : reason_train r < 256 → train_shown (reason_reply r) ≡ reason_train r
  unfolding reason_reply
  train-shown h = fields_shown reason_widths (reason_numbers r) [] refl 2 (omega arith) h

-- ---- 8B

module _ (trains : List ℕ) where
  pub order_kind : kind_shown (order_reply trains) ≡ reply_kind Order
  unfolding order_reply
  order_kind = fields_shown order_widths order_numbers (numbers_digits trains) refl 0 (omega arith) (omega arith)

  pub order-shown : (d : ℕ) → d < length trains → nth trains d < 256 ^ count_width → order_shown (order_reply trains) d ≡ nth trains d
  unfolding order_reply
  order-shown d h q = run_shown order_widths order_numbers count_width (length trains) (nth trains) [] refl d h q

-- ---- 8C

module _ (choices : List ℕ) where
  pub screen_kind : kind_shown (screen_reply choices) ≡ reply_kind Screen
  unfolding screen_reply
  screen_kind = first_byte (reply_kind Screen) (choices_digits choices []) (omega arith)

  pub screen_trains : length choices < 256 → record_trains (screen_reply choices) ≡ length choices
  unfolding screen_reply
  screen_trains h = choices_trains (reply_kind Screen) choices [] h

  pub screen_choice : (i : ℕ) → i < length choices → nth choices i < 256 → record_choice (screen_reply choices) i ≡ nth choices i
  unfolding screen_reply
  screen_choice i h q = choices_choice (reply_kind Screen) choices [] i h q

-- ---- 8D and 8E

module _ (kind : Kind) (choices : List ℕ) (bound cost : ℕ) where
  pub record_kind : kind_shown (record_reply kind choices bound cost) ≡ reply_kind kind
  unfolding record_reply
  record_kind = first_byte (reply_kind kind) (record_digits choices bound cost) (omega (arith, number_low kind))

  -- the record itself
  pub record_behind : drop (2 * kind_width) (record_reply kind choices bound cost) ≡ record_digits choices bound cost
  unfolding record_reply
  record_behind = behind_first (reply_kind kind) (record_digits choices bound cost)

  pub record_choice_shown : (i : ℕ) → i < length choices → nth choices i < 256 → record_choice (record_reply kind choices bound cost) i ≡ nth choices i
  unfolding record_reply
  record_choice_shown i h q = choice_recorded (reply_kind kind) choices bound cost i h q

  module _ (h : length choices < 256) where
    pub record_trains_shown : record_trains (record_reply kind choices bound cost) ≡ length choices
    unfolding record_reply
    record_trains_shown = trains_recorded (reply_kind kind) choices bound cost h

    pub record_bound_shown : bound < 256 ^ figure_width → record_bound (record_reply kind choices bound cost) ≡ bound
    unfolding record_reply
    record_bound_shown q = bound_recorded (reply_kind kind) choices bound cost h q

    pub record_cost_shown : cost < 256 ^ figure_width → record_cost (record_reply kind choices bound cost) ≡ cost
    unfolding record_reply
    record_cost_shown q = cost_recorded (reply_kind kind) choices bound cost h q
