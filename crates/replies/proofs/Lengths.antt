-- How long each reply is, by the widths of its fields.
use mathlib.Core.Path.{◌≡◌, refl}
use mathlib.Core.List.{List, []}
use Prim.Native.Nat.{ℕ, ◌+◌, ◌*◌}
use native.Mathlib.Omega.{arith}
use lib.IntN.{ℤ}
use lib.ListN.{length}
use Rattle.theory.specs.Lists.{nth}
use Rattle.refusals.specs.declared.Refusal.{Refusal}
use Rattle.certificates.specs.declared.certify.Ceiling.{Ceiling}
use Rattle.reasons.specs.declared.Reason.{Reason}
use Rattle.frames.proofs.RunDigits.{run_length}
use Rattle.lines.specs.declared.kind.Kind.{Kind}
use Rattle.lines.specs.declared.kind.Kind.TheVariants.{Screen}
use Rattle.lines.specs.Layout.{count_width}
use Rattle.lines.proofs.Records.{choices_text_length, record_text_length}
use Rattle.search.specs.declared.answer.Found.{Found}
use Rattle.replies.specs.Replies.{choice_width, refusal_widths, refusal_reply, bound_widths, bound_reply, certify_widths, certify_reply, search_widths, shown_choice, search_reply, reply_kind, refusal_numbers, bound_numbers, certify_numbers, search_numbers, plan_digits, reason_widths, reason_numbers, reason_reply, order_widths, order_numbers, numbers_digits, order_reply, screen_reply, record_reply}
use Rattle.replies.proofs.ReplyFields.{fields_length}

-- a refusal has four characters
pub refusal_length : (r : Refusal) → length (refusal_reply r) ≡ 4
unfolding refusal_reply
refusal_length r = fields_length refusal_widths (refusal_numbers r) [] refl

pub bound_length : (kind : Kind) (b : List ℤ) → length (bound_reply kind b) ≡ 26
unfolding bound_reply
bound_length kind b = fields_length bound_widths (bound_numbers kind b) [] refl

pub certify_length : (full_weight : ℕ) (c : Ceiling) → length (certify_reply full_weight c) ≡ 26
unfolding certify_reply
certify_length full_weight c = fields_length certify_widths (certify_numbers full_weight c) [] refl

pub search_length : (n : ℕ) (f : Found) → length (search_reply n f) ≡ 24 + 2 * n
unfolding search_reply
search_length n f = omega (arith, fields_length search_widths (search_numbers f) (plan_digits n f) refl, run_length choice_width n (shown_choice f) [])

pub reason_length : (r : Reason) → length (reason_reply r) ≡ 6
unfolding reason_reply
reason_length r = fields_length reason_widths (reason_numbers r) [] refl

pub order_length : (trains : List ℕ) → length (order_reply trains) ≡ 2 + 2 * length trains
unfolding order_reply
order_length trains = omega (arith, fields_length order_widths order_numbers (numbers_digits trains) refl, run_length count_width (length trains) (nth trains) [])

pub screen_length : (choices : List ℕ) → length (screen_reply choices) ≡ 4 + 2 * length choices
unfolding screen_reply
screen_length choices = omega (arith, choices_text_length (reply_kind Screen) choices [])

pub record_reply_length : (kind : Kind) (choices : List ℕ) (bound cost : ℕ) → length (record_reply kind choices bound cost) ≡ 28 + 2 * length choices
unfolding record_reply
record_reply_length kind choices bound cost = omega (arith, record_text_length (reply_kind kind) choices bound cost)
