-- Which replies are accepted: none that is empty, and none of a refusal; every other whose first byte is not FF, as each of the replies that are written here.
use mathlib.Core.Path.{◌≡◌, refl}
use mathlib.Core.Bool.{true, false, and-false}
use mathlib.Core.List.{List, [], ◌∷◌}
use Prim.Native.Nat.{ℕ, ◌<◌}
use native.Mathlib.Omega.{arith}
use lib.Dec.{ltb}
use lib.IntN.{ℤ}
use lib.ListN.{length}
use borrow.Author.Tests.{lt-ltb, ne_eqb}
use Rattle.refusals.specs.declared.Refusal.{Refusal}
use Rattle.certificates.specs.declared.certify.Ceiling.{Ceiling}
use Rattle.frames.specs.Digits.{digit, byte_at}
use Rattle.frames.specs.Fields.{field}
use Rattle.reasons.specs.declared.Reason.{Reason}
use Rattle.lines.specs.declared.kind.Kind.{Kind}
use Rattle.lines.specs.declared.kind.Kind.TheVariants.{Certify, Search, Explain, Order, Screen}
use Rattle.lines.proofs.KindNumbers.{number_low}
use Rattle.search.specs.declared.answer.Found.{Found}
use Rattle.replies.specs.Replies.{refusal_byte, refusal_reply, bound_reply, certify_reply, search_reply, reason_reply, order_reply, screen_reply, record_reply}
use Rattle.replies.specs.Shown.{kind_shown, accepted}
use Rattle.replies.proofs.ReadBack.{refusal_kind, bound_kind, certify_kind, search_kind, reason_kind, order_kind, screen_kind, record_kind}

-- an empty reply shows no byte
pub accepted_as : (reply : List ℕ) → kind_shown reply < refusal_byte → accepted reply ≡ true
unfolding accepted field byte_at digit
accepted_as [] h = absurd (omega arith)
accepted_as (c ∷ reply) h = rw (lt-ltb 0 (length (c ∷ reply)) (omega arith), ne_eqb (kind_shown (c ∷ reply)) refusal_byte (λ e. omega arith))

pub empty_refused : accepted [] ≡ false
unfolding accepted
empty_refused = refl

pub refusal_refused : (r : Refusal) → accepted (refusal_reply r) ≡ false
unfolding accepted
refusal_refused r = rw (refusal_kind r) (and-false (ltb 0 (length (refusal_reply r))))

pub bound_accepted : (kind : Kind) (b : List ℤ) → accepted (bound_reply kind b) ≡ true
bound_accepted kind b = accepted_as (bound_reply kind b) (omega (arith, bound_kind kind b, number_low kind))

pub certify_accepted : (full_weight : ℕ) (c : Ceiling) → accepted (certify_reply full_weight c) ≡ true
certify_accepted full_weight c = accepted_as (certify_reply full_weight c) (omega (arith, certify_kind full_weight c, number_low Certify))

pub search_accepted : (n : ℕ) (f : Found) → accepted (search_reply n f) ≡ true
search_accepted n f = accepted_as (search_reply n f) (omega (arith, search_kind n f, number_low Search))

pub reason_accepted : (r : Reason) → accepted (reason_reply r) ≡ true
reason_accepted r = accepted_as (reason_reply r) (omega (arith, reason_kind r, number_low Explain))

pub order_accepted : (trains : List ℕ) → accepted (order_reply trains) ≡ true
order_accepted trains = accepted_as (order_reply trains) (omega (arith, order_kind trains, number_low Order))

pub screen_accepted : (choices : List ℕ) → accepted (screen_reply choices) ≡ true
screen_accepted choices = accepted_as (screen_reply choices) (omega (arith, screen_kind choices, number_low Screen))

pub record_accepted : (kind : Kind) (choices : List ℕ) (bound cost : ℕ) → accepted (record_reply kind choices bound cost) ≡ true
record_accepted kind choices bound cost = accepted_as (record_reply kind choices bound cost) (omega (arith, record_kind kind choices bound cost, number_low kind))
