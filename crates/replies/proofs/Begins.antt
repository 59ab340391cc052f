-- Every reply that isn't empty is whole bytes, and the first is FF or that of a kind, so low that with 40 hexadecimal added it is no FF: 'the reply's kind gains the same 40, and FF stays FF'.
use mathlib.Core.Path.{◌≡◌, refl, ap}
use mathlib.Core.List.{List, []}
use mathlib.Core.Logic.{◌⊎◌, inl, inr}
use Prim.Native.Nat.{ℕ, ◌%◌, ◌<◌}
use native.Mathlib.Omega.{arith}
use lib.IntN.{ℤ}
use lib.ListN.{length}
use Rattle.refusals.specs.declared.Refusal.{Refusal}
use Rattle.certificates.specs.declared.certify.Ceiling.{Ceiling}
use Rattle.reasons.specs.declared.Reason.{Reason}
use Rattle.frames.specs.Fields.{field_digits}
use Rattle.frames.proofs.RoundTrip.{digits-length}
use Rattle.lines.specs.declared.kind.Kind.{Kind}
use Rattle.lines.specs.declared.kind.Kind.TheVariants.{Certify, Search, Explain, Order, Screen}
use Rattle.lines.specs.Layout.{kind_width}
use Rattle.lines.proofs.KindNumbers.{number_low}
use Rattle.search.specs.declared.answer.Found.{Found}
use Rattle.replies.specs.Replies.{fields_digits, refusal_byte, refusal_reply, reply_kind, bound_reply, certify_reply, search_reply, reason_reply, order_reply, screen_reply, record_reply}
use Rattle.replies.proofs.Lengths.{refusal_length, bound_length, certify_length, search_length, reason_length, order_length, screen_length, record_reply_length}

-- BF: the first byte of a reply is below it, or it is FF
abbrev pub kinds_end : ℕ
kinds_end = 191

-- whole bytes, the first of them such a one
pub record Begins (r : List ℕ) : Type 0 where
  pub kind : ℕ
  pub rest : List ℕ
  pub is : r ≡ field_digits kind_width kind rest
  pub known : (kind < kinds_end) ⊎ (kind ≡ refusal_byte)
  pub whole : length rest % 2 ≡ 0

-- what a reply is: nothing, 17, or such bytes
abbrev pub IsReply : List ℕ → Type 0
IsReply r = (r ≡ []) ⊎ Begins r

-- a first byte and the rest, of whole bytes together
pub begins : (kind : ℕ) (rest : List ℕ) {r : List ℕ} → r ≡ field_digits kind_width kind rest → (kind < kinds_end) ⊎ (kind ≡ refusal_byte) → length r % 2 ≡ 0 → IsReply r
begins kind rest e h even = inr (record { kind = kind; rest = rest; is = e; known = h; whole = omega (arith, even, ap length e, digits-length kind_width kind rest) })

-- the byte of a kind
kind_begins : (kind : Kind) (rest : List ℕ) {r : List ℕ} → r ≡ field_digits kind_width (reply_kind kind) rest → length r % 2 ≡ 0 → IsReply r
kind_begins kind rest e even = begins (reply_kind kind) rest e (inl (omega (arith, number_low kind))) even

pub declined_begins : (r : Refusal) → IsReply (refusal_reply r)
unfolding refusal_reply fields_digits
declined_begins r = begins refusal_byte _ refl (inr refl) (omega (arith, refusal_length r))

pub bound_begins : (kind : Kind) (b : List ℤ) → IsReply (bound_reply kind b)
unfolding bound_reply fields_digits
bound_begins kind b = kind_begins kind _ refl (omega (arith, bound_length kind b))

pub certify_begins : (full_weight : ℕ) (c : Ceiling) → IsReply (certify_reply full_weight c)
unfolding certify_reply fields_digits
certify_begins full_weight c = kind_begins Certify _ refl (omega (arith, certify_length full_weight c))

pub search_begins : (n : ℕ) (f : Found) → IsReply (search_reply n f)
unfolding search_reply fields_digits
search_begins n f = kind_begins Search _ refl (omega (arith, search_length n f))

pub reason_begins : (r : Reason) → IsReply (reason_reply r)
unfolding reason_reply fields_digits
reason_begins r = kind_begins Explain _ refl (omega (arith, reason_length r))

pub order_begins : (trains : List ℕ) → IsReply (order_reply trains)
unfolding order_reply fields_digits
order_begins trains = kind_begins Order _ refl (omega (arith, order_length trains))

pub screen_begins : (choices : List ℕ) → IsReply (screen_reply choices)
unfolding screen_reply
screen_begins choices = kind_begins Screen _ refl (omega (arith, screen_length choices))

pub record_begins : (kind : Kind) (choices : List ℕ) (bound cost : ℕ) → IsReply (record_reply kind choices bound cost)
unfolding record_reply
record_begins kind choices bound cost = kind_begins kind _ refl (omega (arith, record_reply_length kind choices bound cost))
