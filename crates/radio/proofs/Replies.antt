-- The second form of a reply ends in the byte that takes its sum to 0. The first byte of a reply is FF, or no FF with 40, hexadecimal, added: so without the two additions the second form is the reply again, and it is
-- accepted where the reply is.
use mathlib.Core.Path.{◌≡◌, refl, sym, ap, ◌∙◌}
use mathlib.Core.Bool.{Bool, true, false, cond, and-false}
use mathlib.Core.List.{List, [], ◌∷◌}
use mathlib.Core.Logic.{◌⊎◌, inl, inr}
use Prim.Native.Nat.{ℕ, ◌+◌, ◌*◌, ◌-◌, ◌%◌, ◌<◌, ◌≤◌}
use native.Mathlib.Omega.{arith}
use lib.Dec.{eqb, ltb}
use lib.ListN.{length}
use borrow.Author.Tests.{eq-eqb, ne_eqb}
use Rattle.frames.specs.ByteSum.{byte_sum}
use Rattle.frames.specs.Fields.{field_digits}
use Rattle.frames.proofs.RoundTrip.{digits-length}
use Rattle.frames.proofs.Sums.{byte_sum_empty}
use Rattle.lines.specs.Layout.{kind_width, kind_of}
use Rattle.lines.proofs.Records.{first_byte, behind_first}
use Rattle.replies.specs.Replies.{refusal_byte}
use Rattle.replies.specs.Shown.{kind_shown, accepted}
use Rattle.replies.proofs.Accepted.{accepted_as}
use Rattle.replies.proofs.Begins.{kinds_end, Begins, IsReply}
use Rattle.radio.specs.Forms.{radio_added, sum_width, with_kind, with_sum, without_sum, radio_line, raised, lowered, radio_reply, plain_reply}
use Rattle.radio.proofs.Digits.{with_kind_length}
use Rattle.radio.proofs.Forms.{with_sum_length, without_with_sum, with_sum_right, with_sum_kind}

-- ---- of any characters

pub empty_reply : radio_reply [] ≡ []
unfolding radio_reply
empty_reply = refl

pub raised_length : (r : List ℕ) → 2 * kind_width ≤ length r → length (raised r) ≡ length r
raised_length r h = go (eqb (kind_shown r) refusal_byte)
  where
    go : (t : Bool) → length (cond t r (with_kind (kind_shown r + radio_added) r)) ≡ length r
    go true = refl
    go false = with_kind_length (kind_shown r + radio_added) r h

refused_as : (r : List ℕ) → kind_shown r ≡ refusal_byte → accepted r ≡ false
unfolding accepted
refused_as r e = rw e (and-false (ltb 0 (length r)))

module _ (r : List ℕ) where
  pub some_reply : 0 < length r → radio_reply r ≡ with_sum (raised r)
  unfolding radio_reply
  some_reply h = rw (ne_eqb (length r) 0 (λ z. omega arith))

  some_plain : 0 < length r → plain_reply r ≡ lowered (without_sum r)
  unfolding plain_reply
  some_plain h = rw (ne_eqb (length r) 0 (λ z. omega arith))

  pub reply_length : 2 * kind_width ≤ length r → length (radio_reply r) ≡ length r + 2 * sum_width
  reply_length h = ap length (some_reply (omega arith)) ∙ with_sum_length (raised r) ∙ ap (λ (n : ℕ). n + 2 * sum_width) (raised_length r h)

  pub reply_given : 0 < length r → 0 < length (radio_reply r)
  reply_given h = omega (arith, ap length (some_reply h), with_sum_length (raised r))

  -- the first byte of the second form
  reply_kind_shown : 2 * kind_width ≤ length r → kind_shown (radio_reply r) ≡ kind_shown (raised r)
  reply_kind_shown h = ap kind_of (some_reply (omega arith)) ∙ with_sum_kind (raised r) (omega (arith, h, raised_length r h))

  -- a reply that is a line, as a save's is, is that line's second form
  pub reply_is_line : 0 < length r → (kind_shown r ≡ refusal_byte → ⊥) → radio_reply r ≡ radio_line r
  unfolding radio_line
  reply_is_line h d = some_reply h ∙ rw (ne_eqb (kind_shown r) refusal_byte d)

-- of whole bytes: 'Every reply to such a line then ends so too'
pub reply_sum : (r : List ℕ) → length r % 2 ≡ 0 → byte_sum (radio_reply r) ≡ 0
reply_sum [] e = ap byte_sum empty_reply ∙ byte_sum_empty
reply_sum (c ∷ []) e = absurd (omega arith)
reply_sum (c ∷ d ∷ l) e =
    let r : List ℕ = c ∷ d ∷ l in
    ap byte_sum (some_reply r (omega arith)) ∙ with_sum_right (raised r) (omega (arith, raised_length r (omega arith)))

-- ---- of replies

-- 'the reply's kind gains the same 40, and FF stays FF'
module _ (rest : List ℕ) where
  raised_kind : (k : ℕ) → k < kinds_end → raised (field_digits kind_width k rest) ≡ field_digits kind_width (k + radio_added) rest
  raised_kind k h = rw (first_byte k rest (omega arith), ne_eqb k refusal_byte (λ e. omega arith), behind_first k rest)

  lowered_kind : (k : ℕ) → k < kinds_end → lowered (field_digits kind_width (k + radio_added) rest) ≡ field_digits kind_width k rest
  lowered_kind k h =
      let z : k + radio_added - radio_added ≡ k = omega arith in
      rw (first_byte (k + radio_added) rest (omega arith), ne_eqb (k + radio_added) refusal_byte (λ e. omega arith), behind_first (k + radio_added) rest, z)

  raised_refusal : raised (field_digits kind_width refusal_byte rest) ≡ field_digits kind_width refusal_byte rest
  raised_refusal = rw (first_byte refusal_byte rest (omega arith))

  lowered_refusal : lowered (field_digits kind_width refusal_byte rest) ≡ field_digits kind_width refusal_byte rest
  lowered_refusal = rw (first_byte refusal_byte rest (omega arith))

module _ {r : List ℕ} (b : Begins r) where
  begins_long : 2 * kind_width ≤ length r
  begins_long = omega (arith, ap length b.is, digits-length kind_width b.kind b.rest)

  begins_even : length r % 2 ≡ 0
  begins_even = omega (arith, ap length b.is, digits-length kind_width b.kind b.rest, b.whole)

  raised_back : lowered (raised r) ≡ r
  raised_back = rw b.is (go b.kind b.known)
    where
      go : (k : ℕ) → (k < kinds_end) ⊎ (k ≡ refusal_byte) → lowered (raised (field_digits kind_width k b.rest)) ≡ field_digits kind_width k b.rest
      go k (inl h) = ap lowered (raised_kind b.rest k h) ∙ lowered_kind b.rest k h
      go k (inr e) = rw e (ap lowered (raised_refusal b.rest) ∙ lowered_refusal b.rest)

  begins_back : plain_reply (radio_reply r) ≡ r
  begins_back =
      ap plain_reply (some_reply r (omega (arith, begins_long))) ∙ some_plain (with_sum (raised r)) (omega (arith, with_sum_length (raised r)))
      ∙ ap lowered (without_with_sum (raised r)) ∙ raised_back

  begins_accepted : accepted (radio_reply r) ≡ accepted r
  begins_accepted = go b.known
    where
      go : (b.kind < kinds_end) ⊎ (b.kind ≡ refusal_byte) → accepted (radio_reply r) ≡ accepted r
      go (inl h) =
          let shown : kind_shown r ≡ b.kind = ap kind_of b.is ∙ first_byte b.kind b.rest (omega arith) in
          let shown_raised : kind_shown (radio_reply r) ≡ b.kind + radio_added =
          reply_kind_shown r begins_long ∙ ap (λ (x : List ℕ). kind_of (raised x)) b.is ∙ ap kind_of (raised_kind b.rest b.kind h) ∙ first_byte (b.kind + radio_added) b.rest (omega arith) in
          accepted_as (radio_reply r) (omega (arith, shown_raised)) ∙ sym (accepted_as r (omega (arith, shown)))
      go (inr e) =
          let shown : kind_shown r ≡ refusal_byte = ap kind_of b.is ∙ first_byte b.kind b.rest (omega arith) ∙ e in
          let same : raised r ≡ r = rw (eq-eqb (kind_shown r) refusal_byte shown) in
          refused_as (radio_reply r) (reply_kind_shown r begins_long ∙ ap kind_of same ∙ shown) ∙ sym (refused_as r shown)

pub reply_even : {r : List ℕ} → IsReply r → length r % 2 ≡ 0
reply_even (inl e) = ap (λ (r : List ℕ). length r % 2) e
reply_even (inr b) = begins_even b

-- 'with the two additions removed'
pub reply_back : {r : List ℕ} → IsReply r → plain_reply (radio_reply r) ≡ r
unfolding radio_reply plain_reply
reply_back (inl e) = rw e
reply_back (inr b) = begins_back b

pub reply_accepted : {r : List ℕ} → IsReply r → accepted (radio_reply r) ≡ accepted r
reply_accepted (inl e) = rw (e, empty_reply)
reply_accepted (inr b) = begins_accepted b

-- it has two characters more, or none as the reply
pub reply_most : {r : List ℕ} → IsReply r → length (radio_reply r) ≤ length r + 2 * sum_width
reply_most (inl e) = rw (e, empty_reply) (omega arith)
reply_most {r} (inr b) = omega (arith, reply_length r (begins_long b))
