-- 'Every kind so far has this second form': a frame of a kind, two characters within the limit, has one whose sum is right, and that one's plain form is the line again. The other way, a second form whose sum is right is
-- the second form of its plain form: so the two forms of a line determine each other.
use mathlib.Core.Path.{◌≡◌, sym, ap, ◌∙◌}
use mathlib.Core.Bool.{true}
use mathlib.Core.List.{List, []}
use Prim.Native.Nat.{ℕ, ◌+◌, ◌*◌, ◌-◌, ◌%◌, ◌<◌, ◌≤◌}
use native.Mathlib.Omega.{arith}
use lib.ListN.{length, take}
use lib.Seq.{take-take}
use Rattle.frames.specs.ByteSum.{byte_sum}
use Rattle.frames.specs.Fields.{field_digits}
use Rattle.frames.specs.Frames.{max_characters, all_digits, framed}
use Rattle.frames.proofs.RoundTrip.{digits-digits}
use Rattle.frames.proofs.Parts.{digits_take, digits_behind, framed_digits, make_framed}
use Rattle.lines.specs.declared.kind.Kind.{Kind}
use Rattle.lines.specs.Kinds.{kind_number}
use Rattle.lines.specs.Layout.{kind_width, kind_of}
use Rattle.lines.proofs.KindNumbers.{number_low}
use Rattle.radio.specs.Forms.{radio_added, sum_width, with_kind, missing, with_sum, without_sum, radio_line, plain_line, is_radio}
use Rattle.radio.proofs.Digits.{framed_first, framed_some, framed_even, with_kind_length, with_kind_of, with_kind_again, with_kind_digits, with_kind_front}
use Rattle.radio.proofs.Forms.{with_sum_length, without_with_sum, with_sum_right, with_sum_kind, with_without_sum, second, make_second, right_long}

-- ---- the second form of a line

module _ (l : List ℕ) (h : 2 * kind_width ≤ length l) where
  abbrev raised_line : List ℕ
  raised_line = with_kind (kind_of l + radio_added) l

  raised_length : length raised_line ≡ length l
  raised_length = with_kind_length (kind_of l + radio_added) l h

  pub radio_line_length : length (radio_line l) ≡ length l + 2 * sum_width
  unfolding radio_line
  radio_line_length = omega (arith, with_sum_length raised_line, raised_length)

  pub radio_line_right : length l % 2 ≡ 0 → byte_sum (radio_line l) ≡ 0
  unfolding radio_line
  radio_line_right e = with_sum_right raised_line (omega (arith, e, raised_length))

  pub radio_line_kind : kind_of l + radio_added < 256 → kind_of (radio_line l) ≡ kind_of l + radio_added
  unfolding radio_line
  radio_line_kind k = with_sum_kind raised_line (omega (arith, h, raised_length)) ∙ with_kind_of (kind_of l + radio_added) l k

  radio_line_digits : all_digits l ≡ true → all_digits (radio_line l) ≡ true
  unfolding radio_line
  radio_line_digits e =
      digits_behind raised_line (field_digits sum_width (missing raised_line) []) (with_kind_digits (kind_of l + radio_added) l e) (digits-digits sum_width (missing raised_line) [] (digits_take l e 0))

  -- its plain form has the kind of the line again
  plain_again : kind_of l + radio_added < 256 → plain_line (radio_line l) ≡ with_kind (kind_of l) l
  unfolding plain_line radio_line
  plain_again k =
      let number : kind_of (radio_line l) - radio_added ≡ kind_of l = omega (arith, radio_line_kind k) in
      ap (λ (n : ℕ). with_kind n (without_sum (radio_line l))) number ∙ ap (with_kind (kind_of l)) (without_with_sum raised_line) ∙ with_kind_again (kind_of l + radio_added) l (kind_of l)

module _ (k : Kind) (l : List ℕ) (f : framed l ≡ true) (e : kind_of l ≡ kind_number k) where
  some : 2 * kind_width ≤ length l
  some = framed_some l f

  byte : kind_of l + radio_added < 256
  byte = omega (arith, e, number_low k)

  radio_framed : framed (radio_line l) ≡ true
  radio_framed =
      let n = radio_line_length l some in
      make_framed (radio_line l) (omega (arith, n)) (omega (arith, n, framed_even l f)) (radio_line_digits l some (framed_digits l f))

  radio_is : length l + 2 * sum_width ≤ max_characters → is_radio (radio_line l) ≡ true
  radio_is h = make_second k (radio_line l) radio_framed (omega (arith, h, radio_line_length l some)) (radio_line_kind l some byte ∙ ap (λ (n : ℕ). n + radio_added) e)

  pub plain_radio : plain_line (radio_line l) ≡ l
  plain_radio = plain_again l some byte ∙ framed_first l f

  pub line_second : length l + 2 * sum_width ≤ max_characters → (is_radio (radio_line l) ≡ true) × (byte_sum (radio_line l) ≡ 0) × (plain_line (radio_line l) ≡ l)
  line_second h = (radio_is h, radio_line_right l some (framed_even l f), plain_radio)

-- ---- a second form is that of its plain form

module _ (l : List ℕ) (e : is_radio l ≡ true) (right : byte_sum l ≡ 0) where
  abbrev front_of : List ℕ
  front_of = without_sum l

  -- the front of the line has its first byte
  own_kind : with_kind (kind_of l) front_of ≡ front_of
  own_kind =
      sym (with_kind_front (kind_of l) l (length l - 2 * sum_width) (omega (arith, right_long l e right)))
      ∙ ap (take (length l - 2 * sum_width)) (framed_first l (second e).frame.digits)

  pub line_back : radio_line (plain_line l) ≡ l
  unfolding radio_line plain_line
  line_back =
      let s = second e in
      let number : kind_of (plain_line l) + radio_added ≡ kind_of l =
      ap (λ (n : ℕ). n + radio_added) (with_kind_of (kind_of l - radio_added) front_of (omega (arith, s.number, number_low s.kind))) ∙ omega (arith, s.number) in
      ap (λ (n : ℕ). with_sum (with_kind n (plain_line l))) number
      ∙ ap with_sum (with_kind_again (kind_of l - radio_added) front_of (kind_of l) ∙ own_kind)
      ∙ with_without_sum l s.frame.digits right

-- ---- fronts

-- a front of the plain form is that of the line with the plain kind
pub plain_front : (l : List ℕ) (n : ℕ) → 2 * kind_width ≤ n → n + 2 * sum_width ≤ length l → take n (plain_line l) ≡ with_kind (kind_of l - radio_added) (take n l)
unfolding plain_line
plain_front l n p q =
    with_kind_front (kind_of l - radio_added) (without_sum l) n p
    ∙ ap (with_kind (kind_of l - radio_added)) (take-take n (length l - 2 * sum_width) l (omega arith))
