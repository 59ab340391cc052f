-- What the one form adds the other removes. The last byte takes the sum to 0, and is the only one that does. No kind's number is as high as 40, hexadecimal, and none is 0: so a line of a kind is no second form, and a
-- second form whose sum is right is, without its additions, a line of a kind.
use mathlib.Core.Path.{◌≡◌, refl, sym, ap, ◌∙◌}
use mathlib.Core.Bool.{true, false, and-false}
use mathlib.Core.List.{List, [], ◌++◌}
use mathlib.Core.Logic.{dite}
use Prim.Native.Nat.{ℕ, ◌+◌, ◌*◌, ◌-◌, ◌%◌, ◌<◌, ◌≤◌}
use native.Mathlib.Decide.{dec_lt}
use native.Mathlib.Omega.{arith}
use lib.ListN.{length, drop, length-append, take-append-drop, drop_of_length-le}
use lib.Seq.{length-take-le, take_at, take-append_seam, take-length, drop-length}
use borrow.Author.Tests.{le-ltb, lt-ltb}
use Rattle.std.specs.Prelude.{Result, Ok, Err, is_ok}
use Rattle.theory.proofs.Range.{both_true, not_both}
use Rattle.refusals.specs.declared.Refusal.{Refusal}
use Rattle.refusals.specs.Verdicts.{Verdict, Fine, is_fine}
use Rattle.frames.specs.ByteSum.{byte_sum}
use Rattle.frames.specs.Digits.{bytes}
use Rattle.frames.specs.Fields.{field, field_digits}
use Rattle.frames.specs.Frames.{max_characters, all_digits, framed, new_frame, Framed}
use Rattle.frames.proofs.Bytes.{framed_whole, new_framed}
use Rattle.frames.proofs.Widths.{field_below}
use Rattle.frames.proofs.RoundTrip.{digits-length}
use Rattle.frames.proofs.There.{field_there}
use Rattle.frames.proofs.Front.{same_field}
use Rattle.frames.proofs.Parts.{digits_take, framed_digits, make_framed}
use Rattle.frames.proofs.Sums.{byte_sum_below, byte_sum_append, byte_sum_byte}
use Rattle.lines.specs.declared.kind.Kind.{Kind}
use Rattle.lines.specs.Kinds.{kind_number, new_kind}
use Rattle.lines.specs.Layout.{kind_width, kind_of}
use Rattle.lines.proofs.KindNumbers.{number_kind, kind_number_lem, number_some, number_low}
use Rattle.radio.specs.Forms.{radio_added, sum_width, missing, with_sum, without_sum, plain_line, is_radio}
use Rattle.radio.proofs.Digits.{framed_first, framed_some, framed_even, with_kind_length, with_kind_of, with_kind_digits}

-- ---- the last byte

module _ (l : List ℕ) where
  pub with_sum_length : length (with_sum l) ≡ length l + 2 * sum_width
  with_sum_length = omega (arith, length-append l (field_digits sum_width (missing l) []), digits-length sum_width (missing l) [])

  pub without_with_sum : without_sum (with_sum l) ≡ l
  without_with_sum = take_at l (field_digits sum_width (missing l) []) (length (with_sum l) - 2 * sum_width) (omega (arith, with_sum_length))

  -- of whole bytes
  pub with_sum_right : length l % 2 ≡ 0 → byte_sum (with_sum l) ≡ 0
  with_sum_right e =
      let v : byte_sum (field_digits sum_width (missing l) []) ≡ missing l = byte_sum_byte (missing l) (omega arith) in
      byte_sum_append l (field_digits sum_width (missing l) []) e ∙ omega (arith, v, byte_sum_below l)

  -- the first byte stays
  pub with_sum_kind : 2 * kind_width ≤ length l → kind_of (with_sum l) ≡ kind_of l
  with_sum_kind h = same_field (with_sum l) l (length l) (take-append_seam l (field_digits sum_width (missing l) []) ∙ sym (take-length l)) 0 kind_width h

-- a frame whose sum is right ends in that byte
module _ (l : List ℕ) (f : framed l ≡ true) (right : byte_sum l ≡ 0) where
  abbrev last_byte : ℕ
  last_byte = field l (bytes l - 1) sum_width

  last_small : last_byte < 256
  last_small = field_below (framed_whole l f) (bytes l - 1) sum_width (omega (arith, (framed_whole l f).some))

  last_is : drop (length l - 2 * sum_width) l ≡ field_digits sum_width last_byte []
  last_is =
      let w = framed_whole l f in
      let at : 2 * (bytes l - 1) ≡ length l - 2 * sum_width = omega (arith, w.even, w.some) in
      let end : 2 * (bytes l - 1 + sum_width) ≡ length l = omega (arith, w.even, w.some) in
      sym (ap (λ (n : ℕ). drop n l) at) ∙ sym (field_there w (bytes l - 1) sum_width (omega (arith, w.some)))
      ∙ ap (field_digits sum_width last_byte) (ap (λ (n : ℕ). drop n l) end ∙ drop-length l)

  last_missing : last_byte ≡ missing (without_sum l)
  last_missing =
      let w = without_sum l in
      let q = drop (length l - 2 * sum_width) l in
      let even : length w % 2 ≡ 0 = omega (arith, length-take-le (length l - 2 * sum_width) l (omega arith), framed_even l f, framed_some l f) in
      let sums : (byte_sum w + byte_sum q) % 256 ≡ 0 = sym (byte_sum_append w q even) ∙ ap byte_sum (take-append-drop (length l - 2 * sum_width) l) ∙ right in
      let last : byte_sum q ≡ last_byte = ap byte_sum last_is ∙ byte_sum_byte last_byte last_small in
      omega (arith, sums, last, last_small, byte_sum_below w)

  pub with_without_sum : with_sum (without_sum l) ≡ l
  with_without_sum =
      ap (λ (v : ℕ). without_sum l ++ field_digits sum_width v []) (sym last_missing) ∙ ap (λ (q : List ℕ). without_sum l ++ q) (sym last_is)
      ∙ take-append-drop (length l - 2 * sum_width) l

-- ---- kinds

-- a line of a kind is no second form
pub known_plain : (k : Kind) (l : List ℕ) → new_kind (kind_of l) ≡ Ok k → is_radio l ≡ false
unfolding is_radio new_kind
known_plain k l e =
    let z : kind_of l - radio_added ≡ 0 = omega (arith, kind_number_lem (kind_of l) k e, number_low k) in
    rw z

-- nor is a line that is too long
pub long_plain : (l : List ℕ) → max_characters < length l → is_radio l ≡ false
unfolding is_radio
long_plain l h = rw (lt-ltb max_characters (length l) h) (and-false (is_ok (new_kind (kind_of l - radio_added))))

-- ---- what a second form is

pub record Second (l : List ℕ) : Type 0 where
  pub frame : Framed l (bytes l)
  pub kind : Kind
  pub known : new_kind (kind_of l - radio_added) ≡ Ok kind
  pub number : kind_of l ≡ kind_number kind + radio_added

pub second : {l : List ℕ} → is_radio l ≡ true → Second l
unfolding is_radio
second {l} e =
    let p = both_true (is_ok (new_kind (kind_of l - radio_added))) (is_fine (new_frame l)) e in
    go (new_kind (kind_of l - radio_added)) refl p.0 (new_framed l (fine (new_frame l) p.1))
  where
    fine : (v : Verdict) → is_fine v ≡ true → v ≡ Fine
    fine (Ok tt) e = refl
    fine (Err r) e = absurd (not_both e refl)

    go : (v : Result Kind Refusal) → new_kind (kind_of l - radio_added) ≡ v → is_ok v ≡ true → Framed l (bytes l) → Second l
    go (Err r) q t w = absurd (not_both t refl)
    go (Ok k) q t w = record { frame = w; kind = k; known = q; number = omega (arith, kind_number_lem (kind_of l - radio_added) k q, number_some k) }

pub make_second : (k : Kind) (l : List ℕ) → framed l ≡ true → length l ≤ max_characters → kind_of l ≡ kind_number k + radio_added → is_radio l ≡ true
unfolding is_radio
make_second k l f h e =
    let z : kind_of l - radio_added ≡ kind_number k = omega (arith, e) in
    rw (z, number_kind k, le-ltb max_characters (length l) h, f)

-- ---- the plain form of a second form whose sum is right

-- the kind alone has the sum of its one byte, which is not 0
pub right_long : (l : List ℕ) → is_radio l ≡ true → byte_sum l ≡ 0 → 4 ≤ length l
right_long l e right = dite (dec_lt (length l) 4) (λ (h : length l < 4). absurd (alone (omega arith))) (λ n. omega (arith, n))
  where
    alone : length l ≤ 3 → ⊥
    alone h =
        let s = second e in
        let f = s.frame.digits in
        let w = framed_whole l f in
        let none : drop (2 * kind_width) l ≡ [] = drop_of_length-le l {i = 2 * kind_width} (omega (arith, w.even)) in
        let small : kind_of l < 256 = field_below w 0 kind_width (omega (arith, w.some)) in
        let sum : byte_sum l ≡ kind_of l = ap byte_sum (sym (framed_first l f) ∙ ap (field_digits kind_width (kind_of l)) none) ∙ byte_sum_byte (kind_of l) small in
        omega (arith, sum, right, s.number)

module _ (l : List ℕ) (e : is_radio l ≡ true) (right : byte_sum l ≡ 0) where
  without_length : length (without_sum l) + 2 * sum_width ≡ length l
  without_length = omega (arith, length-take-le (length l - 2 * sum_width) l (omega arith), right_long l e right)

  pub plain_length : length (plain_line l) + 2 * sum_width ≡ length l
  unfolding plain_line
  plain_length = omega (arith, without_length, with_kind_length (kind_of l - radio_added) (without_sum l) (omega (arith, without_length, right_long l e right)))

  pub plain_kind : kind_of (plain_line l) ≡ kind_of l - radio_added
  unfolding plain_line
  plain_kind = let s = second e in with_kind_of (kind_of l - radio_added) (without_sum l) (omega (arith, s.number, number_low s.kind))

  pub plain_known : new_kind (kind_of (plain_line l)) ≡ Ok (second e).kind
  plain_known = ap new_kind plain_kind ∙ (second e).known

  plain_digits : all_digits (plain_line l) ≡ true
  unfolding plain_line
  plain_digits = with_kind_digits (kind_of l - radio_added) (without_sum l) (digits_take l (framed_digits l (second e).frame.digits) (length l - 2 * sum_width))

  pub plain_framed : framed (plain_line l) ≡ true
  plain_framed =
      let long = right_long l e right in
      make_framed (plain_line l) (omega (arith, plain_length, long)) (omega (arith, plain_length, long, framed_even l (second e).frame.digits)) plain_digits

  pub plain_short : length (plain_line l) + 2 * sum_width ≤ max_characters
  plain_short = omega (arith, plain_length, (second e).frame.short)
