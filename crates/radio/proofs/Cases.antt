-- The ways an answer to a line in either form can come about: the answer to a plain line; to a second form whose sum is right, that to its plain form in two characters less, in the second form; to every other second
-- form 25. No kind is looked at.
use mathlib.Core.Path.{◌≡◌, refl, sym, ap, ap₂, subst, ◌∙◌}
use mathlib.Core.Bool.{Bool, true, false, cond}
use mathlib.Core.List.{List}
use Prim.Native.Nat.{ℕ, ◌+◌, ◌*◌, ◌-◌, ◌<◌, ◌≤◌}
use native.Mathlib.Omega.{arith}
use lib.Dec.{eqb}
use lib.IntN.{ℤ}
use lib.ListN.{length}
use borrow.Author.Tests.{eq-eqb, ne_eqb, eqb-true, eqb-false}
use Rattle.refusals.specs.declared.Refusal.TheVariants.{WrongSum}
use Rattle.tables.specs.WellFormed.{well_formed}
use Rattle.frames.specs.ByteSum.{byte_sum}
use Rattle.frames.specs.Frames.{max_characters}
use Rattle.replies.specs.Replies.{longest_fixed, refusal_reply}
use Rattle.replies.proofs.Lengths.{refusal_length}
use Rattle.requests.specs.Answer.{Answer, declined, line_answer}
use Rattle.requests.proofs.LineCases.{FixedLine, line_short, line_short_fixed, line_given, room_apart, long_line}
use Rattle.requests.proofs.Begins.{line_begins}
use Rattle.radio.specs.Forms.{sum_width, is_radio, plain_line, as_plain}
use Rattle.radio.specs.Answer.{longest_form, by_radio, radio_answer, form_answer}
use Rattle.radio.proofs.Forms.{long_plain}
use Rattle.radio.proofs.Replies.{reply_length, reply_given, reply_most}

module _ (l : List ℕ) (b : List ℤ) (room : ℕ) where
  pub form_plain : is_radio l ≡ false → form_answer l b room ≡ line_answer l b room
  unfolding form_answer
  form_plain e = rw e

  pub radio_right : is_radio l ≡ true → byte_sum l ≡ 0 → form_answer l b room ≡ by_radio (line_answer (plain_line l) b (room - 2 * sum_width))
  unfolding form_answer radio_answer
  radio_right e right = rw (e, eq-eqb (byte_sum l) 0 right)

  pub radio_wrong : is_radio l ≡ true → (byte_sum l ≡ 0 → ⊥) → form_answer l b room ≡ by_radio (declined b WrongSum)
  unfolding form_answer radio_answer
  radio_wrong e wrong = rw (e, ne_eqb (byte_sum l) 0 wrong)

  pub form_cases : (P : Answer → Type 0)
      → (is_radio l ≡ false → P (line_answer l b room))
      → (is_radio l ≡ true → byte_sum l ≡ 0 → P (by_radio (line_answer (plain_line l) b (room - 2 * sum_width))))
      → (is_radio l ≡ true → (byte_sum l ≡ 0 → ⊥) → P (by_radio (declined b WrongSum)))
      → P (form_answer l b room)
  form_cases P plain right wrong = go (is_radio l) (eqb (byte_sum l) 0) refl refl
    where
      go : (t u : Bool) → is_radio l ≡ t → eqb (byte_sum l) 0 ≡ u → P (form_answer l b room)
      go false u e f = subst P (sym (form_plain e)) (plain e)
      go true true e f = let s = eqb-true (byte_sum l) 0 f in subst P (sym (radio_right e s)) (right e s)
      go true false e f = let s = eqb-false (byte_sum l) 0 f in subst P (sym (radio_wrong e s)) (wrong e s)

  module _ (h : longest_fixed + 2 * sum_width ≤ room) (right : well_formed b ≡ true) where
    -- the plain reply to a second form, put into the second form, has at most two characters more
    plain_most : length (by_radio (line_answer (plain_line l) b (room - 2 * sum_width))).reply ≤ length (line_answer (plain_line l) b (room - 2 * sum_width)).reply + 2 * sum_width
    plain_most = reply_most (line_begins (plain_line l) b (room - 2 * sum_width) (omega arith) right)

    wrong_length : length (by_radio (declined b WrongSum)).reply ≡ 6
    wrong_length = reply_length (refusal_reply WrongSum) (omega (arith, refusal_length WrongSum)) ∙ ap (λ (n : ℕ). n + 2 * sum_width) (refusal_length WrongSum)

    -- no reply is longer than the longest one in the second form
    pub form_short : length (form_answer l b room).reply ≤ longest_form
    form_short =
        form_cases (λ a. length a.reply ≤ longest_form)
        (λ e. omega (arith, line_short l b room (omega arith) right))
        (λ e s. omega (arith, plain_most, line_short (plain_line l) b (room - 2 * sum_width) (omega arith) right))
        (λ e s. omega (arith, wrong_length))

    pub form_short_fixed : FixedLine (as_plain l) b → length (form_answer l b room).reply ≤ longest_fixed + 2 * sum_width
    form_short_fixed f =
        form_cases (λ a. length a.reply ≤ longest_fixed + 2 * sum_width)
        (λ e. omega (arith, line_short_fixed l b room (omega arith) right (rw e at f)))
        (λ e s. omega (arith, plain_most, line_short_fixed (plain_line l) b (room - 2 * sum_width) (omega arith) right (rw e at f)))
        (λ e s. omega (arith, wrong_length))

    -- in a room that holds the longest reply every line has one
    pub form_given : longest_form ≤ room → 0 < length (form_answer l b room).reply
    form_given m =
        form_cases (λ a. 0 < length a.reply)
        (λ e. line_given l b room (omega arith) right (omega arith))
        (λ e s. reply_given (line_answer (plain_line l) b (room - 2 * sum_width)).reply (line_given (plain_line l) b (room - 2 * sum_width) (omega arith) right (omega arith)))
        (λ e s. omega (arith, wrong_length))

-- rooms for the longest reply are all alike
pub form_apart : (l : List ℕ) (b : List ℤ) (u v : ℕ) → longest_form ≤ u → longest_form ≤ v → well_formed b ≡ true → form_answer l b u ≡ form_answer l b v
unfolding form_answer radio_answer
form_apart l b u v g h right =
    ap₂ (λ (x y : Answer). cond (is_radio l) (by_radio (cond (eqb (byte_sum l) 0) x (declined b WrongSum))) y)
    (room_apart (plain_line l) b (u - 2 * sum_width) (v - 2 * sum_width) (omega arith) (omega arith) right)
    (room_apart l b u v (omega arith) (omega arith) right)

-- lines over the limit are all answered alike
pub long_form : (l k : List ℕ) (b : List ℤ) (room : ℕ) → max_characters < length l → max_characters < length k → form_answer l b room ≡ form_answer k b room
long_form l k b room g h = form_plain l b room (long_plain l g) ∙ long_line l k b room g h ∙ sym (form_plain k b room (long_plain k h))
