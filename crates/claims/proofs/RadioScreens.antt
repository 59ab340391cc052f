-- 'In the second form a screen's answer depends on bound and cost bytes only by whether the sum is right.' Two such lines are both second forms, or both none. None is of a kind, so that only its frame is looked
-- at; wrong sums are declined alike; and where both are right, their plain forms are the same up to the end of the choices, and answered alike. Where the choices end behind the line, the lines are the same.
use Rattle.std.specs.Prelude.{Ok, Err}
use mathlib.Core.Path.{◌≡◌, refl, sym, ap, ap₂, subst, ◌∙◌}
use mathlib.Core.Bool.{true, false}
use mathlib.Core.List.{List}
use mathlib.Core.Logic.{dite}
use Prim.Native.Nat.{ℕ, ◌+◌, ◌*◌, ◌-◌, ◌<◌, ◌≤◌}
use native.Mathlib.Decide.{dec_lt}
use native.Mathlib.Omega.{arith}
use lib.IntN.{ℤ}
use lib.ListN.{length, take, drop}
use lib.Seq.{take_all, take-take}
use borrow.Author.Tests.{eqb-true, eq-eqb}
use Rattle.refusals.specs.declared.Refusal.{Refusal}
use Rattle.refusals.specs.declared.Refusal.TheVariants.{NoKind}
use Rattle.refusals.specs.Verdicts.{Verdict}
use Rattle.frames.specs.ByteSum.{byte_sum}
use Rattle.frames.specs.Fields.{field}
use Rattle.frames.specs.Frames.{new_frame}
use Rattle.frames.proofs.Bytes.{framed_whole}
use Rattle.frames.proofs.Front.{same_field}
use Rattle.frames.proofs.Parts.{framed_digits}
use Rattle.frames.proofs.RoundTrip.{field-drop}
use Rattle.lines.specs.declared.kind.Kind.TheVariants.{Screen}
use Rattle.lines.specs.Kinds.{new_kind}
use Rattle.lines.specs.Layout.{kind_width, kind_of, count_width, record_trains}
use Rattle.lines.proofs.Records.{behind_first}
use Rattle.reader.specs.Reading.{kind_line, framed_line, line_of}
use Rattle.requests.specs.Answer.{declined, carried_out, fitted, line_answer}
use Rattle.radio.specs.Answer.{by_radio, form_answer}
use Rattle.radio.specs.Forms.{radio_added, sum_width, with_kind, without_sum, is_radio, plain_line}
use Rattle.radio.proofs.Cases.{form_plain, radio_right, radio_wrong, form_cases}
use Rattle.radio.proofs.Forms.{second, plain_length, plain_kind, plain_framed}
use Rattle.radio.proofs.Lines.{plain_front}
use Rattle.claims.specs.Radio.{radio_number, SameScreens, ScreensApart}
use Rattle.claims.specs.Records.{choices_end, SameFront}
use Rattle.claims.proofs.Asking.{calls_alike}
use Rattle.claims.proofs.Records.{same_frame, same_answer}

-- ---- lines of no kind

-- 4C is none
screen_number : new_kind (radio_number Screen) ≡ Err NoKind
unfolding new_kind
screen_number = refl

-- why one is declined: for its frame, else for its kind
abbrev refused_as : Verdict → Refusal → Refusal
refused_as (Ok _) r = r
refused_as (Err f) r = f

no_kind : (l : List ℕ) (b : List ℤ) (room : ℕ) (r : Refusal) → new_kind (kind_of l) ≡ Err r → line_answer l b room ≡ fitted room b (declined b (refused_as (new_frame l) r))
unfolding line_answer line_of kind_line
no_kind l b room r e = go (new_frame l)
  where
    go : (v : Verdict) → fitted room b (carried_out (framed_line v l b) l b) ≡ fitted room b (declined b (refused_as v r))
    go (Ok _) = rw e
    go (Err f) = refl

-- ---- plain forms

-- n stands in the plain form where it stood
plain_trains : (l : List ℕ) → 3 * 2 ≤ length l → record_trains (plain_line l) ≡ record_trains l
unfolding plain_line
plain_trains l h =
    let w = without_sum l in
    let k = kind_of l - radio_added in
    field-drop (with_kind k w) kind_width 0 count_width
    ∙ ap (λ (p : List ℕ). field p 0 count_width) (behind_first k (drop (2 * kind_width) w))
    ∙ sym (field-drop w kind_width 0 count_width)
    ∙ same_field w l (length l - 2 * sum_width) (take-take (length l - 2 * sum_width) (length l - 2 * sum_width) l (omega arith)) kind_width count_width (omega (arith, h))

module _ {l k : List ℕ} (e : SameScreens l k) where
  other_kind : kind_of l ≡ kind_of k
  other_kind = same_field l k (choices_end l) e.front 0 kind_width (omega arith)

  frames : new_frame l ≡ new_frame k
  frames = same_frame l k e.long e.digits.0 e.digits.1

  -- both are second forms, or none
  both_forms : is_radio l ≡ is_radio k
  unfolding is_radio
  both_forms = rw (other_kind, frames)

  -- the plain forms of lines that are longer than their choices
  plain_same : is_radio l ≡ true → byte_sum l ≡ 0 → is_radio k ≡ true → byte_sum k ≡ 0 → choices_end l + 2 * sum_width ≤ length l → SameFront (plain_line l) (plain_line k)
  plain_same t s u v h =
      let ends : choices_end (plain_line l) ≡ choices_end l = omega (arith, plain_trains l (omega (arith, h))) in
      record {
        screen = omega (arith, plain_kind l t s, e.screen);
        digits = (framed_digits (plain_line l) (plain_framed l t s), framed_digits (plain_line k) (plain_framed k u v));
        long = omega (arith, plain_length l t s, plain_length k u v, e.long);
        front = subst (λ (m : ℕ). take m (plain_line l) ≡ take m (plain_line k)) (sym ends)
            (plain_front l (choices_end l) (omega arith) h
            ∙ ap₂ (λ (m : ℕ) (p : List ℕ). with_kind (m - radio_added) p) other_kind e.front
            ∙ sym (plain_front k (choices_end l) (omega arith) (omega (arith, h, e.long))));
      }

  module _ (b : List ℤ) (room : ℕ) where
    no_forms : is_radio l ≡ false → line_answer l b room ≡ form_answer k b room
    no_forms n =
        let none : new_kind (kind_of l) ≡ Err NoKind = ap new_kind e.screen ∙ screen_number in
        no_kind l b room NoKind none
        ∙ ap (λ (v : Verdict). fitted room b (declined b (refused_as v NoKind))) frames
        ∙ sym (form_plain k b room (sym both_forms ∙ n) ∙ no_kind k b room NoKind (ap new_kind (sym other_kind) ∙ none))

    right_forms : is_radio l ≡ true → byte_sum l ≡ 0 → by_radio (line_answer (plain_line l) b (room - 2 * sum_width)) ≡ form_answer k b room
    right_forms t s =
        let u : is_radio k ≡ true = sym both_forms ∙ t in
        let v : byte_sum k ≡ 0 = eqb-true (byte_sum k) 0 (sym e.sums ∙ eq-eqb (byte_sum l) 0 s) in
        dite (dec_lt (length l) (choices_end l + 2 * sum_width))
        (λ (h : length l < choices_end l + 2 * sum_width).
        let whole : length l ≤ choices_end l = omega (arith, h, (framed_whole l (second t).frame.digits).even) in
        let same : l ≡ k = sym (take_all (choices_end l) l whole) ∙ e.front ∙ take_all (choices_end l) k (omega (arith, whole, e.long)) in
        sym (radio_right l b room t s) ∙ ap (λ (p : List ℕ). form_answer p b room) same)
        (λ n. ap by_radio (same_answer (plain_same t s u v (omega (arith, n))) b (room - 2 * sum_width)) ∙ sym (radio_right k b room u v))

    forms_alike : form_answer l b room ≡ form_answer k b room
    forms_alike =
        form_cases l b room (λ a. a ≡ form_answer k b room) no_forms right_forms
        (λ t n. sym (radio_wrong k b room (sym both_forms ∙ t) (λ v. n (eqb-true (byte_sum l) 0 (e.sums ∙ eq-eqb (byte_sum k) 0 v)))))

pub screens_apart : ScreensApart
screens_apart l k e b buffer = calls_alike l k b buffer (forms_alike e b (length buffer))
