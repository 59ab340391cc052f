-- What is answered by radio goes back by radio: the reply to an accepted 47 or 4F line is the second form of a load line of numbers in range, which every well-formed block takes; and straight after an accepted
-- 41 line a 47 line is answered with that very line, as its plain form is the saved line.
use mathlib.Core.Path.{◌≡◌, refl, sym, ap, subst, ◌∙◌}
use mathlib.Core.Bool.{true}
use mathlib.Core.List.{List, []}
use mathlib.Core.Logic.{◌⊎◌, inl, inr}
use Prim.Native.Nat.{ℕ, ◌+◌, ◌*◌, ◌<◌, ◌≤◌}
use native.Mathlib.Omega.{arith}
use lib.IntN.{ℤ}
use lib.ListN.{length}
use borrow.Author.Tests.{le-ltb, lt-ltb}
use Rattle.tables.specs.Numbers.{Numbers, InRange}
use Rattle.tables.specs.WellFormed.{well_formed, Study}
use Rattle.tables.proofs.Study.{study_well_formed, study_not_fresh}
use Rattle.dearest.proofs.Loaded.{dearest_in_range}
use Rattle.operations.specs.Load.{loaded_block}
use Rattle.operations.specs.Saved.{saved_numbers}
use Rattle.numbers.proofs.Saved.{saved_range}
use Rattle.frames.specs.Frames.{max_characters, framed}
use Rattle.frames.proofs.Bytes.{framed_whole}
use Rattle.frames.proofs.RoundTrip.{digits-length}
use Rattle.lines.specs.declared.kind.Kind.TheVariants.{Load, Save, Dearest}
use Rattle.lines.specs.declared.request.Request.TheVariants.{Save as save_request}
use Rattle.lines.specs.Kinds.{kind_number}
use Rattle.lines.specs.Layout.{kind_width, kind_of}
use Rattle.lines.specs.Text.{load_digits}
use Rattle.decoding.specs.Numbers.{numbers_of}
use Rattle.decoding.proofs.Size.{load_longest, load_framed}
use Rattle.decoding.proofs.Written.{load_kind}
use Rattle.reader.proofs.LineAccepted.{line_makes}
use Rattle.reader.proofs.LineKind.{line_kind}
use Rattle.saving.proofs.SavedLines.{load_read}
use Rattle.replies.specs.Shown.{accepted}
use Rattle.replies.proofs.Accepted.{bound_accepted}
use Rattle.replies.proofs.Begins.{bound_begins}
use Rattle.requests.specs.Answer.{Answer, answered, saved, requested, fitted, line_answer}
use Rattle.requests.proofs.DearestLine.{dearest_accepted_line}
use Rattle.requests.proofs.LineCases.{accepted_line}
use Rattle.requests.proofs.Ready.{study_ready}
use Rattle.radio.specs.Answer.{by_radio}
use Rattle.radio.specs.Forms.{radio_added, sum_width, radio_line, plain_line, radio_reply}
use Rattle.radio.proofs.Forms.{right_long, plain_length, plain_kind}
use Rattle.radio.proofs.Lines.{radio_line_kind, line_back}
use Rattle.radio.proofs.Replies.{empty_reply, reply_is_line, reply_accepted}
use Rattle.service.specs.Answer.{min_buffer, answer}
use Rattle.claims.specs.Radio.{radio_number, RightRadio, LoadsByRadio, RepliesLoad, SavesByRadio, SaveByRadio}
use Rattle.claims.specs.Saves.{save_line}
use Rattle.claims.proofs.Radio.{radio_room, radio_fits, every_kind, radio_called, RadioCall, accepted_by_radio, radio_asks}
use Rattle.claims.proofs.Saves.{save_asked, save_fitted, load_given, load_saved}

-- ---- a load line, put into the second form

-- it begins with 01
text_line : (l : List ℕ) → 0 < length l → kind_of l ≡ kind_number Load → radio_reply l ≡ radio_line l
text_line l h known = reply_is_line l h (λ e. omega (arith, e, known))

module _ {x : Numbers} (r : InRange x) where
  abbrev text : List ℕ
  text = load_digits x

  framed_text : framed text ≡ true
  framed_text = (load_framed r).digits

  text_some : 2 * kind_width ≤ length text
  text_some = omega (arith, (framed_whole text framed_text).even, (framed_whole text framed_text).some)

  text_short : length text + 2 * sum_width ≤ max_characters
  text_short = omega (arith, load_longest r)

  -- every well-formed block takes it
  taken_by_radio : (b : List ℤ) (buffer : List ℕ) → well_formed b ≡ true → min_buffer ≤ length buffer → accepted (answer (radio_line text) b buffer).reply ≡ true
  taken_by_radio b buffer right h =
      let c = loaded_block (numbers_of text) in
      rw (radio_called Load text b buffer framed_text (load_kind x) text_short h right, load_given text b (radio_room buffer) (radio_fits buffer h) right (load_read r b))
      (reply_accepted (bound_begins Load c) ∙ bound_accepted Load c)

  text_by_radio : LoadsByRadio (radio_reply text)
  text_by_radio =
      subst LoadsByRadio (sym (text_line text (omega (arith, text_some)) (load_kind x)))
      (record {
        right = (every_kind Load text framed_text (load_kind x) text_short).0;
        load = radio_line_kind text text_some (omega (arith, load_kind x)) ∙ ap (λ (n : ℕ). n + radio_added) (load_kind x);
        taken = taken_by_radio;
      })

-- a reply that is one
record LoadLine (r : List ℕ) : Type 0 where
  numbers : Numbers
  range : InRange numbers
  is : r ≡ load_digits numbers

module _ (l : List ℕ) (b : List ℤ) (buffer : List ℕ) where
  save_line_of : RadioCall Save l b buffer → LoadLine (line_answer (plain_line l) b (radio_room buffer)).reply
  unfolding requested
  save_line_of w =
      let a = radio_asks w in
      let given = accepted_line (plain_line l) b (radio_room buffer) w.accepted_plain save_request a.asked in
      record { numbers = saved_numbers b; range = saved_range (study_ready a refl); is = ap (λ (x : Answer). x.reply) given.1 }

  dearest_line_of : RadioCall Dearest l b buffer → LoadLine (line_answer (plain_line l) b (radio_room buffer)).reply
  dearest_line_of w =
      let given = dearest_accepted_line (plain_line l) b (radio_room buffer) w.accepted_plain (radio_asks w) in
      record { numbers = _; range = dearest_in_range given.right; is = ap (λ (x : Answer). x.reply) given.is }

  back_by_radio : (answer l b buffer ≡ by_radio (line_answer (plain_line l) b (radio_room buffer))) → LoadLine (line_answer (plain_line l) b (radio_room buffer)).reply
      → LoadsByRadio (answer l b buffer).reply
  back_by_radio e t = subst LoadsByRadio (sym (ap (λ (x : Answer). x.reply) e ∙ ap radio_reply t.is)) (text_by_radio t.range)

pub replies_load : RepliesLoad
replies_load l b buffer known y = go known
  where
    go : (kind_of l ≡ radio_number Save) ⊎ (kind_of l ≡ radio_number Dearest) → LoadsByRadio (answer l b buffer).reply
    go (inl e) = let w = accepted_by_radio Save l b buffer e y in back_by_radio l b buffer w.is (save_line_of l b buffer w)
    go (inr e) = let w = accepted_by_radio Dearest l b buffer e y in back_by_radio l b buffer w.is (dearest_line_of l b buffer w)

-- ---- a save by radio

module _ {b : List ℤ} (s : Study b) where
  save_frame : framed save_line ≡ true
  save_frame = (line_makes save_line b save_request (save_asked b (study_not_fresh s))).0.digits

  save_length : length save_line ≡ 2 * kind_width
  unfolding save_line
  save_length = digits-length kind_width (kind_number Save) []

  -- is the plain one put into the second form
  save_by_radio_is : (buffer : List ℕ) → min_buffer ≤ length buffer → answer (radio_line save_line) b buffer ≡ by_radio (fitted (radio_room buffer) b (saved b))
  save_by_radio_is d h =
      let known : kind_of save_line ≡ kind_number Save = line_kind save_line b save_request (save_asked b (study_not_fresh s)) in
      radio_called Save save_line b d save_frame known (omega (arith, save_length)) h (study_well_formed s) ∙ ap by_radio (save_fitted s (radio_room d))

  saves_by_radio : {l : List ℕ} → RightRadio l → kind_of l ≡ radio_number Load → load_digits (saved_numbers b) ≡ plain_line l → SavesByRadio b l
  saves_by_radio {l} r known e =
      let p = plain_line l in
      let long = plain_length l r.second r.sum in
      let some = right_long l r.second r.sum in
      let back : radio_reply p ≡ l = text_line p (omega (arith, long, some)) (omega (arith, plain_kind l r.second r.sum, known)) ∙ line_back l r.second r.sum in
      record {
        given = λ d h k. save_by_radio_is d h ∙ rw (e, le-ltb (radio_room d) (length p) (omega (arith, long, k, h))) (ap (answered b) back);
        late = λ d h k. save_by_radio_is d h ∙ rw (e, lt-ltb (radio_room d) (length p) (omega (arith, long, k, h))) (ap (answered b) empty_reply);
      }

pub save_by_radio : SaveByRadio
save_by_radio l b buffer known y =
    let w = accepted_by_radio Load l b buffer known y in
    let a = radio_asks w in
    let s = load_saved (plain_line l) b a.asked in
    rw (w.is, load_given (plain_line l) b (radio_room buffer) (radio_fits buffer w.large) w.right a.asked) (saves_by_radio s.0 w.form known s.1)
