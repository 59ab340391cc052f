-- What follows from each statement about lines over train radio (specs/Radio.antt), on lines of document 01's J by radio: what the answers are, and wrong replies that the statement excludes, which is the
-- premise of each law here.
use mathlib.Core.Path.{◌≡◌, refl, ap}
use mathlib.Core.Bool.{true, false}
use mathlib.Core.List.{List}
use mathlib.Core.Logic.{inl}
use Prim.Native.Nat.{ℕ, ◌+◌, ◌*◌, ◌≤◌}
use Prim.Native.String.{String}
use native.Mathlib.Omega.{arith}
use lib.IntN.{ℤ}
use lib.ListN.{length}
use Rattle.theory.specs.Lists.{nth}
use Rattle.theory.specs.Range.{pass}
use Rattle.theory.specs.Sum.{sum}
use Rattle.theory.proofs.Range.{not_both}
use Rattle.tables.specs.WellFormed.{well_formed}
use Rattle.frames.specs.ByteSum.{byte_sum}
use Rattle.frames.specs.Digits.{digit, digit_of, byte_at}
use Rattle.frames.specs.Fields.{field, field_digits}
use Rattle.frames.specs.Frames.{max_characters, all_digits, framed}
use Rattle.frames.specs.Text.{codes}
use Rattle.lines.specs.declared.kind.Kind.TheVariants.{Dearest}
use Rattle.lines.specs.Kinds.{kind_number, new_kind}
use Rattle.lines.specs.Layout.{kind_of}
use Rattle.replies.specs.Shown.{accepted}
use Rattle.radio.specs.Forms.{sum_width, radio_line, plain_line, is_radio, plain_reply}
use Rattle.service.specs.Answer.{min_buffer, answer}
use Rattle.claims.specs.Radio.{AnswersAs, AnswersAsPlain, SumRule, EveryKind, ScreensApart, LeavesBlock, RepliesLoad, SaveByRadio, RecordByRadio}
use Rattle.claims.specs.Saves.{save_line}

-- the characters of a line or a reply, to be computed: whoever opens this name opens each definition of its two forms
unfoldable sent : String → List ℕ
unfolding codes digit digit_of byte_at field field_digits sum pass all_digits framed new_kind byte_sum is_radio plain_line plain_reply radio_line save_line accepted
sent l = codes l

-- J, the load
unfoldable j_line : String
j_line = "010200010202000002000000000000000000010001000001000000000003000002"

unfoldable j_by_radio : String
j_by_radio = "410200010202000002000000000000000000010001000001000000000003000002AE"

-- ---- as its plain form

module _ (answers : AnswersAsPlain) (b : List ℤ) (right : well_formed b ≡ true) (buffer shorter : List ℕ) (h : min_buffer ≤ length shorter) (long : length buffer ≡ length shorter + 2 * sum_width) where
  tighten_as_plain : AnswersAs (answer (sent "44BC") b buffer) (answer (sent "04") b shorter)
  unfolding sent
  tighten_as_plain = answers (sent "44BC") b buffer shorter (record { second = refl; sum = refl }) right h long

  -- the block is tightened as by 04
  same_block : (answer (sent "44BC") b buffer).block ≡ (answer (sent "04") b shorter).block
  same_block = tighten_as_plain.block

  -- and no other bound is answered, though the sum be right
  other_reply : (answer (sent "04") b shorter).reply ≡ sent "84000000000002000000000002" → (answer (sent "44BC") b buffer).reply ≡ sent "C400000000000200000000000337" → ⊥
  unfolding sent
  other_reply e f =
      let d : sent "84000000000002000000000003" ≡ sent "84000000000002000000000002" = rw (e, f) at tighten_as_plain.reply in
      let z : ◌≡◌ {A = ℕ} 51 50 = ap (λ (r : List ℕ). nth r 25) d in
      omega arith

-- ---- sums

-- 25 has its own: E8
wrong_reply : SumRule → (b : List ℤ) (buffer : List ℕ) → well_formed b ≡ true → (answer (sent "44") b buffer).reply ≡ sent "FF19" → ⊥
unfolding sent
wrong_reply rule b buffer right e = let z : ◌≡◌ {A = ℕ} 24 0 = rw e at (rule (sent "44") b buffer refl right) in omega arith

-- the last of the kinds has a second form, in all its lengths
has_form : EveryKind → (l : List ℕ) → framed l ≡ true → kind_of l ≡ kind_number Dearest → length l + 2 * sum_width ≤ max_characters → is_radio (radio_line l) ≡ false → ⊥
has_form every l f e h n = not_both (every Dearest l f e h).0.second n

-- document 02's line of 4C, its plan written with a bound and a cost and with none, is answered alike
other_figures_by_radio : ScreensApart → (b : List ℤ) (buffer : List ℕ) → answer (sent "4C020001000000000002000000000002AD") b buffer ≡ answer (sent "4C02000100000000000000000000FFFFB3") b buffer
unfolding sent
other_figures_by_radio apart = apart _ _ (record { screen = refl; digits = (refl, refl); long = refl; front = refl; sums = refl })

-- ---- blocks

-- a search and the dearest study of two trains leave the block, in either form
leaves_by_radio : LeavesBlock → (b : List ℤ) (buffer : List ℕ) → ((answer (sent "460000000AB0") b buffer).block ≡ b) × ((answer (sent "0F020202") b buffer).block ≡ b)
unfolding sent
leaves_by_radio leaves b buffer = (leaves (sent "460000000AB0") b buffer refl, leaves (sent "0F020202") b buffer refl)

-- ---- back by radio

-- a save by radio is not answered with the plain line
plain_saved : RepliesLoad → (b : List ℤ) (buffer : List ℕ) → (answer (sent "47B9") b buffer).reply ≡ sent j_line → ⊥
unfolding sent j_line
plain_saved loads b buffer e = let z : ◌≡◌ {A = ℕ} 1 65 = rw e at (loads (sent "47B9") b buffer (inl refl) (rw e refl)).load in omega arith

-- but straight after J by radio with that line
saved_by_radio : SaveByRadio → (b : List ℤ) (buffer again : List ℕ) → accepted (answer (sent j_by_radio) b buffer).reply ≡ true → min_buffer ≤ length again
    → (answer (sent "47B9") (answer (sent j_by_radio) b buffer).block again).reply ≡ sent j_by_radio
unfolding sent j_by_radio
saved_by_radio saves b buffer again y h = rw ((saves (sent j_by_radio) b buffer refl y).given again h (omega (arith, h))) refl

-- the record of a plan that is written by radio is not declined for its figures
recorded_by_radio : RecordByRadio → (b : List ℤ) (buffer : List ℕ) → (answer (sent "4E0001B1") b buffer).reply ≡ sent "CE0200010000000000020000000000022B"
    → (answer (sent "4D020001000000000002000000000002AC") (answer (sent "4E0001B1") b buffer).block buffer).reply ≡ sent "FF17EA" → ⊥
unfolding sent
recorded_by_radio taken b buffer e f =
    let t = rw e at (taken (sent "4E0001B1") b buffer refl (rw e refl) buffer (omega arith)) in
    let d : sent "FF17" ≡ sent "8D020001000000000002000000000002" = rw f at t.planner in
    let z : ◌≡◌ {A = ℕ} 70 56 = ap (λ (r : List ℕ). nth r 0) d in
    omega arith
