-- A save straight after an accepted load gives that line back, and a saved line loads the same study on every well-formed block: what `saving` says of the texts, said of calls.
use mathlib.Core.Path.{◌≡◌, refl, ◌∙◌}
use mathlib.Core.Bool.{true, false}
use mathlib.Core.List.{List}
use Prim.Native.Nat.{ℕ, ◌≤◌}
use native.Mathlib.Omega.{arith}
use lib.IntN.{ℤ}
use lib.ListN.{length}
use borrow.Author.Tests.{le-ltb, lt-ltb}
use Rattle.theory.specs.Range.{pass}
use Rattle.tables.specs.WellFormed.{is_fresh, well_formed, Study}
use Rattle.tables.proofs.Study.{study_well_formed, study_not_fresh}
use Rattle.operations.specs.Load.{loaded_block}
use Rattle.operations.specs.Saved.{saved_numbers}
use Rattle.operations.proofs.Loaded.{load_study}
use Rattle.frames.specs.Digits.{digit, digit_of, byte_at}
use Rattle.frames.specs.Fields.{field, field_digits}
use Rattle.frames.specs.Frames.{all_digits, framed}
use Rattle.lines.specs.declared.kind.Kind.TheVariants as kind
use Rattle.lines.specs.declared.request.Request.TheVariants.{Save}
use Rattle.lines.specs.declared.request.Line.TheVariants.{Asked}
use Rattle.lines.specs.Kinds.{new_kind}
use Rattle.lines.proofs.KindNumbers.{number_kind}
use Rattle.lines.specs.Text.{load_digits}
use Rattle.kinds.specs.Load.{load_request}
use Rattle.decoding.specs.Numbers.{numbers_of}
use Rattle.decoding.proofs.LoadRange.{load_in_range}
use Rattle.kinds.specs.Lines.{study_line}
use Rattle.reader.specs.Reading.{kind_line, line_of}
use Rattle.reader.proofs.LineAccepted.{line_makes}
use Rattle.saving.proofs.Together.{save_framed, save_kind, save_again, save_study, save_as_loaded}
use Rattle.saving.proofs.SavedLines.{save_read, save_after_line}
use Rattle.replies.specs.Replies.{bound_reply, longest_fixed}
use Rattle.replies.proofs.Accepted.{bound_accepted}
use Rattle.requests.specs.Answer.{answered, saved, requested, fitted, line_answer}
use Rattle.requests.proofs.LineCases.{asked_line, fixed_line}
use Rattle.service.specs.Answer.{min_buffer, answer}
use Rattle.claims.specs.Saves.{save_line, SavesAs, SaveAfterLoad, LoadAfterSave}
use Rattle.claims.proofs.Asking.{asks_answered, accepted_call, accepted_asks}

-- ---- a save

pub save_asked : (b : List ℤ) → is_fresh b ≡ false → line_of save_line b ≡ Asked Save
unfolding save_line digit digit_of byte_at field field_digits all_digits framed pass new_kind study_line kind_line line_of
save_asked b e = rw e

module _ {b : List ℤ} (s : Study b) where
  -- in any room and buffer
  pub save_fitted : (room : ℕ) → line_answer save_line b room ≡ fitted room b (saved b)
  unfolding requested
  save_fitted room = asked_line save_line b room Save (save_asked b (study_not_fresh s))

  save_answer : (buffer : List ℕ) → min_buffer ≤ length buffer → answer save_line b buffer ≡ fitted (length buffer) b (saved b)
  save_answer d h =
      asks_answered save_line b d h (record { fits = omega (arith, h); right = study_well_formed s; asked = save_asked b (study_not_fresh s) }) ∙ save_fitted (length d)

  saves_as : {l : List ℕ} → load_digits (saved_numbers b) ≡ l → SavesAs b l
  saves_as e =
      record {
        given = λ d h k. save_answer d h ∙ rw (e, le-ltb (length d) _ k);
        late = λ d h k. save_answer d h ∙ rw (e, lt-ltb (length d) _ k);
      }

-- ---- straight after an accepted load

-- what a line that asks for a load is answered, in any room and buffer
pub load_given : (l : List ℕ) (b : List ℤ) (room : ℕ) → longest_fixed ≤ room → well_formed b ≡ true → line_of l b ≡ Asked (load_request l)
    → line_answer l b room ≡ answered (loaded_block (numbers_of l)) (bound_reply kind.Load (loaded_block (numbers_of l)))
unfolding requested
load_given l b room h right e = fixed_line l b room h right (load_request l) refl e

pub load_answer : (l : List ℕ) (b : List ℤ) (buffer : List ℕ) → min_buffer ≤ length buffer → well_formed b ≡ true → line_of l b ≡ Asked (load_request l)
    → answer l b buffer ≡ answered (loaded_block (numbers_of l)) (bound_reply kind.Load (loaded_block (numbers_of l)))
load_answer l b d h right e =
    let fits : longest_fixed ≤ length d = omega (arith, h) in
    asks_answered l b d h (record { fits = fits; right = right; asked = e }) ∙ load_given l b (length d) fits right e

-- the block of one has its study, and its line as the saved one
pub load_saved : (l : List ℕ) (b : List ℤ) → line_of l b ≡ Asked (load_request l)
    → Study (loaded_block (numbers_of l)) × (load_digits (saved_numbers (loaded_block (numbers_of l))) ≡ l)
load_saved l b e = (load_study (load_in_range l (line_makes l b (load_request l) e).1.1), save_after_line l b _ e)

pub save_after_load : SaveAfterLoad
save_after_load l b d known y =
    let a = accepted_asks l b d kind.Load known y in
    let s = load_saved l b a.asked in
    rw (load_answer l b d (accepted_call l b d y).0 a.right a.asked) (saves_as s.0 s.1)

-- ---- a load of a saved line

pub load_after_save : LoadAfterSave
load_after_save b s =
    let l = load_digits (saved_numbers b) in
    let whole : (c : List ℤ) (d : List ℕ) → well_formed c ≡ true → min_buffer ≤ length d
    → answer l c d ≡ answered (loaded_block (numbers_of l)) (bound_reply kind.Load (loaded_block (numbers_of l))) = λ c d right h. load_answer l c d h right (save_read s c) in
    let f = save_framed s in
    record {
      line = l;
      saved = saves_as s refl;
      kind = rw (save_kind s) (number_kind kind.Load);
      frame = record { digits = f.digits; whole = refl; short = f.short };
      taken = λ c d right h. rw (whole c d right h) (bound_accepted kind.Load (loaded_block (numbers_of l)));
      study = λ c d right h. rw (whole c d right h) (save_study s);
      same = λ c d right h. rw (whole c d right h) (save_again s);
      loaded = λ c d right h. rw (whole c d right h) (save_as_loaded s);
    }
