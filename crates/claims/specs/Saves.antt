-- Document 02, change 1: a saved line and a load, of every well-formed block, also of one that no line has made. Nothing else stands in this file; proofs/Saves.antt proves both statements.
use Rattle.std.specs.Prelude.{◌≡◌, true, List, [], ℕ, ◌<◌, ◌≤◌, ℤ, length, Ok}
use Rattle.tables.specs.WellFormed.{well_formed, Study}
use Rattle.operations.specs.Saved.{SameLoaded, AsLoaded}
use Rattle.frames.specs.Digits.{bytes}
use Rattle.frames.specs.Fields.{field_digits}
use Rattle.frames.specs.Frames.{Framed}
use Rattle.lines.specs.declared.kind.Kind.TheVariants.{Load, Save}
use Rattle.lines.specs.Kinds.{kind_number, new_kind}
use Rattle.lines.specs.Layout.{kind_width, kind_of}
use Rattle.replies.specs.Shown.{accepted}
use Rattle.requests.specs.Answer.{answered}
use Rattle.service.specs.Answer.{min_buffer, answer}

-- 'Kind 07, with no fields'
unfoldable pub save_line : List ℕ
save_line = field_digits kind_width (kind_number Save) []

-- a save of the block b gives the line l in every buffer of 72 bytes or more that holds it, in a shorter one of 72 or more nothing, and leaves the block
pub record SavesAs (b : List ℤ) (l : List ℕ) : Type 0 where
  pub given : (buffer : List ℕ) → min_buffer ≤ length buffer → length l ≤ length buffer → answer save_line b buffer ≡ answered b l
  pub late : (buffer : List ℕ) → min_buffer ≤ length buffer → length buffer < length l → answer save_line b buffer ≡ answered b []

-- 'Saving straight after any accepted line of kind 01 gives back that line'
abbrev pub SaveAfterLoad : Type 0
SaveAfterLoad = (l : List ℕ) (b : List ℤ) (buffer : List ℕ) → new_kind (kind_of l) ≡ Ok Load → accepted (answer l b buffer).reply ≡ true → SavesAs (answer l b buffer).block l

-- 'Loading that line gives the same n, s, sizes, pairs and H': the saved line of a block that holds a study, and what every well-formed block becomes by it
pub record LoadsAgain (b : List ℤ) : Type 0 where
  pub line : List ℕ
  pub saved : SavesAs b line
  -- 'answers with a load line', which is not 'over 19,834 characters'
  pub kind : new_kind (kind_of line) ≡ Ok Load
  pub frame : Framed line (bytes line)
  -- every well-formed block accepts it, and then holds a study: no number but that of a forbidden entry is below 0, and every unused place is 0
  pub taken : (c : List ℤ) (buffer : List ℕ) → well_formed c ≡ true → min_buffer ≤ length buffer → accepted (answer line c buffer).reply ≡ true
  pub study : (c : List ℤ) (buffer : List ℕ) → well_formed c ≡ true → min_buffer ≤ length buffer → Study (answer line c buffer).block
  pub same : (c : List ℤ) (buffer : List ℕ) → well_formed c ≡ true → min_buffer ≤ length buffer → SameLoaded b (answer line c buffer).block
  -- 'T becomes s × H, c0 becomes 0'
  pub loaded : (c : List ℤ) (buffer : List ℕ) → well_formed c ≡ true → min_buffer ≤ length buffer → AsLoaded (answer line c buffer).block

-- of every block that holds a study
abbrev pub LoadAfterSave : Type 0
LoadAfterSave = (b : List ℤ) → Study b → LoadsAgain b
