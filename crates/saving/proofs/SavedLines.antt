-- Load lines as the reader sees them: one of numbers in range, as a saved line, asks for a load on every block, and an accepted load line is the line that a save gives back. Framed, of kind 01 and judged fine is all that the reader asks.
use mathlib.Core.Path.{◌≡◌}
use mathlib.Core.List.{List}
use Prim.Native.Nat.{ℕ}
use lib.IntN.{ℤ}
use lib.ListN.{length}
use borrow.Author.Tests.{le-ltb}
use Rattle.tables.specs.Numbers.{Numbers, InRange}
use Rattle.tables.specs.WellFormed.{Study}
use Rattle.operations.specs.Load.{loaded_block}
use Rattle.operations.specs.Saved.{saved_numbers}
use Rattle.numbers.proofs.Saved.{saved_range}
use Rattle.frames.specs.Frames.{max_characters}
use Rattle.lines.specs.declared.kind.Kind.TheVariants as kind
use Rattle.lines.specs.declared.request.Line.TheVariants.{Asked}
use Rattle.lines.specs.declared.request.Load.{Load as LoadFields}
use Rattle.lines.specs.declared.request.Request.TheVariants.{Load}
use Rattle.lines.specs.Text.{load_digits}
use Rattle.lines.proofs.KindNumbers.{number_kind}
use Rattle.kinds.specs.Lines.{study_line}
use Rattle.kinds.specs.Load.{load_request}
use Rattle.decoding.specs.Numbers.{numbers_of}
use Rattle.decoding.proofs.Written.{load_kind, load_judged}
use Rattle.decoding.proofs.Size.{load_framed}
use Rattle.reader.specs.Reading.{kind_line, line_of}
use Rattle.reader.proofs.LineAccepted.{line_makes}
use Rattle.reader.proofs.LineKind.{line_kind}
use Rattle.saving.proofs.Together.{save_after_load}

-- every block takes a load line of numbers in range
pub load_read : {x : Numbers} → InRange x → (c : List ℤ) → line_of (load_digits x) c ≡ Asked (load_request (load_digits x))
unfolding line_of kind_line study_line
load_read {x} r c = rw (le-ltb max_characters (length (load_digits x)) (load_framed r).short, (load_framed r).digits, load_kind x, number_kind kind.Load, load_judged r)

-- a saved line too
pub save_read : {b : List ℤ} → Study b → (c : List ℤ) → line_of (load_digits (saved_numbers b)) c ≡ Asked (load_request (load_digits (saved_numbers b)))
save_read s c = load_read (saved_range s) c

-- straight after an accepted line of kind 01, a save gives that very line
pub save_after_line : (l : List ℕ) (c : List ℤ) (q : LoadFields) → line_of l c ≡ Asked (Load q) → load_digits (saved_numbers (loaded_block (numbers_of l))) ≡ l
save_after_line l c q e =
    let m = line_makes l c (Load q) e in
    save_after_load l m.0.digits (line_kind l c (Load q) e) m.1.1
