-- Document 01, 'Lines' and 'What is declined': what a line asks, or the first reason to decline it.
use Rattle.std.specs.Prelude.{List, ℕ, ℤ, Result, Ok, Err}
use Rattle.refusals.specs.declared.Refusal.{Refusal}
use Rattle.refusals.specs.Verdicts.{Verdict}
use Rattle.frames.specs.Frames.{new_frame}
use Rattle.lines.specs.declared.kind.Kind.{Kind}
use Rattle.lines.specs.declared.request.Line.{Line}
use Rattle.lines.specs.declared.request.Line.TheVariants.{Refused}
use Rattle.lines.specs.Kinds.{new_kind}
use Rattle.lines.specs.Layout.{kind_of}
use Rattle.kinds.specs.Lines.{study_line}

-- 3: 'no such kind'
abbrev pub new_kind_line : Result Kind Refusal → List ℕ → List ℤ → Line
new_kind_line (Ok k) l b = study_line k l b
new_kind_line (Err r) l b = Refused r

unfoldable pub kind_line : List ℕ → List ℤ → Line
kind_line l b = new_kind_line (new_kind (kind_of l)) l b

-- 'Order: .. 2, 1, 3, 4. Then fields from left to right'
abbrev pub framed_line : Verdict → List ℕ → List ℤ → Line
framed_line (Ok _) l b = kind_line l b
framed_line (Err r) l b = Refused r

unfoldable pub line_of : List ℕ → List ℤ → Line
line_of l b = framed_line (new_frame l) l b
