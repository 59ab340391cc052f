-- How an operation is judged: 'Only the end is judged', with what is forbidden put back.
use Rattle.std.specs.Prelude.{List, [], ◌∷◌, ℤ, pos, negsuc}
use Rattle.refusals.specs.declared.Refusal.TheVariants.{PartsOutside}
use Rattle.refusals.specs.Verdicts.{Verdict, settled, unless}
use Rattle.tables.specs.WellFormed.{holds_study}

-- the new number, or the old one where that is below 0
abbrev pub kept_number : ℤ → ℤ → ℤ
kept_number (pos m) z = z
kept_number (negsuc m) z = negsuc m

-- 'Forbidden entries stay so': where an operation ends is the moves' end, with the old number wherever that is below 0
unfoldable pub kept : List ℤ → List ℤ → List ℤ
kept [] new = new
kept (x ∷ old) [] = []
kept (x ∷ old) (y ∷ new) = kept_number x y ∷ kept old new

-- 12: 'c0 or an entry would end below 0 or above L', where the moves from `old` end at `new`
abbrev pub judged : List ℤ → List ℤ → Verdict
judged old new = unless (holds_study (kept old new)) PartsOutside

-- the block afterwards: a declined operation leaves the old one
abbrev pub judged_block : List ℤ → List ℤ → List ℤ
judged_block old new = settled (judged old new) old (kept old new)
