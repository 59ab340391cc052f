-- Document 01, 'Lines': the kinds of lines, their numbers, and which of them need a loaded study.
use Rattle.std.specs.Prelude.{Bool, true, false, cond, List, [], ◌∷◌, ℕ, eqb, Result, Ok, Err}
use Rattle.refusals.specs.declared.Refusal.{Refusal}
use Rattle.refusals.specs.declared.Refusal.TheVariants.{NoKind}
use Rattle.lines.specs.declared.kind.Kind.{Kind}
use Rattle.lines.specs.declared.kind.Kind.TheVariants as kind
use Rattle.lines.specs.declared.request.Request.{Request}
use Rattle.lines.specs.declared.request.Request.TheVariants.{Load, Add, Shift, Tighten, Certify, Search, Save, Round, Clauses, Explain, Order, Screen, Planner, Record, Dearest}

-- '01 load', '02 add', '03 shift', '04 tighten', '05 certify', '06 search'; document 02: 'Kind 07', a save, 'Kind 08', a directional round, 'Kind 09', a study written as clauses, 'Kind 0A', why a choice is out, 'Kind 0B', the order of the trains, 'Kind 0E', which writes a plan record, 'Kind 0C', which 'reads one for screens', and 'Kind 0D', which 'reads one for planners', 'Kind 0F', the dearest study of given sizes
abbrev pub kind_number : Kind → ℕ
kind_number kind.Load = 1
kind_number kind.Add = 2
kind_number kind.Shift = 3
kind_number kind.Tighten = 4
kind_number kind.Certify = 5
kind_number kind.Search = 6
kind_number kind.Save = 7
kind_number kind.Round = 8
kind_number kind.Clauses = 9
kind_number kind.Explain = 10
kind_number kind.Order = 11
kind_number kind.Screen = 12
kind_number kind.Planner = 13
kind_number kind.Record = 14
kind_number kind.Dearest = 15

-- this kind where the number is its own
abbrev pub kind_if : Kind → ℕ → Result Kind Refusal → Result Kind Refusal
kind_if k n other = cond (eqb n (kind_number k)) (Ok k) other

-- the kinds that there are
abbrev pub all_kinds : List Kind
all_kinds =
    kind.Load
    ∷ kind.Add
    ∷ kind.Shift
    ∷ kind.Tighten
    ∷ kind.Certify
    ∷ kind.Search
    ∷ kind.Save
    ∷ kind.Round
    ∷ kind.Clauses
    ∷ kind.Explain
    ∷ kind.Order
    ∷ kind.Screen
    ∷ kind.Planner
    ∷ kind.Record
    ∷ kind.Dearest
    ∷ []

-- the kind of these that has this number, or 3 where none has
abbrev pub kind_among : List Kind → ℕ → Result Kind Refusal
kind_among [] n = Err NoKind
kind_among (k ∷ kinds) n = kind_if k n (kind_among kinds n)

-- 'The first byte is the kind': the kind of this number, or 3 where there is none
unfoldable pub new_kind : ℕ → Result Kind Refusal
new_kind n = kind_among all_kinds n

-- 4: 'kinds 02-06 on a fresh block', 07, 08 and 0A to 0E; 09 loads, and of 0F: 'Of the block only 16 is judged'
abbrev pub needs_study : Kind → Bool
needs_study kind.Load = false
needs_study kind.Add = true
needs_study kind.Shift = true
needs_study kind.Tighten = true
needs_study kind.Certify = true
needs_study kind.Search = true
needs_study kind.Save = true
needs_study kind.Round = true
needs_study kind.Clauses = false
needs_study kind.Explain = true
needs_study kind.Order = true
needs_study kind.Screen = true
needs_study kind.Planner = true
needs_study kind.Record = true
needs_study kind.Dearest = false

-- the kind of a request
abbrev pub request_kind : Request → Kind
request_kind (Load q) = kind.Load
request_kind (Add q) = kind.Add
request_kind (Shift q) = kind.Shift
request_kind Tighten = kind.Tighten
request_kind (Certify q) = kind.Certify
request_kind (Search q) = kind.Search
request_kind Save = kind.Save
request_kind Round = kind.Round
request_kind (Clauses q) = kind.Clauses
request_kind (Explain q) = kind.Explain
request_kind (Order q) = kind.Order
request_kind (Screen q) = kind.Screen
request_kind (Planner q) = kind.Planner
request_kind (Record q) = kind.Record
request_kind (Dearest q) = kind.Dearest
