-- Document 02, change 8: why a choice is out, at a limit. All costs are those of a shape and its costs (c0 and T, in parts); `limit` is in parts too, but for `reason_at`.
use Rattle.std.specs.Prelude.{Bool, true, cond, not, ◌&&◌, ◌||◌, List, ℕ, ◌+◌, ◌*◌, leb, eqb, ℤ, Option, Some, None}
use Rattle.units.specs.declared.Parts.{Parts}
use Rattle.units.specs.Units.{number_of_parts}
use Rattle.tables.specs.Block.{scale}
use Rattle.tables.specs.Plans.{Shape, Costs, shape_of, held_costs}
use Rattle.rewriting.specs.declared.sides.Side.{Side}
use Rattle.rewriting.specs.declared.sides.Side.TheVariants.{Rows, Columns}
use Rattle.rewriting.specs.Leasts.{found_of}
use Rattle.reasons.specs.declared.Reason.{Reason}
use Rattle.reasons.specs.declared.Reason.TheVariants.{Neither, Own, Partner}
use Rattle.theory.specs.First.{first_passing}

-- ---- 01

-- 'constant plus the choice's own cost'
abbrev pub own_cost : Costs → ℕ → ℕ → ℕ
own_cost t i a = t.constant + t.choice i a

-- it 'reaches the limit .., or the choice is forbidden'
unfoldable pub own_reaches : Shape → Costs → ℕ → ℕ → ℕ → Bool
own_reaches s t i a limit = not (s.choice_open i a) || leb limit (own_cost t i a)

-- ---- 02

-- the partner of the side's train in pair k
abbrev pub partner_train : Shape → Side → ℕ → ℕ
partner_train s Rows k = s.second k
partner_train s Columns k = s.first k

-- the row and the column of a pair's table that choice a of the side's train and choice c of its partner have
abbrev pub row_of : Side → ℕ → ℕ → ℕ
row_of Rows a c = a
row_of Columns a c = c

abbrev pub column_of : Side → ℕ → ℕ → ℕ
column_of Rows a c = c
column_of Columns a c = a

-- 'where both are permitted': the partner's choice and the pair's entry
abbrev pub both_open : Shape → Side → ℕ → ℕ → ℕ → Bool
both_open s side k a c = s.choice_open (partner_train s side k) c && s.entry_open k (row_of side a c) (column_of side a c)

-- 'pair cost plus partner's cost'
abbrev pub partner_cost : Shape → Costs → Side → ℕ → ℕ → ℕ → ℕ
partner_cost s t side k a c = t.pair k (row_of side a c) (column_of side a c) + t.choice (partner_train s side k) c

-- 'the least of pair cost plus partner's cost, over partner choices where both are permitted', if there is one
abbrev pub partner_found : Shape → Costs → Side → ℕ → ℕ → Option Parts
partner_found s t side k a = found_of (s.size (partner_train s side k)) (both_open s side k a) (partner_cost s t side k a)

-- 'adding the least .. reaches it, or there is no such partner choice'
abbrev pub added_reaches : ℕ → ℕ → Option Parts → Bool
added_reaches own limit (Some p) = leb limit (own + number_of_parts p)
added_reaches own limit None = true

-- so it is of pair k, whose train i of a side takes choice a
unfoldable pub pair_reaches : Shape → Costs → Side → ℕ → ℕ → ℕ → ℕ → Bool
pair_reaches s t side k i a limit = added_reaches (own_cost t i a) limit (partner_found s t side k a)

-- pair k has train i, and reaches the limit with its choice a
unfoldable pub out_by : Shape → Costs → ℕ → ℕ → ℕ → ℕ → Bool
out_by s t i a limit k = (eqb (s.first k) i && pair_reaches s t Rows k i a limit) || (eqb (s.second k) i && pair_reaches s t Columns k i a limit)

-- the partner of train i in pair k
abbrev pub partner_in : Shape → ℕ → ℕ → ℕ
partner_in s i k = cond (eqb (s.first k) i) (s.second k) (s.first k)

-- ---- the reason

-- 'the partner in the first such pair in order is named'
abbrev pub named : Shape → ℕ → Option ℕ → Reason
named s i (Some k) = Partner (partner_in s i k)
named s i None = Neither

-- '00 means neither; 01 goes before 02'
unfoldable pub reason_of : Shape → Costs → ℕ → ℕ → ℕ → Reason
reason_of s t i a limit = cond (own_reaches s t i a limit) Own (named s i (first_passing s.pairs (out_by s t i a limit)))

-- 'judged in parts, against s × limit': the reason of a block's choice, at a limit in points
abbrev pub reason_at : List ℤ → ℕ → ℕ → ℕ → Reason
reason_at b i a limit = reason_of (shape_of b) (held_costs b) i a (scale b * limit)

-- 'The reply is 8A, reason, train, the last FF unless 02'
abbrev pub no_partner : ℕ
no_partner = 255

abbrev pub reason_number : Reason → ℕ
reason_number Neither = 0
reason_number Own = 1
reason_number (Partner j) = 2

abbrev pub reason_train : Reason → ℕ
reason_train Neither = no_partner
reason_train Own = no_partner
reason_train (Partner j) = j
