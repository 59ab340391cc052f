-- Document 01, 'Lines': where the fields of each kind stand, in bytes from the line's beginning, and what they hold.
use Rattle.std.specs.Prelude.{List, ℕ, zero, suc, ◌+◌, ◌*◌, ◌-◌, ℤ}
use Rattle.theory.specs.Sum.{sum}
use Rattle.units.specs.Units.{scale_min, scale_max}
use Rattle.refusals.specs.declared.Refusal.{Refusal}
use Rattle.refusals.specs.declared.Refusal.TheVariants.{Fields, Range, Cost, Absent, Move, FullWeight, Budget}
use Rattle.tables.specs.Block.{max_trains, max_choices, max_pairs, max_cost}
use Rattle.tables.specs.LineLimits.{max_move, max_full_weight, max_budget, max_clauses}
use Rattle.frames.specs.Fields.{field, signed_field}
use Rattle.frames.specs.Runs.{run_of}
use Rattle.lines.specs.declared.field.Rule.{Rule}
use Rattle.lines.specs.declared.field.Rule.TheVariants.{Any, Between, Around, Priced}
use Rattle.lines.specs.declared.field.Field.{Field}

-- 'The first byte is the kind'
abbrev pub kind_width : ℕ
kind_width = 1

abbrev pub kind_of : List ℕ → ℕ
kind_of l = field l 0 kind_width

-- ---- fields

-- a field: the byte where it begins, how many bytes it has, what its number must be, and the refusal where it is not
abbrev pub field_as : ℕ → ℕ → Rule → Refusal → Field
field_as at width rule refusal = record { at = at; width = width; rule = rule; refusal = refusal }

-- the number that stands in a field
abbrev pub number_in : List ℕ → Field → ℕ
number_in l f = field l f.at f.width

-- the same, 'two's complement'
abbrev pub signed_in : List ℕ → Field → ℤ
signed_in l f = signed_field l f.at f.width

-- the byte behind a field, where the next one begins
abbrev pub end_of : Field → ℕ
end_of f = f.at + f.width

-- field k of a run that begins with this one
abbrev pub further : Field → ℕ → Field
further f k = field_as (f.at + f.width * k) f.width f.rule f.refusal

-- the numbers of a run of fields
abbrev pub numbers_in : List ℕ → Field → ℕ → List ℕ
numbers_in l f count = run_of l f.at f.width count

-- the same field, where its number must be below this count
abbrev pub below : Field → ℕ → Field
below f count = field_as f.at f.width (Between 0 (count - 1)) f.refusal

-- how many bytes a count or the number of a train or a choice, a scale, a cost, a lift or a move, W or a weight, a budget, and a figure in parts or points have: of a record, as of a reply
abbrev pub count_width : ℕ
count_width = 1

abbrev pub scale_width : ℕ
scale_width = 2

abbrev pub cost_width : ℕ
cost_width = 3

abbrev pub move_width : ℕ
move_width = 6

abbrev pub weight_width : ℕ
weight_width = 3

abbrev pub budget_width : ℕ
budget_width = 4

abbrev pub figure_width : ℕ
figure_width = 6

-- 7: 'cost .. over 1,000,000', but 'FFFFFF in a load means' forbidden
abbrev pub cost_field : ℕ → Field
cost_field at = field_as at cost_width Priced Cost

-- ---- 01 load: 'n (1 byte), s (2), sizes (1 each), choice costs by train then choice (3 each), m (1), then each pair'

-- 6: 'n, s, size or m outside the block's ranges'
abbrev pub trains_field : Field
trains_field = field_as kind_width count_width (Between 1 max_trains) Range

abbrev pub load_trains : List ℕ → ℕ
load_trains l = number_in l trains_field

abbrev pub scale_field : Field
scale_field = field_as (end_of trains_field) scale_width (Between scale_min scale_max) Range

abbrev pub load_scale : List ℕ → ℕ
load_scale l = number_in l scale_field

-- the first size, at byte `at`
abbrev pub size_field_at : ℕ → Field
size_field_at at = field_as at count_width (Between 1 max_choices) Range

abbrev pub size_field : Field
size_field = size_field_at (end_of scale_field)

abbrev pub load_size : List ℕ → ℕ → ℕ
load_size l i = number_in l (further size_field i)

abbrev pub choice_field : List ℕ → Field
choice_field l = cost_field (further size_field (load_trains l)).at

-- how many choice costs there are
abbrev pub choice_count : List ℕ → ℕ
choice_count l = sum (load_trains l) (load_size l)

abbrev pub pair_count_field : List ℕ → Field
pair_count_field l = field_as (further (choice_field l) (choice_count l)).at count_width (Between 0 max_pairs) Range

abbrev pub load_pairs : List ℕ → ℕ
load_pairs l = number_in l (pair_count_field l)

-- a pair whose fields begin at byte `at`: 'i, j (1 each), costs (3 each), a outer, b inner'; i and j are any numbers, judged 'after both'
abbrev pub train_field : ℕ → Field
train_field at = field_as at count_width Any Fields

abbrev pub first_field : ℕ → Field
first_field at = train_field at

abbrev pub second_field : ℕ → Field
second_field at = train_field (end_of (first_field at))

-- how many bytes i and j have together
abbrev pub pair_width : ℕ
pair_width = 2 * count_width

abbrev pub entry_field : ℕ → Field
entry_field at = cost_field (at + pair_width)

-- how many costs it has
abbrev pub entry_count : List ℕ → ℕ → ℕ
entry_count l at = load_size l (number_in l (first_field at)) * load_size l (number_in l (second_field at))

-- where pair k begins
unfoldable pub pair_at : List ℕ → ℕ → ℕ
pair_at l zero = end_of (pair_count_field l)
pair_at l (suc k) = (further (entry_field (pair_at l k)) (entry_count l (pair_at l k))).at

abbrev pub load_first : List ℕ → ℕ → ℕ
load_first l k = number_in l (first_field (pair_at l k))

abbrev pub load_second : List ℕ → ℕ → ℕ
load_second l k = number_in l (second_field (pair_at l k))

-- ---- 02 add: 'train, choice (1 each), points (3)'

-- 9: 'train or choice absent'; the block decides how many there are
abbrev pub add_train_field : Field
add_train_field = field_as kind_width count_width Any Absent

abbrev pub add_train : List ℕ → ℕ
add_train l = number_in l add_train_field

abbrev pub add_choice_field : Field
add_choice_field = field_as (end_of add_train_field) count_width Any Absent

abbrev pub add_choice : List ℕ → ℕ
add_choice l = number_in l add_choice_field

-- 7: 'added points over 1,000,000'; here FFFFFF is no cost
abbrev pub points_field : Field
points_field = field_as (end_of add_choice_field) cost_width (Between 0 max_cost) Cost

abbrev pub add_points : List ℕ → ℕ
add_points l = number_in l points_field

-- ---- 03 shift: 'lifts u_i by train (6 each), then for each pair the moves'

-- 11: 'A lift may now be −10^12 to 10^12' (document 02, change 3)
abbrev pub lift_field : Field
lift_field = field_as kind_width move_width (Around max_move) Move

-- the first move behind n lifts: 'move outside ±10^12', the rule of a lift
abbrev pub move_field : ℕ → Field
move_field n = further lift_field n

-- u_i of train i, and move k of a line with n lifts: 'All are two's complement'
abbrev pub shift_lift : List ℕ → ℕ → ℤ
shift_lift l i = signed_in l (further lift_field i)

abbrev pub shift_move : List ℕ → ℕ → ℕ → ℤ
shift_move l n k = signed_in l (further (move_field n) k)

-- ---- 05 certify: 'W (3), weights w_i(a) (3 each), weights z_ij(a,b) (3 each)'

-- 13: 'W outside 1 to 100,000'
abbrev pub full_weight_field : Field
full_weight_field = field_as kind_width weight_width (Between 1 max_full_weight) FullWeight

abbrev pub certify_full_weight : List ℕ → ℕ
certify_full_weight l = number_in l full_weight_field

-- a weight is any number of its width
abbrev pub weight_field : Field
weight_field = field_as (end_of full_weight_field) weight_width Any Fields

-- ---- 06 search: 'budget (4)'

-- 15: 'budget outside 1 to 10,000,000'
abbrev pub budget_field : Field
budget_field = field_as kind_width budget_width (Between 1 max_budget) Budget

abbrev pub search_budget : List ℕ → ℕ
search_budget l = number_in l budget_field

-- ---- 09, document 02, change 7: 'n, s, count (2 bytes, at most 500, else 6), then for each clause two signed one-byte literals and a weight (3)'; n and s stand where a load has them

abbrev pub clause_count_width : ℕ
clause_count_width = 2

abbrev pub clause_count_field : Field
clause_count_field = field_as (end_of scale_field) clause_count_width (Between 0 max_clauses) Range

abbrev pub clause_count : List ℕ → ℕ
clause_count l = number_in l clause_count_field

abbrev pub literal_width : ℕ
literal_width = 1

-- how many bytes a clause has, and where clause k begins
abbrev pub clause_width : ℕ
clause_width = 2 * literal_width + cost_width

abbrev pub clause_at : ℕ → ℕ
clause_at k = end_of clause_count_field + clause_width * k

-- its literals are any numbers, 'judged after both literals'
abbrev pub literal_field : ℕ → Field
literal_field at = field_as at literal_width Any Fields

abbrev pub first_literal_field : ℕ → Field
first_literal_field k = literal_field (clause_at k)

abbrev pub second_literal_field : ℕ → Field
second_literal_field k = literal_field (end_of (first_literal_field k))

-- 7: 'A weight of FFFFFF is 7', as is every other above 1,000,000
abbrev pub clause_weight_field : ℕ → Field
clause_weight_field k = field_as (end_of (second_literal_field k)) cost_width (Between 0 max_cost) Cost

abbrev pub clause_first : List ℕ → ℕ → ℤ
clause_first l k = signed_in l (first_literal_field k)

abbrev pub clause_second : List ℕ → ℕ → ℤ
clause_second l k = signed_in l (second_literal_field k)

abbrev pub clause_weight : List ℕ → ℕ → ℕ
clause_weight l k = number_in l (clause_weight_field k)

-- ---- 0A, document 02, change 8: 'train, choice, limit in points (4)'; train and choice stand where an add has them, and '9 applies'

abbrev pub explain_train : List ℕ → ℕ
explain_train l = add_train l

abbrev pub explain_choice : List ℕ → ℕ
explain_choice l = add_choice l

abbrev pub limit_width : ℕ
limit_width = 4

-- a limit is any number of its width
abbrev pub limit_field : Field
limit_field = field_as (end_of add_choice_field) limit_width Any Fields

abbrev pub explain_limit : List ℕ → ℕ
explain_limit l = number_in l limit_field

-- ---- 0B, document 02, change 10: 'n train numbers', one byte each; they are any numbers, judged together

abbrev pub order_field : Field
order_field = field_as kind_width count_width Any Fields

-- the train that is to be tried d-th, counted from 0
abbrev pub order_train : List ℕ → ℕ → ℕ
order_train l d = number_in l (further order_field d)

-- ---- 0C and 0D, document 02, change 11: a record, 'n, n choices, bound (6), cost (6), in points'; its numbers are any, judged together. It stands behind the first byte, in a reply as in a line

abbrev pub record_trains_field : Field
record_trains_field = field_as kind_width count_width Any Fields

abbrev pub record_trains : List ℕ → ℕ
record_trains l = number_in l record_trains_field

abbrev pub record_choice_field : Field
record_choice_field = field_as (end_of record_trains_field) count_width Any Fields

-- the choice of train i
abbrev pub record_choice : List ℕ → ℕ → ℕ
record_choice l i = number_in l (further record_choice_field i)

-- the bound behind n choices
abbrev pub record_bound_field : ℕ → Field
record_bound_field n = field_as (further record_choice_field n).at figure_width Any Fields

abbrev pub record_bound : List ℕ → ℕ
record_bound l = number_in l (record_bound_field (record_trains l))

abbrev pub record_cost_field : ℕ → Field
record_cost_field n = field_as (end_of (record_bound_field n)) figure_width Any Fields

abbrev pub record_cost : List ℕ → ℕ
record_cost l = number_in l (record_cost_field (record_trains l))

-- ---- 0E, document 02, change 11: 'n choices, n being the block's', one byte each

abbrev pub plan_choice_field : Field
plan_choice_field = field_as kind_width count_width Any Fields

-- the choice of train i
abbrev pub plan_choice : List ℕ → ℕ → ℕ
plan_choice l i = number_in l (further plan_choice_field i)

-- ---- 0F, document 02, change 13: 'n and sizes', by the ranges of a load; n stands where a load has it

abbrev pub dearest_size_field : Field
dearest_size_field = size_field_at (end_of trains_field)

abbrev pub dearest_size : List ℕ → ℕ → ℕ
dearest_size l i = number_in l (further dearest_size_field i)
