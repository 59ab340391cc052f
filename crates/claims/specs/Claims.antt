-- Demand 3 of document 01, as one claim about a whole list of calls from a fresh block. Nothing else stands in this file; `demand` in proofs/Demand.antt proves it. What follows from each
-- part of it, so that it cannot be said more weakly unseen, stands in proofs/Uses.antt, proofs/UsesForbidden.antt, proofs/UsesRecords.antt and proofs/UsesDearest.antt; the name of the law there is in brackets.
use Rattle.std.specs.Prelude.{◌≡◌, Bool, true, false, List, [], ◌∷◌, ◌⊎◌, ℕ, ◌*◌, ◌-◌, ◌<◌, ◌≤◌, ◌^◌, eqb, drop, ℤ, Ok}
use Rattle.theory.specs.Order.{each_once}
use Rattle.tables.specs.Block.{held_choice_place, held_entry_place, at, trains, scale, pairs, constant, size, first, second, loaded_choice, loaded_entry}
use Rattle.tables.specs.WellFormed.{is_open, well_formed, fresh_block}
use Rattle.tables.specs.Plans.{AlikeShapes, Costs, IsPlan, Open, Branches, LeastOf, PairOf, shape_of, plan_open, held_total}
use Rattle.tables.specs.Counts.{rows_of, columns_of}
use Rattle.bounds.specs.Bounds.{bound_of}
use Rattle.certificates.specs.Rival.{Rival, IsRival, ConstantAtMost}
use Rattle.weights.specs.Rival.{Amounts, Leaves, LiftsAtMost}
use Rattle.reasons.specs.Reasons.{no_partner}
use Rattle.dearest.specs.Dearest.{max_tries, dearest_tries, dearest}
use Rattle.lines.specs.declared.kind.Kind.{Kind}
use Rattle.lines.specs.declared.kind.Kind.TheVariants.{Load, Add, Shift, Tighten, Certify, Search, Save, Round, Clauses, Explain, Order, Screen, Planner, Record, Dearest}
use Rattle.lines.specs.declared.request.Line.TheVariants.{Asked}
use Rattle.lines.specs.Kinds.{kind_number, new_kind}
use Rattle.lines.specs.Layout.{kind_of, explain_train, explain_choice, explain_limit, order_train, kind_width, record_trains, record_choice, record_bound, record_cost, plan_choice, numbers_in, load_trains, dearest_size_field}
use Rattle.clauses.specs.Clauses.{failed_weight}
use Rattle.kinds.specs.Load.{load_request}
use Rattle.decoding.specs.Numbers.{numbers_of}
use Rattle.decoding.specs.Clauses.{clauses_of}
use Rattle.reader.specs.Reading.{line_of}
use Rattle.replies.specs.Replies.{choice_width, refusal_byte, reply_kind, flag}
use Rattle.replies.specs.Shown.{kind_shown, accepted, number_shown, constant_shown, bound_shown, flag_shown, weighted_shown, full_weight_shown, says_ended, says_ended_without, cost_shown, plan_shown, shows_plan, reason_shown, train_shown, order_shown}
use Rattle.service.specs.Calls.{Call, Exchange, last_block, blocks}
use Rattle.claims.specs.Ledger.{Ledger, numbers_ledger, by_kind, plain_exchanges, fed, ledger_of, empty_ledger, cost_of, has_load}
use Rattle.claims.specs.OnePlan.{OnePlan}

-- the sizes of a line of kind 0F
abbrev pub sizes_of : List ℕ → List ℕ
sizes_of l = numbers_in l dearest_size_field (load_trains l)

-- a plan of a ledger
abbrev pub PlanOf : Ledger → (ℕ → ℕ) → Type 0
PlanOf g x = IsPlan g.shape x

-- 's × its cost': every plan's total, in parts
abbrev pub scaled_cost : Ledger → (ℕ → ℕ) → ℕ
scaled_cost g x = g.scale * cost_of g x

-- change 5: 's × the ledger's costs at that line and constant 0'
abbrev pub start_costs : Ledger → Costs
start_costs g = record { constant = 0; choice = λ i a. g.scale * g.costs.choice i a; pair = λ k a c. g.scale * g.costs.pair k a c }

-- ---- replies, by the figures that they show (`Shown` in `replies`)

-- a reply that declines under the number n
unfoldable pub DeclinedAs : ℕ → List ℕ → Type 0
DeclinedAs n reply = (kind_shown reply ≡ refusal_byte) × (number_shown reply ≡ n)

-- 12: 'c0 or an entry would end below 0 or above L'
abbrev pub outside : ℕ
outside = 12

-- 23: 'cost isn't the plan's total in H, bound above it, or a forbidden entry'
abbrev pub figures : ℕ
figures = 23

-- 16: 'block of another length or not well formed'
abbrev pub malformed : ℕ
malformed = 16

-- 'Reached means E = W × c0', c0 being the constant of the block b
abbrev pub reaches : List ℤ → List ℕ → Bool
reaches b reply = eqb (weighted_shown reply) (full_weight_shown reply * constant b)

-- ---- what is claimed of an accepted line and its reply, by the ledger g 'as it stands after that line'

-- 'Kinds 01 to 04: .. c0 in parts (6), bound in points (6)'
pub record BoundClaim (g : Ledger) (e : Exchange) : Type 0 where
  -- 'Each bound that a reply shows beside c0 was, at its own line, at most every plan's cost' (`tightened_bound`, `high_bound`, `scaled_bound`)
  pub bound : (x : ℕ → ℕ) → PlanOf g x → bound_shown e.reply ≤ cost_of g x

-- 'Certify: .. 01 if reached else 00, E (8), W (3)', the call having had the block b
pub record CeilingClaim (g : Ledger) (b : List ℤ) (e : Exchange) : Type 0 where
  -- 'The ceiling is E/W parts': W is above 0 (`no_full_weight`)
  pub full_weight : 0 < full_weight_shown e.reply
  -- 'W × the constant of every rival is at most E', where nothing is forbidden: 'Without forbidden entries it reads as before' (`certified-ceiling`, `low_ceiling`, `low_rival`). With forbidden entries it fails
  -- (`clique_wider`)
  pub ceiling : Open g.shape → (r : Rival) → IsRival g.shape (scaled_cost g) r → ConstantAtMost (full_weight_shown e.reply) (weighted_shown e.reply) r
  -- 'Start from s × the ledger's costs at that line and constant 0, and make any set of lifts and moves together, fractions allowed, that leaves no permitted entry below 0: the ceiling is at least the
  -- constant that results', on every study (`low_moved`, `clique_ceiling`, `low_quarters`)
  pub moved_ceiling : (up down : Amounts) → Leaves g.shape (start_costs g) up down → LiftsAtMost g.shape (full_weight_shown e.reply) (weighted_shown e.reply) up down
  -- '01 if reached else 00' (`not_reached`, `reached_above`)
  pub reached : flag_shown e.reply ≡ flag (reaches b e.reply)
  -- document 02, change 12: 'Where such a certificate has W = 1', that says reached, 'the plan with weight 1 everywhere has the least total'
  pub one_plan : full_weight_shown e.reply ≡ 1 → flag_shown e.reply ≡ 1 → OnePlan g b e.line

-- 'Search: .. 01 ended or 00 spent, count (4), cost (6), one byte a train'; change 5: 02. Of a search that is spent and shows no plan nothing is claimed
pub record SearchClaim (g : Ledger) (e : Exchange) : Type 0 where
  -- 'every search reply that shows a plan, as each that says ended (01) does' (`ended_without_plan`)
  pub ended : says_ended e.reply ≡ true → shows_plan e.reply ≡ true
  -- 'the cost shown is, at that line, that plan's cost' (`absent_choice`, `other_cost`, `forbidden_choice`, `forbidden_entry`, `cost_in_parts`)
  pub shown : shows_plan e.reply ≡ true → PlanOf g (plan_shown e.reply) × (cost_shown e.reply ≡ cost_of g (plan_shown e.reply))
  -- 'If it says ended, every other plan costs, at that line, at least as much' (`worse_plan`, `scaled_worse`)
  pub least : says_ended e.reply ≡ true → (x : ℕ → ℕ) → PlanOf g x → cost_shown e.reply ≤ cost_of g x
  -- change 5: 'A search that ends without a plan says 02, with cost and plan FF' (`without_cost`, `without_plan`)
  pub blank : says_ended_without e.reply ≡ true → (shows_plan e.reply ≡ false) × ((i : ℕ) → i < g.shape.trains → plan_shown e.reply i ≡ 256 ^ choice_width - 1)
  -- 'and then no plan exists' (`without_on_j`, `clique_without`)
  pub none : says_ended_without e.reply ≡ true → (x : ℕ → ℕ) → PlanOf g x → ⊥

-- two ledgers know the same study: n, s, sizes and pairs, what is forbidden, and the costs of the choices and entries that there are
pub record SameLedger (h g : Ledger) : Type 0 where
  pub shape_same : AlikeShapes h.shape g.shape
  pub scale_same : h.scale ≡ g.scale
  pub choices_same : (i a : ℕ) → i < h.shape.trains → a < h.shape.size i → h.costs.choice i a ≡ g.costs.choice i a
  pub entries_same : (k a c : ℕ) → k < h.shape.pairs → a < rows_of h.shape k → c < columns_of h.shape k → h.costs.pair k a c ≡ g.costs.pair k a c

-- document 02, change 1: the reply to a save is a load line
pub record SaveClaim (g : Ledger) (e : Exchange) : Type 0 where
  -- that every block takes (`long_save`)
  pub taken : (b : List ℤ) → line_of e.reply b ≡ Asked (load_request e.reply)
  -- read as a load line, its reply gives the ledger's n, s, sizes, pairs and costs at that line (`other_save`, `saved_scale`),
  -- and what is forbidden (`saved_choice_opened`, `saved_choice_closed`, `saved_entry_opened`, `saved_entry_closed`)
  pub gives : SameLedger (numbers_ledger (numbers_of e.reply)) g

-- document 02, change 4: 'The reply is 88 with constant and bound'
pub record RoundClaim (g : Ledger) (e : Exchange) : Type 0 where
  -- 'The lists of demand 3 now include this line': its bound is one 'that a reply shows beside c0' (`high_round`)
  pub bound : BoundClaim g e
  -- 'Where every train has at most one partner of lower number, the constant afterwards equals the least total of any plan', s × the least cost: the bound is the least cost (`low_constant`, `low_round`,
  -- `settled_round`). Change 5: 'its least-total equality is kept for studies without forbidden entries'
  pub settled : Open g.shape → Branches g.shape → (constant_shown e.reply ≡ g.scale * bound_shown e.reply) × LeastOf g.shape (cost_of g) (bound_shown e.reply)

-- document 02, change 7: 'The reply is 89 as for a load'
pub record ClausesClaim (g : Ledger) (e : Exchange) : Type 0 where
  -- its bound is one 'that a reply shows beside c0' (`high_clauses`)
  pub bound_shown_lem : BoundClaim g e
  -- 'Each plan's total in H must be the weights of the clauses it fails', by the literals of the line (`other_weights`)
  pub weights : (x : ℕ → ℕ) → PlanOf g x → cost_of g x ≡ failed_weight (clauses_of e.line) x

-- trains i and j share a pair
pub record Partners (g : Ledger) (i j : ℕ) : Type 0 where
  pub pair : ℕ
  pub there : pair < g.shape.pairs
  pub trains : PairOf g.shape i j pair

-- document 02, change 8: 'The reply is 8A, reason, train, the last FF unless 02'
pub record ExplainClaim (g : Ledger) (e : Exchange) : Type 0 where
  -- '00 means neither', or 01 or 02 stands (`fourth_reason`)
  pub reason : reason_shown e.reply ≤ 2
  -- 'where 01 or 02 stands, every plan with that choice costs the limit or more', by the train, the choice and the limit of the line (`own_above`, `pair_above`)
  pub costs : (reason_shown e.reply ≡ 1) ⊎ (reason_shown e.reply ≡ 2) → (x : ℕ → ℕ) → PlanOf g x → x (explain_train e.line) ≡ explain_choice e.line → explain_limit e.line ≤ cost_of g x
  -- 'The partner in the first such pair .. is named' (`own_partner`)
  pub named : reason_shown e.reply ≡ 2 → Partners g (explain_train e.line) (train_shown e.reply)
  -- 'the last FF unless 02' (`partner_of_01`)
  pub unnamed : (reason_shown e.reply ≡ 2 → ⊥) → train_shown e.reply ≡ no_partner

-- document 02, change 10: 'The reply is 8B and the order'
pub record OrderClaim (g : Ledger) (e : Exchange) : Type 0 where
  -- 'each train exactly once' (`train_twice`)
  pub once : each_once g.shape.trains (order_shown e.reply) ≡ true
  -- in the order of the line (`turned_order`)
  pub same : (d : ℕ) → d < g.shape.trains → order_shown e.reply d ≡ order_train e.line d

-- document 02, change 11: '8C, n and choices'
pub record ScreenClaim (g : Ledger) (e : Exchange) : Type 0 where
  -- n and each choice are the study's (`fourth_train`, `absent_shown`)
  pub trains : record_trains e.reply ≡ g.shape.trains
  pub there : (i : ℕ) → i < g.shape.trains → record_choice e.reply i < g.shape.size i
  -- and the record's (`other_screen`)
  pub same : (i : ℕ) → i < g.shape.trains → record_choice e.reply i ≡ record_choice e.line i

-- a record that a reply shows: 'n, n choices, bound (6), cost (6), in points'
pub record RecordClaim (g : Ledger) (e : Exchange) : Type 0 where
  -- n is the study's (`two_recorded`)
  pub trains : record_trains e.reply ≡ g.shape.trains
  -- its choices are a plan (`forbidden_choice_record`, `forbidden_record`)
  pub plan : PlanOf g (record_choice e.reply)
  -- the cost is 'the plan's total in H', its cost by the ledger (`other_record_cost`)
  pub cost : record_cost e.reply ≡ cost_of g (record_choice e.reply)
  -- and the bound is not 'above it' (`high_record`)
  pub bound : record_bound e.reply ≤ record_cost e.reply

-- '8D and the record'
pub record PlannerClaim (g : Ledger) (e : Exchange) : Type 0 where
  pub right : RecordClaim g e
  -- as it was read (`other_bound_read`)
  pub same : drop (2 * kind_width) e.reply ≡ drop (2 * kind_width) e.line

-- '8E, record', 'with the published bound'
pub record WrittenClaim (g : Ledger) (e : Exchange) : Type 0 where
  pub right : RecordClaim g e
  -- of the choices of the line (`other_written`)
  pub same : (i : ℕ) → i < g.shape.trains → record_choice e.reply i ≡ plan_choice e.line i
  -- the bound is at most every plan's cost (`high_written`)
  pub low : (x : ℕ → ℕ) → PlanOf g x → record_bound e.reply ≤ cost_of g x

-- document 02, change 13: 'It answers with a load line'
pub record DearestClaim (e : Exchange) : Type 0 where
  -- that every block takes (`long_dearest`)
  pub taken : (b : List ℤ) → line_of e.reply b ≡ Asked (load_request e.reply)
  -- of the dearest study of the line's sizes, n, sizes and costs, with s = 1 and no pairs: 'equal sizes get equal lines' (`free_dearest`, `other_sizes`, `equal_lines`)
  pub gives : numbers_of e.reply ≡ dearest (sizes_of e.line)
  -- whose search tries no more choices than may be: 24 where 'that sum exceeds 10,000,000' (`many_tries`)
  pub few : dearest_tries (sizes_of e.line) ≤ max_tries

-- each kind's own (`high_bound`, `high_added`, `high_shifted`, `high_tightened`)
abbrev pub Claim : Kind → Ledger → List ℤ → Exchange → Type 0
Claim Load g b e = BoundClaim g e
Claim Add g b e = BoundClaim g e
Claim Shift g b e = BoundClaim g e
Claim Tighten g b e = BoundClaim g e
Claim Certify g b e = CeilingClaim g b e
Claim Search g b e = SearchClaim g e
Claim Save g b e = SaveClaim g e
Claim Round g b e = RoundClaim g e
Claim Clauses g b e = ClausesClaim g e
Claim Explain g b e = ExplainClaim g e
Claim Order g b e = OrderClaim g e
Claim Screen g b e = ScreenClaim g e
Claim Planner g b e = PlannerClaim g e
Claim Record g b e = WrittenClaim g e
Claim Dearest g b e = DearestClaim e

-- 'Kinds 01 to 04: 81 to 84', 'Certify: 85', 'Search: 86'; of a round 88, of clauses 89, of a reason 8A, of an order 8B, of records 8C to 8E; the replies to a save and to a line of kind 0F, load lines, begin with 01
abbrev pub shown_kind : Kind → ℕ
shown_kind Load = reply_kind Load
shown_kind Add = reply_kind Add
shown_kind Shift = reply_kind Shift
shown_kind Tighten = reply_kind Tighten
shown_kind Certify = reply_kind Certify
shown_kind Search = reply_kind Search
shown_kind Save = kind_number Load
shown_kind Round = reply_kind Round
shown_kind Clauses = reply_kind Clauses
shown_kind Explain = reply_kind Explain
shown_kind Order = reply_kind Order
shown_kind Screen = reply_kind Screen
shown_kind Planner = reply_kind Planner
shown_kind Record = reply_kind Record
shown_kind Dearest = kind_number Load

pub record AtLine (g : Ledger) (b : List ℤ) (e : Exchange) : Type 0 where
  -- 'The first byte is the kind': an accepted line has one (`no_kind`)
  pub kind : Kind
  pub known : new_kind (kind_of e.line) ≡ Ok kind
  -- it is answered under its own kind (`other_kind`, `save_under_87`, `dearest_under_8f`)
  pub answered : kind_shown e.reply ≡ shown_kind kind
  -- and what its kind claims holds
  pub claim : Claim kind g b e

-- ---- what is claimed of one call, which had the block b

-- 'add and tighten never give 12', and no round does, where nothing is forbidden
abbrev pub never_outside : Kind → Bool
never_outside Load = false
never_outside Add = true
never_outside Shift = false
never_outside Tighten = true
never_outside Certify = false
never_outside Search = false
never_outside Save = false
never_outside Round = true
never_outside Clauses = false
never_outside Explain = false
never_outside Order = false
never_outside Screen = false
never_outside Planner = false
never_outside Record = false
never_outside Dearest = false

-- 0E 'writes one'
abbrev pub writes_record : Kind → Bool
writes_record Load = false
writes_record Add = false
writes_record Shift = false
writes_record Tighten = false
writes_record Certify = false
writes_record Search = false
writes_record Save = false
writes_record Round = false
writes_record Clauses = false
writes_record Explain = false
writes_record Order = false
writes_record Screen = false
writes_record Planner = false
writes_record Record = true
writes_record Dearest = false

pub record AtCall (g : Ledger) (b : List ℤ) (e : Exchange) : Type 0 where
  -- 'A line is accepted if its reply isn't empty and doesn't begin with FF'
  pub line : accepted e.reply ≡ true → AtLine g b e
  -- 'From fresh by these lines only' (`add-outside`, `tighten_outside`, `round_outside`). Change 5: 'Add, tighten and the directional round may now give 12'
  pub never-outside : by_kind never_outside false e.line ≡ true → Open g.shape → DeclinedAs outside e.reply → ⊥
  -- document 02, change 11: where no record of a plan is written for its figures, 23, the plan has 'a forbidden entry' (`unwritten_plan`)
  pub unwritten : by_kind writes_record false e.line ≡ true → DeclinedAs figures e.reply → plan_open g.shape (plan_choice e.line) ≡ false
  -- no line of a list gives 16: each has 'the block that the call before left', 'the first has a fresh block' (`no_malformed`)
  pub never-malformed : DeclinedAs malformed e.reply → ⊥

-- the same of every call of a list, of as many blocks as lines, each by the ledger after its line (`last_call`, `as_many_blocks`)
unfoldable pub EachCall : Ledger → List (List ℤ) → List Exchange → Type 0
EachCall g [] [] = Unit {0}
EachCall g [] (e ∷ es) = ⊥
EachCall g (b ∷ bs) [] = ⊥
EachCall g (b ∷ bs) (e ∷ es) = AtCall (fed e g) b e × EachCall (fed e g) bs es

-- ---- what is claimed of the whole list

-- the block b holds the ledger's study
pub record SameStudy (g : Ledger) (b : List ℤ) : Type 0 where
  -- 'the block's n, s, sizes and pairs are the ledger's' (`j_shape`), and so is what is forbidden: change 5, 'in the ledger too' (`d_forbidden`, `clique_forbidden`). H says it here
  pub shape_same : AlikeShapes (shape_of b) g.shape
  pub scale_same : scale b ≡ g.scale
  -- 'Loaded costs H' are the ledger's 'costs in points' (`j_costs`)
  pub choices_same : (i a : ℕ) → i < trains b → a < size b i → loaded_choice b i a ≡ g.costs.choice i a
  pub entries_same : (k a c : ℕ) → k < pairs b → a < size b (first b k) → c < size b (second b k) → loaded_entry b k a c ≡ g.costs.pair k a c
  -- and T as H: 'H and T hold −1' (`d_forbidden`, `clique_forbidden`)
  pub held_choices_open : (i a : ℕ) → i < trains b → a < size b i → is_open (at b (held_choice_place i a)) ≡ g.shape.choice_open i a
  pub held_entries_open : (k a c : ℕ) → k < pairs b → a < size b (first b k) → c < size b (second b k) → is_open (at b (held_entry_place k a c)) ≡ g.shape.entry_open k a c

pub record AfterList (g : Ledger) (b : List ℤ) : Type 0 where
  pub same : SameStudy g b
  -- 'every plan's total by c0 and T is s × its cost' (`j-total`, `scaled_total`); change 5: 'Totals are kept for plans'
  pub totals : (x : ℕ → ℕ) → PlanOf g x → held_total b x ≡ scaled_cost g x
  -- 'the published bound is at most every plan's cost' (`j_bound`, `held_bound`)
  pub bound : (x : ℕ → ℕ) → PlanOf g x → bound_of b ≤ cost_of g x

-- of calls that had the blocks bs, whose lines with their replies are es, and which left the block b: 'one claim about the whole list'
pub record Claimed (bs : List (List ℤ)) (es : List Exchange) (b : List ℤ) : Type 0 where
  -- with a load in the list or without, so that no later line gives 16 (`next_line_lem`)
  pub right : well_formed b ≡ true
  -- 'Claimed of every list with an accepted load' (`after`)
  pub after : has_load es ≡ true → AfterList (ledger_of empty_ledger es) b
  pub each : EachCall empty_ledger bs es

-- demand 3 of a list of calls: 'the first has a fresh block'. Document 02, change 14: they 'hold every kind in either form'
abbrev pub Demand : List Call → Type 0
Demand calls = Claimed (blocks fresh_block calls) (plain_exchanges fresh_block calls) (last_block fresh_block calls)
