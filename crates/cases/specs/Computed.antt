-- What the checker computes of a table: every definition on the answer's way is opened here, once. A definition that is new on that way is added here.
use Rattle.std.specs.Prelude.{cond, List, [], ◌∷◌, ℕ, ltb, length}
use Rattle.theory.specs.Sum.{sum}
use Rattle.theory.specs.Range.{all, pass}
use Rattle.theory.specs.Fold.{iter, down}
use Rattle.theory.specs.First.{first_passing}
use Rattle.theory.specs.Order.{each_once, rank}
use Rattle.theory.specs.Product.{product}
use Rattle.theory.specs.Tries.{tries_from}
use Rattle.theory.specs.Lists.{list_from, joined}
use Rattle.units.specs.Units.{rounded_up}
use Rattle.refusals.specs.declared.Refusal.TheVariants.{Malformed}
use Rattle.refusals.specs.Verdicts.{first_of}
use Rattle.tables.specs.Block.{figure}
use Rattle.tables.specs.WellFormed.{within, choice_used, entry_used, head_limits, shape_limits, cost_limits, order_limits, limits_at, places_right, before, follows, pair_right, pairs_right, order_right, is_open, mate, mates, mated, is_zero, holds_study, well_formed, is_fresh}
use Rattle.tables.specs.Numbers.{is_cost, permits, priced}
use Rattle.tables.specs.Plans.{choice_total, pair_total, total, loaded_costs, held_costs, choices_held, plan_open}
use Rattle.records.specs.Records.{record_right}
use Rattle.dearest.specs.Dearest.{dearest}
use Rattle.bounds.specs.Steps.{euclid, gcd, step_of, rounded_to}
use Rattle.bounds.specs.Bounds.{bound_of}
use Rattle.operations.specs.Add.{added}
use Rattle.operations.specs.Load.{loaded_block}
use Rattle.operations.specs.Saved.{saved_cost, saved_numbers}
use Rattle.clauses.specs.Clauses.{literals_right, other_of, cell_of, cell_from, charged_to, unnamed_to, named, codes_below, pair_codes, clause_numbers, costs_within, sums_within}
use Rattle.clauses.specs.Outcomes.{clauses_outcome}
use Rattle.rewriting.specs.Moves.{move_run}
use Rattle.rewriting.specs.Leasts.{mate_place, open_place, found_of, run_least, run_tightened}
use Rattle.rewriting.specs.Judged.{kept}
use Rattle.shift.specs.Shift.{pair_shifted, shifted}
use Rattle.tighten.specs.Tighten.{pair_tightened, tightened}
use Rattle.directional.specs.Directional.{cost_taken, pair_round, pair_turn, train_round, directed}
use Rattle.certificates.specs.Certify.{train_balanced, row_balanced, column_balanced, pair_balanced, balanced, choice_spared, entry_spared, spared, over_choices, over_pairs, weighted}
use Rattle.reasons.specs.Reasons.{own_reaches, pair_reaches, out_by, reason_of}
use Rattle.frames.specs.ByteSum.{byte_sum}
use Rattle.frames.specs.Digits.{digit, digit_of, byte_at}
use Rattle.frames.specs.Fields.{field, signed, field_digits}
use Rattle.frames.specs.Frames.{all_digits, framed}
use Rattle.frames.specs.Runs.{run_digits}
use Rattle.frames.specs.Text.{zeros}
use Rattle.orders.specs.Ordered.{by_train}
use Rattle.lines.specs.Kinds.{new_kind}
use Rattle.lines.specs.Layout.{pair_at}
use Rattle.lines.specs.Text.{pair_digits, pairs_digits, load_digits, record_digits}
use Rattle.lines.specs.Verdicts.{field_verdict, runs_verdict, last_verdict}
use Rattle.kinds.specs.Load.{pair_ordered, pair_verdict, head_verdict, rest_verdict, load_verdict}
use Rattle.kinds.specs.Clauses.{clause_verdict, clause_run_verdict, clauses_verdict}
use Rattle.kinds.specs.Records.{record_verdict, plan_verdict}
use Rattle.kinds.specs.Dearest.{dearest_verdict}
use Rattle.kinds.specs.Lines.{add_verdict, shift_verdict, certify_verdict, search_verdict, explain_verdict, order_verdict, study_line}
use Rattle.decoding.specs.Numbers.{entries_of, numbers_of}
use Rattle.decoding.specs.Clauses.{clauses_of}
use Rattle.reader.specs.Reading.{kind_line, line_of}
use Rattle.search.specs.Walk.{barred, partial_total, one_try, tried_from, opened_train, walked}
use Rattle.search.specs.Ordered.{walked_in, searched_in, searched}
use Rattle.search.specs.Walk as walk
use Rattle.search.specs.Answer.{search_answer}
use Rattle.replies.specs.Replies.{refusal_reply, bound_reply, certify_reply, search_reply, reason_reply, order_reply, screen_reply, record_reply, fields_digits}
use Rattle.requests.specs.Answer.{Answer, answered, requested, line_answer}
use Rattle.radio.specs.Forms.{is_radio, plain_line, radio_reply}
use Rattle.radio.specs.Answer.{radio_answer, form_answer}
use Rattle.service.specs.Answer.{min_buffer}
use Rattle.cases.specs.Written.{text, marks, closed, place, places, rows, grids, laid_in, laid}
use Rattle.cases.specs.Calls.{Block, held, held_in, Row, call, row, declined, declined_long, silent, Left, left_by, said}

-- the answer on a block of which it is known whether it is well formed
unfoldable pub answer_on : List ℕ → Block → List ℕ → Answer
answer_on l b buffer =
    cond (ltb (length buffer) min_buffer) (answered b.numbers [])
    (cond b.formed (form_answer l b.numbers (length buffer)) (answered b.numbers (refusal_reply Malformed)))

-- what each call leaves. Whoever opens this name opens the definitions of rows and blocks, and, crate by crate, those on the answer's way
unfoldable pub computed : List Row → List Left
unfolding text zeros marks closed place places rows grids laid_in laid held held_in call row declined declined_long silent left_by said answer_on
    rounded_up euclid gcd step_of rounded_to bound_of
    sum all pass each_once figure within choice_used entry_used head_limits shape_limits cost_limits order_limits limits_at places_right before follows pair_right pairs_right order_right is_open mate mates mated is_zero is_fresh holds_study well_formed is_cost permits priced held_costs choice_total pair_total total loaded_costs choices_held plan_open record_right product tries_from dearest
    iter down added loaded_block joined saved_cost saved_numbers
    literals_right other_of cell_of cell_from charged_to unnamed_to named codes_below pair_codes clause_numbers costs_within sums_within clauses_outcome
    move_run kept pair_shifted shifted mate_place open_place found_of run_least run_tightened pair_tightened tightened cost_taken pair_round pair_turn train_round directed
    train_balanced row_balanced column_balanced pair_balanced balanced choice_spared entry_spared spared over_choices over_pairs weighted
    first_passing own_reaches pair_reaches out_by reason_of
    digit digit_of byte_at field signed field_digits all_digits framed list_from run_digits
    new_kind pair_at pair_digits pairs_digits load_digits record_digits entries_of numbers_of first_of field_verdict last_verdict runs_verdict pair_ordered pair_verdict head_verdict rest_verdict load_verdict
    clause_verdict clause_run_verdict clauses_verdict clauses_of add_verdict shift_verdict certify_verdict search_verdict explain_verdict order_verdict record_verdict plan_verdict dearest_verdict study_line kind_line line_of
    barred walk.added partial_total one_try tried_from opened_train walked rank by_train walked_in searched_in searched search_answer
    fields_digits refusal_reply bound_reply certify_reply search_reply reason_reply order_reply screen_reply record_reply
    requested line_answer byte_sum is_radio plain_line radio_reply radio_answer form_answer
computed [] = []
computed (r ∷ rs) = left_by (answer_on r.line r.on (marks r.room)) r.room ∷ computed rs
