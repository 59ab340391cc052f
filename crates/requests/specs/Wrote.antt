-- What a function that answers a line leaves, and what the functions for the requests ask.
use Rattle.std.specs.Prelude.{◌≡◌, List, true, ℕ, ◌+◌, ◌*◌, ◌^◌, ◌<◌, ◌≤◌, ℤ, length}
use Rattle.theory.specs.Lists.{nth}
use Rattle.theory.specs.Order.{each_once}
use Rattle.refusals.specs.Verdicts.{Fine}
use Rattle.units.specs.Units.{number_of_points}
use Rattle.tables.specs.Block.{max_trains, max_choices, max_pairs, entries_of_pair, max_cost, trains, size}
use Rattle.tables.specs.Numbers.{InRange}
use Rattle.tables.specs.LineLimits.{max_full_weight}
use Rattle.tables.specs.Plans.{shape_of, choices_held}
use Rattle.tables.specs.Counts.{move_count}
use Rattle.tables.specs.WellFormed.{well_formed, Study}
use Rattle.clauses.specs.Clauses.{InLimits}
use Rattle.shift.specs.Shift.{SmallMoves}
use Rattle.certificates.specs.Certify.{WeightsFor}
use Rattle.frames.specs.Digits.{bytes}
use Rattle.frames.specs.Frames.{Framed}
use Rattle.frames.specs.Runs.{run_of, signed_run_of}
use Rattle.lines.specs.declared.request.Load.{Load}
use Rattle.lines.specs.declared.request.Add.{Add}
use Rattle.lines.specs.declared.request.Shift.{Shift}
use Rattle.lines.specs.declared.request.Certify.{Certify}
use Rattle.lines.specs.declared.request.Clauses.{Clauses}
use Rattle.lines.specs.declared.request.Explain.{Explain}
use Rattle.lines.specs.declared.request.Order.{Order}
use Rattle.lines.specs.declared.request.FieldRun.{FieldRun}
use Rattle.dearest.specs.Dearest.{SizesRight}
use Rattle.lines.specs.declared.request.Request.{Request}
use Rattle.lines.specs.declared.request.Request.TheVariants.{Load as load_of, Clauses as clauses_asked}
use Rattle.lines.specs.declared.request.Line.TheVariants.{Asked}
use Rattle.lines.specs.Layout.{count_width, move_width, weight_width, load_trains, load_scale}
use Rattle.kinds.specs.Load.{load_verdict, load_request}
use Rattle.kinds.specs.Clauses.{clauses_verdict, clauses_request}
use Rattle.decoding.specs.Numbers.{numbers_of}
use Rattle.decoding.specs.Clauses.{clauses_of}
use Rattle.reader.specs.Reading.{line_of}
use Rattle.replies.specs.Replies.{longest_fixed}
use Rattle.replies.specs.Wrote.{Wrote}
use Rattle.requests.specs.Answer.{Answer, choices_in}

-- the reply of an answer stands in front of a buffer, n is how many characters it has, and the block is the one that the answer leaves
pub record Answers (a : Answer) (buffer : List ℕ) (left : List ℤ) (after : List ℕ) (n : ℕ) : Type 0 where
  pub block : left ≡ a.block
  pub reply : Wrote buffer a.reply after n

-- a line makes the request of a well-formed block, and there is room for every fixed reply
pub record Asks (l : List ℕ) (b : List ℤ) (q : Request) (room : ℕ) : Type 0 where
  pub fits : longest_fixed ≤ room
  pub right : well_formed b ≡ true
  pub asked : line_of l b ≡ Asked q

-- the load that an accepted line makes, with its numbers in range
pub record Loads (l : List ℕ) (q : Load) : Type 0 where
  pub frame : Framed l (bytes l)
  pub fine : load_verdict l ≡ Fine
  pub made : load_of q ≡ load_request l
  pub range : InRange (numbers_of l)

-- an addition to a choice that is there, within the highest cost
pub record Adds (b : List ℤ) (q : Add) : Type 0 where
  pub study : Study b
  pub train : q.train < trains b
  pub choice : q.choice < size b q.train
  pub points : number_of_points q.points ≤ max_cost

-- a shift whose lifts and moves stand in the line, as many as the block asks for and none of them too far from 0
pub record Shifts (l : List ℕ) (b : List ℤ) (q : Shift) : Type 0 where
  pub study : Study b
  pub frame : Framed l (bytes l)
  pub lift_count : (q.lifts.count ≡ trains b) × (q.lifts.count ≤ max_trains)
  pub move_count : (q.moves.count ≡ move_count (shape_of b)) × (q.moves.count ≤ max_pairs * (2 * max_choices))
  pub lifts_inside : 2 * (q.lifts.at + move_width * q.lifts.count) ≤ length l
  pub moves_inside : 2 * (q.moves.at + move_width * q.moves.count) ≤ length l
  pub lifts : SmallMoves (signed_run_of l q.lifts.at move_width q.lifts.count)
  pub moves : SmallMoves (signed_run_of l q.moves.at move_width q.moves.count)

-- a certificate whose weights stand in the line, as many as the block asks for
pub record Certifies (l : List ℕ) (b : List ℤ) (q : Certify) : Type 0 where
  pub study : Study b
  pub full_weight : q.full ≤ max_full_weight
  pub count : q.weights.count ≤ max_trains * max_choices + max_pairs * entries_of_pair
  pub inside : 2 * (q.weights.at + weight_width * q.weights.count) ≤ length l
  pub weights : WeightsFor b (run_of l q.weights.at weight_width q.weights.count)

-- the study that an accepted line writes as clauses, with its numbers in range
pub record LoadsClauses (l : List ℕ) (q : Clauses) : Type 0 where
  pub frame : Framed l (bytes l)
  pub fine : clauses_verdict l ≡ Fine
  pub made : clauses_asked q ≡ clauses_request l
  pub limits : InLimits (load_trains l) (load_scale l) (clauses_of l)

-- a choice that is there, and a limit of its width
pub record Explains (b : List ℤ) (q : Explain) : Type 0 where
  pub study : Study b
  pub train : q.train < trains b
  pub choice : q.choice < size b q.train
  pub limit : number_of_points q.limit < 2 ^ 32

-- an order that stands in the line, with each train of the block exactly once
pub record Orders (l : List ℕ) (b : List ℤ) (q : Order) : Type 0 where
  pub study : Study b
  pub count : q.trains.count ≡ trains b
  pub inside : 2 * (q.trains.at + count_width * q.trains.count) ≤ length l
  pub once : each_once q.trains.count (nth (run_of l q.trains.at count_width q.trains.count)) ≡ true

-- choices that stand in the line, no more of them than there may be trains
pub record ChoicesThere (l : List ℕ) (run : FieldRun) : Type 0 where
  pub count : run.count ≤ max_trains
  pub inside : 2 * (run.at + count_width * run.count) ≤ length l

-- choices that stand in the line, one of the block for each train
pub record Chooses (l : List ℕ) (b : List ℤ) (run : FieldRun) : Type 0 where
  pub study : Study b
  pub there : ChoicesThere l run
  pub held : choices_held (shape_of b) run.count (nth (choices_in l run)) ≡ true

-- sizes that stand in the line, within their limits
pub record SizesThere (l : List ℕ) (run : FieldRun) : Type 0 where
  pub inside : 2 * (run.at + count_width * run.count) ≤ length l
  pub right : SizesRight (choices_in l run)
