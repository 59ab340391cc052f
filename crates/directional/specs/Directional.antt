-- Document 02, change 4, '08': the directional round. Source document 000, section 3, calls it directional arc consistency.
use Rattle.std.specs.Prelude.{cond, List, ℕ, eqb, ℤ, pos, neg_ℤ}
use Rattle.theory.specs.Fold.{iter, down}
use Rattle.refusals.specs.Verdicts.{Verdict}
use Rattle.tables.specs.Block.{trains, pairs, size, second, held_choice}
use Rattle.tables.specs.Plans.{shape_of}
use Rattle.rewriting.specs.declared.sides.Side.TheVariants.{Rows, Columns}
use Rattle.rewriting.specs.Judged.{judged, judged_block}
use Rattle.rewriting.specs.Moves.{project}
use Rattle.rewriting.specs.Leasts.{lanes_tightened, train_tightened}

-- change 5, 'takes c_j(b), unless forbidden': what a round takes of choice a of train i
unfoldable pub cost_taken : List ℤ → ℕ → ℕ → ℕ
cost_taken b i a = cond ((shape_of b).choice_open i a) (held_choice b i a) 0

-- pair k takes it of choice x of its second train j, 'off wholly', into the entries of column x
abbrev pub column_taken : ℕ → ℕ → List ℤ → List ℤ
column_taken k x b = project Columns k x (neg_ℤ (pos (cost_taken b (second b k) x))) b

-- 'each pair (i, j) .. first takes all of c_j(b) into its entries'
abbrev pub columns_taken : ℕ → List ℤ → List ℤ
columns_taken k b = iter (size b (second b k)) (column_taken k) b

-- 'then each row's least entry moves to c_i(a)'
unfoldable pub pair_round : ℕ → List ℤ → List ℤ
pair_round k b = lanes_tightened Rows k (columns_taken k b)

-- pair k, where train j is its second
unfoldable pub pair_turn : ℕ → ℕ → List ℤ → List ℤ
pair_turn j k b = cond (eqb (second b k) j) (pair_round k) (λ c. c) b

-- 'each pair (i, j) in order'
abbrev pub pairs_round : ℕ → List ℤ → List ℤ
pairs_round j b = iter (pairs b) (pair_turn j) b

-- 'After its pairs, train j lifts its least cost to the constant'
unfoldable pub train_round : ℕ → List ℤ → List ℤ
train_round j b = train_tightened j (pairs_round j b)

-- 'For j from n−1 down to 1 .. train 0 lifts last': no pair has train 0 second, so that its turn is its lift
unfoldable pub directed : List ℤ → List ℤ
directed b = down (trains b) train_round b

-- change 5, 'adds it to permitted entries only': what came to stand at a forbidden one is lost when the end is judged
abbrev pub direct_outcome : List ℤ → Verdict
direct_outcome b = judged b (directed b)

abbrev pub direct_block : List ℤ → List ℤ
direct_block b = judged_block b (directed b)
