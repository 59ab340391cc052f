-- Document 02, change 7: a study written as clauses, and the numbers of a load that it stands for.
use Rattle.std.specs.Prelude.{◌≡◌, Bool, true, false, cond, not, ◌&&◌, List, [], ◌∷◌, ◌++◌, map, ℕ, zero, suc, ◌+◌, ◌*◌, ◌-◌, ◌/◌, ◌%◌, ◌<◌, ◌≤◌, leb, ltb, eqb, ℤ, pos, negsuc, nat_abs, length, replicate}
use Rattle.units.specs.Units.{scale_min, scale_max}
use Rattle.theory.specs.Sum.{sum}
use Rattle.theory.specs.Range.{all}
use Rattle.theory.specs.Lists.{list_of, nth}
use Rattle.tables.specs.Block.{max_trains, max_pairs, max_cost, at}
use Rattle.tables.specs.LineLimits.{max_clauses}
use Rattle.tables.specs.Numbers.{Numbers, numbers}

-- ---- the clauses

-- 'for each clause two signed one-byte literals and a weight'
pub record Clauses : Type 0 where
  pub firsts : List ℤ
  pub seconds : List ℤ
  pub weights : List ℕ

abbrev pub clauses : List ℤ → List ℤ → List ℕ → Clauses
clauses firsts seconds weights = record { firsts = firsts; seconds = seconds; weights = weights }

abbrev pub count : Clauses → ℕ
count cs = length cs.weights

-- 19 is none of it: 'literal of an absent train, first literal 0 or one train twice'. A literal's train is one below its size
unfoldable pub literals_right : ℕ → ℤ → ℤ → Bool
literals_right n z w = (ltb 0 (nat_abs z) && leb (nat_abs z) n) && (leb (nat_abs w) n && not (eqb (nat_abs z) (nat_abs w)))

-- clauses over n trains, as the fields of a line have left them
pub record Clear (n : ℕ) (cs : Clauses) : Type 0 where
  pub few : count cs ≤ max_clauses
  pub same : (length cs.firsts ≡ count cs) × (length cs.seconds ≡ count cs)
  pub literals : (k : ℕ) → k < count cs → literals_right n (at cs.firsts k) (at cs.seconds k) ≡ true
  pub weights : (k : ℕ) → k < count cs → nth cs.weights k ≤ max_cost

-- and n and s are within their limits
pub record InLimits (n s : ℕ) (cs : Clauses) : Type 0 where
  pub trains : (1 ≤ n) × (n ≤ max_trains)
  pub scale : (scale_min ≤ s) × (s ≤ scale_max)
  pub clear : Clear n cs

-- ---- what a plan pays

-- 'Literal k is train k−1 taking choice 0, −k is choice 1'; 0 is never met
unfoldable pub meets : (ℕ → ℕ) → ℤ → Bool
meets x (pos zero) = false
meets x (pos (suc i)) = eqb (x i) 0
meets x (negsuc i) = eqb (x i) 1

-- 'when neither literal is met'
unfoldable pub failed : Clauses → (ℕ → ℕ) → ℕ → Bool
failed cs x k = not (meets x (at cs.firsts k)) && not (meets x (at cs.seconds k))

-- 'the weights of the clauses it fails'
unfoldable pub failed_weight : Clauses → (ℕ → ℕ) → ℕ
failed_weight cs x = sum (count cs) (λ k. cond (failed cs x k) (nth cs.weights k) 0)

-- ---- the cells

-- the train of a literal that is not 0, and the choice with which it fails the literal
abbrev pub train_of : ℤ → ℕ
train_of z = nat_abs z - 1

abbrev pub failing : ℤ → ℕ
failing (pos n) = 1
failing (negsuc n) = 0

-- two trains as one number, ascending by (i, j)
abbrev pub code_of : ℕ → ℕ → ℕ
code_of i j = max_trains * i + j

-- 'All sizes are 2'
abbrev pub clause_choices : ℕ
clause_choices = 2

-- so a pair has 4 entries
abbrev pub clause_entries : ℕ
clause_entries = clause_choices * clause_choices

-- how many codes there are
abbrev pub max_codes : ℕ
max_codes = max_trains * max_trains

-- one number for choice a of train i with choice c of train j; a choice alone has its train and itself twice
abbrev pub cell_at : ℕ → ℕ → ℕ → ℕ → ℕ
cell_at i a j c = clause_entries * code_of i j + (clause_choices * a + c)

-- the same of two trains in either order: the smaller first
abbrev pub cell_by : ℕ → ℕ → ℕ → ℕ → ℕ
cell_by i a j c = cond (ltb j i) (cell_at j c i a) (cell_at i a j c)

-- the cell of two failed literals
unfoldable pub cell_of : ℤ → ℤ → ℕ
cell_of z w = cell_by (train_of z) (failing z) (train_of w) (failing w)

-- 'a second literal of 0 means a clause of one': it has its first literal twice
unfoldable pub other_of : ℤ → ℤ → ℤ
other_of z w = cond (eqb (nat_abs w) 0) z w

-- the one cell that a clause is charged to
unfoldable pub cell_from : List ℤ → List ℤ → ℕ → ℕ
cell_from firsts seconds k = cell_of (at firsts k) (other_of (at firsts k) (at seconds k))

abbrev pub clause_cell : Clauses → ℕ → ℕ
clause_cell cs k = cell_from cs.firsts cs.seconds k

-- how many cells there are
abbrev pub max_cells : ℕ
max_cells = clause_entries * max_codes

-- 'Costs on the same entry add up': what the first n clauses charge to cell o
unfoldable pub charged_to : Clauses → ℕ → ℕ → ℕ
charged_to cs n o = sum n (λ k. cond (eqb (clause_cell cs k) o) (nth cs.weights k) 0)

abbrev pub cell_cost : Clauses → ℕ → ℕ
cell_cost cs o = charged_to cs (count cs) o

-- ---- the pairs

-- none of the first n clauses has code o
unfoldable pub unnamed_to : Clauses → ℕ → ℕ → Bool
unnamed_to cs n o = all n (λ k. not (eqb (clause_cell cs k / clause_entries) o))

-- 'Each two trains that some clause names together are a pair'
unfoldable pub named : Clauses → ℕ → Bool
named cs o = ltb (o / max_trains) (o % max_trains) && not (unnamed_to cs (count cs) o)

-- the numbers below n that pass the test, ascending
unfoldable pub codes_below : (ℕ → Bool) → ℕ → List ℕ
codes_below p zero = []
codes_below p (suc n) = codes_below p n ++ cond (p n) (n ∷ []) []

-- 'pairs come out ascending'
unfoldable pub pair_codes : Clauses → List ℕ
pair_codes cs = codes_below (named cs) max_codes

-- ---- the numbers of the load

-- by the costs of the cells, the cost of choice a of train i, which stands at 2 × i + a
abbrev pub choice_cost_at : (ℕ → ℕ) → ℕ → ℕ
choice_cost_at cost o = cost (cell_at (o / clause_choices) (o % clause_choices) (o / clause_choices) (o % clause_choices))

-- and that of the choices a and c of pair p, which stands at 4 × p + 2 × a + c
abbrev pub entry_cost_at : (ℕ → ℕ) → List ℕ → ℕ → ℕ
entry_cost_at cost codes o = cost (clause_entries * nth codes (o / clause_entries) + o % clause_entries)

-- the numbers of a load of n trains, by the costs of the cells and the codes of the pairs
abbrev pub numbers_from : ℕ → ℕ → (ℕ → ℕ) → List ℕ → Numbers
numbers_from n s cost codes =
    numbers s (replicate n clause_choices) (list_of (clause_choices * n) (choice_cost_at cost)) (map (λ o. o / max_trains) codes) (map (λ o. o % max_trains) codes)
    (list_of (clause_entries * length codes) (entry_cost_at cost codes))

unfoldable pub clause_numbers : ℕ → ℕ → Clauses → Numbers
clause_numbers n s cs = numbers_from n s (cell_cost cs) (pair_codes cs)

-- ---- what is declined

-- 20: 'over 48 pairs'
abbrev pub pairs_above : Clauses → Bool
pairs_above cs = ltb max_pairs (length (pair_codes cs))

-- 10 is none of it: no cost passes its limit
unfoldable pub costs_within : List ℕ → Bool
costs_within costs = all (length costs) (λ o. leb (nth costs o) max_cost)

unfoldable pub sums_within : Numbers → Bool
sums_within l = costs_within l.choices && costs_within l.entries
