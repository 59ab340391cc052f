-- Document 01, '06 search', with document 02, change 5, 'a try that brings a forbidden entry in counts and is dropped', and change 6, 'A search should end when a new best plan's cost equals the published bound': the walk over plans, of a problem's shape and costs and a test of totals.
-- A block's walk is that of its shape and its held costs, and the test is that of its published bound.
use Rattle.std.specs.Prelude.{◌≡◌, Bool, true, false, cond, not, ◌&&◌, ◌||◌, List, ℕ, zero, suc, ◌+◌, ◌<◌, leb, eqb, ℤ, length, set, replicate}
use Rattle.theory.specs.Sum.{sum}
use Rattle.theory.specs.Range.{all}
use Rattle.theory.specs.Tries.{tries_of}
use Rattle.units.specs.declared.Parts.{Parts}
use Rattle.units.specs.Units.{the_parts, number_of_parts, rounded_up}
use Rattle.tables.specs.Block.{max_trains, scale}
use Rattle.tables.specs.Plans.{choices_of, Shape, Costs}
use Rattle.bounds.specs.Bounds.{bound_of}

-- ---- what a walk comes to

-- the tries counted, whether the budget ran out, whether the best plan met the bound, and, where a plan was found, the best with its total; 0 while none is
pub record Walk : Type 0 where
  pub count : ℕ
  pub spent : Bool
  pub met : Bool
  pub found : Bool
  pub best : Parts
  pub plan : List ℕ

-- ---- what is forbidden

module _ (s : Shape) where
  -- pair k brings no forbidden entry in at train t, by the choices x of the trains up to it: t is not its second train, or the entry is open
  abbrev pub entry_passes : (ℕ → ℕ) → ℕ → ℕ → Bool
  entry_passes x t k = cond (eqb (s.second k) t) (s.entry_open k (x (s.first k)) (x (s.second k))) true

  -- train t 'brings a forbidden entry in': its choice is forbidden, or its entry with a train decided before
  unfoldable pub barred : (ℕ → ℕ) → ℕ → Bool
  barred x t = not (s.choice_open t (x t) && all s.pairs (entry_passes x t))

-- ---- totals

module _ (s : Shape) (c : Costs) where
  -- what pair k adds at train t, by the choices x of the trains up to it: its cost where t is its second train, so that each pair counts once, when both its trains are decided
  abbrev pub pair_added : (ℕ → ℕ) → ℕ → ℕ → ℕ
  pair_added x t k = cond (eqb (s.second k) t) (c.pair k (x (s.first k)) (x (s.second k))) 0

  -- what train t adds to the partial total: its choice's cost, and those of the pairs that are decided with it
  unfoldable pub added : (ℕ → ℕ) → ℕ → ℕ
  added x t = c.choice t (x t) + sum s.pairs (pair_added x t)

  -- 'The partial total is c0 plus the costs in T among trains decided', the first t trains
  unfoldable pub partial_total : (ℕ → ℕ) → ℕ → ℕ
  partial_total x t = c.constant + sum t (added x)

  -- the first t trains are decided: each has one of its choices, none brings a forbidden entry in, and the partial total is theirs
  pub record Decided (t partial : ℕ) (chosen : List ℕ) : Type 0 where
    pub whole : length chosen ≡ max_trains
    pub below : (i : ℕ) → i < t → choices_of chosen i < s.size i
    pub permitted : (i : ℕ) → i < t → barred s (choices_of chosen) i ≡ false
    pub total : partial ≡ partial_total (choices_of chosen) t

-- ---- one try

-- 'Each try counts 1'
abbrev pub counted : Walk → Walk
counted w = record { count = w.count + 1; spent = w.spent; met = w.met; found = w.found; best = w.best; plan = w.plan }

-- 'the walk is spent'
abbrev pub marked_spent : Walk → Walk
marked_spent w = record { count = w.count; spent = true; met = w.met; found = w.found; best = w.best; plan = w.plan }

-- 'A whole plan not dropped becomes the best'; whether 'a new best plan's cost equals the published bound', its total tells
abbrev pub whole_plan : (ℕ → Bool) → ℕ → List ℕ → Walk → Walk
whole_plan meets total chosen w = record { count = w.count; spent = w.spent; met = meets total; found = true; best = the_parts total; plan = chosen }

-- nothing more is tried: the best met the bound, or the walk is spent
abbrev pub stopped : Walk → Bool
stopped w = w.met || w.spent

-- the first function where the test holds, else the second. A function waits until it is applied, so only one is computed
abbrev pub pick_walk : Bool → (Walk → Walk) → (Walk → Walk) → Walk → Walk
pick_walk true f g w = f w
pick_walk false f g w = g w

-- 'If a best total is known and the partial total isn't below it'
abbrev pub beaten : Walk → ℕ → Bool
beaten w total = w.found && leb (number_of_parts w.best) total

-- 'the try is dropped'; so is 'a try that brings a forbidden entry in'
abbrev pub dropped : Walk → Bool → ℕ → Bool
dropped w bar total = bar || beaten w total

-- a try within the budget: it 'counts', and unless it is dropped the next train is opened
abbrev pub counted_try : Bool → ℕ → (Walk → Walk) → Walk → Walk
counted_try bar total next w = pick_walk (dropped w bar total) counted (λ v. next (counted v)) w

-- 'Before each try, if the count equals the budget, the walk is spent'; 'That rule and the budget rule can meet on one try; the bound comes first'
unfoldable pub one_try : ℕ → Bool → ℕ → (Walk → Walk) → Walk → Walk
one_try budget bar total next w =
    pick_walk (stopped w) (λ v. v)
    (pick_walk (eqb w.count budget) marked_spent (counted_try bar total next)) w

-- ---- trains and choices

-- 'choices ascend': k choices are tried from choice a on
unfoldable pub tried_from : (ℕ → Walk → Walk) → ℕ → ℕ → Walk → Walk
tried_from one zero a w = w
tried_from one (suc k) a w = tried_from one k (a + 1) (one a w)

-- no train decided
abbrev pub no_choices : List ℕ
no_choices = replicate max_trains 0

-- nothing tried
abbrev pub nothing_tried : Walk
nothing_tried = record { count = 0; spent = false; met = false; found = false; best = the_parts 0; plan = no_choices }

module _ (s : Shape) (c : Costs) (budget : ℕ) where
  -- 'trying a choice opens the next train': the try of choice a at train t, given what opening the next train does
  abbrev pub choice_try : (ℕ → List ℕ → Walk → Walk) → ℕ → ℕ → List ℕ → ℕ → Walk → Walk
  choice_try next t partial chosen a =
      let with = set chosen t a in
      let total = partial + added s c (choices_of with) t in
      one_try budget (barred s (choices_of with) t) total (next total with)

module _ (s : Shape) (c : Costs) (meets : ℕ → Bool) (budget : ℕ) where
  -- 'Opening a train tries its choices', with `left` trains left from train t on; with none left the plan is whole
  unfoldable pub opened_train : ℕ → ℕ → ℕ → List ℕ → Walk → Walk
  opened_train zero t partial chosen w = whole_plan meets partial chosen w
  opened_train (suc left) t partial chosen w =
      tried_from (choice_try s c budget (opened_train left (t + 1)) t partial chosen) (s.size t) 0 w

  -- the whole walk: from c0, over all trains
  unfoldable pub walked : Walk
  walked = opened_train s.trains 0 c.constant no_choices nothing_tried

-- document 01's walk: no total ends it
abbrev pub never : ℕ → Bool
never total = false

-- ---- how many tries there are

-- those of a walk that drops none, by the sizes in the order of the walk: a train's choices are tried once for each plan of the trains before it
abbrev pub all_tries : Shape → ℕ
all_tries s = tries_of s.trains s.size

-- ---- the search of a block

-- a total's 'cost equals the published bound': both in points
abbrev pub at_bound : List ℤ → ℕ → Bool
at_bound b total = eqb (rounded_up (scale b) total) (bound_of b)
