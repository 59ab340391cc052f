-- Document 02, change 10, 'The walk opens trains in that order': the study as the walk meets it. An order of trains is a renaming below the walk: place d has the train that is tried d-th, and a pair's first train is the one of its two that is tried earlier.
use Rattle.std.specs.Prelude.{Bool, cond, List, ℕ, ltb, length}
use Rattle.theory.specs.Lists.{list_of, nth}
use Rattle.theory.specs.Order.{rank}
use Rattle.tables.specs.Plans.{Shape, Costs}

module _ (order : ℕ → ℕ) (s : Shape) where
  -- the place of train t
  abbrev pub place_of : ℕ → ℕ
  place_of t = rank s.trains order t

  -- pair k's second train comes first
  abbrev pub turned : ℕ → Bool
  turned k = ltb (place_of (s.second k)) (place_of (s.first k))

  -- the places of its earlier and of its later train
  abbrev pub earlier : ℕ → ℕ
  earlier k = cond (turned k) (place_of (s.second k)) (place_of (s.first k))

  abbrev pub later : ℕ → ℕ
  later k = cond (turned k) (place_of (s.first k)) (place_of (s.second k))

  -- the shape by places, with an entry turned over where the pair's second train comes first
  abbrev pub ordered_shape : Shape
  ordered_shape =
      record {
        trains = s.trains;
        size = λ d. s.size (order d);
        pairs = s.pairs;
        first = earlier;
        second = later;
        choice_open = λ d a. s.choice_open (order d) a;
        entry_open = λ k a c. cond (turned k) (s.entry_open k c a) (s.entry_open k a c);
      }

  -- and the costs so
  abbrev pub ordered_costs : Costs → Costs
  ordered_costs t =
      record {
        constant = t.constant;
        choice = λ d a. t.choice (order d) a;
        pair = λ k a c. cond (turned k) (t.pair k c a) (t.pair k a c);
      }

-- the place of number t in an order of n; past the n places its own
abbrev pub place_in : ℕ → (ℕ → ℕ) → ℕ → ℕ
place_in n order t = cond (ltb t n) (rank n order t) t

-- 'replies still list choices by train number': of a list by places, the choice of train t is the one at its place. What stands past the n places stays
unfoldable pub by_train : ℕ → (ℕ → ℕ) → List ℕ → List ℕ
by_train n order l = list_of (length l) (λ t. nth l (place_in n order t))
