-- Document 02, change 9: the published bound after every list of calls with an accepted load, by the ledger: it 'rounds up to a multiple of the greatest common divisor of all loaded costs'. Nothing else
-- stands in this file; proofs/BoundSteps.antt proves the statement. What follows from each part of it, so that it cannot be said more weakly unseen, stands in proofs/UsesSteps.antt; the name of the law
-- there is in brackets.
use Rattle.std.specs.Prelude.{◌≡◌, true, List, ℕ, ◌*◌, ◌<◌, ◌≤◌, ℤ}
use Rattle.std.specs.Int.{◌∣◌}
use Rattle.tables.specs.Block.{constant}
use Rattle.tables.specs.WellFormed.{fresh_block}
use Rattle.tables.specs.Counts.{rows_of, columns_of}
use Rattle.bounds.specs.Bounds.{bound_of}
use Rattle.service.specs.Calls.{Call, last_block}
use Rattle.claims.specs.Ledger.{Ledger, plain_exchanges, ledger_after, has_load}

-- v is a cost of the ledger: 'all loaded costs as H now holds them, additions included, forbidden entries left out'
pub data LoadedCost (g : Ledger) : ℕ → Type 0 where
  choice : (i a : ℕ) → i < g.shape.trains → a < g.shape.size i → g.shape.choice_open i a ≡ true → LoadedCost g (g.costs.choice i a)
  entry : (k a c : ℕ) → k < g.shape.pairs → a < rows_of g.shape k → c < columns_of g.shape k → g.shape.entry_open k a c ≡ true → LoadedCost g (g.costs.pair k a c)

-- d is the step of the tariff, in points
pub record IsStep (g : Ledger) (d : ℕ) : Type 0 where
  -- it divides all of them (`even_step`),
  pub divides : (v : ℕ) → LoadedCost g v → d ∣ v
  -- and is 'the greatest' that does: where one of them is above 0, every other divides it (`even_step`, `common_multiple`)
  pub greatest : (c v : ℕ) → ((w : ℕ) → LoadedCost g w → c ∣ w) → LoadedCost g v → 0 < v → c ∣ d
  -- 'if all are 0 it is 1' (`free_bound`)
  pub one : ((v : ℕ) → LoadedCost g v → v ≡ 0) → d ≡ 1

-- 'The published bound rounds up to a multiple' of the step: the bound of the block b is the least multiple that covers c0 (`even_bound`)
pub record InSteps (g : Ledger) (b : List ℤ) : Type 0 where
  pub step : ℕ
  pub is_step : IsStep g step
  pub multiple : step ∣ bound_of b
  pub covers : constant b ≤ g.scale * bound_of b
  pub least : (q : ℕ) → constant b ≤ g.scale * (step * q) → bound_of b ≤ step * q

-- of every list with an accepted load
abbrev pub BoundsInSteps : Type 0
BoundsInSteps =
    (calls : List Call) → has_load (plain_exchanges fresh_block calls) ≡ true → InSteps (ledger_after calls) (last_block fresh_block calls)
