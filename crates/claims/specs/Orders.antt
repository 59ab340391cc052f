-- Document 02, change 10: 'After lines from fresh, this one among them, an ended search gives the same cost for every order.' Nothing else stands in this file; proofs/Orders.antt proves it.
use Rattle.std.specs.Prelude.{◌≡◌, true, List, ℕ}
use Rattle.tables.specs.WellFormed.{fresh_block}
use Rattle.search.specs.declared.answer.Found.{Found}
use Rattle.search.specs.Answer.{is_found, found_cost, search_answer}
use Rattle.service.specs.Calls.{Call, last_block}
use Rattle.claims.specs.Ledger.{plain_exchanges, has_load, ledger_after}
use Rattle.claims.specs.Claims.{SameLedger}

-- both know a plan or neither does, and the plans cost the same
pub record SameCost (f g : Found) : Type 0 where
  pub found : is_found f ≡ is_found g
  pub cost : is_found f ≡ true → found_cost f ≡ found_cost g

-- what a search answers after it
abbrev pub search_after : List Call → ℕ → Found
search_after calls budget = search_answer (last_block fresh_block calls) budget

-- of every two lists of calls with an accepted load each, whose ledgers know the same study: which lines of kind 0B are among them decides nothing of what an ended search shows
abbrev pub OrdersAgree : Type 0
OrdersAgree =
    (calls more : List Call) → has_load (plain_exchanges fresh_block calls) ≡ true → has_load (plain_exchanges fresh_block more) ≡ true
    → SameLedger (ledger_after calls) (ledger_after more)
    → (budget other : ℕ) → (search_after calls budget).ended ≡ true → (search_after more other).ended ≡ true → SameCost (search_after calls budget) (search_after more other)
