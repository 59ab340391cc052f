-- The costs of all plans by the ledger, computed, where nothing is forbidden.
use Rattle.std.specs.Prelude.{List, [], ◌∷◌, ◌++◌, ℕ, zero, suc, ◌+◌}
use Rattle.theory.specs.Lists.{nth}
use Rattle.tables.specs.Numbers.{permits, paid}
use Rattle.tables.specs.Plans.{choice_total, pair_total, total}
use Rattle.lines.specs.Kinds.{new_kind}
use Rattle.replies.specs.Shown.{accepted}
use Rattle.service.specs.Calls.{Exchange}
use Rattle.claims.specs.Ledger.{Ledger, fed, ledger_of, empty_ledger, cost_of}

-- a first choice before each plan of the other trains
unfoldable pub before : ℕ → List (List ℕ) → List (List ℕ)
before a [] = []
before a (p ∷ ps) = (a ∷ p) ∷ before a ps

-- n first choices from a on, each before all plans of the other trains
unfoldable pub choices_from : ℕ → ℕ → List (List ℕ) → List (List ℕ)
choices_from a zero ps = []
choices_from a (suc n) ps = before a ps ++ choices_from (a + 1) n ps

-- all plans of so many trains from train i on, in their order as words: 00, 01, 10, 11 of sizes 2 and 2
unfoldable pub plans_from : (ℕ → ℕ) → ℕ → ℕ → List (List ℕ)
plans_from size i zero = [] ∷ []
plans_from size i (suc left) = choices_from 0 (size i) (plans_from size (i + 1) left)

-- what each plan costs
unfoldable pub costs_of : Ledger → List (List ℕ) → List ℕ
costs_of g [] = []
costs_of g (p ∷ ps) = cost_of g (nth p) ∷ costs_of g ps

-- the costs of all plans by the ledger that is fed these lines and replies. Whoever opens this name opens every definition on its way
unfoldable pub plan_costs : List Exchange → List ℕ
unfolding before choices_from plans_from costs_of permits paid accepted new_kind fed ledger_of choice_total pair_total total
plan_costs es =
    let g = ledger_of empty_ledger es in
    costs_of g (plans_from g.shape.size 0 g.shape.trains)
