-- Document 02, change 6: which answers of searches differ from those of document 01's walk, on every block that a list of calls from fresh leaves. Nothing else stands in this file;
-- proofs/Stops.antt proves it.
use Rattle.std.specs.Prelude.{◌≡◌, true, List, ℕ}
use Rattle.tables.specs.WellFormed.{fresh_block}
use Rattle.search.specs.Ordered.{searched}
use Rattle.search.specs.Stops.{Sooner, searched_on}
use Rattle.service.specs.Calls.{Call, last_block}
use Rattle.claims.specs.Ledger.{plain_exchanges, has_load}

-- 'Old answers that change after lines from fresh: ended searches that met the bound early count fewer tries, and some spent ones end', and no others: beside the walk that no bound ends, at every budget
-- (`same_plan`, `no_more_tries`, `ends_too` and `unmet_alike` in proofs/Uses.antt)
abbrev pub SearchesSooner : Type 0
SearchesSooner =
    (calls : List Call) → has_load (plain_exchanges fresh_block calls) ≡ true
    → (budget : ℕ) → Sooner (searched (last_block fresh_block calls) budget) (searched_on (last_block fresh_block calls) budget)
