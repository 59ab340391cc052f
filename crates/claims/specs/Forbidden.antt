-- Document 02, change 5: what no line but a load changes, on every block, also on one that no line has made. Nothing else stands in this file; proofs/Forbidden.antt proves it.
use Rattle.std.specs.Prelude.{◌≡◌, false, List, ℕ, ◌<◌, ◌≤◌, ℤ}
use Rattle.tables.specs.Block.{loaded_choices_from, order_from, at}
use Rattle.tables.specs.WellFormed.{is_open}
use Rattle.radio.specs.Forms.{as_plain}
use Rattle.service.specs.Answer.{answer}
use Rattle.claims.specs.Ledger.{by_kind, loads}

-- 'Forbidden entries stay so under every line that doesn't load, additions included', in either form: at every place of H and T, accepted or declined, and what is permitted stays so too (`stays_forbidden`,
-- `sum_forbidden` and `stays_permitted` in proofs/UsesForbidden.antt)
abbrev pub ForbiddenStays : Type 0
ForbiddenStays =
    (l : List ℕ) (b : List ℤ) (buffer : List ℕ) → by_kind loads false (as_plain l) ≡ false
    → (p : ℕ) → loaded_choices_from ≤ p → p < order_from → is_open (at (answer l b buffer).block p) ≡ is_open (at b p)
