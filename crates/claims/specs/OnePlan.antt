-- Document 02, change 12: 'Where such a certificate has W = 1, the plan with weight 1 everywhere has the least total', such a one being 'a certificate that says reached'. What is claimed of it in a list
-- is a part of demand 3's statement (Claims). What follows from each part stands in proofs/Uses.antt and proofs/UsesForbidden.antt; the name of the law there is in brackets.
use Rattle.std.specs.Prelude.{◌≡◌, List, ℕ, ◌+◌, ◌<◌, ◌≤◌, ℤ}
use Rattle.tables.specs.Plans.{Shape, IsPlan, held_total}
use Rattle.tables.specs.Counts.{choice_count, choice_index, entry_index}
use Rattle.lines.specs.Layout.{number_in, further, weight_field}
use Rattle.claims.specs.Ledger.{Ledger, cost_of}

-- 'weights w_i(a) (3 each), weights z_ij(a,b) (3 each), ordered as in a load': the numbers of a certificate's line, by a study's sizes and pairs
abbrev pub choice_weight : Shape → List ℕ → ℕ → ℕ → ℕ
choice_weight s l i a = number_in l (further weight_field (choice_index s i a))

abbrev pub entry_weight : Shape → List ℕ → ℕ → ℕ → ℕ → ℕ
entry_weight s l k a c = number_in l (further weight_field (choice_count s + entry_index s k a c))

-- by the ledger g, of the line l on the block b
pub record OnePlan (g : Ledger) (b : List ℤ) (l : List ℕ) : Type 0 where
  pub plan : ℕ → ℕ
  -- 'the plan': no entry of it is forbidden (`closed_choice`, `closed_entry`)
  pub is_plan : IsPlan g.shape plan
  -- 'with weight 1 everywhere': on each of its choices (`no_weights`), and on its entry of each pair (`no_entry_weights`)
  pub choices : (i : ℕ) → i < g.shape.trains → choice_weight g.shape l i (plan i) ≡ 1
  pub entries : (k : ℕ) → k < g.shape.pairs → entry_weight g.shape l k (plan (g.shape.first k)) (plan (g.shape.second k)) ≡ 1
  -- there is one only (`two_plans`)
  pub only : (x : ℕ → ℕ) → ((i : ℕ) → i < g.shape.trains → x i < g.shape.size i) → ((i : ℕ) → i < g.shape.trains → choice_weight g.shape l i (x i) ≡ 1)
      → (i : ℕ) → i < g.shape.trains → x i ≡ plan i
  -- it 'has the least total': in points by the ledger (`dear_plan`), and in parts by c0 and T (`least_parts`)
  pub least : (x : ℕ → ℕ) → IsPlan g.shape x → cost_of g plan ≤ cost_of g x
  pub least_held : (x : ℕ → ℕ) → IsPlan g.shape x → held_total b plan ≤ held_total b x
