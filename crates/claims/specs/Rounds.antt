-- Document 02, change 4: what a line of kind 08 leaves, on every block, also on one that no line has made. Nothing else stands in this file; proofs/Rounds.antt proves both statements.
use Rattle.std.specs.Prelude.{◌≡◌, true, List, ℕ, ◌≤◌, ℤ, Ok}
use Rattle.tables.specs.Block.{constant}
use Rattle.tables.specs.Plans.{Open, Branches, LeastOf, shape_of, held_total}
use Rattle.lines.specs.declared.kind.Kind.TheVariants.{Round}
use Rattle.lines.specs.Kinds.{new_kind}
use Rattle.lines.specs.Layout.{kind_of}
use Rattle.replies.specs.Shown.{accepted}
use Rattle.service.specs.Answer.{answer}

-- the constant never falls by a round, accepted or declined (`round_from_2` in proofs/Uses.antt)
abbrev pub RoundRaises : Type 0
RoundRaises = (l : List ℕ) (b : List ℤ) (buffer : List ℕ) → new_kind (kind_of l) ≡ Ok Round → constant b ≤ constant (answer l b buffer).block

-- 'Where every train has at most one partner of lower number, the constant afterwards equals the least total of any plan', by c0 and T as they were; 'its least-total equality is kept for studies
-- without forbidden entries'
abbrev pub RoundSettles : Type 0
RoundSettles =
    (l : List ℕ) (b : List ℤ) (buffer : List ℕ) → new_kind (kind_of l) ≡ Ok Round → accepted (answer l b buffer).reply ≡ true → Open (shape_of b) → Branches (shape_of b)
    → LeastOf (shape_of b) (held_total b) (constant (answer l b buffer).block)
