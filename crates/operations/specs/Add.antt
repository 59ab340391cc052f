-- Document 01, '02 add': 'H at that choice grows by the points, T by s × points'.
use Rattle.std.specs.Prelude.{Bool, cond, List, ℕ, ◌+◌, ◌*◌, ltb, ℤ, pos, set}
use Rattle.refusals.specs.declared.Refusal.TheVariants.{CostAbove, PartsOutside}
use Rattle.refusals.specs.Verdicts.{Verdict, Fine, Declined, settled}
use Rattle.tables.specs.Block.{max_cost, max_parts, loaded_choice_place, held_choice_place, at, scale, loaded_choice, held_choice}
use Rattle.tables.specs.WellFormed.{is_open}

-- the choice is not forbidden
abbrev pub add_open : ℕ → ℕ → List ℤ → Bool
add_open i a b = is_open (at b (loaded_choice_place i a))

-- where an addition of p points to choice a of train i ends. Document 02, change 5: 'Forbidden entries stay so under every line that doesn't load, additions included'
unfoldable pub added : ℕ → ℕ → ℕ → List ℤ → List ℤ
added i a p b =
    cond (add_open i a b)
    (set (set b (loaded_choice_place i a) (pos (loaded_choice b i a + p))) (held_choice_place i a) (pos (held_choice b i a + scale b * p)))
    b

-- 10: 'H would pass 1,000,000'; then 12: T would end above L. At a forbidden choice there is nothing to decline
abbrev pub add_outcome : ℕ → ℕ → ℕ → List ℤ → Verdict
add_outcome i a p b =
    cond (add_open i a b)
    (cond (ltb max_cost (loaded_choice b i a + p)) (Declined CostAbove) (cond (ltb max_parts (held_choice b i a + scale b * p)) (Declined PartsOutside) Fine))
    Fine

-- a declined addition leaves the block
abbrev pub add_block : ℕ → ℕ → ℕ → List ℤ → List ℤ
add_block i a p b = settled (add_outcome i a p b) b (added i a p b)
