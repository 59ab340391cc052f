-- The numbers of a well-formed block: all that the code keeps of it.
use Rattle.std.specs.Prelude.{Bool, true, false, List, ℤ}
use Rattle.tables.specs.declared.block.Block.{Block}
use Rattle.tables.specs.declared.block.Block.TheVariants.{Fresh, Held}
use Rattle.tables.specs.WellFormed.{fresh_block}

abbrev pub block_numbers : Block → List ℤ
block_numbers Fresh = fresh_block
block_numbers (Held s) = s.numbers.now

-- whether it is fresh
abbrev pub fresh_of : Block → Bool
fresh_of Fresh = true
fresh_of (Held s) = false
