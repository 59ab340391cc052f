-- Document 01, 'Problem and units', and document 02, change 9: the published bound of a block.
use Rattle.std.specs.Prelude.{List, ℕ, ℤ}
use Rattle.units.specs.Units.{rounded_up}
use Rattle.tables.specs.Block.{scale, constant}
use Rattle.bounds.specs.Steps.{step_of, rounded_to}

-- 'the least whole number of points not below c0', which 'rounds up to a multiple of the greatest common divisor of all loaded costs'
unfoldable pub bound_of : List ℤ → ℕ
bound_of b = rounded_to (step_of b) (rounded_up (scale b) (constant b))
