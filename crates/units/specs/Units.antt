-- Document 01, 'Problem and units': points, parts, and the scale that converts them.
use Rattle.std.specs.Prelude.{cond, ℕ, ◌+◌, ◌-◌, ◌*◌, ◌/◌, ◌≤◌, ltb, Option, Some, None}
use Rattle.units.specs.declared.Points.{Points}
use Rattle.units.specs.declared.Parts.{Parts}

abbrev pub the_points : ℕ → Points
the_points n = record { 0 = n }

abbrev pub the_parts : ℕ → Parts
the_parts n = record { 0 = n }

-- how many points or parts a figure is
abbrev pub number_of_points : Points → ℕ
number_of_points p = p.0

abbrev pub number_of_parts : Parts → ℕ
number_of_parts p = p.0

-- 'The scale of a problem carries its own limits, 1 and 1000'
abbrev pub scale_min : ℕ
scale_min = 1

abbrev pub scale_max : ℕ
scale_max = 1000

-- a scale within its limits, as every scale is
pub record Sound (s : ℕ) : Type 0 where
  pub low : scale_min ≤ s
  pub high : s ≤ scale_max

-- the scale of a number, where the number is within the limits; a scale is seen as its number
abbrev pub new_scale : ℕ → Option ℕ
new_scale s = cond (ltb s scale_min) None (cond (ltb scale_max s) None (Some s))

-- 'one point is s parts'
abbrev pub in_parts : ℕ → Points → Parts
in_parts s p = the_parts (s * p.0)

-- 'the least whole number of points not below c0', of c0 parts at scale s
unfoldable pub rounded_up : ℕ → ℕ → ℕ
rounded_up s c = (c + (s - 1)) / s

-- c parts in points, rounded up
abbrev pub in_points : ℕ → Parts → Points
in_points s c = the_points (rounded_up s c.0)
