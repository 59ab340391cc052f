-- Euclid, and a bound in steps, computed. Document 02, change 9: 'One railway's costs are all multiples of 5, so a bound of 11 already means 15'.
use mathlib.Core.Path.{◌≡◌, refl}
use Rattle.units.specs.Units.{rounded_up}
use Rattle.bounds.specs.Steps.{euclid, gcd, rounded_to}

pub gcds : (gcd 15 20 ≡ 5) × (gcd 20 15 ≡ 5) × (gcd 0 7 ≡ 7) × (gcd 7 0 ≡ 7) × (gcd 999999 1000000 ≡ 1) × (gcd 750000 1000000 ≡ 250000)
unfolding euclid gcd
gcds = (refl, refl, refl, refl, refl, refl)

pub rounded : (rounded_to 5 11 ≡ 15) × (rounded_to 5 15 ≡ 15) × (rounded_to 5 0 ≡ 0) × (rounded_to 1 11 ≡ 11)
unfolding rounded_up rounded_to
rounded = (refl, refl, refl, refl)
