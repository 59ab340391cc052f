-- The number of tries of some sizes, on both sides of the limit and turned round, and one dearest study, computed.
use mathlib.Core.Path.{◌≡◌, refl}
use mathlib.Core.Bool.{true, false}
use mathlib.Core.List.{List, [], ◌∷◌, ◌++◌}
use Prim.Native.Nat.{ℕ}
use lib.ListN.{replicate}
use Rattle.theory.specs.Sum.{sum}
use Rattle.theory.specs.Product.{product}
use Rattle.theory.specs.Lists.{list_from}
use Rattle.theory.specs.Tries.{tries_from}
use Rattle.tables.specs.Numbers.{numbers}
use Rattle.dearest.specs.Dearest.{dearest_tries, tries_within, dearest}

-- 24 trains, and the same turned round
abbrev rising : List ℕ
rising = replicate 16 1 ++ (4 ∷ replicate 7 8)

abbrev falling : List ℕ
falling = replicate 7 8 ++ (4 ∷ replicate 16 1)

-- as many tries as there may be
abbrev at_limit : List ℕ
at_limit = 8 ∷ 1 ∷ 6 ∷ 6 ∷ 1 ∷ 8 ∷ 1 ∷ 6 ∷ 2 ∷ 8 ∷ 4 ∷ 5 ∷ 1 ∷ []

pub few : (dearest_tries (1 ∷ []) ≡ 1) × (dearest_tries (2 ∷ 2 ∷ []) ≡ 6) × (dearest_tries (2 ∷ 3 ∷ 4 ∷ []) ≡ 32)
unfolding sum product tries_from
few = (refl, refl, refl)

pub many : (dearest_tries (replicate 7 8) ≡ 2396744) × (dearest_tries (replicate 8 8) ≡ 19173960) × (dearest_tries rising ≡ 9586996) × (dearest_tries falling ≡ 145003080)
unfolding sum product tries_from
many = (refl, refl, refl, refl)

pub limit : (dearest_tries at_limit ≡ 10000000) × (tries_within at_limit ≡ true) × (dearest_tries (1 ∷ at_limit) ≡ 10000001) × (tries_within (1 ∷ at_limit) ≡ false)
unfolding sum product tries_from
limit = (refl, refl, refl, refl)

pub three : dearest (2 ∷ 3 ∷ 4 ∷ []) ≡ numbers 1 (2 ∷ 3 ∷ 4 ∷ []) (0 ∷ 0 ∷ 0 ∷ 0 ∷ 0 ∷ 1 ∷ 1 ∷ 1 ∷ 1 ∷ []) [] [] []
unfolding dearest list_from sum
three = refl
