-- How a table writes a line, a reply and a block. Document 01's 'State block' stands here a second time, from the first place to the last: no place that another definition counts
-- is cited, so a table says what a whole block holds and rests on none of them.
use Rattle.std.specs.Prelude.{cond, List, [], ◌∷◌, ℕ, zero, suc, ◌*◌, eqb, ℤ, pos, negsuc, length, replicate}
use Prim.Native.String.{String}
use Rattle.theory.specs.Lists.{list_from}
use Rattle.frames.specs.Text.{codes}

-- all characters but spaces
unfoldable pub unspaced : List ℕ → List ℕ
unspaced [] = []
unspaced (c ∷ l) = cond (eqb c 32) (unspaced l) (c ∷ unspaced l)

-- the characters of a text but its spaces, which part the fields for reading only
unfoldable pub text : String → List ℕ
unfolding codes unspaced
text s = unspaced (codes s)

-- a buffer of so many characters, none of which is a digit: what a reply does not cover is seen to stay
unfoldable pub marks : ℕ → List ℕ
marks n = replicate n 170

-- how a forbidden choice, or a forbidden pair of choices, stands among costs
unfoldable pub closed : ℕ
closed = 16777215

-- document 02, change 5: 'H and T hold −1'
unfoldable pub place : ℕ → ℤ
place v = cond (eqb v closed) (negsuc 0) (pos v)

-- a study: its choices' costs have a row for each train, its pairs' costs a grid for each pair, with a row for each choice of the first train
pub record Written : Type 0 where
  pub scale : ℕ
  pub constant : ℕ
  pub sizes : List ℕ
  pub firsts : List ℕ
  pub seconds : List ℕ
  pub loaded_choices : List (List ℕ)
  pub held_choices : List (List ℕ)
  pub loaded_entries : List (List (List ℕ))
  pub held_entries : List (List (List ℕ))

-- so many places, of which the first hold the numbers: 'Unused places are 0'. Then the rest
unfoldable pub places : ℕ → List ℕ → List ℤ → List ℤ
places zero l rest = rest
places (suc n) [] rest = pos 0 ∷ places n [] rest
places (suc n) (x ∷ l) rest = place x ∷ places n l rest

-- so many rows of 8 places
unfoldable pub rows : ℕ → List (List ℕ) → List ℤ → List ℤ
rows n [] rest = places (8 * n) [] rest
rows zero (r ∷ l) rest = rest
rows (suc n) (r ∷ l) rest = places 8 r (rows n l rest)

-- so many grids of 8 rows
unfoldable pub grids : ℕ → List (List (List ℕ)) → List ℤ → List ℤ
grids n [] rest = places (64 * n) [] rest
grids zero (g ∷ l) rest = rest
grids (suc n) (g ∷ l) rest = rows 8 g (grids n l rest)

-- the study's block, its trains in this order: 'place 0 n, 1 s, 2 m, 3 c0; from 4 the 24 sizes; from 28 each pair's i; from 76 each pair's j; from 124 H of choices; from 316 T likewise; from 508 H of
-- pairs; from 3580 T likewise', and document 02, change 10: 'The block gains 24 places from 6652'
unfoldable pub laid_in : List ℕ → Written → List ℤ
laid_in order w =
    places 4 (length w.sizes ∷ w.scale ∷ length w.firsts ∷ w.constant ∷ [])
    (places 24 w.sizes (places 48 w.firsts (places 48 w.seconds
    (rows 24 w.loaded_choices (rows 24 w.held_choices
    (grids 48 w.loaded_entries (grids 48 w.held_entries (places 24 order []))))))))

-- in the order that a load sets: '0 to n−1'
unfoldable pub laid : Written → List ℤ
laid w = laid_in (list_from 0 (length w.sizes) (λ i. i)) w
