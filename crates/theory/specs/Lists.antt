-- Lists given by their entries.
use Rattle.std.specs.Prelude.{List, [], ◌∷◌, ◌++◌, ℕ, zero, suc, ◌+◌, get_or}

-- n entries: f i, f (i + 1) and so on
unfoldable pub list_from : {A : Type 0} → ℕ → ℕ → (ℕ → A) → List A
list_from i zero f = []
list_from i (suc n) f = f i ∷ list_from (i + 1) n f

-- n entries: f 0 to f (n - 1)
abbrev pub list_of : {A : Type 0} → ℕ → (ℕ → A) → List A
list_of n f = list_from 0 n f

-- entry i of a list of numbers
abbrev pub nth : List ℕ → ℕ → ℕ
nth l i = get_or l i 0

-- n lists, one after the other
unfoldable pub joined : ℕ → (ℕ → List ℕ) → List ℕ
joined zero f = []
joined (suc n) f = joined n f ++ f n
