-- Lists that grow at their end, by one entry or by one part: the next turn of a loop that pushes.
use mathlib.Core.Path.{◌≡◌, refl, sym, ap, ap₂, ◌∙◌}
use mathlib.Core.List.{List, [], ◌∷◌, ◌++◌, append_assoc}
use Prim.Native.Nat.{ℕ, zero, suc, ◌+◌}
use native.Mathlib.Nat.{add-zero, zero-add}
use native.Mathlib.Numerals.{add-one}
use native.Mathlib.Omega.{arith}
use Rattle.theory.specs.Lists.{list_from, list_of, joined}

module _ {A : Type 0} (f : ℕ → A) where
  pub list_begun : list_of 0 f ≡ []
  unfolding list_from
  list_begun = refl

  from_more : (i n : ℕ) → list_from i (suc n) f ≡ list_from i n f ++ (f (i + n) ∷ [])
  unfolding list_from
  from_more i zero = ap (λ (j : ℕ). f j ∷ []) (sym (add-zero i))
  from_more i (suc n) =
      let e : i + 1 + n ≡ i + suc n = omega arith in
      ap (λ (l : List A). f i ∷ l) (from_more (i + 1) n ∙ ap (λ (j : ℕ). list_from (i + 1) n f ++ (f j ∷ [])) e)

  -- an entry is pushed
  pub list_turn : (n : ℕ) {l m : List A} {x : A} → l ≡ list_of n f → x ≡ f n → m ≡ l ++ (x ∷ []) → m ≡ list_of (n + 1) f
  list_turn n p q r = r ∙ ap₂ (λ (l : List A) (x : A). l ++ (x ∷ [])) p (q ∙ ap f (sym (zero-add n))) ∙ sym (from_more 0 n) ∙ ap (λ (k : ℕ). list_of k f) (sym (add-one n))

-- a part is pushed
pub joined_next : (f : ℕ → List ℕ) (n : ℕ) → joined (n + 1) f ≡ joined n f ++ f n
unfolding joined
joined_next f n = rw add-one

-- an entry is pushed behind others
pub list_grown : (f : ℕ → ℕ) (old : List ℕ) (n : ℕ) {l m : List ℕ} {x : ℕ} → l ≡ old ++ list_of n f → x ≡ f n → m ≡ l ++ (x ∷ []) → m ≡ old ++ list_of (n + 1) f
list_grown f old n {x = x} p q r = r ∙ ap (λ (l : List ℕ). l ++ (x ∷ [])) p ∙ append_assoc old (list_of n f) (x ∷ []) ∙ ap (λ (l : List ℕ). old ++ l) (list_turn f n refl q refl)
