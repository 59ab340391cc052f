-- Lists that grow by one number at their end, and lists that are mapped: what stands where.
use mathlib.Core.Path.{◌≡◌, refl, sym, ap, ◌∙◌}
use mathlib.Core.List.{List, [], ◌∷◌, ◌++◌, map}
use Prim.Native.Nat.{ℕ, ◌+◌, ◌<◌}
use native.Mathlib.Omega.{arith}
use lib.ListN.{length, get_or, length-append, get_or-append, get_or-map}
use lib.Seq.{get_or-append_seam}
use Rattle.theory.specs.Sum.{sum}
use Rattle.theory.specs.Lists.{nth}
use Rattle.theory.proofs.Sum.{sum_cong, sum_more}

-- ---- one number more at the end

module _ (l : List ℕ) (a : ℕ) where
  pub snoc_length : length (l ++ (a ∷ [])) ≡ length l + 1
  snoc_length = length-append l (a ∷ [])

  pub snoc_at : (k : ℕ) → k < length l → nth (l ++ (a ∷ [])) k ≡ nth l k
  snoc_at k h = get_or-append l (a ∷ []) 0 k h

  pub snoc_end : (k : ℕ) → k ≡ length l → nth (l ++ (a ∷ [])) k ≡ a
  snoc_end k e = ap (nth (l ++ (a ∷ []))) e ∙ get_or-append_seam l a [] 0

  pub snoc_sum : (f : ℕ → ℕ) → sum (length (l ++ (a ∷ []))) (λ k. f (nth (l ++ (a ∷ [])) k)) ≡ sum (length l) (λ k. f (nth l k)) + f a
  snoc_sum f =
      let g : ℕ → ℕ = λ k. f (nth (l ++ (a ∷ [])) k) in
      omega (
        arith,
        ap (λ (n : ℕ). sum n g) snoc_length,
        sum_more (length l) g,
        sum_cong (length l) g (λ k. f (nth l k)) (λ k h. ap f (snoc_at k h)),
        ap f (snoc_end (length l) refl),
      )

-- ---- a list that is mapped

-- past the end stands 0 in both
pub nth-map : (f : ℕ → ℕ) (l : List ℕ) (k : ℕ) → f 0 ≡ 0 → nth (map f l) k ≡ f (nth l k)
nth-map f l k e = ap (get_or (map f l) k) (sym e) ∙ get_or-map f l k 0

-- ---- a list that is mapped twice

pub map_of_map : {A B C : Type 0} (f : B → C) (g : A → B) (l : List A) → map f (map g l) ≡ map (λ x. f (g x)) l
map_of_map f g [] = refl
map_of_map f g (x ∷ l) = ap (λ (m : List _). f (g x) ∷ m) (map_of_map f g l)
