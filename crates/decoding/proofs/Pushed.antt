-- A loop that puts one item behind the others: a number of each item, as a list.
use mathlib.Core.Path.{◌≡◌, sym, ap, ◌∙◌}
use mathlib.Core.List.{List, [], ◌∷◌, ◌++◌, map}
use Prim.Native.Nat.{ℕ, ◌+◌}
use lib.ListN.{length}
use Rattle.std.proofs.lemmas.List.{map-append, length-map}
use Rattle.theory.specs.Lists.{list_of}
use Rattle.theory.proofs.Lists.{list_length, list_next}

module _ {A B : Type 0} (g : A → B) (f : ℕ → B) (s : List A) (k : ℕ) where
  pub pushed : (x : A) {t : List A} → t ≡ s ++ x ∷ [] → map g s ≡ list_of k f → g x ≡ f k → map g t ≡ list_of (k + 1) f
  pushed x p q r = rw (p, map-append, q, r) (list_next f [] k)

  pub item_count : map g s ≡ list_of k f → length s ≡ k
  item_count q = sym (length-map s g) ∙ ap length q ∙ list_length f k
