-- A kind and its number determine each other, and the number is above 0 and low. A law of every kind has one clause for one kind and one for the others, which is checked for each of them.
use mathlib.Core.Path.{◌≡◌, refl, ◌∙◌, ap}
use mathlib.Core.Bool.{Bool, true, false, cond}
use mathlib.Core.List.{List, [], ◌∷◌}
use Prim.Native.Nat.{ℕ, ◌<◌}
use native.Mathlib.Omega.{arith}
use lib.Dec.{eqb}
use borrow.Author.Tests.{eqb-true}
use Rattle.std.specs.Prelude.{Result, Ok}
use Rattle.refusals.specs.declared.Refusal.{Refusal}
use Rattle.lines.specs.declared.kind.Kind.{Kind}
use Rattle.lines.specs.declared.kind.Kind.TheVariants.{Load}
use Rattle.lines.specs.Kinds.{kind_number, kind_if, all_kinds, kind_among, new_kind}

-- the kind of a kind's number is that kind, so that each kind is one of `all_kinds`, and no two have one number
pub number_kind : (k : Kind) → new_kind (kind_number k) ≡ Ok k
unfolding new_kind
number_kind Load = refl
number_kind k = refl

module _ (n : ℕ) (k : Kind) where
  kind_if_lem : (j : Kind) (other : Result Kind Refusal) → (other ≡ Ok k → n ≡ kind_number k) → kind_if j n other ≡ Ok k → n ≡ kind_number k
  kind_if_lem j other f e = go (eqb n (kind_number j)) refl e
    where
      go : (t : Bool) → eqb n (kind_number j) ≡ t → cond t (Ok j) other ≡ Ok k → n ≡ kind_number k
      go true p e = let same : j ≡ k = cc in eqb-true n (kind_number j) p ∙ ap kind_number same
      go false p e = f e

  among_number : (kinds : List Kind) → kind_among kinds n ≡ Ok k → n ≡ kind_number k
  among_number [] e = cc
  among_number (j ∷ kinds) e = kind_if_lem j (kind_among kinds n) (among_number kinds) e

  -- the number of a number's kind is that number
  pub kind_number_lem : new_kind n ≡ Ok k → n ≡ kind_number k
  unfolding new_kind
  kind_number_lem = among_number all_kinds

-- 0 is no kind's number
pub number_some : (k : Kind) → 0 < kind_number k
number_some Load = omega arith
number_some k = omega arith

-- so low that the reply to a line of this kind, whose first byte is 128 higher, is no refusal, with 40 hexadecimal added too
pub number_low : (k : Kind) → kind_number k < 63
number_low Load = omega arith
number_low k = omega arith
