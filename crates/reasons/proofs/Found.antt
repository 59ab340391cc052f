-- A least reaches a limit just where each number that counts does; and how high the least of a pair may be.
use mathlib.Core.Path.{◌≡◌, refl, sym, ap, ◌∙◌}
use mathlib.Core.Bool.{Bool, true, false, not, ◌&&◌, ◌||◌, and-true}
use mathlib.Core.List.{List}
use Prim.Native.Nat.{ℕ, zero, suc, ◌+◌, ◌*◌, ◌^◌, ◌<◌, ◌≤◌, min}
use native.Mathlib.Omega.{arith}
use lib.Dec.{leb}
use lib.IntN.{ℤ}
use borrow.Author.Tests.{leb-true, le-leb}
use Rattle.std.specs.Prelude.{Option, Some, None, IfSome}
use Rattle.theory.specs.Range.{all}
use Rattle.theory.proofs.Range.{both_true, not_both, bool_ext, all_true}
use Rattle.units.specs.declared.Parts.{Parts}
use Rattle.units.specs.Units.{number_of_parts}
use Rattle.tables.specs.Block.{max_parts}
use Rattle.tables.specs.WellFormed.{Study}
use Rattle.tables.specs.Plans.{Shape, Costs, shape_of, held_costs}
use Rattle.rewriting.specs.declared.sides.Side.{Side}
use Rattle.rewriting.specs.Leasts.{met_one, found_of, figure_of}
use Rattle.rewriting.proofs.LeastOpen.{least_open_most}
use Rattle.rewriting.proofs.Shape.{study_figure}
use Rattle.reasons.specs.Reasons.{own_cost, partner_train, both_open, partner_cost, added_reaches, pair_reaches}

-- ---- the definition asks the least, which says as much as asking each number

module _ (own limit : ℕ) where
  -- the lower of two numbers reaches the limit where both do
  lower_reaches : (l v : ℕ) → leb limit (own + min l v) ≡ leb limit (own + l) && leb limit (own + v)
  lower_reaches l v =
      bool_ext (leb limit (own + min l v)) (leb limit (own + l) && leb limit (own + v))
      (λ e. let h = leb-true limit (own + min l v) e in rw (le-leb limit (own + l) (omega arith), le-leb limit (own + v) (omega arith)) refl)
      (λ e. let h = both_true (leb limit (own + l)) (leb limit (own + v)) e in le-leb limit (own + min l v) (omega (arith, leb-true limit (own + l) h.0, leb-true limit (own + v) h.1)))

  -- one number more
  met_reaches : (t : Bool) (v : ℕ) (so : Option Parts) → added_reaches own limit (met_one t v so) ≡ added_reaches own limit so && (not t || leb limit (own + v))
  met_reaches true v (Some p) = lower_reaches (number_of_parts p) v
  met_reaches true v None = refl
  met_reaches false v so = sym (and-true (added_reaches own limit so))

  -- there is none, or the least reaches the limit, just where each number that counts does
  pub found_reaches : (n : ℕ) (o : ℕ → Bool) (f : ℕ → ℕ) → added_reaches own limit (found_of n o f) ≡ all n (λ c. not (o c) || leb limit (own + f c))
  unfolding found_of all
  found_reaches zero o f = refl
  found_reaches (suc n) o f = met_reaches (o n) (f n) (found_of n o f) ∙ ap (λ (r : Bool). r && (not (o n) || leb limit (own + f n))) (found_reaches n o f)

-- 'adding the least .. reaches it, or there is no such partner choice': each of the partner's choices reaches it, where both are permitted
pub pair_each : (s : Shape) (t : Costs) (side : Side) (k i a limit : ℕ)
    → pair_reaches s t side k i a limit ≡ all (s.size (partner_train s side k)) (λ c. not (both_open s side k a c) || leb limit (own_cost t i a + partner_cost s t side k a c))
unfolding pair_reaches
pair_each s t side k i a limit = found_reaches (own_cost t i a) limit (s.size (partner_train s side k)) (both_open s side k a) (partner_cost s t side k a)

pub or_right : (a b : Bool) → a ≡ true → not a || b ≡ true → b ≡ true
or_right true b p q = q
or_right false b p q = absurd (not_both p refl)

-- so does one of them that a plan may take
pub pair_one : (s : Shape) (t : Costs) (side : Side) (k i a limit : ℕ) → pair_reaches s t side k i a limit ≡ true
    → (c : ℕ) → c < s.size (partner_train s side k) → both_open s side k a c ≡ true → limit ≤ own_cost t i a + partner_cost s t side k a c
pair_one s t side k i a limit e c h o =
    leb-true limit _ (or_right (both_open s side k a c) _ o (all_true (λ c. not (both_open s side k a c) || leb limit (own_cost t i a + partner_cost s t side k a c)) (s.size (partner_train s side k)) (sym (pair_each s t side k i a limit) ∙ e) c h))

-- ---- in a study: an entry and a choice are each at most L

found_high : (so : Option Parts) (h : ℕ) → figure_of so < h → IfSome so (λ p. number_of_parts p < h)
found_high (Some p) h l = l
found_high None h l = tt

pub found_room : {b : List ℤ} → Study b → (n : ℕ) (side : Side) (k a : ℕ)
    → IfSome (found_of n (both_open (shape_of b) side k a) (partner_cost (shape_of b) (held_costs b) side k a)) (λ p. number_of_parts p < 2 ^ 40)
unfolding held_costs
found_room {b} s n side k a =
    let o = both_open (shape_of b) side k a in
    let f = partner_cost (shape_of b) (held_costs b) side k a in
    found_high (found_of n o f) (2 ^ 40) (omega (arith, least_open_most n o f (2 * max_parts) (λ c h q. omega (arith, study_figure s))))
