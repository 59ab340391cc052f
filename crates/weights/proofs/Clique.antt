-- Source document 000's clique of three trains with two choices, where two trains never take the same: it has no plan, so that every rival of document 01 gives every plan its total,
-- however high its constant is. The weights of halves agree, spare what is forbidden, and have the weighted total 0. So the wider claim fails where entries are forbidden.
use mathlib.Core.Path.{◌≡◌, refl}
use mathlib.Core.Bool.{Bool, true, false, cond, not}
use Prim.Native.Nat.{ℕ, zero, suc, ◌<◌}
use native.Mathlib.Omega.{arith}
use lib.Dec.{eqb}
use borrow.Author.Tests.{eq-eqb, not-true}
use Rattle.theory.specs.Sum.{sum}
use Rattle.theory.proofs.Range.{not_both}
use Rattle.tables.specs.Plans.{Costs, Shape, IsPlan, total}
use Rattle.certificates.specs.Rival.{as_fraction, plus, times, AtMost, Rival, ConstantAtMost, IsRival}
use Rattle.certificates.specs.Certify.{Weights, over_choices, over_pairs, weighted}
use Rattle.certificates.proofs.Agrees.{Agrees}
use Rattle.weights.specs.Weights.{Spares}

-- the pairs 0 1, 0 2 and 1 2
abbrev pub clique : Shape
clique =
    record {
      trains = 3;
      size = λ i. 2;
      pairs = 3;
      first = λ k. cond (eqb k 2) 1 0;
      second = λ k. cond (eqb k 0) 1 2;
      choice_open = λ i a. true;
      entry_open = λ k a c. not (eqb a c);
    }

-- nothing costs anything
abbrev pub free : Costs
free = record { constant = 0; choice = λ i a. 0; pair = λ k a c. 0 }

-- a half on each choice and on each open entry, with W = 2
abbrev pub halves : Weights
halves = record { full_weight = 2; choice = λ i a. 1; pair = λ k a c. cond (eqb a c) 0 1 }

-- a constant of 1, and nothing else
abbrev pub dear : Rival
dear = record { gain = as_fraction 1; loss = as_fraction 0; choice = λ i a. as_fraction 0; pair = λ k a c. as_fraction 0 }

-- one of two choices
two : (P : ℕ → Type 0) → P 0 → P 1 → (a : ℕ) → a < 2 → P a
two P p q zero h = p
two P p q (suc zero) h = q
two P p q (suc (suc n)) h = absurd (omega arith)

differ : (a c : ℕ) → not (eqb a c) ≡ true → a ≡ c → ⊥
differ a c e f = not_both (eq-eqb a c f) (not-true (eqb a c) e)

pub clique_has_no_plan : (x : ℕ → ℕ) → IsPlan clique x → ⊥
clique_has_no_plan x p =
    omega (
      arith,
      p.below 0 (omega arith),
      p.below 1 (omega arith),
      p.below 2 (omega arith),
      differ (x 0) (x 1) (p.entries 0 (omega arith)),
      differ (x 0) (x 2) (p.entries 1 (omega arith)),
      differ (x 1) (x 2) (p.entries 2 (omega arith)),
    )

pub halves_agree : Agrees clique halves
unfolding sum
halves_agree =
    record {
      trains = λ i h. refl;
      rows = λ k a h q. two (λ b. sum 2 (λ c. halves.pair k b c) ≡ 1) refl refl a q;
      columns = λ k c h q. two (λ b. sum 2 (λ a. halves.pair k a b) ≡ 1) refl refl c q;
    }

none_closed : (b : Bool) → not b ≡ false → ◌≡◌ {A = ℕ} (cond b 0 1) 0
none_closed true e = refl
none_closed false e = absurd (not_both refl e)

pub halves_spare : Spares clique halves
halves_spare =
    record { choices = λ i a h q z. absurd (not_both refl z); entries = λ k a c h q r z. none_closed (eqb a c) z }

pub halves_weigh_nothing : weighted clique halves free ≡ 0
unfolding weighted over_choices over_pairs sum
halves_weigh_nothing = refl

-- the rival `dear` gives every plan its total, and its constant is above E / W
pub wider_claim_fails : IsRival clique (total clique free) dear × (ConstantAtMost halves.full_weight (weighted clique halves free) dear → ⊥)
unfolding IsRival ConstantAtMost AtMost times plus as_fraction weighted over_choices over_pairs sum
wider_claim_fails = ((λ x p. absurd (clique_has_no_plan x p)), (λ l. omega arith))
