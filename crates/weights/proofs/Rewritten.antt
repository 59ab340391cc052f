-- Every rewriting keeps the weighted total: each open entry's equation is taken with its weight and summed. What goes out of rows and columns comes to choices with the same
-- weights, since rows and columns sum to the choices' weights; what goes out of a train's choices comes to the constant with W, since a train's weights sum to W.
use mathlib.Core.Path.{◌≡◌, refl, ap, ap₂, ◌∙◌}
use mathlib.Core.Bool.{Bool, true, false, cond}
use Prim.Native.Nat.{ℕ, ◌+◌, ◌*◌}
use native.Mathlib.Nat.{mul-add}
use native.Mathlib.Omega.{arith}
use lib.Dec.{eqb}
use Rattle.theory.specs.Sum.{sum}
use Rattle.tables.specs.Plans.{Costs, Shape}
use Rattle.theory.proofs.Sum.{sum_cong, sum-add, sum-zero}
use Rattle.tables.proofs.Plans.{Shaped}
use Rattle.certificates.specs.Certify.{Weights, over_choices, over_pairs, weighted}
use Rattle.certificates.proofs.Agrees.{Agrees}
use Rattle.certificates.proofs.Rivals.{choices_add, pairs-add, choices_const}
use Rattle.weights.specs.Weights.{Spares}
use Rattle.weights.specs.Moves.{Moves, given_by, given, Rewritten, no_moves, together}
use Rattle.weights.proofs.Sums.{choices_spared, pairs-spared, given-weighted}

-- ---- the weighted total

module _ (s : Shape) (sh : Shaped s) (w : Weights) (ag : Agrees s w) (sp : Spares s w) (t u : Costs) (up down : Moves) (r : Rewritten s t u up down) where
  choices_kept : over_choices s w u.choice + w.full_weight * sum s.trains up.lift + over_choices s w (given s down)
      ≡ over_choices s w t.choice + w.full_weight * sum s.trains down.lift + over_choices s w (given s up)
  choices_kept =
      omega (
        arith,
        choices_spared s w sp _ _ r.choices,
        choices_add s w (λ i a. u.choice i a + up.lift i) (given s down),
        choices_add s w u.choice (λ i a. up.lift i),
        choices_add s w (λ i a. t.choice i a + down.lift i) (given s up),
        choices_add s w t.choice (λ i a. down.lift i),
        choices_const s w ag up.lift,
        choices_const s w ag down.lift,
      )

  entries_kept : over_pairs s w u.pair + over_pairs s w (λ k a c. up.row k a) + over_pairs s w (λ k a c. up.column k c)
      ≡ over_pairs s w t.pair + over_pairs s w (λ k a c. down.row k a) + over_pairs s w (λ k a c. down.column k c)
  entries_kept =
      omega (
        arith,
        pairs-spared s w sp _ _ r.entries,
        pairs-add s w (λ k a c. u.pair k a c + up.row k a) (λ k a c. up.column k c),
        pairs-add s w u.pair (λ k a c. up.row k a),
        pairs-add s w (λ k a c. t.pair k a c + down.row k a) (λ k a c. down.column k c),
        pairs-add s w t.pair (λ k a c. down.row k a),
      )

  pub rewritten_weighted : weighted s w u ≡ weighted s w t
  unfolding weighted
  rewritten_weighted =
      omega (
        arith,
        choices_kept,
        entries_kept,
        given-weighted s w ag sh up,
        given-weighted s w ag sh down,
        ap (λ (v : ℕ). w.full_weight * v) r.constant,
        mul-add w.full_weight u.constant (sum s.trains down.lift),
        mul-add w.full_weight t.constant (sum s.trains up.lift),
      )

-- ---- what no moves give, and what two sets of moves give together

if_both : (b : Bool) (m n : ℕ) → cond b (m + n) 0 ≡ cond b m 0 + cond b n 0
if_both true m n = refl
if_both false m n = refl

if_none : (b : Bool) → ◌≡◌ {A = ℕ} (cond b 0 0) 0
if_none true = refl
if_none false = refl

pub given_none : (s : Shape) (i a : ℕ) → given s no_moves i a ≡ 0
unfolding given
given_none s i a = sum_cong s.pairs _ _ (λ k h. ap₂ ◌+◌ (if_none (eqb (s.first k) i)) (if_none (eqb (s.second k) i))) ∙ sum-zero s.pairs

pub given-together : (s : Shape) (m n : Moves) (i a : ℕ) → given s (together m n) i a ≡ given s m i a + given s n i a
unfolding given
given-together s m n i a =
    sum_cong s.pairs (given_by s (together m n) i a) (λ k. given_by s m i a k + given_by s n i a k) (λ k h.
    omega (arith, if_both (eqb (s.first k) i) (m.row k a) (n.row k a), if_both (eqb (s.second k) i) (m.column k a) (n.column k a)))
    ∙ sum-add s.pairs (given_by s m i a) (given_by s n i a)

-- nothing moved, and one rewriting after another
pub rewritten_same : (s : Shape) (t : Costs) → Rewritten s t t no_moves no_moves
rewritten_same s t = record { constant = refl; choices = λ i a p q o. refl; entries = λ k a c p q r o. refl }

pub rewritten_then : {s : Shape} {t u v : Costs} {up down more back : Moves}
    → Rewritten s t u up down → Rewritten s u v more back → Rewritten s t v (together up more) (together down back)
rewritten_then {s} {t} {u} {v} {up} {down} {more} {back} x y =
    record {
      constant = omega (arith, x.constant, y.constant, sum-add s.trains up.lift more.lift, sum-add s.trains down.lift back.lift);
      choices = λ i a p q o. omega (arith, x.choices i a p q o, y.choices i a p q o, given-together s up more i a, given-together s down back i a);
      entries = λ k a c p q r o. omega (arith, x.entries k a c p q r o, y.entries k a c p q r o);
    }
