-- The end of an operation, with what is forbidden put back, is a rewriting of the held costs; so it keeps every weighted total and every plan's total.
use mathlib.Core.Path.{◌≡◌, refl, sym, ◌∙◌}
use mathlib.Core.Bool.{true}
use mathlib.Core.List.{List}
use Prim.Native.Nat.{ℕ, ◌≤◌}
use native.Mathlib.Omega.{arith}
use lib.IntN.{ℤ}
use Rattle.tables.specs.Block.{max_parts, constant_place, held_choice_place, held_entry_place}
use Rattle.tables.specs.Plans.{Shape, Costs, IsPlan, Open, total, shape_of, held_costs, held_total}
use Rattle.tables.specs.WellFormed.{holds_study, Study}
use Rattle.tables.proofs.Limits.{natural_open}
use Rattle.tables.proofs.Study.{study_holds}
use Rattle.tables.proofs.Plans.{study_shaped, alike_total, same_shape_total}
use Rattle.certificates.specs.Certify.{Weights, weighted}
use Rattle.certificates.proofs.Agrees.{Agrees}
use Rattle.rewriting.specs.Judged.{kept, judged_block}
use Rattle.rewriting.specs.Leasts.{NonNegative}
use Rattle.rewriting.proofs.Shape.{study_shape_in_range, study_non_empty, Asked, Moved, moved_loaded}
use Rattle.rewriting.proofs.Reach.{moved_unmet, study_plain, plain_natural, reach_study}
use Rattle.rewriting.proofs.Kept.{kept_plain}
use Rattle.rewriting.proofs.Holds.{Holds, holds_alike, study_held, non_negative_held}
use Rattle.rewriting.proofs.Rewritten.{loaded_alike, rewrites_long, rewrites_loaded, rewrites_open, judged_cases, judged_alike}
use Rattle.weights.specs.Weights.{Spares}
use Rattle.weights.specs.Moves.{Moves, Rewritten}
use Rattle.weights.proofs.Alike.{alike_weighted}
use Rattle.weights.proofs.Rewritten.{rewritten_weighted}
use Rattle.weights.proofs.Plans.{rewritten_total}
use Rattle.weights.proofs.Goes.{goes_natural}
use Rattle.weights.proofs.Weighs.{Weighs}
use Rattle.weights.proofs.Chain.{Chain, Chained, moved_chain}

-- where both ends are natural at open entries, a chain of moves is a rewriting
pub chain_rewritten : {s : Shape} {c d : List ℤ} {up down : Moves} {t u : Costs} → Chain s c d up down → Holds s c t → Holds s d u → Rewritten s t u up down
chain_rewritten {t = t} {u} x p q =
    record {
      constant = goes_natural _ _ p.constant q.constant x.constant;
      choices = λ i a h l o. omega (arith, goes_natural (t.choice i a) (u.choice i a) (p.choices i a h l o) (q.choices i a h l o) (x.choices i a h l));
      entries = λ k a c h l m o. omega (arith, goes_natural (t.pair k a c) (u.pair k a c) (p.entries k a c h l m o) (q.entries k a c h l m o) (x.entries k a c h l m));
    }

-- the moves of an operation on b end at c
module _ {R : Asked} {b : List ℤ} (s : Study b) {n : ℕ} {c : List ℤ} (v : Moved R b n c) where
  -- its moves, added up
  abbrev moves : Chained b c
  moves = moved_chain (study_shape_in_range s) (study_non_empty s) v

  -- ---- where c holds the natural numbers u at open entries

  module _ {u : Costs} (x : Holds (shape_of b) c u) where
    moved_rewritten : Rewritten (shape_of b) (held_costs b) u moves.up moves.down
    moved_rewritten = chain_rewritten moves.chain (study_held s) x

    pub moved_weighted : (w : Weights) → Agrees (shape_of b) w → Spares (shape_of b) w → weighted (shape_of b) w u ≡ weighted (shape_of b) w (held_costs b)
    moved_weighted w ag sp = rewritten_weighted (shape_of b) (study_shaped s) w ag sp _ _ _ _ moved_rewritten

    pub moved_total : (y : ℕ → ℕ) → IsPlan (shape_of b) y → total (shape_of b) u y ≡ held_total b y
    moved_total y p = rewritten_total (shape_of b) (study_shaped s) y p _ _ _ _ moved_rewritten

  -- ---- where the end, with what is forbidden put back, holds a study

  module _ (t : Study (kept b c)) where
    -- what is natural after what is forbidden was put back was so before
    kept-held : Holds (shape_of b) c (held_costs (kept b c))
    kept-held =
        let x = holds_alike (loaded_alike (study_shape_in_range s) (rewrites_loaded s v)) (study_shaped s) (study_held t) in
        let y = study_held s in
        record {
          constant = sym (rewrites_open s v constant_place (natural_open _ _ y.constant)) ∙ x.constant;
          choices = λ i a h l o. sym (rewrites_open s v (held_choice_place i a) (natural_open _ _ (y.choices i a h l o))) ∙ x.choices i a h l o;
          entries = λ k a d h l m o. sym (rewrites_open s v (held_entry_place k a d) (natural_open _ _ (y.entries k a d h l m o))) ∙ x.entries k a d h l m o;
        }

    -- every weighted total stays
    pub rewrites_weighted : (w : Weights) → Agrees (shape_of b) w → Spares (shape_of b) w
        → weighted (shape_of (kept b c)) w (held_costs (kept b c)) ≡ weighted (shape_of b) w (held_costs b)
    rewrites_weighted w ag sp =
        sym (alike_weighted (loaded_alike (study_shape_in_range s) (rewrites_loaded s v)) (study_shaped s) w (held_costs (kept b c))) ∙ moved_weighted kept-held w ag sp

    -- and so does the total of every plan
    pub rewrites_total : (y : ℕ → ℕ) → IsPlan (shape_of b) y → held_total (kept b c) y ≡ held_total b y
    rewrites_total y p = sym (alike_total (loaded_alike (study_shape_in_range s) (rewrites_loaded s v)) (held_costs (kept b c)) y) ∙ moved_total kept-held y p

  -- ---- where nothing is forbidden

  -- an end without a number below 0 is not declined, where no plan's total is above L
  pub rewrites_within : Open (shape_of b) → NonNegative c → ((y : ℕ → ℕ) → IsPlan (shape_of b) y → held_total b y ≤ max_parts) → holds_study (kept b c) ≡ true
  rewrites_within o e low =
      let h = study_shape_in_range s in
      let l = moved_loaded h v in
      let x = non_negative_held h l e in
      rw (kept_plain b c (rewrites_long s v) (study_plain s o))
      (study_holds (reach_study s o c l (plain_natural s o l e) (λ p u. moved_unmet (study_non_empty s) u v)
      (λ y p. rw (same_shape_total l.shape s (held_costs c) y ∙ moved_total x y p) (low y p))))

  -- ---- the judged block, declined or not

  pub judged-weighted : (w : Weights) → Agrees (shape_of b) w → Spares (shape_of b) w
      → weighted (shape_of (judged_block b c)) w (held_costs (judged_block b c)) ≡ weighted (shape_of b) w (held_costs b)
  judged-weighted w ag sp = judged_cases s v (λ d. weighted (shape_of d) w (held_costs d) ≡ weighted (shape_of b) w (held_costs b)) refl (λ t. rewrites_weighted t w ag sp)

  pub judged-total : (y : ℕ → ℕ) → IsPlan (shape_of b) y → held_total (judged_block b c) y ≡ held_total b y
  judged-total y p = judged_cases s v (λ d. held_total d y ≡ held_total b y) refl (λ t. rewrites_total t y p)

  -- so what weighs as the held costs did goes on to
  pub judged_weighs : {d : ℕ} {h : Costs} → Weighs (shape_of b) d h (held_costs b) → Weighs (shape_of b) d h (held_costs (judged_block b c))
  judged_weighs x =
      record { weighs = λ w ag sp. alike_weighted (judged_alike s v) (study_shaped s) w (held_costs (judged_block b c)) ∙ judged-weighted w ag sp ∙ x.weighs w ag sp }
