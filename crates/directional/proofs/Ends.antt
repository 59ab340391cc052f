-- Where a round ends, for the crates above: it is a rewriting, in which no permitted number falls below 0 and the constant only grows. On every study it leaves the permitted choices of each
-- second train without costs, each other train with a free choice and each row of a pair with a free entry, if they have a permitted one; so where nothing is forbidden and no two pairs
-- have the same second train, the constant is the least total.
use mathlib.Core.Path.{◌≡◌, refl, sym, ap, ◌∙◌}
use mathlib.Core.Bool.{true}
use mathlib.Core.List.{List}
use mathlib.Core.Logic.{◌↔◌}
use Prim.Native.Nat.{ℕ, ◌+◌, ◌-◌, ◌<◌, ◌≤◌}
use native.Mathlib.Omega.{arith}
use lib.IntN.{ℤ}
use Rattle.theory.specs.Fold.{down}
use Rattle.theory.proofs.Fold.{down-more, down-ind}
use Rattle.refusals.specs.declared.Refusal.TheVariants.{PartsOutside}
use Rattle.refusals.specs.Verdicts.{Fine, Declined}
use Rattle.tables.specs.Block.{max_parts, constant_place, trains, constant, second}
use Rattle.tables.specs.Plans.{IsPlan, Open, shape_of, held_costs, held_total, Branches, LeastOf}
use Rattle.tables.specs.WellFormed.{holds_study, Study}
use Rattle.tables.proofs.Limits.{natural_open}
use Rattle.tables.proofs.Study.{same_figure, same_trains, first-below-second, second-below-trains}
use Rattle.tables.proofs.Plans.{study_shaped}
use Rattle.rewriting.specs.Judged.{kept}
use Rattle.rewriting.specs.Leasts.{NonNegative}
use Rattle.rewriting.specs.Ends.{ends_of, Above, SomeEnd}
use Rattle.rewriting.proofs.Shape.{study_room, study_shape_in_range, study_non_empty, Moved, none, moved_loaded, Any}
use Rattle.rewriting.proofs.Opens.{study_constant, study_non_negative}
use Rattle.rewriting.proofs.Holds.{non_negative_held}
use Rattle.rewriting.proofs.Rewritten.{rewrites_open, judged_cases}
use Rattle.rewriting.proofs.Judged.{judged_above}
use Rattle.weights.proofs.Held.{moved_total, rewrites_within}
use Rattle.directional.specs.Directional.{train_round, directed, direct_outcome, direct_block}
use Rattle.directional.specs.Heights.{Ascending, Ready}
use Rattle.directional.proofs.Trees.{Settled, settled-least, least_as}
use Rattle.directional.proofs.Heights.{heights_start}
use Rattle.directional.proofs.Progress.{Progress, progress_map, progress_loaded, ready_progress, progress_train}
use Rattle.directional.proofs.Turns.{Over, over_train}

pub study_ascending : {b : List ℤ} → Study b → Ascending b
study_ascending s = record { ascends = first-below-second s }

module _ {b : List ℤ} (s : Study b) where
  -- where the turns of the trains from t on are over
  pub record Stage (t : ℕ) (c : List ℤ) : Type 0 where
    pub progress : Progress b (λ k. second b k < t) c
    pub over : Over b (λ k. t ≤ second b k) t c

  pub progress_start : {W : ℕ → Type 0} → Progress b W b
  progress_start {W} =
      record {
        moves = 0;
        chain = none;
        whole = record { long = s.whole; non_negative = study_non_negative s };
        heights = heights_start (study_shape_in_range s) W (study_room s);
      }

  stage_start : Stage (trains b) b
  stage_start =
      record {
        progress = progress_start;
        over = record {
          empty = λ k y h d q z. absurd (omega (arith, second-below-trains s k h));
          rows = λ k a y h d q r z. absurd (omega (arith, second-below-trains s k h));
          lifted = λ i a l q r z. absurd (omega arith);
          raised = omega arith;
        };
      }

  stage_turn : (j : ℕ) (c : List ℤ) → j < trains b → Stage (j + 1) c → Stage j (train_round j c)
  stage_turn j c h g =
      record {
        progress = progress_train (study_shape_in_range s) (study_non_empty s) (study_ascending s) j h c g.progress;
        over = over_train (study_shape_in_range s) (study_non_empty s) (study_ascending s) j h c g.progress g.over;
      }

  pub stage_end : Stage 0 (directed b)
  unfolding directed
  stage_end = down-ind Stage (trains b) train_round b stage_start stage_turn

  -- a round is a chain of moves: what every rewriting keeps, it keeps
  pub direct_rewrites : Moved Any b stage_end.progress.moves (directed b)
  direct_rewrites = stage_end.progress.chain

  -- no open number falls below 0
  pub direct_natural : NonNegative (directed b)
  direct_natural = stage_end.progress.whole.non_negative

  constant-kept : constant (kept b (directed b)) ≡ constant (directed b)
  constant-kept = same_figure (directed b) (kept b (directed b)) constant_place (rewrites_open s direct_rewrites constant_place (natural_open _ _ (study_constant s)))

  -- the constant only grows
  pub direct_raises_constant : constant b ≤ constant (direct_block b)
  direct_raises_constant = judged_cases s direct_rewrites (λ c. constant b ≤ constant c) (omega arith) (λ t. omega (arith, stage_end.over.raised, constant-kept))

  -- where nothing is forbidden and no plan's total is above L, nothing is declined
  pub direct_within : Open (shape_of b) → ((x : ℕ → ℕ) → IsPlan (shape_of b) x → held_total b x ≤ max_parts) → holds_study (kept b (directed b)) ≡ true
  direct_within o low = rewrites_within s direct_rewrites o direct_natural low

  -- 12, 'c0 or an entry would end below 0 or above L'. Of a round no permitted end is below 0: 'above L' alone is the case, and exactly then
  pub direct_declined : (direct_outcome b ≡ Declined PartsOutside) ↔ SomeEnd Above b (ends_of (directed b))
  direct_declined =
      judged_above s direct_rewrites (ends_of (directed b)) (record { constant = refl; choice = λ i a h q o. refl; entry = λ k a d h q r o. refl }) direct_natural

  -- a second train's permitted choices cost nothing, every other train with a permitted choice has a free one, and every row of a pair with a permitted entry a free one: on every study,
  -- whatever its pairs are and whatever is forbidden
  pub direct_settled : Settled (shape_of b) (held_costs (directed b))
  unfolding held_costs
  direct_settled =
      let g = stage_end.over in
      record {
        seconds = λ k a h q o. g.empty k a h (omega arith) q o;
        others = λ i a h q o n. let z = g.lifted i a (omega arith) h q o in record { which = z.which; below = z.below; permitted = z.permitted; is = z.is };
        rows = λ k a y h q r o. let z = g.rows k a y h (omega arith) q r o in record { which = z.which; below = z.below; permitted = z.permitted; is = z.is };
      }

  -- where nothing is forbidden: 'Where every train has at most one partner of lower number, the constant afterwards equals the least total of any plan', by c0 and T as they were
  pub direct_least : Open (shape_of b) → Branches (shape_of b) → LeastOf (shape_of b) (held_total b) (constant (directed b))
  unfolding held_costs
  direct_least o one =
      let h = study_shape_in_range s in
      least_as (settled-least (shape_of b) (held_costs (directed b)) (study_shaped s) o one direct_settled)
      (moved_total s direct_rewrites (non_negative_held h (moved_loaded h direct_rewrites) direct_natural))

  -- so too of the block, where the round is accepted
  pub direct_block_least : Open (shape_of b) → Branches (shape_of b) → direct_outcome b ≡ Fine → LeastOf (shape_of b) (held_total b) (constant (direct_block b))
  direct_block_least o one e = rw (e, constant-kept) (direct_least o one)

-- ---- by its turns

-- the turn of train j
pub directed_turn : (j : ℕ) (b c : List ℤ) {d : List ℤ} → 0 < j → down j train_round c ≡ directed b → d ≡ train_round (j - 1) c → down (j - 1) train_round d ≡ directed b
directed_turn j b c h e f =
    let q : (j - 1) + 1 ≡ j = omega arith in
    ap (down (j - 1) train_round) f ∙ sym (down-more (j - 1) train_round c) ∙ ap (λ (n : ℕ). down n train_round c) q ∙ e

module _ {b : List ℤ} (s : Study b) (j : ℕ) (c : List ℤ) (h : 0 < j) (l : j ≤ trains b) (g : Progress b (λ k. second b k < j) c) where
  waits : Progress b (λ k. second b k < (j - 1) + 1) c
  waits = progress_map (λ k v. omega arith) g

  -- what the turn of train j - 1 asks, after those of the trains from j on, and what it keeps
  pub round_asked : Ready c (j - 1) × (j - 1 < trains c)
  round_asked =
      let o = study_shape_in_range s in
      (ready_progress o (study_non_empty s) (study_ascending s) waits, omega (arith, same_trains (progress_loaded o waits).shape))

  pub round_kept : Progress b (λ k. second b k < j - 1) (train_round (j - 1) c)
  round_kept = progress_train (study_shape_in_range s) (study_non_empty s) (study_ascending s) (j - 1) (omega arith) c waits
