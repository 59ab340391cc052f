-- What every rewriting of a study keeps, whatever goes in its moves: the shape, H and with it what is forbidden, and each place that no plan pays. An operation has it all by its chain
-- of moves; what it keeps of totals stands in the crate `weights`.
use mathlib.Core.Path.{◌≡◌, refl, sym, ap, ◌∙◌}
use mathlib.Core.Bool.{Bool, true, false}
use mathlib.Core.List.{List}
use mathlib.Core.Logic.{inl, inr}
use Prim.Native.Nat.{ℕ, ◌<◌}
use native.Mathlib.Omega.{arith}
use lib.IntN.{ℤ}
use lib.ListN.{length}
use Rattle.refusals.specs.declared.Refusal.TheVariants.{PartsOutside}
use Rattle.refusals.specs.Verdicts.{settled, unless}
use Rattle.tables.specs.Block.{max_pairs, loaded_choice_place, loaded_entry_place, held_choice_place, held_entry_place, at, first, second}
use Rattle.tables.specs.Plans.{AlikeShapes, shape_of}
use Rattle.tables.specs.WellFormed.{holds_study, is_open, Study}
use Rattle.tables.proofs.Study.{holds_study_lem, closed_is, choice_open_lem, entry_open_lem, SameShape, same_trains, same_pairs, same_size, same_first, same_second}
use Rattle.rewriting.specs.Moves.{ShapeInRange}
use Rattle.rewriting.specs.Ends.{ends_of, Forbidden}
use Rattle.rewriting.specs.Judged.{kept, judged_block}
use Rattle.rewriting.proofs.Shape.{study_shape_in_range, study_non_empty, SameLoaded, loaded_same, Asked, Moved, moved_loaded}
use Rattle.rewriting.proofs.Reach.{Unmet, moved_unmet}
use Rattle.rewriting.proofs.Kept.{kept_open, kept-closed, kept_same, kept_loaded}

-- a block with the shape of b and its H has b's shape, with what is forbidden
pub loaded_alike : {b c : List ℤ} → ShapeInRange b → SameLoaded b c → AlikeShapes (shape_of b) (shape_of c)
loaded_alike {b} {c} s e =
    let u = e.shape in
    record {
      trains_same = sym (same_trains u);
      sizes_same = λ i h. sym (same_size u i (omega (arith, s.trains)));
      pairs_same = sym (same_pairs u);
      firsts_same = λ k h. sym (same_first u k (omega (arith, s.pairs)));
      seconds_same = λ k h. sym (same_second u k (omega (arith, s.pairs)));
      choices_open_same = λ i a h q.
          let z = s.sizes i (omega (arith, s.trains)) in
          ap is_open (sym (e.loaded (loaded_choice_place i a) (record { table = inl (record { low = omega arith; high = omega (arith, s.trains) }) })));
      entries_open_same = λ k a d h q r.
          let l : k < max_pairs = omega (arith, s.pairs) in
          let y = s.sizes (first b k) (s.firsts k l) in
          let z = s.sizes (second b k) (s.seconds k l) in
          ap is_open (sym (e.loaded (loaded_entry_place k a d) (record { table = inr (inl (record { low = omega arith; high = omega arith })) })));
    }

-- the forbidden entries of a study
pub study_forbidden : {b : List ℤ} → Study b → Forbidden b (ends_of b)
study_forbidden {b} s =
    let g = study_shape_in_range s in
    record {
      choice = λ i a h q o.
          let z = g.sizes i (omega (arith, g.trains)) in
          closed_is s (held_choice_place i a) (omega (arith, g.trains)) (sym (choice_open_lem s i a h q) ∙ o);
      entry = λ k a d h q r o.
          let l : k < max_pairs = omega (arith, g.pairs) in
          let y = g.sizes (first b k) (g.firsts k l) in
          let z = g.sizes (second b k) (g.seconds k l) in
          closed_is s (held_entry_place k a d) (omega arith) (sym (entry_open_lem s k h a d q r) ∙ o);
    }

-- the moves of an operation on b end at c, and with what is forbidden put back it ends at `kept b c`
module _ {R : Asked} {b : List ℤ} (s : Study b) {n : ℕ} {c : List ℤ} (v : Moved R b n c) where
  pub rewrites_long : length b ≡ length c
  rewrites_long = sym (moved_loaded (study_shape_in_range s) v).shape.whole

  pub rewrites_loaded : SameLoaded b (kept b c)
  rewrites_loaded = kept_loaded (moved_loaded (study_shape_in_range s) v)

  pub rewrites_shape : SameShape b (kept b c)
  rewrites_shape = rewrites_loaded.shape

  pub rewrites_unmet : (p : ℕ) → Unmet b p → at (kept b c) p ≡ at b p
  rewrites_unmet p u = kept_same b c rewrites_long p (moved_unmet (study_non_empty s) u v)

  pub rewrites_closed : (p : ℕ) → is_open (at b p) ≡ false → at (kept b c) p ≡ at b p
  rewrites_closed p = kept-closed b c rewrites_long p

  pub rewrites_open : (p : ℕ) → is_open (at b p) ≡ true → at (kept b c) p ≡ at c p
  rewrites_open p = kept_open b c rewrites_long p

  pub rewrites_holds : holds_study (kept b c) ≡ true → Study (kept b c)
  rewrites_holds e = holds_study_lem (kept b c) (rewrites_shape.whole ∙ s.whole) e

  -- ---- the judged block: what holds of the block as it was, and of the end where it is a study

  pub judged_cases : (P : List ℤ → Type 0) → P b → (Study (kept b c) → P (kept b c)) → P (judged_block b c)
  judged_cases P x y = go (holds_study (kept b c)) refl
    where
      go : (t : Bool) → holds_study (kept b c) ≡ t → P (settled (unless t PartsOutside) b (kept b c))
      go true e = y (rewrites_holds e)
      go false e = x

  pub judged_study : Study (judged_block b c)
  judged_study = judged_cases Study s (λ t. t)

  -- the shape, H, and which entries are forbidden
  pub judged_loaded : SameLoaded b (judged_block b c)
  judged_loaded = judged_cases (SameLoaded b) (loaded_same b) (λ t. rewrites_loaded)

  pub judged_alike : AlikeShapes (shape_of b) (shape_of (judged_block b c))
  judged_alike = loaded_alike (study_shape_in_range s) judged_loaded

  -- a number below 0 stays
  pub judged-closed : (p : ℕ) → is_open (at b p) ≡ false → at (judged_block b c) p ≡ at b p
  judged-closed p e = judged_cases (λ d. at d p ≡ at b p) refl (λ t. rewrites_closed p e)

  -- 'Forbidden entries stay so'
  pub judged_forbidden : Forbidden b (ends_of (judged_block b c))
  judged_forbidden =
      let x = study_forbidden s in
      record {
        choice = λ i a h q o. judged-closed (held_choice_place i a) (sym (choice_open_lem s i a h q) ∙ o) ∙ x.choice i a h q o;
        entry = λ k a d h q r o. judged-closed (held_entry_place k a d) (sym (entry_open_lem s k h a d q r) ∙ o) ∙ x.entry k a d h q r o;
      }
