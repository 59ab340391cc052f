-- What storing an order leaves at each place, and that a block holds a study with any order that has each train exactly once. For every size.
use mathlib.Core.Path.{◌≡◌, ap, ◌∙◌}
use mathlib.Core.Bool.{true}
use mathlib.Core.List.{List}
use mathlib.Core.Logic.{◌≢◌, dite}
use Prim.Native.Nat.{ℕ, ◌-◌, ◌<◌, ◌≤◌}
use native.Mathlib.Decide.{dec_lt}
use native.Mathlib.Omega.{arith}
use lib.IntN.{ℤ, pos}
use lib.ListN.{length, set, length-set}
use lib.Seq.{get_or-set_same, get_or-set_other}
use borrow.Author.Tests.{lt-ltb}
use Rattle.std.proofs.lemmas.List.{get_or_past}
use Rattle.theory.specs.Lists.{nth}
use Rattle.theory.specs.Order.{each_once}
use Rattle.theory.proofs.Order.{once_cong, order_below}
use Rattle.tables.specs.Block.{block_length, max_trains, order_from, order_place, at, trains, order}
use Rattle.tables.specs.WellFormed.{from_to, within, limits_at, is_open, order_right, Study}
use Rattle.tables.proofs.Limits.{within_pos, limits_order}
use Rattle.tables.proofs.Study.{trains_range, figure_at, SameShape, SameOpen, same_trains, order_natural, study_ordered}
use Rattle.operations.specs.Order.{order_stored, ordered_block}
use Rattle.operations.proofs.LoadRuns.{turns_length, turns_kept, turns_made}

module _ (n : ℕ) (f : ℕ → ℕ) (b : List ℤ) where
  -- a place of the order is stored
  abbrev stored : ℕ → List ℤ → List ℤ
  stored d x = set x (order_place d) (pos (f d))

  pub order_length : length (order_stored n f b) ≡ length b
  order_length = turns_length n stored b (λ d x. length-set x (order_place d) (pos (f d)))

  pub order_else : (p : ℕ) → ((d : ℕ) → d < n → p ≢ order_place d) → at (order_stored n f b) p ≡ at b p
  order_else p out = turns_kept n stored b p (λ d x h. get_or-set_other x (order_place d) p (pos (f d)) (pos 0) (out d h))

  pub order_there : (d : ℕ) → d < n → order_place d < length b → at (order_stored n f b) (order_place d) ≡ pos (f d)
  order_there d h q =
      turns_made n stored b (λ x. at x (order_place d) ≡ pos (f d)) d h (λ e x. length-set x (order_place e) (pos (f e)))
      (λ x e. get_or-set_same x (order_place d) (pos (f d)) (pos 0) (omega arith))
      (λ e x l k w. get_or-set_other x (order_place e) (order_place d) (pos (f e)) (pos 0) (λ z. k (omega arith)) ∙ w)

-- ---- another order of a study's trains

module _ {b : List ℤ} (s : Study b) (l : List ℕ) (e : length l ≡ trains b) (once : each_once (trains b) (nth l) ≡ true) where
  -- every other place stays
  pub ordered_else : (p : ℕ) → p < order_from → at (ordered_block l b) p ≡ at b p
  ordered_else p h = order_else (length l) (nth l) b p (λ d q z. omega arith)

  pub ordered_shape : SameShape b (ordered_block l b)
  ordered_shape = record { whole = order_length (length l) (nth l) b; kept = λ p h n. ordered_else p (omega arith) }

  ordered_there : (d : ℕ) → d < trains b → at (ordered_block l b) (order_place d) ≡ pos (nth l d)
  ordered_there d h = order_there (length l) (nth l) b d (omega arith) (omega (arith, trains_range s, s.whole))

  -- the trains are tried in this order
  pub ordered_order : (d : ℕ) → d < trains b → order (ordered_block l b) d ≡ nth l d
  ordered_order d h = figure_at (ordered_block l b) (order_place d) (nth l d) (ordered_there d h)

  pub ordered_study : Study (ordered_block l b)
  unfolding order_right
  ordered_study =
      study_ordered ordered_shape s ordered_else trains_in
      (ap (λ (n : ℕ). each_once n (order (ordered_block l b))) (same_trains ordered_shape) ∙ once_cong (trains b) (order (ordered_block l b)) (nth l) ordered_order ∙ once)
    where
      trains_in : (d : ℕ) → d < max_trains → within (limits_at b (order_place d)) (at (ordered_block l b) (order_place d)) ≡ true
      trains_in d h =
          dite (dec_lt d (trains b))
          (λ (q : d < trains b).
          rw (limits_order b d, lt-ltb d (trains b) q, ordered_there d q)
          (within_pos (from_to 0 (max_trains - 1)) (nth l d) (omega arith) (omega (arith, order_below {order = nth l} (record { once = once }) d q, trains_range s))))
          (λ n. rw (order_else (length l) (nth l) b (order_place d) (λ c q z. omega arith)) (s.places (order_place d) (omega arith)))

  -- and nothing is forbidden that was not, nor permitted: no place of an order is below 0
  pub ordered_same_open : SameOpen b (ordered_block l b)
  unfolding is_open
  ordered_same_open p low = dite (dec_lt p order_from) (λ (h : p < order_from). ap is_open (ordered_else p h)) (λ n. rw (behind s p (omega (arith, n)), behind ordered_study p (omega (arith, n))))
    where
      behind : {c : List ℤ} → Study c → (q : ℕ) → order_from ≤ q → is_open (at c q) ≡ true
      behind {c} t q h =
          dite (dec_lt q block_length)
          (λ (k : q < block_length). let e : order_place (q - order_from) ≡ q = omega arith in rw (← e, order_natural t (q - order_from) (omega arith)))
          (λ k. rw (get_or_past c q (pos 0) (omega (arith, t.whole))))
