-- What a fold over lanes leaves, where each turn moves along one run, no two runs have a place in common, and what goes depends on the run's own places only: at the places of a run,
-- what one move of that run alone leaves there; elsewhere nothing changes.
use mathlib.Core.Path.{◌≡◌, refl, sym, ap, ap₂, ◌∙◌}
use mathlib.Core.Bool.{true}
use mathlib.Core.List.{List}
use mathlib.Core.Logic.{◌⊎◌, inl, inr, ◌≢◌}
use Prim.Native.Nat.{ℕ, ◌+◌, ◌*◌, ◌<◌, ◌≤◌}
use native.Mathlib.Decide.{ℕ_discrete}
use native.Mathlib.Nat.{add-mul}
use native.Mathlib.Omega.{arith}
use lib.IntN.{ℤ, pos, neg_ℤ, neg_ℤ-neg_ℤ, ◌+ℤ◌}
use lib.Signed.{mag}
use Rattle.theory.specs.Fold.{iter}
use Rattle.theory.proofs.Fold.{iter-ind}
use Rattle.tables.specs.Block.{block_length, at, nat, figure}
use Rattle.tables.proofs.Study.{same_figure}
use Rattle.rewriting.specs.declared.sides.PlaceRun.{PlaceRun}
use Rattle.rewriting.specs.Moves.{Room, RunIn, run_place, move_run}
use Rattle.rewriting.specs.Leasts.{open_place, NonNegative, run_least}
use Rattle.rewriting.proofs.Runs.{room_more, Met, Missed, meet, move_to, move_met, move_other, move_room}
use Rattle.rewriting.proofs.Shape.{SameLoaded, loaded_same, loaded_then, BetweenCosts, between_costs_run, move_loaded}
use Rattle.rewriting.proofs.Opens.{open_same}
use Rattle.rewriting.proofs.LeastOpen.{least_open_cong}
use Rattle.rewriting.proofs.Falls.{less, tight_is, tight_loaded, tight_cases}
use Rattle.directional.proofs.Places.{Whole, natural_as}

-- the places of a run, and the one that its costs go to
abbrev pub Of : PlaceRun → ℕ → Type 0
Of r p = Met r p ⊎ (p ≡ r.to)

-- ---- one move

module _ {r : PlaceRun} (f : BetweenCosts r) (d : List ℤ) where
  -- of what stands where a run's costs go, v goes into each place of the run
  pub taken_natural : Whole d → (v : ℕ) → v ≤ figure d r.to → NonNegative (move_run r (neg_ℤ (pos v)) d)
  taken_natural w v low = record { natural = λ p h e. by p h (sym (open_same (move_loaded r (neg_ℤ (pos v)) d f) p) ∙ e) (meet r p) (ℕ_discrete p r.to) }
    where
      run : RunIn d r
      run = between_costs_run d w.long f

      by : (p : ℕ) → p < block_length → open_place d p ≡ true → Met r p ⊎ Missed r p → Dec (p ≡ r.to)
          → at (move_run r (neg_ℤ (pos v)) d) p ≡ pos (figure (move_run r (neg_ℤ (pos v)) d) p)
      by p h e (inl m) y =
          natural_as (move_run r (neg_ℤ (pos v)) d) p (figure d p + v)
          (move_met r (neg_ℤ (pos v)) d run f.missed p m ∙ ap₂ ◌+ℤ◌ (w.non_negative.natural p h e) (neg_ℤ-neg_ℤ (pos v)))
      by p h e (inr m) (yes q) =
          natural_as (move_run r (neg_ℤ (pos v)) d) p _
          (move_to r (neg_ℤ (pos v)) d run f.missed p q ∙ ap (λ (z : ℤ). z +ℤ neg_ℤ (pos v)) (w.non_negative.natural p h e) ∙ less (figure d p) v (omega (arith, ap (figure d) q)))
      by p h e (inr m) (no n) = natural_as (move_run r (neg_ℤ (pos v)) d) p (figure d p) (move_other r (neg_ℤ (pos v)) d p n m ∙ w.non_negative.natural p h e)

  -- the least goes from each place of a run
  pub tight_natural : Whole d → NonNegative (move_run r (pos (run_least r d)) d)
  unfolding figure
  tight_natural w =
      rw (tight_is r d)
      (record {
        natural = λ p h e.
            tight_cases f d w.long w.non_negative (λ z. z ≡ pos (nat z)) p h (sym (open_same (tight_loaded f d) p) ∙ e) (λ m. refl) (λ q. refl) refl;
      })

  pub least_same : (c : List ℤ) → SameLoaded c d → ((p : ℕ) → Of r p → at d p ≡ at c p) → run_least r d ≡ run_least r c
  unfolding run_least
  least_same c e k =
      least_open_cong r.count (λ i. open_place d (run_place r i)) (λ i. open_place c (run_place r i)) (λ i. figure d (run_place r i)) (λ i. figure c (run_place r i))
      (λ i h. open_same e (run_place r i))
      (λ i h o. same_figure c d (run_place r i) (k (run_place r i) (inl (record { turn = i; below = h; is = refl }))))

-- ---- a fold of them

-- turn x of m, from c on, moves α x along the run r x
pub record Lanes (c : List ℤ) (m : ℕ) (r : ℕ → PlaceRun) (α : ℕ → List ℤ → ℤ) (F : ℕ → List ℤ → List ℤ) : Type 0 where
  pub between : (x : ℕ) → x < m → BetweenCosts (r x)
  pub apart : (x y p : ℕ) → x < m → y < m → x ≢ y → Of (r x) p → Of (r y) p → ⊥
  pub is : (x : ℕ) (d : List ℤ) → x < m → SameLoaded c d → F x d ≡ move_run (r x) (α x d) d
  pub same : (x : ℕ) (d : List ℤ) → x < m → SameLoaded c d → ((p : ℕ) → Of (r x) p → at d p ≡ at c p) → α x d ≡ α x c
  pub natural : (x : ℕ) (d : List ℤ) → x < m → SameLoaded c d → Whole d → NonNegative (move_run (r x) (α x d) d)

-- after n of the turns
pub record After (c : List ℤ) (m : ℕ) (r : ℕ → PlaceRun) (α : ℕ → List ℤ → ℤ) (n : ℕ) (d : List ℤ) : Type 0 where
  pub loaded : SameLoaded c d
  pub whole : Whole d
  pub met : (x p : ℕ) → x < n → Met (r x) p → at d p ≡ at c p +ℤ neg_ℤ (α x c)
  pub goal : (x : ℕ) → x < n → at d (r x).to ≡ at c (r x).to +ℤ α x c
  pub later : (x p : ℕ) → n ≤ x → x < m → Of (r x) p → at d p ≡ at c p
  pub other : (p : ℕ) → ((x : ℕ) → x < m → Of (r x) p → ⊥) → at d p ≡ at c p

module _ {c : List ℤ} {m : ℕ} {r : ℕ → PlaceRun} {α : ℕ → List ℤ → ℤ} {F : ℕ → List ℤ → List ℤ} (g : Lanes c m r α F) (w : Whole c) where
  after_start : After c m r α 0 c
  after_start =
      record {
        loaded = loaded_same c;
        whole = w;
        met = λ x p h o. absurd (omega arith);
        goal = λ x h. absurd (omega arith);
        later = λ x p l h o. refl;
        other = λ p n. refl;
      }

  -- a place that is not of the run stays
  stays : (x p : ℕ) (d : List ℤ) → (Of (r x) p → ⊥) → at (move_run (r x) (α x d) d) p ≡ at d p
  stays x p d n = move_other (r x) (α x d) d p (λ e. n (inr e)) (λ i l e. n (inl (record { turn = i; below = l; is = e })))

  module _ (n : ℕ) (d : List ℤ) (h : n < m) (a : After c m r α n d) where
    abbrev next : List ℤ
    next = move_run (r n) (α n d) d

    run : RunIn d (r n)
    run = between_costs_run d a.whole.long (g.between n h)

    -- the turn finds its run as it was
    sent : α n d ≡ α n c
    sent = g.same n d h a.loaded (λ p o. a.later n p (omega arith) h o)

    here_met : (p : ℕ) → Met (r n) p → at next p ≡ at c p +ℤ neg_ℤ (α n c)
    here_met p o =
        move_met (r n) (α n d) d run (g.between n h).missed p o ∙ ap₂ (λ (y z : ℤ). y +ℤ neg_ℤ z) (a.later n p (omega arith) h (inl o)) sent

    here_goal : at next (r n).to ≡ at c (r n).to +ℤ α n c
    here_goal =
        move_to (r n) (α n d) d run (g.between n h).missed (r n).to refl ∙ ap₂ ◌+ℤ◌ (a.later n (r n).to (omega arith) h (inr refl)) sent

    next_loaded : SameLoaded c next
    next_loaded = loaded_then a.loaded (move_loaded (r n) (α n d) d (g.between n h))

    after_turn : After c m r α (n + 1) next
    after_turn =
        record {
          loaded = next_loaded;
          whole = record { long = next_loaded.shape.whole ∙ w.long; non_negative = g.natural n d h a.loaded a.whole };
          met = λ x p l o. met_by x p l o (ℕ_discrete x n);
          goal = λ x l. goal_by x l (ℕ_discrete x n);
          later = λ x p l q o. stays n p d (λ v. g.apart n x p h q (λ e. omega arith) v o) ∙ a.later x p (omega arith) q o;
          other = λ p k. stays n p d (k n h) ∙ a.other p k;
        }
      where
        met_by : (x p : ℕ) → x < n + 1 → Met (r x) p → Dec (x ≡ n) → at next p ≡ at c p +ℤ neg_ℤ (α x c)
        met_by x p l o (yes e) = rw e (here_met p (rw e at o))
        met_by x p l o (no e) = stays n p d (λ v. g.apart x n p (omega arith) h e (inl o) v) ∙ a.met x p (omega arith) o

        goal_by : (x : ℕ) → x < n + 1 → Dec (x ≡ n) → at next (r x).to ≡ at c (r x).to +ℤ α x c
        goal_by x l (yes e) = rw e here_goal
        goal_by x l (no e) = stays n (r x).to d (λ v. g.apart x n (r x).to (omega arith) h e (inr refl) v) ∙ a.goal x (omega arith)

    -- one turn moves no number by much more than twice what goes
    turn_room : (room high : ℕ) → mag (α n c) ≤ high → Room d room → Room next (room + (2 * high + 3))
    turn_room room high l o = room_more (room + (2 * high + 3)) (move_room (r n) (α n d) d run room o) (omega (arith, ap mag sent))

  pub turns : (n : ℕ) → n ≤ m → After c m r α n (iter n F c)
  turns n l = iter-ind (After c m r α) n F c after_start (λ x d h a. let q : x < m = omega arith in rw (g.is x d q a.loaded) (after_turn x d q a))

  pub turns_room : (room high : ℕ) → Room c room → ((x : ℕ) → x < m → mag (α x c) ≤ high) → (n : ℕ) → n ≤ m → Room (iter n F c) (room + n * (2 * high + 3))
  turns_room room high o most n l =
      (iter-ind (λ x d. After c m r α x d × Room d (room + x * (2 * high + 3))) n F c
      (after_start, room_more (room + 0 * (2 * high + 3)) o (omega arith))
      (λ x d h (a, v). let q : x < m = omega arith in
      rw (g.is x d q a.loaded) (
        after_turn x d q a,
        room_more (room + (x + 1) * (2 * high + 3)) (turn_room x d q a (room + x * (2 * high + 3)) high (most x q) v) (omega (arith, add-mul x 1 (2 * high + 3))),
      ))).1
