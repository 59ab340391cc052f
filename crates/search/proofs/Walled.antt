-- A try that brings a forbidden entry in comes to the wall, and no other does: so one comparison tells whether it is dropped.
use mathlib.Core.Path.{◌≡◌, refl, ap₂}
use mathlib.Core.Bool.{Bool, true, false, cond}
use mathlib.Core.List.{List}
use mathlib.Core.Logic.{dite}
use Prim.Native.Nat.{ℕ, ◌+◌, ◌<◌}
use native.Mathlib.Decide.{ℕ_discrete, dec_lt}
use native.Mathlib.Omega.{arith}
use lib.Dec.{leb}
use lib.ListN.{length, set}
use borrow.Author.Tests.{eq-eqb, ne_eqb, le-leb, lt-leb}
use Rattle.theory.proofs.Range.{not_both}
use Rattle.theory.proofs.Sum.{sum_cong, sum_term}
use Rattle.tables.specs.Block.{max_parts}
use Rattle.tables.specs.Plans.{Shape, Costs, choices_of}
use Rattle.rows.specs.Walled.{wall}
use Rattle.rows.specs.Limits.{Walkable, Limited}
use Rattle.rows.proofs.Written.{written}
use Rattle.search.specs.Walk.{barred, pair_added, added, Decided}
use Rattle.search.specs.Sought.{Walled}
use Rattle.search.proofs.Barred.{Permitted, barred_none, permitted_barred}
use Rattle.search.proofs.Totals.{decided_next}
use Rattle.search.proofs.Room.{decided_below}

-- a cost below the wall is that of an open entry
open_below : (t : Bool) (v w : ℕ) → w ≡ cond t v wall → w < wall → t ≡ true
open_below true v w e h = refl
open_below false v w e h = absurd (omega arith)

module _ {s : Shape} (o : Walkable s) {c u : Costs} (w : Walled s c u) where
  module _ (x : ℕ → ℕ) (t : ℕ) (h : t < s.trains) (below : (i : ℕ) → i < t + 1 → x i < s.size i) where
    -- the entry of a pair whose second train is t
    entry_at : (k : ℕ) → k < s.pairs → s.second k ≡ t → u.pair k (x (s.first k)) (x (s.second k)) ≡ cond (s.entry_open k (x (s.first k)) (x (s.second k))) (c.pair k (x (s.first k)) (x (s.second k))) wall
    entry_at k q e = w.entry k _ _ q (below (s.first k) (omega (arith, o.ascends k q))) (below (s.second k) (omega arith))

    -- below the wall no forbidden entry is brought in
    pub below_permitted : added s u x t < wall → barred s x t ≡ false
    unfolding added
    below_permitted l =
        permitted_barred s x t
        (record {
          choice = open_below _ _ _ (w.choice t (x t) h (below t (omega arith))) (omega arith);
          entries = λ k q e.
              open_below _ _ _ (entry_at k q e)
              (omega (arith, rw (eq-eqb (s.second k) t e) at (sum_term s.pairs k (pair_added s u x t) q)));
        })

    -- and then what is added is what the costs say
    pub permitted_added : barred s x t ≡ false → added s u x t ≡ added s c x t
    unfolding added
    permitted_added f =
        let p = barred_none s x t f in
        ap₂ ◌+◌ (rw p.choice at (w.choice t (x t) h (below t (omega arith)))) (sum_cong s.pairs _ _ (at_pair p))
      where
        at_pair : Permitted s x t → (k : ℕ) → k < s.pairs → pair_added s u x t k ≡ pair_added s c x t k
        at_pair p k q =
            dite (ℕ_discrete (s.second k) t)
            (λ (e : s.second k ≡ t). rw (eq-eqb (s.second k) t e) (rw (p.entries k q e) at (entry_at k q e)))
            (λ n. rw (ne_eqb (s.second k) t n))

  module _ (t a partial : ℕ) (chosen : List ℕ) (h : t < s.trains) (q : a < s.size t) (d : Decided s c t partial chosen) where
    in_size : (i : ℕ) → i < t + 1 → choices_of (set chosen t a) i < s.size i
    in_size = let l : t < length chosen = omega (arith, d.whole, o.room) in written (λ i v. v < s.size i) chosen t a l d.below q

    -- below the wall, train t is decided with choice a, at this total
    pub comes_decided : partial + added s u (choices_of (set chosen t a)) t < wall → Decided s c (t + 1) (partial + added s u (choices_of (set chosen t a)) t) (set chosen t a)
    comes_decided l =
        let f = below_permitted (choices_of (set chosen t a)) t h in_size (omega arith) in
        rw (permitted_added (choices_of (set chosen t a)) t h in_size f) (decided_next o c t a partial chosen h q d f)

    pub comes_added : barred s (choices_of (set chosen t a)) t ≡ false → added s u (choices_of (set chosen t a)) t ≡ added s c (choices_of (set chosen t a)) t
    comes_added = permitted_added (choices_of (set chosen t a)) t h in_size

    -- at the wall or above it, and only there, a forbidden entry is brought in
    pub comes_barred : Limited s c max_parts → leb wall (partial + added s u (choices_of (set chosen t a)) t) ≡ barred s (choices_of (set chosen t a)) t
    comes_barred low = by (barred s (choices_of (set chosen t a)) t) refl
      where
        by : (r : Bool) → barred s (choices_of (set chosen t a)) t ≡ r → leb wall (partial + added s u (choices_of (set chosen t a)) t) ≡ r
        by true f =
            dite (dec_lt (added s u (choices_of (set chosen t a)) t) wall)
            (λ l. absurd (not_both f (below_permitted (choices_of (set chosen t a)) t h in_size l)))
            (λ n. le-leb wall (partial + added s u (choices_of (set chosen t a)) t) (omega arith))
        by false f =
            let next = decided_next o c t a partial chosen h q d f in
            lt-leb wall (partial + added s u (choices_of (set chosen t a)) t) (omega (arith, comes_added f, decided_below o low (t + 1) _ _ (omega arith) next))
