-- The table, laid part by part: rows of costs one after the other, and pairs linked in their order.
use mathlib.Core.Path.{◌≡◌, refl, sym, ap, ◌∙◌}
use mathlib.Core.Bool.{true, false}
use mathlib.Core.List.{List, []}
use mathlib.Core.Logic.{inl, inr, ⊎_elim, dite}
use Prim.Native.Nat.{ℕ, ◌+◌, ◌*◌, ◌<◌, ◌≤◌}
use native.Mathlib.Nat.{eq-or-lt_of_le}
use native.Mathlib.Decide.{ℕ_discrete}
use native.Mathlib.Omega.{arith}
use lib.ListN.{length, get_or, set, length-set}
use lib.Seq.{get_or-set_same, get_or-set_other}
use Rattle.theory.specs.Lists.{nth}
use Rattle.tables.specs.Block.{max_choices, max_pairs}
use Rattle.tables.specs.Block as block
use Rattle.tables.specs.Plans.{Shape, Costs, shape_of}
use Rattle.orders.specs.Ordered.{turned, ordered_shape}
use Rattle.orders.proofs.Listed.{listed_ascends}
use Rattle.rows.specs.declared.links.Links.{Links}
use Rattle.rows.specs.declared.listing.Listing.{Listing}
use Rattle.rows.specs.Walled.{walled, walled_costs}
use Rattle.rows.specs.Listing.{numbers_of, shape_in, costs_in}
use Rattle.rows.specs.Limits.{Walkable}
use Rattle.rows.specs.Sums.{Sums}
use Rattle.rows.specs.Links.{pair_row, Back}
use Rattle.rows.specs.Table.{sum_at, cost_row, RowsLaid, CostsLaid, Unlinked, linked_pair, Linked}

-- ---- lists of rows

-- what holds of the rows below i, and of row i once v is written, holds of the rows below i + 1
pub set_more : {A : Type 0} (P : ℕ → A → Type 0) (l : List A) (d v : A) (i : ℕ) → i < length l → ((k : ℕ) → k < i → P k (get_or l k d)) → P i v
    → (k : ℕ) → k < i + 1 → P k (get_or (set l i v) k d)
set_more P l d v i h below here k q =
    ⊎_elim
    (λ (e : k ≡ i). rw (e, get_or-set_same l i v d h) here)
    (λ (e : k < i). rw (get_or-set_other l i k v d (λ r. omega arith)) (below k e))
    (eq-or-lt_of_le (omega arith))

-- ---- the trains' own rows

-- one train's row more
pub owned_more : (l : Listing) (q : List (List ℕ)) (row : List ℕ) (d : ℕ) → d < length q → Sums (λ a. walled (numbers_of l) (block.held_choice_place (nth l.ordered.order d) 0 + a)) row
    → ((i a : ℕ) → i < d → a < max_choices → sum_at q i a ≡ (costs_in l).choice i a)
    → (i a : ℕ) → i < d + 1 → a < max_choices → sum_at (set q d row) i a ≡ (costs_in l).choice i a
unfolding walled_costs
owned_more l q row d h s below i a r f =
    set_more (λ k row. (a : ℕ) → a < max_choices → get_or row a 0 ≡ (costs_in l).choice k a) q [] row d h (λ k p a g. below k a p g)
    (λ a g.
    let t = nth l.ordered.order d in
    let e : block.held_choice_place t 0 + a ≡ block.held_choice_place t a = omega arith in
    s.each a g ∙ ap (walled (numbers_of l)) e)
    i r a f

-- ---- the costs of the pairs

module _ (s : Shape) (c : Costs) (few : (k : ℕ) → k < s.pairs → s.size (s.first k) ≤ max_choices) (most : s.pairs ≤ max_pairs) where
  -- one row of pair k more: those of the pairs before stay
  pub rows_more : (k e : ℕ) (l : List (List ℕ)) (row : List ℕ) → k < s.pairs → e < s.size (s.first k) → length l ≡ max_choices * max_pairs → Sums (c.pair k e) row
      → CostsLaid s c k l × RowsLaid c k e l → CostsLaid s c k (set l (cost_row k e) row) × RowsLaid c k (e + 1) (set l (cost_row k e) row)
  rows_more k e l row h g w t u =
      let n = few k h in (
        (λ i r d a q f.
            let z = few i (omega arith) in
            rw (get_or-set_other l (cost_row k e) (cost_row i d) row [] (λ y. omega arith)) (u.0 i r d a q f)),
        (λ d a q f.
            ⊎_elim
            (λ (z : d ≡ e). rw (z, get_or-set_same l (cost_row k e) row [] (omega arith)) (t.each a f))
            (λ (z : d < e). rw (get_or-set_other l (cost_row k e) (cost_row k d) row [] (λ y. omega arith)) (u.1 d a z f))
            (eq-or-lt_of_le (omega arith))),
      )

-- a pair more, all of whose rows are laid
pub costs_more : (s : Shape) (c : Costs) (k d : ℕ) (l : List (List ℕ)) → d ≡ s.size (s.first k) → CostsLaid s c k l × RowsLaid c k d l → CostsLaid s c (k + 1) l
costs_more s c k d l e u i r =
    ⊎_elim (λ (z : i ≡ k). rw (z, ← e) u.1) (λ (z : i < k). u.0 i z) (eq-or-lt_of_le (omega arith))

-- a row of a pair, and a column of one that is turned over
module _ (l : Listing) (k c : ℕ) {row : List ℕ} where
  pub straight_row : turned (nth l.ordered.order) (shape_of (numbers_of l)) (nth l.list k) ≡ false → Sums (λ a. walled (numbers_of l) (block.held_entry_place (nth l.list k) c 0 + a)) row
      → Sums ((costs_in l).pair k c) row
  unfolding walled_costs
  straight_row e r =
      let j = nth l.list k in
      record {
        whole = r.whole;
        each = λ a h.
            let z : block.held_entry_place j c 0 + a ≡ block.held_entry_place j c a = omega arith in
            r.each a h ∙ ap (walled (numbers_of l)) z ∙ rw e;
      }

  pub turned_row : turned (nth l.ordered.order) (shape_of (numbers_of l)) (nth l.list k) ≡ true → Sums (λ a. walled (numbers_of l) (block.held_entry_place (nth l.list k) 0 c + max_choices * a)) row
      → Sums ((costs_in l).pair k c) row
  unfolding walled_costs
  turned_row e r =
      let j = nth l.list k in
      record {
        whole = r.whole;
        each = λ a h.
            let z : block.held_entry_place j 0 c + max_choices * a ≡ block.held_entry_place j a c = omega arith in
            r.each a h ∙ ap (walled (numbers_of l)) z ∙ rw e;
      }

-- ---- the rows

pub linked_none : {s : Shape} → Walkable s → {l : Links} → Unlinked l → Linked s 0 l
linked_none {s} o {l} u =
    record {
      ends_whole = u.ends_whole;
      bases_whole = u.bases_whole;
      ends = λ j q. inl (record { place = u.own j (omega (arith, o.room)); none = λ i r. absurd (omega arith) });
      bases = λ i q. absurd (omega arith);
    }

-- a pair that train j does not complete leaves its row
back_more : {s : Shape} {j k p : ℕ} → (s.second k ≡ j → ⊥) → Back s j k p → Back s j (k + 1) p
back_more {s} {j} {k} {p} n (inl o) =
    inl (record { place = o.place; none = λ i h e. ⊎_elim (λ (g : i ≡ k). n (rw g at e)) (λ (g : i < k). o.none i g e) (eq-or-lt_of_le (omega arith)) })
back_more {s} {j} {k} {p} n (inr w) =
    inr (record {
      pair = w.pair;
      place = w.place;
      low = omega (arith, w.low);
      here = w.here;
      skipped = λ i h q e. ⊎_elim (λ (g : i ≡ k). n (rw g at e)) (λ (g : i < k). w.skipped i h g e) (eq-or-lt_of_le (omega arith));
    })

-- one pair more is linked
pub linked_more : {s : Shape} → Walkable s → s.pairs ≤ max_pairs → (k : ℕ) {l : Links} → k < s.pairs → Linked s k l → Linked s (k + 1) (linked_pair s k l)
linked_more {s} o m k {l} q u =
    let j = s.second k in
    let jn : j < s.trains = o.inside k q in
    let n = o.room in
    record {
      ends_whole = length-set l.ends j (pair_row k) ∙ u.ends_whole;
      bases_whole = length-set l.bases k (get_or l.ends j 0) ∙ u.bases_whole;
      ends = λ i h.
          dite (ℕ_discrete i j)
          (λ (e : i ≡ j). rw (e, get_or-set_same l.ends j (pair_row k) 0 (omega (arith, u.ends_whole)))
          (inr (record { pair = k; place = refl; low = omega arith; here = refl; skipped = λ p a c. absurd (omega arith) })))
          (λ (e : i ≡ j → ⊥). rw (get_or-set_other l.ends j i (pair_row k) 0 e) (back_more (λ z. e (sym z)) (u.ends i h)));
      bases = set_more (λ i p. Back s (s.second i) i p) l.bases 0 (get_or l.ends j 0) k (omega (arith, u.bases_whole)) u.bases (u.ends j jn);
    }

-- ---- the first pairs

-- the places of the earlier trains ascend
pub listing_ascends : (l : Listing) (k j : ℕ) → k ≤ j → j < (shape_in l).pairs → (shape_in l).first k ≤ (shape_in l).first j
listing_ascends l = listed_ascends (ordered_shape (nth l.ordered.order) (shape_of (numbers_of l))) l.sorted
