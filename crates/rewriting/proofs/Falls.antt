-- What moves a least leaves no open number below 0: what goes is the least of the open numbers of the run it comes from. What comes to stand at a forbidden place is any whole number,
-- not far from 0. One move, chains of them, and folds over lanes and over trains.
use mathlib.Core.Path.{◌≡◌, refl, sym, ap, ◌∙◌}
use mathlib.Core.Bool.{true, false}
use mathlib.Core.List.{List}
use mathlib.Core.Logic.{⊎_elim, ◌≢◌}
use Prim.Native.Nat.{ℕ, zero, suc, ◌+◌, ◌*◌, ◌-◌, ◌<◌, ◌≤◌, ◌^◌}
use native.Mathlib.Decide.{ℕ_discrete}
use native.Mathlib.Nat.{add-zero, sub-zero, suc-mul, mul-le-mul_right}
use native.Mathlib.Omega.{arith}
use lib.IntN.{ℤ, pos, neg_ℤ, ◌+ℤ◌}
use lib.ListN.{length}
use borrow.Author.Tests.{le-ltb}
use Rattle.theory.specs.Fold.{iter}
use Rattle.tables.specs.Block.{block_length, held_choices_from, held_entries_from, held_choice_place, constant_place, at, nat, figure, trains, pairs, size, held_choice}
use Rattle.tables.specs.Plans.{shape_of}
use Rattle.tables.proofs.Study.{same_figure, same_size, same_pairs, figure_at}
use Rattle.rewriting.specs.declared.sides.PlaceRun.{PlaceRun}
use Rattle.rewriting.specs.declared.sides.Side.{Side}
use Rattle.rewriting.specs.declared.sides.Side.TheVariants.{Rows, Columns}
use Rattle.rewriting.specs.Moves.{Room, ShapeInRange, run_place, move_run, lane_train, lane_run, choices_run}
use Rattle.rewriting.specs.Leasts.{open_place, NonNegative, run_least, run_tightened, lane_tightened, train_tightened}
use Rattle.rewriting.proofs.Runs.{room_more, Met, Missed, meet, move_to, move_met, move_other, move_room}
use Rattle.rewriting.proofs.Shape.{room_figure, unary, same_lane, same_lanes, shape_in_range_kept, lane_train_lem, lanes_most, SameLoaded, BetweenCosts, project_between_costs, between_costs_run, move_loaded, Moved, none, move, moved_shape, lanes_moved, trains_moved}
use Rattle.rewriting.proofs.Opens.{open_constant, open_choice, open_same}
use Rattle.rewriting.proofs.LeastOpen.{least_open_le, least_open_is, least_open_most, least_open_none}

pub less : (a l : ℕ) → l ≤ a → pos a +ℤ neg_ℤ (pos l) ≡ pos (a - l)
less a zero h = rw (add-zero, sub-zero)
less a (suc l) h = rw (le-ltb a (suc l) h)

-- ---- the least of a run

module _ (r : PlaceRun) (c : List ℤ) where
  -- it is at most each of its open numbers
  pub run_least-le : (p : ℕ) → Met r p → open_place c p ≡ true → run_least r c ≤ figure c p
  unfolding run_least
  run_least-le p m e =
      omega (
        arith,
        least_open_le r.count m.turn (λ i. open_place c (run_place r i)) (λ i. figure c (run_place r i)) m.below (ap (open_place c) (sym m.is) ∙ e),
        ap (figure c) m.is,
      )

  -- and one of them, if there is one
  pub record Attained : Type 0 where
    pub turn : ℕ
    pub below : turn < r.count
    pub counts : open_place c (run_place r turn) ≡ true
    pub is : run_least r c ≡ figure c (run_place r turn)

  pub run_least_met : (i : ℕ) → i < r.count → open_place c (run_place r i) ≡ true → Attained
  unfolding run_least
  run_least_met i h e =
      let m = least_open_is r.count i (λ j. open_place c (run_place r j)) (λ j. figure c (run_place r j)) h e in
      record { turn = m.which; below = m.below; counts = m.taken; is = m.is }

  -- 'where there are none, nothing moves'
  pub run_least_none : ((i : ℕ) → i < r.count → open_place c (run_place r i) ≡ false) → run_least r c ≡ 0
  unfolding run_least
  run_least_none h = least_open_none r.count (λ i. open_place c (run_place r i)) (λ i. figure c (run_place r i)) h

  -- it goes no further than the open numbers of the run
  pub run_least_most : (high : ℕ) → ((i : ℕ) → i < r.count → open_place c (run_place r i) ≡ true → figure c (run_place r i) ≤ high) → run_least r c ≤ high
  unfolding run_least
  run_least_most high h = least_open_most r.count (λ i. open_place c (run_place r i)) (λ i. figure c (run_place r i)) high h

  pub run_least_room : (h : ℕ) → Room c h → run_least r c ≤ h
  run_least_room h o = run_least_most h (λ i l e. room_figure (run_place r i) c h o)

-- ---- what one tightening leaves at each place

pub tight_is : (r : PlaceRun) (c : List ℤ) → move_run r (pos (run_least r c)) c ≡ run_tightened r c
unfolding run_tightened
tight_is r c = refl

module _ {r : PlaceRun} (f : BetweenCosts r) (c : List ℤ) where
  pub tight_loaded : SameLoaded c (run_tightened r c)
  unfolding run_tightened
  tight_loaded = move_loaded r (pos (run_least r c)) c f

  pub tight_other : (p : ℕ) → p ≢ r.to → Missed r p → at (run_tightened r c) p ≡ at c p
  unfolding run_tightened
  tight_other p n m = move_other r (pos (run_least r c)) c p n m

  pub tight_room : (h high : ℕ) → length c ≡ block_length → run_least r c ≤ high → Room c h → Room (run_tightened r c) (h + (2 * high + 3))
  unfolding run_tightened
  tight_room h high len g o = room_more (h + (2 * high + 3)) (move_room r (pos (run_least r c)) c (between_costs_run c len f) h o) (omega arith)

  module _ (len : length c ≡ block_length) (o : NonNegative c) where
    pub tight_met : (p : ℕ) → Met r p → open_place c p ≡ true → at (run_tightened r c) p ≡ pos (figure c p - run_least r c)
    unfolding run_tightened
    tight_met p m e =
        let l = run_least r c in
        let h : p < block_length = omega (arith, f.inside m.turn m.below, m.is) in
        move_met r (pos l) c (between_costs_run c len f) f.missed p m ∙ ap (λ (z : ℤ). z +ℤ neg_ℤ (pos l)) (o.natural p h e) ∙ less (figure c p) l (run_least-le r c p m e)

    pub tight_to : open_place c r.to ≡ true → at (run_tightened r c) r.to ≡ pos (figure c r.to + run_least r c)
    unfolding run_tightened
    tight_to e =
        let l = run_least r c in
        move_to r (pos l) c (between_costs_run c len f) f.missed r.to refl ∙ ap (λ (z : ℤ). z +ℤ pos l) (o.natural r.to f.there e)

    -- the three cases of an open place
    pub tight_cases : (P : ℤ → Type 0) (p : ℕ) → p < block_length → open_place c p ≡ true
        → (Met r p → P (pos (figure c p - run_least r c)))
        → (p ≡ r.to → P (pos (figure c p + run_least r c)))
        → P (pos (figure c p))
        → P (at (run_tightened r c) p)
    tight_cases P p h e x y z = ⊎_elim (λ (m : Met r p). rw (tight_met p m e) (x m)) (λ (m : Missed r p). by m (ℕ_discrete p r.to)) (meet r p)
      where
        by : Missed r p → Dec (p ≡ r.to) → P (at (run_tightened r c) p)
        by m (yes q) = rw (ap (at (run_tightened r c)) q ∙ tight_to (ap (open_place c) (sym q) ∙ e) ∙ ap (λ (n : ℕ). pos (figure c n + run_least r c)) (sym q)) (y q)
        by m (no n) = rw (tight_other p n m, o.natural p h e) z

-- ---- while a block is tightened

-- what is taken comes from places from `source` on, where no open number is above `high`; none anywhere is further than `room` from 0
pub record Falling (source high room : ℕ) (c : List ℤ) : Type 0 where
  pub whole : NonNegative c
  pub sources : (p : ℕ) → p < block_length → open_place c p ≡ true → source ≤ p → figure c p ≤ high
  pub most : Room c room

-- where it begins
pub falling_start : {b : List ℤ} → NonNegative b → {h : ℕ} → Room b h → {source : ℕ} → Falling source h h b
falling_start {b} n {h} o = record { whole = n; sources = λ p q e l. room_figure p b h o; most = o }

pub falling_step : {source high room : ℕ} {r : PlaceRun} {c : List ℤ} → BetweenCosts r → length c ≡ block_length → source ≤ r.from → r.to < source
    → Falling source high room c → Falling source high (room + (2 * high + 3)) (run_tightened r c)
unfolding figure
falling_step {source} {high} {room} {r} {c} f len below above x =
    let g : run_least r c ≤ high = run_least_most r c high (λ i l e. x.sources (run_place r i) (f.inside i l) e (omega arith)) in
    let still = open_same (tight_loaded f c) in
    record {
      whole = record {
        natural = λ p h e. tight_cases f c len x.whole (λ z. z ≡ pos (nat z)) p h (sym (still p) ∙ e) (λ m. refl) (λ q. refl) refl;
      };
      sources = λ p h e l.
          let d = sym (still p) ∙ e in
          tight_cases f c len x.whole (λ z. nat z ≤ high) p h d (λ m. omega (arith, x.sources p h d l)) (λ q. absurd (omega arith)) (x.sources p h d l);
      most = tight_room f c room high len g x.most;
    }

falling_more : {source high room more : ℕ} {c : List ℤ} → room ≤ more → Falling source high room c → Falling source high more c
falling_more {more = more} h f = record { whole = f.whole; sources = f.sources; most = room_more more f.most h }

-- the moves of a tightening
pub record Tight (source : ℕ) (r : PlaceRun) (c : List ℤ) (α : ℤ) : Type 0 where
  pub is : α ≡ pos (run_least r c)
  pub below : source ≤ r.from
  pub above : r.to < source

pub moved_falling : {source high room : ℕ} {b : List ℤ} → ShapeInRange b → Falling source high room b → {n : ℕ} {c : List ℤ} → Moved (Tight source) b n c
    → Falling source high (room + n * (2 * high + 3)) c
moved_falling {source} {high} {room} s o {n} none = falling_more (omega arith) o
moved_falling {source} {high} {room} s o {n} (move {m} {run = run} {c} α l p r w) =
    let e : length c ≡ block_length = (moved_shape s w).whole ∙ s.whole in
    rw (r.is, tight_is run c)
    (falling_more (omega (arith, suc-mul m (2 * high + 3), mul-le-mul_right (2 * high + 3) l)) (falling_step (project_between_costs s p) e r.below r.above (moved_falling s o w)))

-- the constant only grows: no run holds it
pub moved_raises : {source high room : ℕ} {b : List ℤ} → held_choices_from ≤ source → ShapeInRange b → Falling source high room b
    → {n : ℕ} {c : List ℤ} → Moved (Tight source) b n c → figure b constant_place ≤ figure c constant_place
unfolding figure
moved_raises h s o none = omega arith
moved_raises {b = b} h s o (move {run = run} {c} α l p r w) =
    let e : length c ≡ block_length = (moved_shape s w).whole ∙ s.whole in
    let g = moved_raises h s o w in
    rw (r.is, tight_is run c)
    (tight_cases (project_between_costs s p) c e (moved_falling s o w).whole (λ z. figure b constant_place ≤ nat z) constant_place (omega arith) (open_constant c)
    (λ m. absurd (omega (arith, r.below, m.is))) (λ q. omega arith) g)

-- ---- folds over lanes and over trains

module _ {b : List ℤ} (s : ShapeInRange b) where
  -- a lane goes from entries to a choice
  lane_bounds : (side : Side) (k x : ℕ) → k < pairs b → x < size b (lane_train side b k)
      → (held_entries_from ≤ (lane_run side b k x).from) × ((lane_run side b k x).to < held_entries_from)
  lane_bounds Rows k x h q = (omega arith, omega (arith, lane_train_lem s Rows k h, lanes_most s Rows k h))
  lane_bounds Columns k x h q = (omega arith, omega (arith, lane_train_lem s Columns k h, lanes_most s Columns k h))

  pub lanes_tightened_lem : (side : Side) (k m n : ℕ) (c : List ℤ) → k < pairs b → m ≤ size b (lane_train side b k) → Moved (Tight held_entries_from) b n c
      → Moved (Tight held_entries_from) b (n + m) (iter m (lane_tightened side k) c)
  unfolding run_tightened
  lanes_tightened_lem side k m n c h l w =
      lanes_moved s (λ x y. pos (run_least (lane_run side y k x) y)) side k h
      (λ x y e q. let d = lane_bounds side k x h q in record { is = rw (same_lane e s k (omega (arith, s.pairs)) side x); below = d.0; above = d.1 })
      m n c l w

  -- what lane x asks of the block that the lanes before it leave
  pub lane_asked : (side : Side) (k x : ℕ) → NonNegative b → Room b (2 ^ 52) → k < pairs b → x < size b (lane_train side b k)
      → let c = iter x (lane_tightened side k) b in ShapeInRange c × Room c (2 ^ 57) × (k < pairs c) × (x < size c (lane_train side c k))
  lane_asked side k x o r h l =
      let w = lanes_tightened_lem side k x 0 b h (omega arith) none in
      let e = moved_shape s w in (
        shape_in_range_kept e s,
        room_more (2 ^ 57) (moved_falling s (falling_start o r) w).most (omega (arith, lanes_most s side k h)),
        omega (arith, same_pairs e),
        omega (arith, same_lanes e s k (omega (arith, s.pairs)) side),
      )

  pub trains-tightened : (m n : ℕ) (c : List ℤ) → m ≤ trains b → Moved (Tight held_choices_from) b n c
      → Moved (Tight held_choices_from) b (n + m) (iter m train_tightened c)
  unfolding run_tightened
  trains-tightened m n c l w =
      trains_moved s (λ i x. pos (run_least (choices_run x i) x))
      (λ i x e q. record { is = rw (same_size e i (omega (arith, s.trains))); below = omega arith; above = omega arith })
      m n c l w

-- ---- what a train is left with

-- a permitted choice of train i, by b, that costs nothing in c
pub record Zero (b c : List ℤ) (i : ℕ) : Type 0 where
  pub which : ℕ
  pub below : which < size b i
  pub permitted : (shape_of b).choice_open i which ≡ true
  pub is : held_choice c i which ≡ 0

-- the train whose turn it is gets one, if it has a permitted choice, and the others keep theirs
pub train_zero : {c : List ℤ} → ShapeInRange c → NonNegative c → (i : ℕ) → i < trains c
    → ((a : ℕ) → a < size c i → (shape_of c).choice_open i a ≡ true → Zero c (train_tightened i c) i) × ((j : ℕ) → j < trains c → j ≢ i → Zero c c j → Zero c (train_tightened i c) j)
train_zero {c} s o i h =
    let f = project_between_costs s (unary i h) in
    let d = s.sizes i (omega (arith, s.trains)) in (
      (λ a l e.
          let q : run_place (choices_run c i) a ≡ held_choice_place i a = omega arith in
          let m = run_least_met (choices_run c i) c a l (ap (open_place c) q ∙ open_choice c i a (omega (arith, s.trains)) (omega arith) ∙ e) in
          let p : held_choice_place i m.turn ≡ held_choice_place i 0 + 1 * m.turn = omega arith in
          let g = ap (open_place c) p ∙ m.counts in
          let v = tight_met f c s.whole o (held_choice_place i m.turn) (record { turn = m.turn; below = m.below; is = p }) g in
          let u = figure_at (train_tightened i c) (held_choice_place i m.turn) (figure c (held_choice_place i m.turn) - run_least (choices_run c i) c) v in
          record {
            which = m.turn;
            below = m.below;
            permitted = sym (open_choice c i m.turn (omega (arith, s.trains)) (omega (arith, m.below))) ∙ g;
            is = omega (arith, u, m.is, ap (figure c) p);
          }),
      (λ j g n z. let q = s.sizes j (omega (arith, s.trains)) in record {
        which = z.which;
        below = z.below;
        permitted = z.permitted;
        is = omega (
          arith,
          z.is,
          same_figure c (train_tightened i c) (held_choice_place j z.which) (tight_other f c (held_choice_place j z.which) (λ e. omega arith) (λ t l e. n (omega (arith, z.below)))),
        );
      }),
    )
