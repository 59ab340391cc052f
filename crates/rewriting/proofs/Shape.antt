-- The moves of an operation go between costs of its block, so that they keep the shape: a study, its shape, and the chains of moves from it.
use mathlib.Core.Path.{◌≡◌, refl, ap, ◌∙◌}
use mathlib.Core.Bool.{Bool, true, false, cond}
use mathlib.Core.List.{List}
use mathlib.Core.Logic.{◌⊎◌, inl, inr, ⊎_elim, dite}
use Prim.Native.Nat.{ℕ, ◌+◌, ◌*◌, ◌-◌, ◌<◌, ◌≤◌}
use native.Mathlib.Decide.{dec_lt}
use native.Mathlib.Nat.{add-zero, mul-zero}
use native.Mathlib.Omega.{arith}
use lib.Dec.{ltb, eqb}
use lib.IntN.{ℤ, pos, negsuc}
use lib.ListN.{length, get_or-eq_default}
use lib.Signed.{mag}
use borrow.Author.Tests.{eqb-true}
use Rattle.theory.specs.Fold.{iter}
use Rattle.theory.proofs.Range.{both_true}
use Rattle.theory.proofs.Fold.{iter-ind}
use Rattle.units.specs.Units.{scale_min, scale_max}
use Rattle.tables.specs.Block.{block_length, max_trains, max_choices, max_pairs, max_cost, max_parts, trains_place, scale_place, pairs_place, constant_place, sizes_from, firsts_from, seconds_from, loaded_choices_from, held_choices_from, loaded_entries_from, held_entries_from, order_from, at, nat, figure, trains, pairs, size, first, second}
use Rattle.tables.specs.declared.place_limits.Limits.{Limits}
use Rattle.tables.specs.WellFormed.{from_to, cost_to, within, used_if, choice_used, entry_used, head_limits, shape_limits, cost_limits, order_limits, limits_at, Study}
use Rattle.tables.proofs.Limits.{within_high}
use Rattle.tables.proofs.Study.{trains_range, pairs_range, size_range, size_high, first_high, second_high, first-below-trains, second-below-trains, SameShape, SameOrder, same_trains, same_pairs, same_size, same_first, same_second}
use Rattle.rewriting.specs.declared.sides.PlaceRun.{PlaceRun}
use Rattle.rewriting.specs.declared.sides.Side.{Side}
use Rattle.rewriting.specs.declared.sides.Side.TheVariants.{Rows, Columns}
use Rattle.rewriting.specs.Moves.{Room, ShapeInRange, RunIn, run_place, move_run, lane_train, lane_run, choices_run, project, project_unary, NonEmpty}
use Rattle.rewriting.specs.Leasts.{HeldPlace, HeldRun}
use Rattle.rewriting.proofs.Runs.{Missed, move_length, move_other}

-- ---- a study

-- no place may hold more than L
pub record Most (l : Limits) : Type 0 where
  pub most : l.high ≤ max_parts

choose : (t : Bool) {l m : Limits} → Most l → Most m → Most (cond t l m)
choose true p q = p
choose false p q = q

range : (low high : ℕ) → high ≤ max_parts → Most (from_to low high)
range low high h = record { most = h }

used : (t : Bool) (low high : ℕ) → high ≤ max_parts → Most (used_if t (from_to low high))
used t low high h = choose t (range low high h) (range 0 0 (omega arith))

used_cost : (t : Bool) (high : ℕ) → high ≤ max_parts → Most (used_if t (cost_to high))
used_cost t high h = choose t (record { most = h }) (range 0 0 (omega arith))

pub limits_most : (b : List ℤ) (p : ℕ) → Most (limits_at b p)
unfolding limits_at shape_limits head_limits cost_limits order_limits
limits_most b p =
    choose (ltb p loaded_choices_from)
    (choose (ltb p sizes_from)
    (choose (eqb p trains_place) (range 1 max_trains (omega arith))
    (choose (eqb p scale_place) (range scale_min scale_max (omega arith)) (choose (eqb p pairs_place) (range 0 max_pairs (omega arith)) (range 0 max_parts (omega arith)))))
    (choose (ltb p firsts_from) (used (ltb (p - sizes_from) (trains b)) 1 max_choices (omega arith))
    (choose (ltb p seconds_from) (used (ltb (p - firsts_from) (pairs b)) 0 (max_trains - 1) (omega arith)) (used (ltb (p - seconds_from) (pairs b)) 0 (max_trains - 1) (omega arith)))))
    (choose (ltb p order_from)
    (choose (ltb p held_choices_from) (used_cost (choice_used b (p - loaded_choices_from)) max_cost (omega arith))
    (choose (ltb p loaded_entries_from) (used_cost (choice_used b (p - held_choices_from)) max_parts (omega arith))
    (choose (ltb p held_entries_from) (used_cost (entry_used b (p - loaded_entries_from)) max_cost (omega arith)) (used_cost (entry_used b (p - held_entries_from)) max_parts (omega arith)))))
    (used (ltb (p - order_from) (trains b)) 0 (max_trains - 1) (omega arith)))

pub nat_room : (z : ℤ) (n : ℕ) → z ≡ pos n → mag z ≡ n
nat_room z n e = rw e

past_end : (b : List ℤ) (p : ℕ) → at b p ≡ pos 0 → mag (at b p) ≤ max_parts
past_end b p e = rw e (omega arith)

-- −1 is as near to 0 as 0 is
within_near : (l : Limits) (z : ℤ) → within l z ≡ true → mag z ≤ l.high
unfolding within
within_near l (pos n) e = within_high l (pos n) e
within_near l (negsuc n) e = omega (arith, eqb-true n 0 (both_true l.closable (eqb n 0) e).1)

nat_near : (z : ℤ) → nat z ≤ mag z
nat_near (pos n) = omega arith
nat_near (negsuc n) = omega arith

-- no figure is further from 0 than its number
pub room_figure : (p : ℕ) (c : List ℤ) (h : ℕ) → Room c h → figure c p ≤ h
unfolding figure
room_figure p c h o = omega (arith, nat_near (at c p), o.room p)

module _ {b : List ℤ} (s : Study b) where
  -- no number of a study is further from 0 than L
  pub study_room : Room b max_parts
  study_room =
      record {
        room = λ p.
            dite (dec_lt p block_length) (λ (h : p < block_length). omega (arith, within_near (limits_at b p) (at b p) (s.places p h), (limits_most b p).most))
            (λ n. past_end b p (get_or-eq_default b (pos 0) (omega (arith, s.whole))));
      }

  pub study_figure : (p : ℕ) → figure b p ≤ max_parts
  study_figure p = room_figure p b max_parts study_room

  pub study_shape_in_range : ShapeInRange b
  study_shape_in_range =
      record {
        whole = s.whole;
        trains = (trains_range s).1;
        pairs = pairs_range s;
        sizes = size_high s;
        firsts = first_high s;
        seconds = second_high s;
      }

  pub study_non_empty : NonEmpty b
  study_non_empty = record { sizes = λ i h. (size_range s i h).0; firsts = first-below-trains s; seconds = second-below-trains s }

-- ---- blocks of the same shape

pub shape_same : (b : List ℤ) → SameShape b b
shape_same b = record { whole = refl; kept = λ p h n. refl }

pub shape_then : {b c d : List ℤ} → SameShape b c → SameShape c d → SameShape b d
shape_then e f = record { whole = f.whole ∙ e.whole; kept = λ p h n. f.kept p h n ∙ e.kept p h n }

-- from one place to another
pub record Between (from to p : ℕ) : Type 0 where
  pub low : from ≤ p
  pub high : p < to

-- a place of H, or of the order
pub record Loaded (p : ℕ) : Type 0 where
  pub table : Between loaded_choices_from held_choices_from p ⊎ (Between loaded_entries_from held_entries_from p ⊎ (order_from ≤ p))

-- c has the shape of b, and H and the order as b has them: it differs from b in held costs and constant only
pub record SameLoaded (b c : List ℤ) : Type 0 where
  pub shape : SameShape b c
  pub loaded : (p : ℕ) → Loaded p → at c p ≡ at b p

pub loaded_same : (b : List ℤ) → SameLoaded b b
loaded_same b = record { shape = shape_same b; loaded = λ p l. refl }

pub loaded_then : {b c d : List ℤ} → SameLoaded b c → SameLoaded c d → SameLoaded b d
loaded_then e f = record { shape = shape_then e.shape f.shape; loaded = λ p l. f.loaded p l ∙ e.loaded p l }

pub loaded_order : {b c : List ℤ} → SameLoaded b c → SameOrder b c
loaded_order e = record { order_kept = λ p h. e.loaded p (record { table = inr (inr h) }) }

module _ {b c : List ℤ} (e : SameShape b c) (s : ShapeInRange b) where
  pub shape_in_range_kept : ShapeInRange c
  shape_in_range_kept =
      record {
        whole = e.whole ∙ s.whole;
        trains = rw (same_trains e) s.trains;
        pairs = rw (same_pairs e) s.pairs;
        sizes = λ i h. rw (same_size e i h) (s.sizes i h);
        firsts = λ k h. rw (same_first e k h) (s.firsts k h);
        seconds = λ k h. rw (same_second e k h) (s.seconds k h);
      }

  -- of a pair: how many lanes each side has, and where they are
  module _ (k : ℕ) (h : k < max_pairs) where
    pub same_lanes : (side : Side) → size c (lane_train side c k) ≡ size b (lane_train side b k)
    same_lanes Rows = ap (size c) (same_first e k h) ∙ same_size e (first b k) (s.firsts k h)
    same_lanes Columns = ap (size c) (same_second e k h) ∙ same_size e (second b k) (s.seconds k h)

    pub same_lane : (side : Side) (x : ℕ) → lane_run side c k x ≡ lane_run side b k x
    same_lane Rows x = rw (same_lanes Columns, same_first e k h)
    same_lane Columns x = rw (same_lanes Rows, same_second e k h)

  pub non_empty_kept : NonEmpty b → NonEmpty c
  non_empty_kept f =
      record {
        sizes = λ i h. omega (arith, f.sizes i (omega (arith, same_trains e)), same_size e i (omega (arith, same_trains e, s.trains)));
        firsts = λ k h. omega (arith, f.firsts k (omega (arith, same_pairs e)), same_first e k (omega (arith, same_pairs e, s.pairs)), same_trains e);
        seconds = λ k h. omega (arith, f.seconds k (omega (arith, same_pairs e)), same_second e k (omega (arith, same_pairs e, s.pairs)), same_trains e);
      }

-- ---- the moves that Algorithm 1 makes on a block of this shape

pub data Project (b : List ℤ) : PlaceRun → Type 0 where
  lane : (side : Side) (k x : ℕ) → k < pairs b → x < size b (lane_train side b k) → Project b (lane_run side b k x)
  unary : (i : ℕ) → i < trains b → Project b (choices_run b i)

-- a block of the same shape has the same moves
pub project-kept : {b c : List ℤ} {r : PlaceRun} → SameShape b c → ShapeInRange b → Project c r → Project b r
project-kept {b} {c} e s (lane side k x h q) =
    let l : k < pairs b = omega (arith, same_pairs e) in
    let g : k < max_pairs = omega (arith, s.pairs) in
    rw (same_lane e s k g side x) (lane side k x l (rw (same_lanes e s k g side) at q))
project-kept {b} {c} e s (unary i h) =
    let l : i < trains b = omega (arith, same_trains e) in
    rw (same_size e i (omega (arith, s.trains))) (unary i l)

-- all its places are held costs, or the constant, and it goes to none of those that it comes from
pub record BetweenCosts (r : PlaceRun) : Type 0 where
  pub apart : 0 < r.step
  pub inside : (i : ℕ) → i < r.count → run_place r i < block_length
  pub there : r.to < block_length
  pub costs : HeldRun r
  pub goal : (r.to ≡ constant_place) ⊎ HeldPlace r.to
  pub missed : Missed r r.to

module _ {b : List ℤ} (s : ShapeInRange b) where
  -- the train of a lane is one of the block's
  pub lane_train_lem : (side : Side) (k : ℕ) → k < pairs b → lane_train side b k < max_trains
  lane_train_lem Rows k h = s.firsts k (omega (arith, s.pairs))
  lane_train_lem Columns k h = s.seconds k (omega (arith, s.pairs))

  -- and a side has no more lanes than a train has choices
  pub lanes_most : (side : Side) (k : ℕ) → k < pairs b → size b (lane_train side b k) ≤ max_choices
  lanes_most side k h = s.sizes (lane_train side b k) (lane_train_lem side k h)

  pub project_between_costs : {r : PlaceRun} → Project b r → BetweenCosts r
  project_between_costs (lane Rows k x h q) =
      let f = lane_train_lem Rows k h in
      let d = lanes_most Rows k h in
      let e = lanes_most Columns k h in
      record {
        apart = omega arith;
        inside = λ i l. omega (arith, s.pairs);
        there = omega arith;
        costs = record { held = λ i l. record { low = omega arith; table = inr (omega arith); high = omega (arith, s.pairs) } };
        goal = inr (record { low = omega arith; table = inl (omega arith); high = omega arith });
        missed = λ i l z. omega arith;
      }
  project_between_costs (lane Columns k x h q) =
      let f = lane_train_lem Columns k h in
      let d = lanes_most Rows k h in
      let e = lanes_most Columns k h in
      record {
        apart = omega arith;
        inside = λ i l. omega (arith, s.pairs);
        there = omega arith;
        costs = record { held = λ i l. record { low = omega arith; table = inr (omega arith); high = omega (arith, s.pairs) } };
        goal = inr (record { low = omega arith; table = inl (omega arith); high = omega arith });
        missed = λ i l z. omega arith;
      }
  project_between_costs (unary i h) =
      let d = s.sizes i (omega (arith, s.trains)) in
      record {
        apart = omega arith;
        inside = λ j l. omega (arith, s.trains);
        there = omega arith;
        costs = record { held = λ j l. record { low = omega arith; table = inl (omega (arith, s.trains)); high = omega (arith, s.trains) } };
        goal = inl refl;
        missed = λ j l z. omega arith;
      }

-- its run, in a whole block
pub between_costs_run : {r : PlaceRun} (c : List ℤ) → length c ≡ block_length → BetweenCosts r → RunIn c r
between_costs_run c e f = record { apart = f.apart; inside = λ i l. omega (arith, f.inside i l); there = omega (arith, f.there) }

pub project_run : {b : List ℤ} {r : PlaceRun} → ShapeInRange b → Project b r → RunIn b r
project_run {b} s p = between_costs_run b s.whole (project_between_costs s p)

-- whose places are places of T
pub project_held : {b : List ℤ} {r : PlaceRun} → ShapeInRange b → Project b r → HeldRun r
project_held s p = (project_between_costs s p).costs

-- no held cost is a place of H or of the order
loaded_not_held : {p q : ℕ} → Loaded p → HeldPlace q → p ≡ q → ⊥
loaded_not_held {p} {q} l h e =
    ⊎_elim
    (λ (w : Between loaded_choices_from held_choices_from p). omega (arith, h.low))
    (λ w. ⊎_elim
    (λ (x : Between loaded_entries_from held_entries_from p). ⊎_elim (λ (v : q < loaded_entries_from). omega arith) (λ (v : held_entries_from ≤ q). omega arith) h.table)
    (λ (x : order_from ≤ p). omega (arith, h.high)) w)
    l.table

loaded_not_constant : {p : ℕ} → Loaded p → p ≡ constant_place → ⊥
loaded_not_constant {p} l e =
    ⊎_elim (λ (w : Between loaded_choices_from held_choices_from p). omega arith)
    (λ w. ⊎_elim (λ (x : Between loaded_entries_from held_entries_from p). omega arith) (λ (x : order_from ≤ p). omega arith) w) l.table

-- a move changes neither the shape nor H nor the order
pub move_loaded : (r : PlaceRun) (α : ℤ) (b : List ℤ) → BetweenCosts r → SameLoaded b (move_run r α b)
move_loaded r α b f =
    record {
      shape = record {
        whole = move_length r α b;
        kept = λ p h n. move_other r α b p
            (λ e. ⊎_elim (λ (g : r.to ≡ constant_place). n (e ∙ g)) (λ (g : HeldPlace r.to). omega (arith, g.low)) f.goal)
            (λ i l e. omega (arith, (f.costs.held i l).low));
      };
      loaded = λ p q. move_other r α b p
          (λ e. ⊎_elim (λ (g : r.to ≡ constant_place). loaded_not_constant q (e ∙ g)) (λ (g : HeldPlace r.to). loaded_not_held q g e) f.goal)
          (λ i l e. loaded_not_held q (f.costs.held i l) e);
    }

-- ---- chains of moves

-- what is asked of a move, by its run, its block and the number that goes
abbrev pub Asked : Type 1
Asked = PlaceRun → List ℤ → ℤ → Type 0

-- any number may go
abbrev pub Any : Asked
Any r c α = Unit {0}

-- c comes from b by at most n moves
pub data Moved (R : Asked) (b : List ℤ) : ℕ → List ℤ → Type 0 where
  none : {n : ℕ} → Moved R b n b
  move : {m n : ℕ} {run : PlaceRun} {c : List ℤ} (α : ℤ) → m < n → Project b run → R run c α → Moved R b m c → Moved R b n (move_run run α c)

-- with less asked
pub moved_map : {R S : Asked} {b : List ℤ} → ((run : PlaceRun) (c : List ℤ) (α : ℤ) → R run c α → S run c α)
    → {n : ℕ} {c : List ℤ} → Moved R b n c → Moved S b n c
moved_map f none = none
moved_map f (move {run = run} α l p r w) = move α l p (f run _ α r) (moved_map f w)

pub moved_as : {R : Asked} {b : List ℤ} {n : ℕ} {c d : List ℤ} → d ≡ c → Moved R b n c → Moved R b n d
moved_as e w = rw e w

pub moved_more : {R : Asked} {b : List ℤ} {m n : ℕ} {c : List ℤ} → m ≤ n → Moved R b m c → Moved R b n c
moved_more h none = none
moved_more {n = n} h (move {m = i} α l p r w) = let q : i < n = omega arith in move α q p r w

module _ {R : Asked} {b : List ℤ} (s : ShapeInRange b) where
  pub moved_loaded : {n : ℕ} {c : List ℤ} → Moved R b n c → SameLoaded b c
  moved_loaded none = loaded_same b
  moved_loaded (move {run = run} {c} α l p r w) = loaded_then (moved_loaded w) (move_loaded run α c (project_between_costs s p))

  pub moved_shape : {n : ℕ} {c : List ℤ} → Moved R b n c → SameShape b c
  moved_shape w = (moved_loaded w).shape

  -- the same run, as a block on the way has it
  module _ {n : ℕ} {c : List ℤ} (w : Moved R b n c) where
    pub moved_lane : (side : Side) (m k x : ℕ) (α : ℤ) → n < m → k < pairs b → x < size b (lane_train side b k)
        → R (lane_run side b k x) c α → Moved R b m (project side k x α c)
    moved_lane side m k x α l h q r = rw (same_lane (moved_shape w) s k (omega (arith, s.pairs)) side x) (move α l (lane side k x h q) r w)

    pub moved_unary : (m i : ℕ) (α : ℤ) → n < m → i < trains b → R (choices_run b i) c α → Moved R b m (project_unary i α c)
    moved_unary m i α l h r = rw (same_size (moved_shape w) i (omega (arith, s.trains))) (move α l (unary i h) r w)

  -- the folds of an operation: α is the number that goes, by turn and block
  module _ (α : ℕ → List ℤ → ℤ) where
    pub lanes_moved : (side : Side) (k : ℕ) → k < pairs b
        → ((x : ℕ) (y : List ℤ) → SameShape b y → x < size b (lane_train side b k) → R (lane_run side b k x) y (α x y))
        → (m n : ℕ) (c : List ℤ) → m ≤ size b (lane_train side b k) → Moved R b n c → Moved R b (n + m) (iter m (λ x y. project side k x (α x y) y) c)
    lanes_moved side k h r m n c l w =
        iter-ind (λ i y. Moved R b (n + i) y) m (λ x y. project side k x (α x y) y) c (rw add-zero w)
        (λ x y q v. moved_lane v side (n + (x + 1)) k x (α x y) (omega arith) h (omega arith) (r x y (moved_shape v) (omega arith)))

    pub trains_moved : ((i : ℕ) (x : List ℤ) → SameShape b x → i < trains b → R (choices_run b i) x (α i x))
        → (m n : ℕ) (c : List ℤ) → m ≤ trains b → Moved R b n c → Moved R b (n + m) (iter m (λ i x. project_unary i (α i x) x) c)
    trains_moved r m n c l w =
        iter-ind (λ i x. Moved R b (n + i) x) m (λ i x. project_unary i (α i x) x) c (rw add-zero w)
        (λ i x q v. moved_unary v (n + (i + 1)) i (α i x) (omega arith) (omega arith) (r i x (moved_shape v) (omega arith)))

  -- a turn for each pair, of at most 16 moves
  pub pairs_moved : (f : ℕ → List ℤ → List ℤ) → ((k n : ℕ) (x : List ℤ) → k < pairs b → Moved R b n x → Moved R b (n + 16) (f k x))
      → (m n : ℕ) (c : List ℤ) → m ≤ pairs b → Moved R b n c → Moved R b (n + 16 * m) (iter m f c)
  pairs_moved f t m n c l w =
      iter-ind (λ i x. Moved R b (n + 16 * i) x) m f c (rw (mul-zero, add-zero) w)
      (λ i x q v. let e : n + 16 * (i + 1) ≡ n + 16 * i + 16 = omega arith in rw e (t i (n + 16 * i) x (omega arith) v))

-- the most moves that an operation makes
abbrev pub all_moves : ℕ
all_moves = max_trains + 16 * max_pairs

-- one chain after another
pub moved_then : {R : Asked} {b c : List ℤ} {m : ℕ} → ShapeInRange b → Moved R b m c → {n : ℕ} {d : List ℤ} → Moved R c n d → Moved R b (m + n) d
moved_then {m = m} s w {n} none = moved_more {n = m + n} (omega arith) w
moved_then {m = m} s w {n} (move {m = i} α l p r v) =
    let q : m + i < m + n = omega arith in
    move α q (project-kept (moved_shape s w) s p) r (moved_then s w v)
