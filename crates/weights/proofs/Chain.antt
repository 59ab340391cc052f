-- A chain of moves over whole numbers is a rewriting. At each place, what stands there at the end, with what was lost on the way, is what stood there, with what was gained.
-- One move changes the places of one run and the place that it goes to; moves after one another add up; and where both ends are natural the equation is one of naturals.
use mathlib.Core.Path.{◌≡◌, refl, sym, ap₂, ◌∙◌}
use mathlib.Core.List.{List}
use mathlib.Core.Logic.{◌⊎◌, inl, inr, ⊎_elim, ◌≢◌}
use Prim.Native.Nat.{ℕ, ◌+◌, ◌<◌, ◌≤◌}
use native.Mathlib.Decide.{ℕ_discrete}
use native.Mathlib.Omega.{arith}
use lib.IntN.{ℤ}
use lib.ListN.{length}
use Rattle.theory.specs.Sum.{sum}
use Rattle.tables.specs.Block.{block_length, max_trains, max_choices, constant_place, held_entries_from, held_choice_place, held_entry_place, at, trains, pairs, size, first, second}
use Rattle.theory.proofs.Sum.{sum_cong, sum-add, sum-zero, sum_pick}
use Rattle.rewriting.specs.declared.sides.PlaceRun.{PlaceRun}
use Rattle.rewriting.specs.declared.sides.Side.TheVariants.{Rows, Columns}
use Rattle.rewriting.specs.Moves.{ShapeInRange, move_run, lane_run, choices_run, NonEmpty}
use Rattle.rewriting.proofs.Runs.{Met, Missed, move_to, move_met, move_other}
use Rattle.rewriting.proofs.Shape.{Project, lane, unary, lanes_most, BetweenCosts, project_between_costs, between_costs_run, Asked, Moved, none, move, moved_shape}
use Rattle.tables.specs.Plans.{Shape, shape_of}
use Rattle.weights.specs.Moves.{Moves, given, no_moves, together}
use Rattle.weights.proofs.Rewritten.{given_none, given-together}
use Rattle.weights.proofs.Goes.{Goes, above, below, goes_same, goes_by, goes_less, goes_as, goes_then}
use Rattle.weights.proofs.Single.{only, only_here, only_away, only_both, only_not, lift_move, row_move, column_move, lift_given, row-given, column_given}

-- d comes from c by the moves `up`, and the moves `down` back, at all places that have a cost, open or not
pub record Chain (s : Shape) (c d : List ℤ) (up down : Moves) : Type 0 where
  pub constant : Goes (at c constant_place) (at d constant_place) (sum s.trains down.lift) (sum s.trains up.lift)
  pub choices : (i a : ℕ) → i < s.trains → a < s.size i
      → Goes (at c (held_choice_place i a)) (at d (held_choice_place i a)) (up.lift i + given s down i a) (down.lift i + given s up i a)
  pub entries : (k a e : ℕ) → k < s.pairs → a < s.size (s.first k) → e < s.size (s.second k)
      → Goes (at c (held_entry_place k a e)) (at d (held_entry_place k a e)) (up.row k a + up.column k e) (down.row k a + down.column k e)

pub chain_same : (s : Shape) (c : List ℤ) → Chain s c c no_moves no_moves
chain_same s c =
    record {
      constant = goes_as (sum-zero s.trains) (sum-zero s.trains) (goes_same refl);
      choices = λ i a p q. goes_as (omega (arith, given_none s i a)) (omega (arith, given_none s i a)) (goes_same refl);
      entries = λ k a e p q r. goes_same refl;
    }

pub chain_then : {s : Shape} {c d e : List ℤ} {up down more back : Moves} → Chain s c d up down → Chain s d e more back → Chain s c e (together up more) (together down back)
chain_then {s} {up = up} {down} {more} {back} x y =
    record {
      constant = goes_as (sum-add s.trains down.lift back.lift) (sum-add s.trains up.lift more.lift) (goes_then x.constant y.constant);
      choices = λ i a p q.
          goes_as (omega (arith, given-together s down back i a)) (omega (arith, given-together s up more i a)) (goes_then (x.choices i a p q) (y.choices i a p q));
      entries = λ k a f p q r. goes_as (omega arith) (omega arith) (goes_then (x.entries k a f p q r) (y.entries k a f p q r));
    }

-- ---- one move

-- n by one move of Algorithm 1
unfoldable pub single : {b : List ℤ} {r : PlaceRun} → Project b r → ℕ → Moves
single (lane Rows k x h q) = row_move k x
single (lane Columns k x h q) = column_move k x
single (unary i h) = lift_move i

module _ {b : List ℤ} (s : ShapeInRange b) (f : NonEmpty b) (c : List ℤ) (len : length c ≡ block_length) (α : ℤ) where
  -- a choice that is there is one of eight
  choice_small : (i a : ℕ) → i < trains b → a < size b i → (i < max_trains) × (a < max_choices)
  choice_small i a p q = omega (arith, s.trains, s.sizes i (omega (arith, s.trains)))

  entry_small : (l a e : ℕ) → l < pairs b → a < size b (first b l) → e < size b (second b l) → (a < max_choices) × (e < max_choices)
  entry_small l a e p q r = ((choice_small (first b l) a (f.firsts l p) q).1, (choice_small (second b l) e (f.seconds l p) r).1)

  -- from the entries of lane x of pair k, which are those where `on` is x, to choice x of train t
  lane_chain : (k t x : ℕ) (r : PlaceRun) (m : ℕ → Moves) (on : ℕ → ℕ → ℕ) → r.to ≡ held_choice_place t x → BetweenCosts r → t < trains b → x < max_choices → held_entries_from ≤ r.from
      → ((n i : ℕ) → (m n).lift i ≡ 0)
      → ((n i a : ℕ) → given (shape_of b) (m n) i a ≡ only t i (only x a n))
      → ((n l a e : ℕ) → (m n).row l a + (m n).column l e ≡ only k l (only x (on a e) n))
      → ((l a e : ℕ) → a < size b (first b l) → e < size b (second b l) → k ≡ l → x ≡ on a e → Met r (held_entry_place l a e))
      → ((l a e : ℕ) → l < pairs b → a < size b (first b l) → e < size b (second b l) → (k ≢ l) ⊎ (x ≢ on a e) → Missed r (held_entry_place l a e))
      → Chain (shape_of b) c (move_run r α c) (m (above α)) (m (below α))
  lane_chain k t x r m on to g ht hx low lift gives takes hit miss =
      record {
        constant = goes_as (no_lifts (below α)) (no_lifts (above α)) (goes_same (move_other r α c constant_place (λ e. omega arith) (λ i l e. omega arith)));
        choices = λ i a p q. choice i a p q (ℕ_discrete t i) (ℕ_discrete x a);
        entries = λ l a e p q z. entry l a e p q z (ℕ_discrete k l) (ℕ_discrete x (on a e));
      }
    where
      no_lifts : (n : ℕ) → sum (trains b) (m n).lift ≡ 0
      no_lifts n = sum_cong (trains b) (m n).lift (λ i. 0) (λ i h. lift n i) ∙ sum-zero (trains b)

      -- the choice that the move goes to, and the others
      other_choice : (i a : ℕ) → i < trains b → a < size b i → (t ≢ i) ⊎ (x ≢ a)
          → Goes (at c (held_choice_place i a)) (at (move_run r α c) (held_choice_place i a)) ((m (above α)).lift i + given (shape_of b) (m (below α)) i a) ((m (below α)).lift i + given (shape_of b) (m (above α)) i a)
      other_choice i a p q n =
          let small = choice_small i a p q in
          goes_as (away (above α) (below α)) (away (below α) (above α))
          (goes_same (move_other r α c (held_choice_place i a) (λ e. ⊎_elim (λ (d : t ≢ i). d (omega arith)) (λ (d : x ≢ a). d (omega arith)) n) (λ j l e. omega arith)))
        where
          away : (u d : ℕ) → (m u).lift i + given (shape_of b) (m d) i a ≡ 0
          away u d = omega (arith, lift u i, gives d i a, only_not t i x a d n)

      choice : (i a : ℕ) → i < trains b → a < size b i → Dec (t ≡ i) → Dec (x ≡ a)
          → Goes (at c (held_choice_place i a)) (at (move_run r α c) (held_choice_place i a)) ((m (above α)).lift i + given (shape_of b) (m (below α)) i a) ((m (below α)).lift i + given (shape_of b) (m (above α)) i a)
      choice i a p q (yes e) (yes z) =
          goes_as (here (above α) (below α)) (here (below α) (above α))
          (goes_by α (move_to r α c (between_costs_run c len g) g.missed (held_choice_place i a) (ap₂ held_choice_place (sym e) (sym z) ∙ sym to)))
        where
          here : (u d : ℕ) → (m u).lift i + given (shape_of b) (m d) i a ≡ d
          here u d = omega (arith, lift u i, gives d i a, only_both t i x a d e z)
      choice i a p q (yes e) (no n) = other_choice i a p q (inr n)
      choice i a p q (no n) y = other_choice i a p q (inl n)

      -- the entries of the lane, and the others
      other_entry : (l a e : ℕ) → l < pairs b → a < size b (first b l) → e < size b (second b l) → (k ≢ l) ⊎ (x ≢ on a e)
          → Goes (at c (held_entry_place l a e)) (at (move_run r α c) (held_entry_place l a e)) ((m (above α)).row l a + (m (above α)).column l e) ((m (below α)).row l a + (m (below α)).column l e)
      other_entry l a e p q z n =
          goes_as (away (above α)) (away (below α))
          (goes_same (move_other r α c (held_entry_place l a e) (λ y. omega (arith, s.trains)) (miss l a e p q z n)))
        where
          away : (u : ℕ) → (m u).row l a + (m u).column l e ≡ 0
          away u = takes u l a e ∙ only_not k l x (on a e) u n

      entry : (l a e : ℕ) → l < pairs b → a < size b (first b l) → e < size b (second b l) → Dec (k ≡ l) → Dec (x ≡ on a e)
          → Goes (at c (held_entry_place l a e)) (at (move_run r α c) (held_entry_place l a e)) ((m (above α)).row l a + (m (above α)).column l e) ((m (below α)).row l a + (m (below α)).column l e)
      entry l a e p q z (yes h) (yes y) =
          goes_as (here (above α)) (here (below α)) (goes_less α (move_met r α c (between_costs_run c len g) g.missed (held_entry_place l a e) (hit l a e q z h y)))
        where
          here : (u : ℕ) → (m u).row l a + (m u).column l e ≡ u
          here u = takes u l a e ∙ only_both k l x (on a e) u h y
      entry l a e p q z (yes h) (no n) = other_entry l a e p q z (inr n)
      entry l a e p q z (no n) y = other_entry l a e p q z (inl n)

  -- from every choice of train t to the constant
  unary_chain : (t : ℕ) → t < trains b → Chain (shape_of b) c (move_run (choices_run b t) α c) (lift_move t (above α)) (lift_move t (below α))
  unary_chain t ht =
      record {
        constant =
            goes_as (sum_pick (trains b) t (below α) ht) (sum_pick (trains b) t (above α) ht) (goes_by α (move_to r α c (between_costs_run c len g) g.missed constant_place refl));
        choices = λ i a p q. choice i a p q (ℕ_discrete t i);
        entries = λ l a e p q z.
            goes_same (move_other r α c (held_entry_place l a e) (λ y. omega arith)
            (λ j h y. omega (arith, s.trains, s.sizes t (omega (arith, s.trains)))));
      }
    where
      r : PlaceRun
      r = choices_run b t

      g : BetweenCosts r
      g = project_between_costs s (unary t ht)

      choice : (i a : ℕ) → i < trains b → a < size b i → Dec (t ≡ i)
          → Goes (at c (held_choice_place i a)) (at (move_run r α c) (held_choice_place i a))
          (only t i (above α) + given (shape_of b) (lift_move t (below α)) i a) (only t i (below α) + given (shape_of b) (lift_move t (above α)) i a)
      choice i a p q (yes e) =
          goes_as (here (above α) (below α)) (here (below α) (above α))
          (goes_less α (move_met r α c (between_costs_run c len g) g.missed (held_choice_place i a) (record { turn = a; below = rw e q; is = omega arith })))
        where
          here : (u d : ℕ) → only t i u + given (shape_of b) (lift_move t d) i a ≡ u
          here u d = omega (arith, only_here t i u e, lift_given (shape_of b) t d i a)
      choice i a p q (no n) =
          goes_as (away (above α) (below α)) (away (below α) (above α))
          (goes_same (move_other r α c (held_choice_place i a) (λ y. omega arith)
          (λ j h y. n (omega (arith, choice_small i a p q, s.sizes t (omega (arith, s.trains)))))))
        where
          away : (u d : ℕ) → only t i u + given (shape_of b) (lift_move t d) i a ≡ 0
          away u d = omega (arith, only_away t i u n, lift_given (shape_of b) t d i a)

  -- every move of Algorithm 1
  pub project_chain : {r : PlaceRun} (p : Project b r) → Chain (shape_of b) c (move_run r α c) (single p (above α)) (single p (below α))
  unfolding single
  project_chain (lane Rows k x h q) =
      let d = lanes_most s Rows k h in
      lane_chain k (first b k) x (lane_run Rows b k x) (row_move k x) (λ a e. a) refl (project_between_costs s (lane Rows k x h q)) (f.firsts k h) (omega arith) (omega arith)
      (λ n i. refl) (λ n i a. row-given (shape_of b) k x n i a h) (λ n l a e. omega arith)
      (λ l a e y z u v. record { turn = e; below = rw u z; is = omega arith })
      (λ l a e p y z n j w v.
      let g = entry_small l a e p y z in
      let o = lanes_most s Columns k h in
      ⊎_elim (λ (i : k ≢ l). i (omega arith)) (λ (i : x ≢ a). i (omega arith)) n)
  project_chain (lane Columns k x h q) =
      let d = lanes_most s Columns k h in
      lane_chain k (second b k) x (lane_run Columns b k x) (column_move k x) (λ a e. e) refl (project_between_costs s (lane Columns k x h q)) (f.seconds k h) (omega arith) (omega arith)
      (λ n i. refl) (λ n i a. column_given (shape_of b) k x n i a h) (λ n l a e. omega arith)
      (λ l a e y z u v. record { turn = a; below = rw u y; is = omega arith })
      (λ l a e p y z n j w v.
      let g = entry_small l a e p y z in
      let o = lanes_most s Rows k h in
      ⊎_elim (λ (i : k ≢ l). i (omega arith)) (λ (i : x ≢ e). i (omega arith)) n)
  project_chain (unary i h) = unary_chain i h

-- ---- chains of moves

-- moves that lead from b to c
pub record Chained (b c : List ℤ) : Type 0 where
  pub up : Moves
  pub down : Moves
  pub chain : Chain (shape_of b) b c up down

pub moved_chain : {R : Asked} {b : List ℤ} → ShapeInRange b → NonEmpty b → {n : ℕ} {c : List ℤ} → Moved R b n c → Chained b c
moved_chain {b = b} s f none = record { up = no_moves; down = no_moves; chain = chain_same (shape_of b) b }
moved_chain {b = b} s f (move {c = c} α l p r v) =
    let w = moved_chain s f v in
    record { up = _; down = _; chain = chain_then w.chain (project_chain s f c ((moved_shape s v).whole ∙ s.whole) α p) }
