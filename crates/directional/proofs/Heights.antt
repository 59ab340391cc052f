-- What can still move falls by no less than any number moves: the turn of pair (i, j) gives its height and that of train j to train i, which is lower, and a lift takes what it gives to the
-- constant off train j's. So no number, at a forbidden place too, goes further from 0 than all that could move at the beginning.
use mathlib.Core.Path.{◌≡◌, refl, ap, ◌∙◌}
use mathlib.Core.Bool.{true}
use mathlib.Core.List.{List}
use mathlib.Core.Logic.{◌⊎◌, inl, inr, ⊎_elim, ◌≢◌}
use Prim.Native.Nat.{ℕ, ◌+◌, ◌*◌, ◌-◌, ◌<◌, ◌≤◌}
use native.Mathlib.Decide.{ℕ_discrete}
use native.Mathlib.Nat.{add-mul, mul-add, mul-le-mul_right}
use native.Mathlib.Omega.{arith}
use lib.IntN.{ℤ, pos, neg_ℤ, ◌+ℤ◌}
use lib.Signed.{mag}
use Rattle.theory.specs.Sum.{sum, update}
use Rattle.theory.proofs.Sum.{sum_cong, sum_most, sum_one, sum_two, update_same, update_other}
use Rattle.tables.specs.Block.{max_trains, max_pairs, max_parts, constant_place, held_choice_place, held_entry_place, at, trains, pairs, size, first, second, held_choice, held_entry}
use Rattle.tables.specs.Plans.{shape_of}
use Rattle.tables.proofs.Study.{same_figure, same_trains, same_pairs, same_size, same_second, figure_at}
use Rattle.rewriting.specs.Moves.{Room, ShapeInRange, NonEmpty, choices_run}
use Rattle.rewriting.specs.declared.sides.Side.TheVariants.{Rows, Columns}
use Rattle.rewriting.specs.Leasts.{train_tightened}
use Rattle.rewriting.proofs.Runs.{Met, Missed, meet}
use Rattle.rewriting.proofs.Shape.{room_figure, SameLoaded, same_lanes, lane_train_lem}
use Rattle.rewriting.proofs.Rewritten.{loaded_alike}
use Rattle.rewriting.proofs.Falls.{less}
use Rattle.directional.specs.Directional.{cost_taken, pair_round}
use Rattle.directional.specs.Heights.{ahead, max_heights, Heights}
use Rattle.directional.proofs.Distances.{raised_near, lowered_near, turned_near}
use Rattle.directional.proofs.Places.{Whole, choice_natural, cost_all, cost_most}
use Rattle.directional.proofs.Pair.{PairPlace, of_first, of_second, of_entry, pair_place, other_choice, other_entry, PairLeft, pair_left}
use Rattle.directional.proofs.Train.{TrainLeft, train_left, train_keeps_choice, train_keeps_entry}

-- ---- what can still move

-- d comes from a higher train to a lower one
carried : (i j x d : ℕ) → i < j → (i + 1) * (x + d) + d ≤ (i + 1) * x + (j + 1) * d
carried i j x d h =
    let l : (i + 1) + 1 ≤ j + 1 = omega arith in
    omega (arith, mul-add (i + 1) x d, add-mul (i + 1) 1 d, mul-le-mul_right d l)

-- the heights of a pair and of its second train go to its first train
pair_falls : (i j x y p : ℕ) {x' y' p' : ℕ} → i < j → x' ≡ x + (p + y) → y' ≡ 0 → p' ≡ 0
    → (i + 1) * x' + (j + 1) * y' + (j + 1) * p' + (p + y) ≤ (i + 1) * x + (j + 1) * y + (j + 1) * p
pair_falls i j x y p h e f g = rw (e, f, g) (omega (arith, carried i j x (p + y) h, mul-add (j + 1) p y))

-- l goes from a train to the constant
lift_falls : (j x l : ℕ) {x' : ℕ} → l ≤ x → x' ≡ x - l → (j + 1) * x' + l ≤ (j + 1) * x
lift_falls j x l h e =
    let q : (x - l) + l ≡ x = omega arith in
    rw e (omega (arith, mul-add (j + 1) (x - l) l, ap (λ (v : ℕ). (j + 1) * v) q, add-mul j 1 l))

-- ---- what is kept

-- fewer pairs wait
pub heights_map : {b c : List ℤ} {W' W : ℕ → Type 0} → ((k : ℕ) → W' k → W k) → Heights b W c → Heights b W' c
heights_map f g =
    record { train = g.train; pair = g.pair; choices = g.choices; entries = λ k a y h v. g.entries k a y h (f k v); near = g.near }

-- of a block of the same shape and H
pub heights_shape : {b c : List ℤ} {W W' : ℕ → Type 0} → ShapeInRange b → SameLoaded b c → ((k : ℕ) → k < pairs b → W' k → W k) → Heights b W c → Heights c W' c
heights_shape {b} {c} s e f g =
    let u = e.shape in
    let v = loaded_alike s e in
    record {
      train = g.train;
      pair = g.pair;
      choices = λ i a h q o.
          let l : i < trains b = omega (arith, same_trains u) in
          let m : a < size b i = omega (arith, same_size u i (omega (arith, s.trains))) in
          g.choices i a l m (v.choices_open_same i a l m ∙ o);
      entries = λ k a y h x q r o.
          let l : k < pairs b = omega (arith, same_pairs u) in
          let n : k < max_pairs = omega (arith, s.pairs) in
          let m : a < size b (first b k) = omega (arith, same_lanes u s k n Rows) in
          let z : y < size b (second b k) = omega (arith, same_lanes u s k n Columns) in
          g.entries k a y l (f k l x) m z (v.entries_open_same k a y l m z ∙ o);
      near = λ p. omega (arith, g.near p, same_ahead);
    }
  where
    same_ahead : ahead c g.train g.pair ≡ ahead b g.train g.pair
    same_ahead =
        let u = e.shape in
        rw (same_trains u, same_pairs u)
        (ap (λ (n : ℕ). sum (trains b) (λ i. (i + 1) * g.train i) + n)
        (sum_cong (pairs b) _ _ (λ k h. ap (λ (j : ℕ). (j + 1) * g.pair k) (same_second u k (omega (arith, s.pairs))))))

-- what they are for
pub heights_room : {b c : List ℤ} {W : ℕ → Type 0} → Heights b W c → Room c max_heights
heights_room g = record { room = λ p. omega (arith, g.near p) }

module _ {b : List ℤ} (s : ShapeInRange b) where
  -- where a round begins: no number is further from 0 than L
  pub heights_start : {c : List ℤ} (W : ℕ → Type 0) → Room c max_parts → Heights b W c
  heights_start {c} W o =
      record {
        train = λ i. max_parts;
        pair = λ k. max_parts;
        choices = λ i a h q z. room_figure (held_choice_place i a) c max_parts o;
        entries = λ k a y h v q r z. room_figure (held_entry_place k a y) c max_parts o;
        near = λ p. omega (
          arith,
          o.room p,
          sum_most (trains b) (max_trains * max_parts) (λ i. (i + 1) * max_parts) (λ i q. omega (arith, s.trains)),
          sum_most (pairs b) (max_trains * max_parts) (λ k. (second b k + 1) * max_parts) (λ k q. omega (arith, s.seconds k (omega (arith, s.pairs)))),
          s.trains,
          s.pairs,
        );
      }

  module _ (o : NonEmpty b) where
    -- ---- the turn of a pair

    module _ (k : ℕ) (h : k < pairs b) where
      module _ {W W' : ℕ → Type 0} (l : first b k < second b k) (c : List ℤ) (u : SameLoaded b c) (w : Whole c)
          (g : Heights b W c) (here : W k) (fewer : (m : ℕ) → W' m → W m × (m ≢ k)) where
        abbrev i : ℕ
        i = first b k

        abbrev j : ℕ
        j = second b k

        abbrev e : List ℤ
        e = pair_round k c

        left : PairLeft b c e k
        left = pair_left s k h l c u w

        -- what train i is given
        abbrev given : ℕ
        given = g.pair k + g.train j

        abbrev train : ℕ → ℕ
        train = update (update g.train j 0) i (g.train i + given)

        abbrev pair : ℕ → ℕ
        pair = update g.pair k 0

        train_first : train i ≡ g.train i + given
        train_first = update_same (update g.train j 0) i (g.train i + given) i refl

        train_second : train j ≡ 0
        train_second = update_other (update g.train j 0) i (g.train i + given) j (λ q. omega arith) ∙ update_same g.train j 0 j refl

        train_other : (n : ℕ) → n ≢ i → n ≢ j → train n ≡ g.train n
        train_other n p q = update_other (update g.train j 0) i (g.train i + given) n p ∙ update_other g.train j 0 n q

        -- what is taken, and the leasts
        cost_given : (y : ℕ) → y < size b j → cost_taken c j y ≤ g.train j
        cost_given y q = cost_most s u j y (lane_train_lem s Columns k h) q (g.train j) (λ z. g.choices j y (o.seconds k h) q z)

        least-given : (a : ℕ) → a < size b i → left.least a ≤ given
        least-given a q = left.most a given q (λ y r z. omega (arith, g.entries k a y h here q r z, cost_given y r))

        -- each is below its height
        choices : (n a : ℕ) → n < trains b → a < size b n → (shape_of b).choice_open n a ≡ true → held_choice e n a ≤ train n
        choices n a p q z = by (ℕ_discrete n i) (ℕ_discrete n j)
          where
            natural : at c (held_choice_place n a) ≡ pos (held_choice c n a)
            natural = choice_natural s u n a (omega (arith, s.trains)) q w.non_negative z

            first_raised : a < size b i → at c (held_choice_place i a) ≡ pos (held_choice c i a) → held_choice e i a ≡ held_choice c i a + left.least a
            first_raised v m = figure_at e (held_choice_place i a) (held_choice c i a + left.least a) (left.firsts a v ∙ ap (λ (x : ℤ). x +ℤ pos (left.least a)) m)

            second_empty : a < size b j → at c (held_choice_place j a) ≡ pos (held_choice c j a) → cost_taken c j a ≡ held_choice c j a → held_choice e j a ≡ held_choice c j a - cost_taken c j a
            second_empty v m t =
                figure_at e (held_choice_place j a) (held_choice c j a - cost_taken c j a)
                (left.seconds a v ∙ ap (λ (x : ℤ). x +ℤ neg_ℤ (pos (cost_taken c j a))) m ∙ less (held_choice c j a) (cost_taken c j a) (omega arith))

            by : Dec (n ≡ i) → Dec (n ≡ j) → held_choice e n a ≤ train n
            by (yes x) y =
                let v = rw x at q in
                rw x (omega (arith, train_first, first_raised v (rw x at natural), least-given a v, rw x at (g.choices n a p q z)))
            by (no x) (yes y) =
                let v = rw y at q in
                let t = cost_all s u n a (omega (arith, s.trains)) q z in
                rw y (omega (arith, second_empty v (rw y at natural) (rw y at t), rw y at t))
            by (no x) (no y) =
                omega (arith, train_other n x y, g.choices n a p q z, same_figure c e (held_choice_place n a) (left.other (held_choice_place n a) (other_choice s k h n a p q x y)))

        entries : (m a y : ℕ) → m < pairs b → W' m → a < size b (first b m) → y < size b (second b m) → (shape_of b).entry_open m a y ≡ true → held_entry e m a y ≤ pair m
        entries m a y p v q r z =
            let n = fewer m v in
            omega (
              arith,
              update_other g.pair k 0 m n.1,
              g.entries m a y p n.0 q r z,
              same_figure c e (held_entry_place m a y) (left.other (held_entry_place m a y) (other_entry s k h m a y p q r n.1)),
            )

        -- what can still move falls by what train i is given
        falls : ahead b train pair + given ≤ ahead b g.train g.pair
        falls =
            omega (
              arith,
              sum_two (trains b) i j (λ n. (n + 1) * train n) (λ n. (n + 1) * g.train n) (o.firsts k h) (o.seconds k h) (λ q. omega arith)
                  (λ n p x y. ap (λ (v : ℕ). (n + 1) * v) (train_other n x y)),
              sum_one (pairs b) k (λ n. (second b n + 1) * pair n) (λ n. (second b n + 1) * g.pair n) h
                  (λ n p x. ap (λ (v : ℕ). (second b n + 1) * v) (update_other g.pair k 0 n x)),
              pair_falls i j (g.train i) (g.train j) (g.pair k) l train_first train_second (update_same g.pair k 0 k refl),
            )

        -- and no number moves by more
        moved : (p : ℕ) → mag (at e p) ≤ mag (at c p) + given
        moved p = ⊎_elim by (λ n. omega (arith, ap mag (left.other p n))) (pair_place s k h p)
          where
            by : PairPlace b k p → mag (at e p) ≤ mag (at c p) + given
            by (of_first a q x) = rw x (omega (arith, ap mag (left.firsts a q), raised_near (at c (held_choice_place i a)) (left.least a), least-given a q))
            by (of_second y q x) = rw x (omega (arith, ap mag (left.seconds y q), lowered_near (at c (held_choice_place j y)) (cost_taken c j y), cost_given y q))
            by (of_entry a y q r x) =
                let t = cost_given y r in
                let v : cost_taken c j y ≤ given = omega arith in
                rw x (omega (arith, ap mag (left.entries a y q r), turned_near (at c (held_entry_place k a y)) (cost_taken c j y) (left.least a) given v (least-given a q)))

        pub heights_pair : Heights b W' (pair_round k c)
        heights_pair = record { train = train; pair = pair; choices = choices; entries = entries; near = λ p. omega (arith, g.near p, moved p, falls) }

    -- ---- a lift

    module _ {W : ℕ → Type 0} (j : ℕ) (h : j < trains b) (c : List ℤ) (u : SameLoaded b c) (w : Whole c) (g : Heights b W c) where
      abbrev f : List ℤ
      f = train_tightened j c

      lift : TrainLeft b c f j
      lift = train_left s j h c u w

      least_low : lift.least ≤ g.train j
      least_low = lift.most (g.train j) (λ a q z. g.choices j a h q z)

      abbrev lowered : ℕ → ℕ
      lowered = update g.train j (g.train j - lift.least)

      lowered_here : lowered j ≡ g.train j - lift.least
      lowered_here = update_same g.train j (g.train j - lift.least) j refl

      lowered_other : (n : ℕ) → n ≢ j → lowered n ≡ g.train n
      lowered_other n x = update_other g.train j (g.train j - lift.least) n x

      lift_choices : (n a : ℕ) → n < trains b → a < size b n → (shape_of b).choice_open n a ≡ true → held_choice f n a ≤ lowered n
      lift_choices n a p q z = by (ℕ_discrete n j)
        where
          by : Dec (n ≡ j) → held_choice f n a ≤ lowered n
          by (yes x) = rw x (omega (arith, lowered_here, lift.under a (rw x at q) (rw x at z), rw x at (g.choices n a p q z)))
          by (no x) = omega (arith, lowered_other n x, g.choices n a p q z, same_figure c f (held_choice_place n a) (train_keeps_choice s j h c u w n a p q x))

      lift_falls_by : ahead b lowered g.pair + lift.least ≤ ahead b g.train g.pair
      lift_falls_by =
          omega (
            arith,
            sum_one (trains b) j (λ n. (n + 1) * lowered n) (λ n. (n + 1) * g.train n) h (λ n p x. ap (λ (v : ℕ). (n + 1) * v) (lowered_other n x)),
            lift_falls j (g.train j) lift.least least_low lowered_here,
          )

      lift_moved : (p : ℕ) → mag (at f p) ≤ mag (at c p) + lift.least
      lift_moved p = by (ℕ_discrete p constant_place) (meet (choices_run b j) p)
        where
          by : Dec (p ≡ constant_place) → Met (choices_run b j) p ⊎ Missed (choices_run b j) p → mag (at f p) ≤ mag (at c p) + lift.least
          by (yes x) m = rw x (omega (arith, ap mag lift.raised, raised_near (at c constant_place) lift.least))
          by (no x) (inl m) =
              let q : p ≡ held_choice_place j m.turn = omega (arith, m.is) in
              rw q (omega (arith, ap mag (lift.lowered m.turn m.below), lowered_near (at c (held_choice_place j m.turn)) lift.least))
          by (no x) (inr m) = omega (arith, ap mag (lift.other p x (λ a q z. m a q (omega arith))))

      pub heights_lift : Heights b W (train_tightened j c)
      heights_lift =
          record {
            train = lowered;
            pair = g.pair;
            choices = lift_choices;
            entries = λ k a y l v q r z. omega (arith, g.entries k a y l v q r z, same_figure c f (held_entry_place k a y) (train_keeps_entry s j h c u w k a y));
            near = λ p. omega (arith, g.near p, lift_moved p, lift_falls_by);
          }
