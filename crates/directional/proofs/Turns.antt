-- What is over stays so, for trains from above: once pair k had its turn, its second train's permitted choices cost nothing and each of its rows with a permitted entry has one that costs
-- nothing; once train i lifted, it has a permitted choice that costs nothing, if it has one. Later turns are of lower trains, and meet none of these places.
use mathlib.Core.Path.{◌≡◌, sym, ap, ◌∙◌}
use mathlib.Core.Bool.{true}
use mathlib.Core.List.{List}
use mathlib.Core.Logic.{◌⊎◌, inl, inr, dite, ◌≢◌}
use Prim.Native.Nat.{ℕ, ◌+◌, ◌-◌, ◌<◌, ◌≤◌}
use native.Mathlib.Decide.{ℕ_discrete}
use native.Mathlib.Omega.{arith}
use lib.IntN.{ℤ, pos, neg_ℤ, ◌+ℤ◌}
use Rattle.theory.proofs.Fold.{iter-ind}
use Rattle.tables.specs.Block.{max_trains, constant_place, held_choice_place, held_entry_place, figure, trains, pairs, constant, size, first, second, held_choice, held_entry}
use Rattle.tables.specs.Plans.{shape_of}
use Rattle.tables.proofs.Study.{same_figure, same_pairs, same_second, figure_at}
use Rattle.rewriting.specs.Moves.{ShapeInRange, NonEmpty}
use Rattle.rewriting.specs.Leasts.{train_tightened}
use Rattle.rewriting.proofs.Shape.{SameLoaded}
use Rattle.rewriting.proofs.Opens.{open_constant}
use Rattle.rewriting.proofs.Falls.{less, Zero}
use Rattle.directional.specs.Directional.{cost_taken, pair_round, pair_turn, pairs_round, train_round}
use Rattle.directional.specs.Heights.{Ascending}
use Rattle.directional.proofs.Places.{Whole, choice_natural, cost_all}
use Rattle.directional.proofs.Pair.{ZeroEntry, other_constant, other_choice, other_entry, PairLeft, pair_left}
use Rattle.directional.proofs.Train.{TrainLeft, train_left, train_keeps_choice, train_keeps_entry}
use Rattle.directional.proofs.Progress.{Progress, Waiting, progress_map, progress_loaded, turn_yes, turn_no, progress_turn, progress_pairs}

-- what holds of the pairs that are over, and of the trains from t on
pub record Over (b : List ℤ) (over : ℕ → Type 0) (t : ℕ) (c : List ℤ) : Type 0 where
  pub empty : (k y : ℕ) → k < pairs b → over k → y < size b (second b k) → (shape_of b).choice_open (second b k) y ≡ true → held_choice c (second b k) y ≡ 0
  pub rows : (k a y : ℕ) → k < pairs b → over k → a < size b (first b k) → y < size b (second b k) → (shape_of b).entry_open k a y ≡ true → ZeroEntry b c k a
  pub lifted : (i a : ℕ) → t ≤ i → i < trains b → a < size b i → (shape_of b).choice_open i a ≡ true → Zero b c i
  pub raised : constant b ≤ constant c

pub over_map : {b c : List ℤ} {D D' : ℕ → Type 0} {t : ℕ} → ((k : ℕ) → k < pairs b → D' k → D k) → Over b D t c → Over b D' t c
over_map f g =
    record { empty = λ k y h d. g.empty k y h (f k h d); rows = λ k a y h d. g.rows k a y h (f k h d); lifted = g.lifted; raised = g.raised }

-- those that are over while train j has its turn: those of higher second trains, and its own before pair m
abbrev pub Ended : List ℤ → ℕ → ℕ → ℕ → Type 0
Ended b j m k = (j ≤ second b k) × (second b k ≡ j → k < m)

module _ {b : List ℤ} (s : ShapeInRange b) (o : NonEmpty b) (asc : Ascending b) where
  module _ {D D' : ℕ → Type 0} {t : ℕ} (k : ℕ) (h : k < pairs b) (c : List ℤ) (u : SameLoaded b c) (w : Whole c) (high : second b k < t)
      (step : (m : ℕ) → D' m → (D m ⊎ (m ≡ k)) × (second b k ≤ second b m)) (g : Over b D t c) where
    abbrev e : List ℤ
    e = pair_round k c

    left : PairLeft b c e k
    left = pair_left s k h (asc.ascends k h) c u w

    -- the choices of higher trains, and the entries of other pairs
    kept : (i a : ℕ) → i < trains b → a < size b i → second b k < i → held_choice e i a ≡ held_choice c i a
    kept i a p q l =
        same_figure c e (held_choice_place i a)
        (left.other (held_choice_place i a) (other_choice s k h i a p q (λ z. omega (arith, asc.ascends k h)) (λ z. omega arith)))

    kept_entry : (m a y : ℕ) → m < pairs b → a < size b (first b m) → y < size b (second b m) → m ≢ k → held_entry e m a y ≡ held_entry c m a y
    kept_entry m a y p q r n = same_figure c e (held_entry_place m a y) (left.other (held_entry_place m a y) (other_entry s k h m a y p q r n))

    -- its own second train's choices are taken off wholly
    emptied : (y : ℕ) → y < size b (second b k) → (shape_of b).choice_open (second b k) y ≡ true → held_choice e (second b k) y ≡ 0
    emptied y q z =
        let j = second b k in
        let l : j < max_trains = omega (arith, o.seconds k h, s.trains) in
        let v = cost_all s u j y l q z in
        omega (
          arith,
          figure_at e (held_choice_place j y) (held_choice c j y - cost_taken c j y)
              (left.seconds y q ∙ ap (λ (x : ℤ). x +ℤ neg_ℤ (pos (cost_taken c j y))) (choice_natural s u j y l q w.non_negative z) ∙ less (held_choice c j y) (cost_taken c j y) (omega arith)),
          v,
        )

    pair_empty : (m y : ℕ) → m < pairs b → D' m → y < size b (second b m) → (shape_of b).choice_open (second b m) y ≡ true → held_choice e (second b m) y ≡ 0
    pair_empty m y p d q x = by (step m d) (ℕ_discrete (second b m) (second b k))
      where
        by : (D m ⊎ (m ≡ k)) × (second b k ≤ second b m) → Dec (second b m ≡ second b k) → held_choice e (second b m) y ≡ 0
        by v (yes z) = rw z (emptied y (rw z at q) (rw z at x))
        by (inl v, l) (no z) = kept (second b m) y (o.seconds m p) q (omega arith) ∙ g.empty m y p v q x
        by (inr v, l) (no z) = absurd (z (ap (second b) v))

    pair_rows : (m a y : ℕ) → m < pairs b → D' m → a < size b (first b m) → y < size b (second b m) → (shape_of b).entry_open m a y ≡ true → ZeroEntry b e m a
    pair_rows m a y p d q r x = by (step m d).0 (ℕ_discrete m k)
      where
        by : D m ⊎ (m ≡ k) → Dec (m ≡ k) → ZeroEntry b e m a
        by v (yes z) = rw z (left.zero a y (rw z at q) (rw z at r) (rw z at x))
        by (inl v) (no z) =
            let f = g.rows m a y p v q r x in
            record { which = f.which; below = f.below; permitted = f.permitted; is = kept_entry m a f.which p q f.below z ∙ f.is }
        by (inr v) (no z) = absurd (z v)

    over_pair : Over b D' t (pair_round k c)
    over_pair =
        record {
          empty = pair_empty;
          rows = pair_rows;
          lifted = λ i a p q r x. let z = g.lifted i a p q r x in record {
            which = z.which;
            below = z.below;
            permitted = z.permitted;
            is = kept i z.which q z.below (omega arith) ∙ z.is;
          };
          raised = omega (arith, g.raised, same_figure c e constant_place (left.other constant_place (other_constant s k h)));
        }

  -- pair k, while train j has its turn
  over_turn : {W : ℕ → Type 0} (j k : ℕ) → k < pairs b → (c : List ℤ) → Progress b W c → Over b (Ended b j k) (j + 1) c → Over b (Ended b j (k + 1)) (j + 1) (pair_turn j k c)
  over_turn {W} j k h c p g = by (ℕ_discrete (second b k) j)
    where
      u : SameLoaded b c
      u = progress_loaded s p

      f : second c k ≡ second b k
      f = same_second u.shape k (omega (arith, s.pairs))

      earlier : (m : ℕ) → (second b m ≡ j → m ≢ k) → Ended b j (k + 1) m → Ended b j k m
      earlier m n (v, d) = (v, λ z. let l : m < k + 1 = d z in let r : m ≢ k = n z in omega arith)

      by : Dec (second b k ≡ j) → Over b (Ended b j (k + 1)) (j + 1) (pair_turn j k c)
      by (yes q) =
          rw (turn_yes j k c (f ∙ q))
          (over_pair k h c u p.whole (omega arith)
          (λ m d. (dite (ℕ_discrete m k) (λ (z : m ≡ k). inr z) (λ n. inl (earlier m (λ z. n) d)), omega (arith, d.0))) g)
      by (no q) = rw (turn_no j k c (λ z. q (sym f ∙ z))) (over_map (λ m l d. earlier m (λ z r. q (ap (second b) (sym r) ∙ z)) d) g)

  over_pairs_lem : (j : ℕ) (c : List ℤ) → Progress b (Waiting b j 0) c → Over b (Ended b j 0) (j + 1) c → Over b (Ended b j (pairs b)) (j + 1) (pairs_round j c)
  over_pairs_lem j c p g =
      rw (same_pairs (progress_loaded s p).shape)
      (iter-ind (λ m x. Progress b (Waiting b j m) x × Over b (Ended b j m) (j + 1) x) (pairs b) (pair_turn j) c (p, g)
      (λ m x h (q, v). (progress_turn s o asc j m h x q, over_turn j m h x q v))).1

  module _ {D W : ℕ → Type 0} (j : ℕ) (h : j < trains b) (c : List ℤ) (p : Progress b W c) (g : Over b D (j + 1) c) where
    abbrev f : List ℤ
    f = train_tightened j c

    loaded : SameLoaded b c
    loaded = progress_loaded s p

    lift : TrainLeft b c f j
    lift = train_left s j h c loaded p.whole

    constant_raised : constant c ≤ constant f
    constant_raised =
        omega (
          arith,
          figure_at f constant_place (figure c constant_place + lift.least)
              (lift.raised ∙ ap (λ (z : ℤ). z +ℤ pos lift.least) (p.whole.non_negative.natural constant_place (omega arith) (open_constant c))),
        )

    -- a choice that costs nothing stays so
    lift_free : (i a : ℕ) → i < trains b → a < size b i → (shape_of b).choice_open i a ≡ true → held_choice c i a ≡ 0 → held_choice f i a ≡ 0
    lift_free i a l q v z = by (ℕ_discrete i j)
      where
        by : Dec (i ≡ j) → held_choice f i a ≡ 0
        by (yes x) = rw x (omega (arith, lift.under a (rw x at q) (rw x at v), rw x at z))
        by (no x) = same_figure c f (held_choice_place i a) (train_keeps_choice s j h c loaded p.whole i a l q x) ∙ z

    over_lift : Over b D j (train_tightened j c)
    over_lift =
        record {
          empty = λ k y l d q v. lift_free (second b k) y (o.seconds k l) q v (g.empty k y l d q v);
          rows = λ k a y l d q r v. let z = g.rows k a y l d q r v in record {
            which = z.which;
            below = z.below;
            permitted = z.permitted;
            is = same_figure c f (held_entry_place k a z.which) (train_keeps_entry s j h c loaded p.whole k a z.which) ∙ z.is;
          };
          lifted = λ i a l q r v. by i a l q r v (ℕ_discrete i j);
          raised = omega (arith, g.raised, constant_raised);
        }
      where
        by : (i a : ℕ) → j ≤ i → i < trains b → a < size b i → (shape_of b).choice_open i a ≡ true → Dec (i ≡ j) → Zero b f i
        by i a l q r v (yes x) = rw x (lift.zero a (rw x at r) (rw x at v))
        by i a l q r v (no x) =
            let z = g.lifted i a (omega arith) q r v in
            record { which = z.which; below = z.below; permitted = z.permitted; is = lift_free i z.which q z.below z.permitted z.is }

  -- the turn of train j
  pub over_train : (j : ℕ) → j < trains b → (c : List ℤ) → Progress b (λ k. second b k < j + 1) c → Over b (λ k. j + 1 ≤ second b k) (j + 1) c
      → Over b (λ k. j ≤ second b k) j (train_round j c)
  unfolding train_round
  over_train j h c p g =
      let q = progress_map {W' = Waiting b j 0} (λ k v. omega arith) p in
      over_lift j h (pairs_round j c) (progress_pairs s o asc j c q)
      (over_map (λ k v l. (l, λ e. v)) (over_pairs_lem j c q (over_map (λ k v d. higher k d) g)))
    where
      higher : (k : ℕ) → Ended b j 0 k → j + 1 ≤ second b k
      higher k (l, d) = dite (ℕ_discrete (second b k) j) (λ (e : second b k ≡ j). let z : k < 0 = d e in absurd (omega arith)) (λ n. omega arith)
