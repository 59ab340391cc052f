-- What the turns of an operation leave at the constant, at each choice and at each entry, whatever number goes in each: the lanes of one side of a pair, a whole pair, all pairs,
-- and the trains. Runs of one side have no place in common, nor have two pairs or two trains; so each turn finds its own run as it was, and later turns leave what it left.
-- α y z is what goes in turn y on block z; of it counts what it is on the block that the turn finds.
use mathlib.Core.Path.{◌≡◌, refl, sym, ap, ap₂, ◌∙◌}
use mathlib.Core.Bool.{Bool, true, false, cond}
use mathlib.Core.List.{List}
use mathlib.Core.Logic.{inl, inr, ◌≢◌}
use Prim.Native.Nat.{ℕ, ◌<◌, ◌≤◌}
use native.Mathlib.Decide.{ℕ_discrete}
use native.Mathlib.Omega.{arith}
use lib.Dec.{eqb}
use lib.IntN.{ℤ, pos, neg_ℤ, ◌+ℤ◌, ◌-ℤ◌, +ℤ_idr}
use borrow.Author.Tests.{eq-eqb, ne_eqb}
use Rattle.theory.specs.Whole.{sumℤ}
use Rattle.theory.specs.Fold.{iter}
use Rattle.theory.proofs.Fold.{iter-ind}
use Rattle.theory.proofs.Turns.{fold_leaves, fold_turn, fold-sum}
use Rattle.tables.specs.Block.{max_trains, constant_place, held_choice_place, held_entry_place, at, trains, pairs, size, first, second}
use Rattle.tables.proofs.Study.{same_trains}
use Rattle.rewriting.specs.declared.sides.Side.{Side}
use Rattle.rewriting.specs.declared.sides.Side.TheVariants.{Rows, Columns}
use Rattle.rewriting.specs.Ends.{of_pair}
use Rattle.rewriting.specs.Moves.{ShapeInRange, lane_train, project, project_unary}
use Rattle.rewriting.proofs.Shape.{same_lanes, lane_train_lem, lane, unary, project_between_costs, SameLoaded, loaded_then, move_loaded}
use Rattle.rewriting.proofs.Steps.{across_train, lane_place, choice_low, choices_apart, choices_same, lane_same, unary_constant, unary_choice, unary_choice_other, unary_high, project_choice, project_low, project_entry, project_entry_other}

-- ---- what a pair has for a train

module _ {A : Type 0} (b : List ℤ) (k i : ℕ) (r q z : A) where
  of_first : i ≡ first b k → of_pair b k i r q z ≡ r
  unfolding of_pair
  of_first e = rw (eq-eqb i (first b k) e)

  of_second : i ≢ first b k → i ≡ second b k → of_pair b k i r q z ≡ q
  unfolding of_pair
  of_second n e = rw (ne_eqb i (first b k) n, eq-eqb i (second b k) e)

  of_none : i ≢ first b k → i ≢ second b k → of_pair b k i r q z ≡ z
  unfolding of_pair
  of_none n m = rw (ne_eqb i (first b k) n, ne_eqb i (second b k) m)

  pub of_map : {B : Type 0} (f : A → B) → of_pair b k i (f r) (f q) (f z) ≡ f (of_pair b k i r q z)
  unfolding of_pair
  of_map f = go (eqb i (first b k)) (eqb i (second b k))
    where
      go : (t w : Bool) → cond t (f r) (cond w (f q) (f z)) ≡ f (cond t r (cond w q z))
      go true w = refl
      go false true = refl
      go false false = refl

-- ---- the turns

-- each lane of a side of pair k
abbrev pub lanes_turned : Side → ℕ → (ℕ → List ℤ → ℤ) → List ℤ → List ℤ
lanes_turned side k α x = iter (size x (lane_train side x k)) (λ y z. project side k y (α y z) z) x

-- the rows of pair k, then its columns
abbrev pub pair_turned : ℕ → (ℕ → List ℤ → ℤ) → (ℕ → List ℤ → ℤ) → List ℤ → List ℤ
pair_turned k ρ κ x = lanes_turned Columns k κ (lanes_turned Rows k ρ x)

-- each train
abbrev pub trains_turned : (ℕ → List ℤ → ℤ) → List ℤ → List ℤ
trains_turned υ x = iter (trains x) (λ i z. project_unary i (υ i z) z) x

-- what ρ sends from row a of pair k is r a, where the row has the entries of x
abbrev pub RowSent : List ℤ → List ℤ → ℕ → (ℕ → List ℤ → ℤ) → (ℕ → ℤ) → Type 0
RowSent b x k ρ r =
    (a : ℕ) → a < size b (first b k) → (z : List ℤ) → SameLoaded b z
    → ((d : ℕ) → d < size b (second b k) → at z (held_entry_place k a d) ≡ at x (held_entry_place k a d)) → ρ a z ≡ r a

-- what κ sends from column d is q d, where the column has the entries of x less what the rows sent
abbrev pub ColumnSent : List ℤ → List ℤ → ℕ → (ℕ → ℤ) → (ℕ → List ℤ → ℤ) → (ℕ → ℤ) → Type 0
ColumnSent b x k r κ q =
    (d : ℕ) → d < size b (second b k) → (z : List ℤ) → SameLoaded b z
    → ((a : ℕ) → a < size b (first b k) → at z (held_entry_place k a d) ≡ at x (held_entry_place k a d) -ℤ r a) → κ d z ≡ q d

module _ {b : List ℤ} (s : ShapeInRange b) where
  -- ---- the lanes of a side

  module _ (side : Side) (k : ℕ) (h : k < pairs b) (α : ℕ → List ℤ → ℤ) (x : List ℤ) (v : SameLoaded b x) where
    abbrev lanes : ℕ
    lanes = size b (lane_train side b k)

    abbrev lane_turn : ℕ → List ℤ → List ℤ
    lane_turn y z = project side k y (α y z) z

    lane_shape : (a : ℕ) → a ≤ lanes → SameLoaded b (iter a lane_turn x)
    lane_shape a l =
        iter-ind (λ _ z. SameLoaded b z) a lane_turn x v
        (λ y z q u. let r : y < lanes = omega arith in
        loaded_then u (rw (lane_same s z u.shape side k y h r) (move_loaded _ (α y z) z (project_between_costs s (lane side k y h r)))))

    lanes_is : lanes_turned side k α x ≡ iter lanes lane_turn x
    lanes_is = ap (λ (n : ℕ). iter n lane_turn x) (same_lanes v.shape s k (omega (arith, s.pairs)) side)

    pub lanes_shape : SameLoaded b (lanes_turned side k α x)
    lanes_shape = rw lanes_is (lane_shape lanes (omega arith))

    by_lanes : (p : ℕ) {z : ℤ} → at (iter lanes lane_turn x) p ≡ z → at (lanes_turned side k α x) p ≡ z
    by_lanes p e = ap (λ (y : List ℤ). at y p) lanes_is ∙ e

    -- what is below the entries, and no choice of the side's train, stays
    lanes_low : (p : ℕ) → p < held_entry_place 0 0 0 → ((y : ℕ) → y < lanes → p ≢ held_choice_place (lane_train side b k) y) → at (lanes_turned side k α x) p ≡ at x p
    lanes_low p g n =
        by_lanes p (fold_leaves lane_turn x lanes p (λ y q. project_low s _ (lane_shape y (omega arith)).shape side k y h q (α y (iter y lane_turn x)) p g (n y q)))

    -- and so do the entries of other pairs
    lanes_entry_other : (l t w : ℕ) → l < pairs b → t < size b (lane_train side b l) → w < size b (across_train side b l) → l ≢ k
        → at (lanes_turned side k α x) (lane_place side l t w) ≡ at x (lane_place side l t w)
    lanes_entry_other l t w g r c n =
        by_lanes (lane_place side l t w)
        (fold_leaves lane_turn x lanes (lane_place side l t w)
        (λ y q. project_entry_other s _ (lane_shape y (omega arith)).shape side k y h q (α y (iter y lane_turn x)) l t w g r c (inl n)))

    -- a turn leaves the entries of the other lanes, and their choices
    entry_stays : (a w y : ℕ) → a < lanes → w < size b (across_train side b k) → y < lanes → y ≢ a
        → at (lane_turn y (iter y lane_turn x)) (lane_place side k a w) ≡ at (iter y lane_turn x) (lane_place side k a w)
    entry_stays a w y q c r n =
        project_entry_other s _ (lane_shape y (omega arith)).shape side k y h r (α y (iter y lane_turn x)) k a w h q c (inr (λ e. n (sym e)))

    choice_stays : (a y : ℕ) → a < lanes → y < lanes → y ≢ a
        → at (lane_turn y (iter y lane_turn x)) (held_choice_place (lane_train side b k) a) ≡ at (iter y lane_turn x) (held_choice_place (lane_train side b k) a)
    choice_stays a y q r n =
        let t = lane_train side b k in
        let g = lane_train_lem s side k h in
        project_low s _ (lane_shape y (omega arith)).shape side k y h r (α y (iter y lane_turn x)) (held_choice_place t a) (choice_low s t a g q)
        (choices_apart s t a t y g g q r (inr (λ e. n (sym e))))

    -- so a lane finds its entries as they were
    entry_found : (a : ℕ) → a < lanes → (w : ℕ) → w < size b (across_train side b k) → at (iter a lane_turn x) (lane_place side k a w) ≡ at x (lane_place side k a w)
    entry_found a q w c = fold_leaves lane_turn x a (lane_place side k a w) (λ y l. entry_stays a w y q c (omega arith) (λ e. omega arith))

    -- m a is what goes from lane a
    module _ (m : ℕ → ℤ)
        (sent : (a : ℕ) → a < lanes → (z : List ℤ) → SameLoaded b z → ((w : ℕ) → w < size b (across_train side b k) → at z (lane_place side k a w) ≡ at x (lane_place side k a w)) → α a z ≡ m a) where
      sends : (a : ℕ) → a < lanes → α a (iter a lane_turn x) ≡ m a
      sends a q = sent a q (iter a lane_turn x) (lane_shape a (omega arith)) (entry_found a q)

      lanes_choice : (a : ℕ) → a < lanes
          → at (lanes_turned side k α x) (held_choice_place (lane_train side b k) a) ≡ at x (held_choice_place (lane_train side b k) a) +ℤ m a
      lanes_choice a q =
          let p = held_choice_place (lane_train side b k) a in
          by_lanes p
          (fold_turn lane_turn x lanes a p q (λ y l r. choice_stays a y q r (λ e. omega arith))
          ∙ project_choice s _ (lane_shape a (omega arith)).shape side k a h q (α a (iter a lane_turn x))
          ∙ ap₂ ◌+ℤ◌ (fold_leaves lane_turn x a p (λ y l. choice_stays a y q (omega arith) (λ e. omega arith))) (sends a q))

      lanes_entry : (a w : ℕ) → a < lanes → w < size b (across_train side b k) → at (lanes_turned side k α x) (lane_place side k a w) ≡ at x (lane_place side k a w) -ℤ m a
      lanes_entry a w q c =
          by_lanes (lane_place side k a w)
          (fold_turn lane_turn x lanes a (lane_place side k a w) q (λ y l r. entry_stays a w y q c r (λ e. omega arith))
          ∙ project_entry s _ (lane_shape a (omega arith)).shape side k a h q (α a (iter a lane_turn x)) w c
          ∙ ap₂ (λ (y n : ℤ). y +ℤ neg_ℤ n) (entry_found a q w c) (sends a q))

  -- ---- a pair: ρ and κ say what goes from its rows and its columns, r and q what that is

  module _ (k : ℕ) (h : k < pairs b) (f : first b k < second b k) (ρ κ : ℕ → List ℤ → ℤ) (x : List ℤ) (v : SameLoaded b x) where
    -- after the rows
    abbrev rows : List ℤ
    rows = lanes_turned Rows k ρ x

    rows_shape : SameLoaded b rows
    rows_shape = lanes_shape Rows k h ρ x v

    pub pair_shape : SameLoaded b (pair_turned k ρ κ x)
    pair_shape = lanes_shape Columns k h κ rows rows_shape

    pub pair_constant : at (pair_turned k ρ κ x) constant_place ≡ at x constant_place
    pair_constant =
        lanes_low Columns k h κ rows rows_shape constant_place (omega arith) (λ y q e. omega arith)
        ∙ lanes_low Rows k h ρ x v constant_place (omega arith) (λ y q e. omega arith)

    pub pair_entry_other : (l a d : ℕ) → l < pairs b → a < size b (first b l) → d < size b (second b l) → l ≢ k
        → at (pair_turned k ρ κ x) (held_entry_place l a d) ≡ at x (held_entry_place l a d)
    pair_entry_other l a d g c w n = lanes_entry_other Columns k h κ rows rows_shape l d a g w c n ∙ lanes_entry_other Rows k h ρ x v l a d g c w n

    module _ (r q : ℕ → ℤ) (row_sent_lem : RowSent b x k ρ r) (column_sent_lem : ColumnSent b x k r κ q) where
      rows_entry : (a d : ℕ) → a < size b (first b k) → d < size b (second b k) → at rows (held_entry_place k a d) ≡ at x (held_entry_place k a d) -ℤ r a
      rows_entry a d c w = lanes_entry Rows k h ρ x v r row_sent_lem a d c w

      columns_sent : (d : ℕ) → d < size b (second b k) → (z : List ℤ) → SameLoaded b z
          → ((a : ℕ) → a < size b (first b k) → at z (held_entry_place k a d) ≡ at rows (held_entry_place k a d)) → κ d z ≡ q d
      columns_sent d w z u e = column_sent_lem d w z u (λ a c. e a c ∙ rows_entry a d c w)

      pub pair_entry : (a d : ℕ) → a < size b (first b k) → d < size b (second b k)
          → at (pair_turned k ρ κ x) (held_entry_place k a d) ≡ (at x (held_entry_place k a d) -ℤ r a) -ℤ q d
      pair_entry a d c w = lanes_entry Columns k h κ rows rows_shape q columns_sent d a w c ∙ ap (λ (z : ℤ). z -ℤ q d) (rows_entry a d c w)

      module _ (i a : ℕ) (g : i < max_trains) (c : a < size b i) where
        abbrev p : ℕ
        p = held_choice_place i a

        rows_leave : i ≢ first b k → at rows p ≡ at x p
        rows_leave n = lanes_low Rows k h ρ x v p (choice_low s i a g c) (λ y w. choices_apart s i a (first b k) y g (lane_train_lem s Rows k h) c w (inl n))

        columns_leave : i ≢ second b k → at (pair_turned k ρ κ x) p ≡ at rows p
        columns_leave n =
            lanes_low Columns k h κ rows rows_shape p (choice_low s i a g c) (λ y w. choices_apart s i a (second b k) y g (lane_train_lem s Columns k h) c w (inl n))

        pub pair_choice : at (pair_turned k ρ κ x) p ≡ at x p +ℤ of_pair b k i (r a) (q a) (pos 0)
        pair_choice = at_first (ℕ_discrete i (first b k))
          where
            to : {z : ℤ} → of_pair b k i (r a) (q a) (pos 0) ≡ z → at x p +ℤ z ≡ at x p +ℤ of_pair b k i (r a) (q a) (pos 0)
            to e = ap (λ (z : ℤ). at x p +ℤ z) (sym e)

            at_second : i ≢ first b k → Dec (i ≡ second b k) → at (pair_turned k ρ κ x) p ≡ at x p +ℤ of_pair b k i (r a) (q a) (pos 0)
            at_second n (yes e) =
                rw e (lanes_choice Columns k h κ rows rows_shape q columns_sent a (rw e at c))
                ∙ ap (λ (z : ℤ). z +ℤ q a) (rows_leave n) ∙ to (of_second b k i (r a) (q a) (pos 0) n e)
            at_second n (no m) = columns_leave m ∙ rows_leave n ∙ sym (+ℤ_idr (at x p)) ∙ to (of_none b k i (r a) (q a) (pos 0) n m)

            at_first : Dec (i ≡ first b k) → at (pair_turned k ρ κ x) p ≡ at x p +ℤ of_pair b k i (r a) (q a) (pos 0)
            at_first (yes e) = columns_leave (λ z. omega arith) ∙ rw e (lanes_choice Rows k h ρ x v r row_sent_lem a (rw e at c)) ∙ to (of_first b k i (r a) (q a) (pos 0) e)
            at_first (no n) = at_second n (ℕ_discrete i (second b k))

  -- ---- all pairs: F is the turn of each

  module _ (f : (k : ℕ) → k < pairs b → first b k < second b k) (ρ κ : ℕ → ℕ → List ℤ → ℤ) (F : ℕ → List ℤ → List ℤ)
      (is : (k : ℕ) (z : List ℤ) → k < pairs b → SameLoaded b z → F k z ≡ pair_turned k (ρ k) (κ k) z) (x : List ℤ) (v : SameLoaded b x) where
    pub pairs_shape : (m : ℕ) → m ≤ pairs b → SameLoaded b (iter m F x)
    pairs_shape m l =
        iter-ind (λ _ z. SameLoaded b z) m F x v (λ k z q u. let h : k < pairs b = omega arith in rw (is k z h u) (pair_shape k h (f k h) (ρ k) (κ k) z u))

    -- by the turn of pair k
    by_pair : (k : ℕ) → k < pairs b → (p : ℕ) {z : ℤ} → at (pair_turned k (ρ k) (κ k) (iter k F x)) p ≡ z → at (F k (iter k F x)) p ≡ z
    by_pair k h p e = ap (λ (y : List ℤ). at y p) (is k (iter k F x) h (pairs_shape k (omega arith))) ∙ e

    pub pairs-constant : at (iter (pairs b) F x) constant_place ≡ at x constant_place
    pairs-constant =
        fold_leaves F x (pairs b) constant_place
        (λ k h. by_pair k h constant_place (pair_constant k h (f k h) (ρ k) (κ k) (iter k F x) (pairs_shape k (omega arith))))

    module _ (k a d : ℕ) (h : k < pairs b) (c : a < size b (first b k)) (w : d < size b (second b k)) where
      pair_stays : (l : ℕ) → l < pairs b → k ≢ l → at (F l (iter l F x)) (held_entry_place k a d) ≡ at (iter l F x) (held_entry_place k a d)
      pair_stays l g n =
          by_pair l g (held_entry_place k a d) (pair_entry_other l g (f l g) (ρ l) (κ l) (iter l F x) (pairs_shape l (omega arith)) k a d h c w n)

      -- a pair finds its entries as they were
      pair_found : at (iter k F x) (held_entry_place k a d) ≡ at x (held_entry_place k a d)
      pair_found = fold_leaves F x k (held_entry_place k a d) (λ l m. pair_stays l (omega arith) (λ e. omega arith))

    module _ (r q : ℕ → ℕ → ℤ) (row_sent_lem : (k : ℕ) → k < pairs b → RowSent b x k (ρ k) (r k)) (column_sent_lem : (k : ℕ) → k < pairs b → ColumnSent b x k (r k) (κ k) (q k)) where
      module _ (k : ℕ) (h : k < pairs b) where
        rows_found : RowSent b (iter k F x) k (ρ k) (r k)
        rows_found a c z u e = row_sent_lem k h a c z u (λ d w. e d w ∙ pair_found k a d h c w)

        columns_found : ColumnSent b (iter k F x) k (r k) (κ k) (q k)
        columns_found d w z u e = column_sent_lem k h d w z u (λ a c. e a c ∙ ap (λ (y : ℤ). y -ℤ r k a) (pair_found k a d h c w))

      pub pairs_choice : (i a : ℕ) → i < trains b → a < size b i
          → at (iter (pairs b) F x) (held_choice_place i a) ≡ at x (held_choice_place i a) +ℤ sumℤ (pairs b) (λ k. of_pair b k i (r k a) (q k a) (pos 0))
      pairs_choice i a g c =
          fold-sum F x (pairs b) (held_choice_place i a) (λ k. of_pair b k i (r k a) (q k a) (pos 0))
          (λ k h. by_pair k h (held_choice_place i a)
          (pair_choice k h (f k h) (ρ k) (κ k) (iter k F x) (pairs_shape k (omega arith)) (r k) (q k) (rows_found k h) (columns_found k h) i a (omega (arith, s.trains)) c))

      pub pairs_entry : (k a d : ℕ) → k < pairs b → a < size b (first b k) → d < size b (second b k)
          → at (iter (pairs b) F x) (held_entry_place k a d) ≡ (at x (held_entry_place k a d) -ℤ r k a) -ℤ q k d
      pairs_entry k a d h c w =
          fold_turn F x (pairs b) k (held_entry_place k a d) h (λ l m g. pair_stays k a d h c w l g (λ e. omega arith))
          ∙ by_pair k h (held_entry_place k a d)
          (pair_entry k h (f k h) (ρ k) (κ k) (iter k F x) (pairs_shape k (omega arith)) (r k) (q k) (rows_found k h) (columns_found k h) a d c w)
          ∙ ap (λ (z : ℤ). (z -ℤ r k a) -ℤ q k d) (pair_found k a d h c w)

  -- ---- the trains: υ says what goes from the choices of each

  module _ (υ : ℕ → List ℤ → ℤ) (x : List ℤ) (v : SameLoaded b x) where
    abbrev train_turn : ℕ → List ℤ → List ℤ
    train_turn i z = project_unary i (υ i z) z

    train_shape : (m : ℕ) → m ≤ trains b → SameLoaded b (iter m train_turn x)
    train_shape m l =
        iter-ind (λ _ z. SameLoaded b z) m train_turn x v
        (λ i z q u. let h : i < trains b = omega arith in loaded_then u (rw (choices_same s z u.shape i h) (move_loaded _ (υ i z) z (project_between_costs s (unary i h)))))

    trains_is : trains_turned υ x ≡ iter (trains b) train_turn x
    trains_is = ap (λ (n : ℕ). iter n train_turn x) (same_trains v.shape)

    by_trains : (p : ℕ) {z : ℤ} → at (iter (trains b) train_turn x) p ≡ z → at (trains_turned υ x) p ≡ z
    by_trains p e = ap (λ (y : List ℤ). at y p) trains_is ∙ e

    pub trains_shape_lem : SameLoaded b (trains_turned υ x)
    trains_shape_lem = rw trains_is (train_shape (trains b) (omega arith))

    -- the entries stay
    pub trains_high : (p : ℕ) → held_entry_place 0 0 0 ≤ p → at (trains_turned υ x) p ≡ at x p
    trains_high p g =
        by_trains p (fold_leaves train_turn x (trains b) p (λ i h. unary_high s _ (train_shape i (omega arith)).shape i h (υ i (iter i train_turn x)) p g))

    module _ (i a : ℕ) (h : i < trains b) (c : a < size b i) where
      train_stays : (t : ℕ) → t < trains b → i ≢ t → at (train_turn t (iter t train_turn x)) (held_choice_place i a) ≡ at (iter t train_turn x) (held_choice_place i a)
      train_stays t r n = unary_choice_other s _ (train_shape t (omega arith)).shape t r (υ t (iter t train_turn x)) i a (omega (arith, s.trains)) c n

      -- a train finds its choices as they were
      train_found : at (iter i train_turn x) (held_choice_place i a) ≡ at x (held_choice_place i a)
      train_found = fold_leaves train_turn x i (held_choice_place i a) (λ t l. train_stays t (omega arith) (λ e. omega arith))

    module _ (u : ℕ → ℤ)
        (sent : (i : ℕ) → i < trains b → (z : List ℤ) → SameLoaded b z → ((a : ℕ) → a < size b i → at z (held_choice_place i a) ≡ at x (held_choice_place i a)) → υ i z ≡ u i) where
      lifts : (i : ℕ) → i < trains b → υ i (iter i train_turn x) ≡ u i
      lifts i h = sent i h (iter i train_turn x) (train_shape i (omega arith)) (λ a c. train_found i a h c)

      pub trains-constant : at (trains_turned υ x) constant_place ≡ at x constant_place +ℤ sumℤ (trains b) u
      trains-constant =
          by_trains constant_place
          (fold-sum train_turn x (trains b) constant_place u
          (λ i h. unary_constant s _ (train_shape i (omega arith)).shape i h (υ i (iter i train_turn x)) ∙ ap (λ (z : ℤ). at (iter i train_turn x) constant_place +ℤ z) (lifts i h)))

      pub trains_choice : (i a : ℕ) → i < trains b → a < size b i → at (trains_turned υ x) (held_choice_place i a) ≡ at x (held_choice_place i a) -ℤ u i
      trains_choice i a h c =
          by_trains (held_choice_place i a)
          (fold_turn train_turn x (trains b) i (held_choice_place i a) h (λ t l r. train_stays i a h c t r (λ e. omega arith))
          ∙ unary_choice s _ (train_shape i (omega arith)).shape i h (υ i (iter i train_turn x)) a c
          ∙ ap₂ (λ (y n : ℤ). y +ℤ neg_ℤ n) (train_found i a h c) (lifts i h))
