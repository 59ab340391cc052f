-- What the turn of one pair leaves at each place: what it takes of its second train's choices goes into its columns, and then the least of each row goes to a choice of its first train.
-- So its second train's permitted choices cost nothing, and each row with a permitted entry has one that costs nothing. The block c has the shape of b and its H.
use mathlib.Core.Path.{◌≡◌, refl, sym, ap, ap₂, ◌∙◌}
use mathlib.Core.Bool.{true}
use mathlib.Core.List.{List}
use mathlib.Core.Logic.{◌⊎◌, inl, inr, ⊎_elim, dite, ◌≢◌}
use Prim.Native.Nat.{ℕ, ◌+◌, ◌*◌, ◌-◌, ◌/◌, ◌%◌, ◌<◌, ◌≤◌, ◌^◌}
use native.Mathlib.Decide.{dec_lt}
use native.Mathlib.Omega.{arith}
use lib.IntN.{ℤ, pos, neg_ℤ, neg_ℤ-neg_ℤ, ◌+ℤ◌}
use Rattle.theory.specs.Fold.{iter}
use Rattle.tables.specs.Block.{max_trains, max_choices, max_pairs, constant_place, held_choice_place, held_entry_place, at, figure, trains, pairs, size, first, second, held_entry}
use Rattle.tables.specs.Plans.{shape_of}
use Rattle.tables.proofs.Study.{same_pairs, same_second, figure_at}
use Rattle.rewriting.specs.declared.sides.PlaceRun.{PlaceRun}
use Rattle.rewriting.specs.declared.sides.Side.TheVariants.{Rows, Columns}
use Rattle.rewriting.specs.Moves.{Room, ShapeInRange, run_place, move_run, lane_run, choices_run}
use Rattle.rewriting.specs.Leasts.{NonNegative, open_place, run_least, run_tightened, lane_tightened, lanes_tightened}
use Rattle.rewriting.proofs.Runs.{room_more, Met, Missed, meet}
use Rattle.rewriting.proofs.Shape.{room_figure, shape_in_range_kept, SameLoaded, loaded_same, loaded_then, same_lane, same_lanes, lane, lane_train_lem, lanes_most, project_between_costs}
use Rattle.rewriting.proofs.Falls.{less, run_least_met, run_least_most, tight_is}
use Rattle.directional.specs.Directional.{cost_taken, column_taken, columns_taken, pair_round}
use Rattle.directional.proofs.Distances.{negated_near}
use Rattle.directional.proofs.Places.{Whole, cost_low, cost_same, entry_same, entry_natural}
use Rattle.directional.proofs.Lanes.{Of, taken_natural, tight_natural, least_same, Lanes, After, turns, turns_room}

-- a permitted entry of row a of pair k, by b, that costs nothing in c
pub record ZeroEntry (b c : List ℤ) (k a : ℕ) : Type 0 where
  pub which : ℕ
  pub below : which < size b (second b k)
  pub permitted : (shape_of b).entry_open k a which ≡ true
  pub is : held_entry c k a which ≡ 0

-- what goes from column x of pair k in its turn, and then from row a
abbrev pub column_sent : List ℤ → ℕ → ℕ → List ℤ → ℤ
column_sent b k x d = neg_ℤ (pos (cost_taken d (second b k) x))

abbrev pub row_sent : List ℤ → ℕ → ℕ → List ℤ → ℤ
row_sent b k a d = pos (run_least (lane_run Rows b k a) d)

module _ {b : List ℤ} (s : ShapeInRange b) (k : ℕ) (h : k < pairs b) where
  low : k < max_pairs
  low = omega (arith, s.pairs)

  -- ---- the columns

  columns_apart : (x y p : ℕ) → x < size b (second b k) → y < size b (second b k) → x ≢ y → Of (lane_run Columns b k x) p → Of (lane_run Columns b k y) p → ⊥
  columns_apart x y p hx hy n =
      let f = lane_train_lem s Columns k h in
      let d = lanes_most s Rows k h in
      let e = lanes_most s Columns k h in
      ⊎_elim
      (λ (m : Met (lane_run Columns b k x) p). ⊎_elim
      (λ (q : Met (lane_run Columns b k y) p). n (omega (arith, m.is, m.below, q.is, q.below)))
      (λ (q : p ≡ held_choice_place (second b k) y). omega (arith, m.is)))
      (λ (m : p ≡ held_choice_place (second b k) x). ⊎_elim
      (λ (q : Met (lane_run Columns b k y) p). omega (arith, q.is))
      (λ (q : p ≡ held_choice_place (second b k) y). n (omega arith)))

  module _ (c : List ℤ) (u : SameLoaded b c) (w : Whole c) where
    columns : Lanes c (size b (second b k)) (lane_run Columns b k) (column_sent b k) (column_taken k)
    columns =
        record {
          between = λ x q. project_between_costs s (lane Columns k x h q);
          apart = columns_apart;
          is = λ x d q e. let v = (loaded_then u e).shape in
              ap₂ (λ (r : PlaceRun) (j : ℕ). move_run r (neg_ℤ (pos (cost_taken d j x))) d) (same_lane v s k low Columns x) (same_second v k low);
          same = λ x d q e o. ap (λ (v : ℕ). neg_ℤ (pos v))
              (cost_same e (second b k) x (lane_train_lem s Columns k h) (omega (arith, lanes_most s Columns k h)) (o (held_choice_place (second b k) x) (inr refl)));
          natural = λ x d q e v. taken_natural (project_between_costs s (lane Columns k x h q)) d v (cost_taken d (second b k) x) (cost_low d (second b k) x);
        }

    -- after n columns
    pub columns_part : (n : ℕ) → n ≤ size b (second b k) → After c (size b (second b k)) (lane_run Columns b k) (column_sent b k) n (iter n (column_taken k) c)
    columns_part = turns columns w

    pub columns_room : (m : ℕ) → Room c m → (n : ℕ) → n ≤ size b (second b k) → Room (iter n (column_taken k) c) (m + n * (2 * m + 3))
    columns_room m o =
        turns_room columns w m m o
        (λ x q. omega (arith, negated_near (cost_taken c (second b k) x), cost_low c (second b k) x, room_figure (held_choice_place (second b k) x) c m o))

    pub columns_after : After c (size b (second b k)) (lane_run Columns b k) (column_sent b k) (size b (second b k)) (columns_taken k c)
    columns_after = rw (same_lanes u.shape s k low Columns) (columns_part (size b (second b k)) (omega arith))

  -- ---- the rows

  rows_apart : (x y p : ℕ) → x < size b (first b k) → y < size b (first b k) → x ≢ y → Of (lane_run Rows b k x) p → Of (lane_run Rows b k y) p → ⊥
  rows_apart x y p hx hy n =
      let f = lane_train_lem s Rows k h in
      let d = lanes_most s Rows k h in
      let e = lanes_most s Columns k h in
      ⊎_elim
      (λ (m : Met (lane_run Rows b k x) p). ⊎_elim
      (λ (q : Met (lane_run Rows b k y) p). n (omega (arith, m.is, m.below, q.is, q.below)))
      (λ (q : p ≡ held_choice_place (first b k) y). omega (arith, m.is)))
      (λ (m : p ≡ held_choice_place (first b k) x). ⊎_elim
      (λ (q : Met (lane_run Rows b k y) p). omega (arith, q.is))
      (λ (q : p ≡ held_choice_place (first b k) y). n (omega arith)))

  module _ (c : List ℤ) (u : SameLoaded b c) (w : Whole c) where
    rows : Lanes c (size b (first b k)) (lane_run Rows b k) (row_sent b k) (lane_tightened Rows k)
    rows =
        record {
          between = λ x q. project_between_costs s (lane Rows k x h q);
          apart = rows_apart;
          is = λ x d q e. ap (λ (r : PlaceRun). run_tightened r d) (same_lane (loaded_then u e).shape s k low Rows x) ∙ sym (tight_is (lane_run Rows b k x) d);
          same = λ x d q e o. ap pos (least_same (project_between_costs s (lane Rows k x h q)) d c e o);
          natural = λ x d q e v. tight_natural (project_between_costs s (lane Rows k x h q)) d v;
        }

    rows_after : After c (size b (first b k)) (lane_run Rows b k) (row_sent b k) (size b (first b k)) (lanes_tightened Rows k c)
    rows_after = rw (same_lanes u.shape s k low Rows) (turns rows w (size b (first b k)) (omega arith))

-- ---- the whole turn

-- the places that the turn of pair k may change
pub data PairPlace (b : List ℤ) (k p : ℕ) : Type 0 where
  of_first : (a : ℕ) → a < size b (first b k) → p ≡ held_choice_place (first b k) a → PairPlace b k p
  of_second : (y : ℕ) → y < size b (second b k) → p ≡ held_choice_place (second b k) y → PairPlace b k p
  of_entry : (a y : ℕ) → a < size b (first b k) → y < size b (second b k) → p ≡ held_entry_place k a y → PairPlace b k p

pub pair_place : {b : List ℤ} → ShapeInRange b → (k : ℕ) → k < pairs b → (p : ℕ) → PairPlace b k p ⊎ (PairPlace b k p → ⊥)
pair_place {b} s k h p =
    ⊎_elim (λ (m : Met (choices_run b (first b k)) p). inl (of_first m.turn m.below (omega (arith, m.is))))
    (λ (m : Missed (choices_run b (first b k)) p). ⊎_elim
    (λ (n : Met (choices_run b (second b k)) p). inl (of_second n.turn n.below (omega (arith, n.is))))
    (λ (n : Missed (choices_run b (second b k)) p).
    dite (dec_lt p (held_entry_place k 0 0)) (λ (l : p < held_entry_place k 0 0). inr (none m n (λ a y q r e. omega arith)))
    (λ u. dite (dec_lt (o / 8) (size b (first b k)))
    (λ (q : o / 8 < size b (first b k)). dite (dec_lt (o % 8) (size b (second b k)))
    (λ (r : o % 8 < size b (second b k)). inl (of_entry (o / 8) (o % 8) q r (omega arith)))
    (λ v. inr (none m n (λ a y q r e. omega (arith, lanes_most s Columns k h)))))
    (λ v. inr (none m n (λ a y q r e. omega (arith, lanes_most s Columns k h))))))
    (meet (choices_run b (second b k)) p))
    (meet (choices_run b (first b k)) p)
  where
    o : ℕ
    o = p - held_entry_place k 0 0

    none : Missed (choices_run b (first b k)) p → Missed (choices_run b (second b k)) p
        → ((a y : ℕ) → a < size b (first b k) → y < size b (second b k) → p ≡ held_entry_place k a y → ⊥) → PairPlace b k p → ⊥
    none m n g (of_first a q e) = m a q (omega arith)
    none m n g (of_second y q e) = n y q (omega arith)
    none m n g (of_entry a y q r e) = g a y q r e

-- the constant and the places of other trains and pairs are none of them
module _ {b : List ℤ} (s : ShapeInRange b) (k : ℕ) (h : k < pairs b) where
  pub other_constant : PairPlace b k constant_place → ⊥
  other_constant (of_first a q e) = omega arith
  other_constant (of_second y q e) = omega arith
  other_constant (of_entry a y q r e) = omega arith

  pub other_choice : (i a : ℕ) → i < trains b → a < size b i → i ≢ first b k → i ≢ second b k → PairPlace b k (held_choice_place i a) → ⊥
  other_choice i a l m n v (of_first c q e) = n (omega (arith, lanes_most s Rows k h, s.sizes i (omega (arith, s.trains))))
  other_choice i a l m n v (of_second y q e) = v (omega (arith, lanes_most s Columns k h, s.sizes i (omega (arith, s.trains))))
  other_choice i a l m n v (of_entry c y q r e) = omega (arith, s.sizes i (omega (arith, s.trains)), s.trains)

  pub other_entry : (l a y : ℕ) → l < pairs b → a < size b (first b l) → y < size b (second b l) → l ≢ k → PairPlace b k (held_entry_place l a y) → ⊥
  other_entry l a y g q r n (of_first c t e) = omega (arith, lane_train_lem s Rows k h, lanes_most s Rows k h)
  other_entry l a y g q r n (of_second c t e) = omega (arith, lane_train_lem s Columns k h, lanes_most s Columns k h)
  other_entry l a y g q r n (of_entry c d t z e) =
      n (omega (arith, lanes_most s Rows k h, lanes_most s Columns k h, lanes_most s Rows l g, lanes_most s Columns l g))

-- what the turn of pair k makes of c
pub record PairLeft (b c e : List ℤ) (k : ℕ) : Type 0 where
  pub loaded : SameLoaded c e
  pub whole : Whole e
  pub least : ℕ → ℕ
  pub firsts : (a : ℕ) → a < size b (first b k) → at e (held_choice_place (first b k) a) ≡ at c (held_choice_place (first b k) a) +ℤ pos (least a)
  pub seconds : (y : ℕ) → y < size b (second b k)
      → at e (held_choice_place (second b k) y) ≡ at c (held_choice_place (second b k) y) +ℤ neg_ℤ (pos (cost_taken c (second b k) y))
  pub entries : (a y : ℕ) → a < size b (first b k) → y < size b (second b k)
      → at e (held_entry_place k a y) ≡ (at c (held_entry_place k a y) +ℤ pos (cost_taken c (second b k) y)) +ℤ neg_ℤ (pos (least a))
  pub other : (p : ℕ) → (PairPlace b k p → ⊥) → at e p ≡ at c p
  -- the least of a row is no more than its permitted entries have after the taking, and is one of them
  pub most : (a high : ℕ) → a < size b (first b k)
      → ((y : ℕ) → y < size b (second b k) → (shape_of b).entry_open k a y ≡ true → held_entry c k a y + cost_taken c (second b k) y ≤ high) → least a ≤ high
  pub zero : (a y : ℕ) → a < size b (first b k) → y < size b (second b k) → (shape_of b).entry_open k a y ≡ true → ZeroEntry b e k a

module _ {b : List ℤ} (s : ShapeInRange b) (k : ℕ) (h : k < pairs b) (l : first b k < second b k) (c : List ℤ) (u : SameLoaded b c) (w : Whole c) where
  -- the block between the columns and the rows, and the end
  abbrev d : List ℤ
  d = columns_taken k c

  abbrev e : List ℤ
  e = lanes_tightened Rows k d

  taken : After c (size b (second b k)) (lane_run Columns b k) (column_sent b k) (size b (second b k)) d
  taken = columns_after s k h c u w

  between : SameLoaded b d
  between = loaded_then u taken.loaded

  tightened : After d (size b (first b k)) (lane_run Rows b k) (row_sent b k) (size b (first b k)) e
  tightened = rows_after s k h d between taken.whole

  abbrev least : ℕ → ℕ
  least a = run_least (lane_run Rows b k a) d

  -- a pair's places are in its part of the table
  small : (second b k < max_trains) × (size b (first b k) ≤ max_choices) × (size b (second b k) ≤ max_choices)
  small = (lane_train_lem s Columns k h, lanes_most s Rows k h, lanes_most s Columns k h)

  -- the columns leave the choices of the first train, and the rows those of the second
  first-kept : (a : ℕ) → a < size b (first b k) → at d (held_choice_place (first b k) a) ≡ at c (held_choice_place (first b k) a)
  first-kept a q =
      let p = held_choice_place (first b k) a in
      taken.other p
      (λ x r. ⊎_elim (λ (m : Met (lane_run Columns b k x) p). omega (arith, m.is, small))
      (λ (m : p ≡ held_choice_place (second b k) x). omega (arith, small)))

  second-kept : (y : ℕ) → y < size b (second b k) → at e (held_choice_place (second b k) y) ≡ at d (held_choice_place (second b k) y)
  second-kept y q =
      let p = held_choice_place (second b k) y in
      tightened.other p
      (λ x r. ⊎_elim (λ (m : Met (lane_run Rows b k x) p). omega (arith, m.is, small))
      (λ (m : p ≡ held_choice_place (first b k) x). omega (arith, small)))

  -- entry (a, y): between the columns and the rows, and at the end
  module _ (a y : ℕ) (q : a < size b (first b k)) (r : y < size b (second b k)) where
    entry_taken : at d (held_entry_place k a y) ≡ at c (held_entry_place k a y) +ℤ pos (cost_taken c (second b k) y)
    entry_taken =
        let p = held_entry_place k a y in
        taken.met y p r (record { turn = a; below = q; is = omega arith }) ∙ ap (λ (z : ℤ). at c p +ℤ z) (neg_ℤ-neg_ℤ (pos (cost_taken c (second b k) y)))

    entry_left_lem : at e (held_entry_place k a y) ≡ at d (held_entry_place k a y) +ℤ neg_ℤ (pos (least a))
    entry_left_lem = tightened.met a (held_entry_place k a y) q (record { turn = y; below = r; is = omega arith })

    -- as it is met in its row
    in_row : run_place (lane_run Rows b k a) y ≡ held_entry_place k a y
    in_row = omega arith

    row_open : open_place d (run_place (lane_run Rows b k a) y) ≡ (shape_of b).entry_open k a y
    row_open = ap (open_place d) in_row ∙ entry_same s between k a y h q r

    entry_figure : (shape_of b).entry_open k a y ≡ true → figure d (run_place (lane_run Rows b k a) y) ≡ held_entry c k a y + cost_taken c (second b k) y
    entry_figure o =
        ap (figure d) in_row
        ∙ figure_at d (held_entry_place k a y) (held_entry c k a y + cost_taken c (second b k) y)
        (entry_taken ∙ ap (λ (z : ℤ). z +ℤ pos (cost_taken c (second b k) y)) (entry_natural s u k a y h q r w.non_negative o))

    -- where the entry is the least of its row
    entry_zero : (shape_of b).entry_open k a y ≡ true → least a ≡ figure d (run_place (lane_run Rows b k a) y) → held_entry e k a y ≡ 0
    entry_zero o m =
        let p = held_entry_place k a y in
        let n : least a ≡ figure d p = m ∙ ap (figure d) in_row in
        omega (
          arith,
          figure_at e p (figure d p - least a)
              (entry_left_lem ∙ ap (λ (z : ℤ). z +ℤ neg_ℤ (pos (least a))) (entry_natural s between k a y h q r taken.whole.non_negative o) ∙ less (figure d p) (least a) (omega arith)),
          n,
        )

  row_zero : (a y : ℕ) → a < size b (first b k) → y < size b (second b k) → (shape_of b).entry_open k a y ≡ true → ZeroEntry b e k a
  row_zero a y q r o =
      let m = run_least_met (lane_run Rows b k a) d y r (row_open a y q r ∙ o) in
      let v = sym (row_open a m.turn q m.below) ∙ m.counts in
      record { which = m.turn; below = m.below; permitted = v; is = entry_zero a m.turn q m.below v m.is }

  row_most : (a high : ℕ) → a < size b (first b k)
      → ((y : ℕ) → y < size b (second b k) → (shape_of b).entry_open k a y ≡ true → held_entry c k a y + cost_taken c (second b k) y ≤ high) → least a ≤ high
  row_most a high q f =
      run_least_most (lane_run Rows b k a) d high (λ i r o. let v = sym (row_open a i q r) ∙ o in omega (arith, entry_figure a i q r v, f i r v))

  pub pair_left : PairLeft b c (pair_round k c) k
  unfolding pair_round
  pair_left =
      record {
        loaded = loaded_then taken.loaded tightened.loaded;
        whole = tightened.whole;
        least = least;
        firsts = λ a q. tightened.goal a q ∙ ap (λ (z : ℤ). z +ℤ pos (least a)) (first-kept a q);
        seconds = λ y q. second-kept y q ∙ taken.goal y q;
        entries = λ a y q r. entry_left_lem a y q r ∙ ap (λ (z : ℤ). z +ℤ neg_ℤ (pos (least a))) (entry_taken a y q r);
        other = λ p n. tightened.other p
            (λ x r. ⊎_elim
            (λ (m : Met (lane_run Rows b k x) p). n (of_entry x m.turn r m.below (omega (arith, m.is))))
            (λ (m : p ≡ held_choice_place (first b k) x). n (of_first x r m)))
            ∙ taken.other p
            (λ y r. ⊎_elim
            (λ (m : Met (lane_run Columns b k y) p). n (of_entry m.turn y m.below r (omega (arith, m.is))))
            (λ (m : p ≡ held_choice_place (second b k) y). n (of_second y r m)));
        most = row_most;
        zero = row_zero;
      }

-- ---- what the calls ask of the block on the way

module _ {b : List ℤ} (s : ShapeInRange b) (o : NonNegative b) (k : ℕ) (h : k < pairs b) where
  starts : Whole b
  starts = record { long = s.whole; non_negative = o }

  -- column x, after the columns before it
  pub column_asked : (x : ℕ) → Room b (2 ^ 50) → x < size b (second b k)
      → let c = iter x (column_taken k) b in ShapeInRange c × Room c (2 ^ 57) × (k < pairs c) × (x < size c (second c k))
  column_asked x r l =
      let e = (columns_part s k h b (loaded_same b) starts x (omega arith)).loaded.shape in
      let m = columns_room s k h b (loaded_same b) starts (2 ^ 50) r x (omega arith) in (
        shape_in_range_kept e s,
        room_more (2 ^ 57) m (omega (arith, lanes_most s Columns k h)),
        omega (arith, same_pairs e),
        omega (arith, same_lanes e s k (omega (arith, s.pairs)) Columns),
      )

  -- the rows, after all columns
  pub rows_asked : Room b (2 ^ 47) → let c = columns_taken k b in ShapeInRange c × NonNegative c × Room c (2 ^ 52) × (k < pairs c)
  rows_asked r =
      let n = size b (second b k) in
      let a = columns_part s k h b (loaded_same b) starts n (omega arith) in
      let e = a.loaded.shape in
      let m = columns_room s k h b (loaded_same b) starts (2 ^ 47) r n (omega arith) in
      (shape_in_range_kept e s, a.whole.non_negative, room_more (2 ^ 52) m (omega (arith, lanes_most s Columns k h)), omega (arith, same_pairs e))
