-- What the parts of a load leave at each place: the sizes, the pairs, a run of costs, and the tables that are made of runs. For every size.
use mathlib.Core.Path.{◌≡◌, refl, sym, subst, ◌∙◌}
use mathlib.Core.List.{List}
use mathlib.Core.Logic.{dite, ◌≢◌}
use Prim.Native.Nat.{ℕ, ◌+◌, ◌*◌, ◌<◌, ◌≤◌}
use native.Mathlib.Decide.{ℕ_discrete}
use native.Mathlib.Omega.{arith}
use lib.IntN.{ℤ, pos}
use lib.ListN.{length, set, length-set}
use lib.Seq.{get_or-set_same, get_or-set_other}
use Rattle.theory.specs.Fold.{iter}
use Rattle.theory.specs.Lists.{nth}
use Rattle.theory.proofs.Fold.{iter-ind}
use Rattle.tables.specs.Block.{block_length, max_choices, max_pairs, size_place, first_place, second_place, loaded_choice_place, held_choice_place, loaded_entry_place, held_entry_place, at}
use Rattle.tables.specs.Plans.{Shape}
use Rattle.tables.specs.Counts.{rows_of, columns_of, choices_before, choice_index, entries_before, entry_index}
use Rattle.tables.specs.Numbers.{priced}
use Rattle.operations.specs.Load.{sizes_loaded, pairs_loaded, run_loaded, choices_loaded, pair_loaded, entries_loaded, SizesIn, trains_shape}
use Rattle.operations.proofs.LoadTurns.{size_turn, train_turn, row_turn, entries_turn}

-- ---- turns that write a block

module _ (n : ℕ) (f : ℕ → List ℤ → List ℤ) (b : List ℤ) where
  pub turns_length : ((i : ℕ) (x : List ℤ) → length (f i x) ≡ length x) → length (iter n f b) ≡ length b
  turns_length len = iter-ind (λ _ x. length x ≡ length b) n f b refl (λ i x h e. len i x ∙ e)

  -- a place that no turn writes
  pub turns_kept : (p : ℕ) → ((i : ℕ) (x : List ℤ) → i < n → at (f i x) p ≡ at x p) → at (iter n f b) p ≡ at b p
  turns_kept p same = iter-ind (λ _ x. at x p ≡ at b p) n f b refl (λ i x h e. same i x h ∙ e)

  -- what turn k makes true and no other turn undoes
  pub turns_made : (Q : List ℤ → Type 0) (k : ℕ) → k < n → ((i : ℕ) (x : List ℤ) → length (f i x) ≡ length x)
      → ((x : List ℤ) → length x ≡ length b → Q (f k x)) → ((i : ℕ) (x : List ℤ) → i < n → i ≢ k → Q x → Q (f i x)) → Q (iter n f b)
  turns_made Q k h len make keep = (iter-ind So n f b (refl, λ q. absurd (omega arith)) turn).1 h
    where
      So : ℕ → List ℤ → Type 0
      So m x = (length x ≡ length b) × (k < m → Q x)

      turn : (i : ℕ) (x : List ℤ) → i < n → So i x → So (i + 1) (f i x)
      turn i x q (e, made) = (
        len i x ∙ e,
        λ w. dite (ℕ_discrete i k) (λ (d : i ≡ k). subst (λ (j : ℕ). Q (f j x)) (sym d) (make x e)) (λ d. keep i x q d (made (omega arith))),
      )

-- ---- turns that write two places each

-- v stands at place p, and w at place q
pub record Two (p q : ℕ) (v w : ℤ) (x : List ℤ) : Type 0 where
  pub one : at x p ≡ v
  pub other : at x q ≡ w

-- the cost c stands at place p of H, and at place q of T
abbrev pub Priced : ℕ → ℕ → ℕ → ℕ → List ℤ → Type 0
Priced s p q c x = Two p q (priced c c) (priced c (s * c)) x

pub two_kept : {p q : ℕ} {v w : ℤ} {x : List ℤ} (y : List ℤ) → Two p q v w x → at y p ≡ at x p → at y q ≡ at x q → Two p q v w y
two_kept y t e f = record { one = e ∙ t.one; other = f ∙ t.other }

module _ (p q : ℕ) (v w : ℤ) (x : List ℤ) where
  -- v is written at place p, and w at place q
  abbrev pub set_two : List ℤ
  set_two = set (set x p v) q w

  pub set_two_length : length set_two ≡ length x
  set_two_length = length-set (set x p v) q w ∙ length-set x p v

  pub set_two_kept : (o : ℕ) → o ≢ p → o ≢ q → at set_two o ≡ at x o
  set_two_kept o h k = get_or-set_other (set x p v) q o w (pos 0) k ∙ get_or-set_other x p o v (pos 0) h

  pub set_two_lem : p < length x → q < length x → p ≢ q → Two p q v w set_two
  set_two_lem h k n =
      record {
        one = get_or-set_other (set x p v) q p w (pos 0) n ∙ get_or-set_same x p v (pos 0) h;
        other = get_or-set_same (set x p v) q w (pos 0) (omega (arith, length-set x p v));
      }

module _ (p q : ℕ → ℕ) (v w : ℕ → ℤ) (n : ℕ) (b : List ℤ) where
  abbrev write_two : ℕ → List ℤ → List ℤ
  write_two k = set_two (p k) (q k) (v k) (w k)

  write_length : (k : ℕ) (x : List ℤ) → length (write_two k x) ≡ length x
  write_length k = set_two_length (p k) (q k) (v k) (w k)

  write_kept : (k : ℕ) (x : List ℤ) (o : ℕ) → o ≢ p k → o ≢ q k → at (write_two k x) o ≡ at x o
  write_kept k = set_two_kept (p k) (q k) (v k) (w k)

  pub writes_length : length (iter n write_two b) ≡ length b
  writes_length = turns_length n write_two b write_length

  pub writes_kept : (o : ℕ) → ((k : ℕ) → k < n → (o ≢ p k) × (o ≢ q k)) → at (iter n write_two b) o ≡ at b o
  writes_kept o out = turns_kept n write_two b o (λ k x h. write_kept k x o (out k h).0 (out k h).1)

  pub writes_two : (k : ℕ) → k < n → p k < length b → q k < length b → ((j : ℕ) → j < n → (p k ≢ q j) × (q k ≢ p j))
      → ((j : ℕ) → j ≢ k → (p k ≢ p j) × (q k ≢ q j)) → Two (p k) (q k) (v k) (w k) (iter n write_two b)
  writes_two k h l m cross apart =
      turns_made n write_two b (Two (p k) (q k) (v k) (w k)) k h write_length
      (λ x e. set_two_lem (p k) (q k) (v k) (w k) x (omega arith) (omega arith) (cross k h).0)
      (λ j x i d t. two_kept (write_two j x) t (write_kept j x (p k) (apart j d).0 (cross j i).0) (write_kept j x (q k) (cross j i).1 (apart j d).1))

-- ---- the sizes

module _ (sizes : List ℕ) (b : List ℤ) where
  pub sizes_length : length (sizes_loaded sizes b) ≡ length b
  sizes_length = turns_length (length sizes) (size_turn sizes) b (λ i x. length-set x (size_place i) (pos (nth sizes i)))

  pub sizes_kept : (p : ℕ) → ((i : ℕ) → i < length sizes → p ≢ size_place i) → at (sizes_loaded sizes b) p ≡ at b p
  sizes_kept p out = turns_kept (length sizes) (size_turn sizes) b p (λ i x h. get_or-set_other x (size_place i) p (pos (nth sizes i)) (pos 0) (out i h))

  pub sizes_at : (i : ℕ) → i < length sizes → size_place i < length b → at (sizes_loaded sizes b) (size_place i) ≡ pos (nth sizes i)
  sizes_at i h q =
      turns_made (length sizes) (size_turn sizes) b (λ x. at x (size_place i) ≡ pos (nth sizes i)) i h (λ j x. length-set x (size_place j) (pos (nth sizes j)))
      (λ x e. get_or-set_same x (size_place i) (pos (nth sizes i)) (pos 0) (omega arith))
      (λ j x l n e. get_or-set_other x (size_place j) (size_place i) (pos (nth sizes j)) (pos 0) (λ d. n (omega arith)) ∙ e)

-- ---- the pairs

module _ (firsts seconds : List ℕ) (b : List ℤ) where
  pub pairs-length : length (pairs_loaded firsts seconds b) ≡ length b
  pairs-length = writes_length first_place second_place (λ k. pos (nth firsts k)) (λ k. pos (nth seconds k)) (length firsts) b

  pub pairs-kept : (p : ℕ) → ((k : ℕ) → k < length firsts → (p ≢ first_place k) × (p ≢ second_place k)) → at (pairs_loaded firsts seconds b) p ≡ at b p
  pairs-kept = writes_kept first_place second_place (λ k. pos (nth firsts k)) (λ k. pos (nth seconds k)) (length firsts) b

  pub pairs_two : length firsts ≤ max_pairs → second_place max_pairs ≤ length b → (k : ℕ) → k < length firsts
      → Two (first_place k) (second_place k) (pos (nth firsts k)) (pos (nth seconds k)) (pairs_loaded firsts seconds b)
  pairs_two few room k h =
      writes_two first_place second_place (λ k. pos (nth firsts k)) (λ k. pos (nth seconds k)) (length firsts) b k h (omega arith) (omega arith) (λ j l. (λ e. omega arith, λ e. omega arith))
      (λ j n. (λ e. n (omega arith), λ e. n (omega arith)))

-- ---- a run of costs: H from `loaded` on and T from `held` on, and nothing else

module _ (s : ℕ) (costs : List ℕ) (start loaded held count : ℕ) (b : List ℤ) where
  abbrev cost : ℕ → ℤ
  cost a = priced (nth costs (start + a)) (nth costs (start + a))

  abbrev parts : ℕ → ℤ
  parts a = priced (nth costs (start + a)) (s * nth costs (start + a))

  pub run_length : length (run_loaded s costs start loaded held count b) ≡ length b
  run_length = writes_length (λ a. loaded + a) (λ a. held + a) cost parts count b

  pub run_kept : (p : ℕ) → ((a : ℕ) → a < count → (p ≢ loaded + a) × (p ≢ held + a)) → at (run_loaded s costs start loaded held count b) p ≡ at b p
  run_kept = writes_kept (λ a. loaded + a) (λ a. held + a) cost parts count b

  pub run_two : loaded + count ≤ held → held + count ≤ length b → (a : ℕ) → a < count
      → Priced s (loaded + a) (held + a) (nth costs (start + a)) (run_loaded s costs start loaded held count b)
  run_two apart room a h =
      writes_two (λ i. loaded + i) (λ i. held + i) cost parts count b a h (omega arith) (omega arith) (λ j l. (λ e. omega arith, λ e. omega arith))
      (λ j n. (λ e. n (omega arith), λ e. n (omega arith)))

-- ---- the choices

module _ (s : ℕ) (sizes choices : List ℕ) (b : List ℤ) (r : SizesIn sizes) where
  train_length : (i : ℕ) (x : List ℤ) → length (train_turn s (trains_shape sizes) choices i x) ≡ length x
  train_length i x = run_length s choices (choices_before (trains_shape sizes) i) (loaded_choice_place i 0) (held_choice_place i 0) (nth sizes i) x

  train_kept : (i : ℕ) (x : List ℤ) (p : ℕ) → ((a : ℕ) → a < nth sizes i → (p ≢ loaded_choice_place i a) × (p ≢ held_choice_place i a))
      → at (train_turn s (trains_shape sizes) choices i x) p ≡ at x p
  train_kept i x p out =
      run_kept s choices (choices_before (trains_shape sizes) i) (loaded_choice_place i 0) (held_choice_place i 0) (nth sizes i) x p
      (λ a h. (λ e. (out a h).0 (omega arith), λ e. (out a h).1 (omega arith)))

  pub choices_length : length (choices_loaded s (trains_shape sizes) choices b) ≡ length b
  choices_length = turns_length (length sizes) (train_turn s (trains_shape sizes) choices) b train_length

  pub choices_kept : (p : ℕ) → ((i a : ℕ) → i < length sizes → a < nth sizes i → (p ≢ loaded_choice_place i a) × (p ≢ held_choice_place i a))
      → at (choices_loaded s (trains_shape sizes) choices b) p ≡ at b p
  choices_kept p out = turns_kept (length sizes) (train_turn s (trains_shape sizes) choices) b p (λ i x h. train_kept i x p (λ a q. out i a h q))

  pub choices_two : length b ≡ block_length → (i a : ℕ) → i < length sizes → a < nth sizes i
      → Priced s (loaded_choice_place i a) (held_choice_place i a) (nth choices (choice_index (trains_shape sizes) i a)) (choices_loaded s (trains_shape sizes) choices b)
  choices_two whole i a h q =
      let fits = r.small i h in
      let few = r.few in
      let at-loaded : loaded_choice_place i 0 + a ≡ loaded_choice_place i a = omega arith in
      let at_held : held_choice_place i 0 + a ≡ held_choice_place i a = omega arith in
      turns_made (length sizes) (train_turn s (trains_shape sizes) choices) b
      (Priced s (loaded_choice_place i a) (held_choice_place i a) (nth choices (choice_index (trains_shape sizes) i a))) i h train_length
      (λ x e. rw (at-loaded, at_held) at (run_two s choices (choices_before (trains_shape sizes) i) (loaded_choice_place i 0) (held_choice_place i 0) (nth sizes i) x (omega arith) (omega arith) a q))
      (λ j x l n t. let wide = r.small j l in two_kept (train_turn s (trains_shape sizes) choices j x) t
      (train_kept j x (loaded_choice_place i a) (λ c k. (λ e. n (omega arith), λ e. omega arith)))
      (train_kept j x (held_choice_place i a) (λ c k. (λ e. omega arith, λ e. n (omega arith)))))

-- ---- the entries of one pair

module _ (s : ℕ) (entries : List ℕ) (start rows columns k : ℕ) (b : List ℤ) where
  row-length : (a : ℕ) (x : List ℤ) → length (row_turn s entries start columns k a x) ≡ length x
  row-length a x = run_length s entries (start + columns * a) (loaded_entry_place k a 0) (held_entry_place k a 0) columns x

  row_kept : (a : ℕ) (x : List ℤ) (p : ℕ) → ((c : ℕ) → c < columns → (p ≢ loaded_entry_place k a c) × (p ≢ held_entry_place k a c))
      → at (row_turn s entries start columns k a x) p ≡ at x p
  row_kept a x p out =
      run_kept s entries (start + columns * a) (loaded_entry_place k a 0) (held_entry_place k a 0) columns x p
      (λ c h. (λ e. (out c h).0 (omega arith), λ e. (out c h).1 (omega arith)))

  pub pair_length : length (pair_loaded s entries start rows columns k b) ≡ length b
  pair_length = turns_length rows (row_turn s entries start columns k) b row-length

  pub pair_kept : (p : ℕ) → ((a c : ℕ) → a < rows → c < columns → (p ≢ loaded_entry_place k a c) × (p ≢ held_entry_place k a c))
      → at (pair_loaded s entries start rows columns k b) p ≡ at b p
  pair_kept p out = turns_kept rows (row_turn s entries start columns k) b p (λ a x h. row_kept a x p (λ c q. out a c h q))

  pub pair_two : length b ≡ block_length → rows ≤ max_choices → columns ≤ max_choices → k < max_pairs → (a c : ℕ) → a < rows → c < columns
      → Priced s (loaded_entry_place k a c) (held_entry_place k a c) (nth entries (start + columns * a + c)) (pair_loaded s entries start rows columns k b)
  pair_two whole high wide few a c h q =
      let at-loaded : loaded_entry_place k a 0 + c ≡ loaded_entry_place k a c = omega arith in
      let at_held : held_entry_place k a 0 + c ≡ held_entry_place k a c = omega arith in
      turns_made rows (row_turn s entries start columns k) b
      (Priced s (loaded_entry_place k a c) (held_entry_place k a c) (nth entries (start + columns * a + c))) a h row-length
      (λ x e. rw (at-loaded, at_held) at (run_two s entries (start + columns * a) (loaded_entry_place k a 0) (held_entry_place k a 0) columns x (omega arith) (omega arith) c q))
      (λ j x l n t. two_kept (row_turn s entries start columns k j x) t
      (row_kept j x (loaded_entry_place k a c) (λ d m. (λ e. n (omega arith), λ e. omega arith)))
      (row_kept j x (held_entry_place k a c) (λ d m. (λ e. omega arith, λ e. n (omega arith)))))

-- ---- the entries of all pairs

module _ (s : ℕ) (t : Shape) (entries : List ℕ) (b : List ℤ) where
  abbrev turn : ℕ → List ℤ → List ℤ
  turn = entries_turn s t entries

  turn_length : (k : ℕ) (x : List ℤ) → length (turn k x) ≡ length x
  turn_length k x = pair_length s entries (entries_before t k) (rows_of t k) (columns_of t k) k x

  turn_kept : (k : ℕ) (x : List ℤ) (p : ℕ)
      → ((a c : ℕ) → a < rows_of t k → c < columns_of t k → (p ≢ loaded_entry_place k a c) × (p ≢ held_entry_place k a c)) → at (turn k x) p ≡ at x p
  turn_kept k x p out = pair_kept s entries (entries_before t k) (rows_of t k) (columns_of t k) k x p out

  pub entries_length : length (entries_loaded s t entries b) ≡ length b
  entries_length = turns_length t.pairs turn b turn_length

  pub entries_kept : (p : ℕ)
      → ((k a c : ℕ) → k < t.pairs → a < rows_of t k → c < columns_of t k → (p ≢ loaded_entry_place k a c) × (p ≢ held_entry_place k a c))
      → at (entries_loaded s t entries b) p ≡ at b p
  entries_kept p out = turns_kept t.pairs turn b p (λ k x h. turn_kept k x p (λ a c. out k a c h))

  pub entries_two : length b ≡ block_length → t.pairs ≤ max_pairs
      → ((k : ℕ) → k < t.pairs → (rows_of t k ≤ max_choices) × (columns_of t k ≤ max_choices))
      → (k a c : ℕ) → k < t.pairs → a < rows_of t k → c < columns_of t k
      → Priced s (loaded_entry_place k a c) (held_entry_place k a c) (nth entries (entry_index t k a c)) (entries_loaded s t entries b)
  entries_two whole few fit k a c h p q =
      let fits = fit k h in
      turns_made t.pairs turn b
      (Priced s (loaded_entry_place k a c) (held_entry_place k a c) (nth entries (entry_index t k a c))) k h turn_length
      (λ x e. pair_two s entries (entries_before t k) (rows_of t k) (columns_of t k) k x (e ∙ whole) fits.0 fits.1 (omega arith) a c p q)
      (λ j x l n w. let wide = fit j l in two_kept (turn j x) w
      (turn_kept j x (loaded_entry_place k a c) (λ d m u v. (λ e. n (omega arith), λ e. omega arith)))
      (turn_kept j x (held_entry_place k a c) (λ d m u v. (λ e. omega arith, λ e. n (omega arith)))))
