-- What an addition does to a study: it stays one, and where it is done each plan that takes the choice costs so much more. For every size.
use mathlib.Core.Path.{◌≡◌, refl, sym, ap, ◌∙◌}
use mathlib.Core.Bool.{Bool, true, false}
use mathlib.Core.List.{List}
use mathlib.Core.Logic.{inr, dite, ◌≢◌}
use Prim.Native.Nat.{ℕ, ◌+◌, ◌*◌, ◌<◌, ◌≤◌}
use native.Mathlib.Decide.{ℕ_discrete, dec_lt}
use native.Mathlib.Omega.{arith}
use lib.IntN.{ℤ, pos}
use lib.ListN.{set}
use lib.Seq.{get_or-set_other}
use borrow.Author.Tests.{lt-ltb, le-ltb}
use Rattle.theory.specs.Sum.{update}
use Rattle.theory.proofs.Sum.{sum_cong, sum_one, update_same, update_other}
use Rattle.refusals.specs.declared.Refusal.TheVariants.{CostAbove, PartsOutside}
use Rattle.refusals.specs.Verdicts.{Fine, Declined}
use Rattle.tables.specs.Block.{max_trains, max_choices, max_cost, max_parts, constant_place, loaded_choices_from, held_choices_from, choice_place, loaded_choice_place, held_choice_place, loaded_entry_place, held_entry_place, at, figure, trains, scale, size, loaded_choice, held_choice, loaded_entry, held_entry}
use Rattle.tables.specs.WellFormed.{cost_to, is_open, used_if, choice_used, limits_at, Study}
use Rattle.tables.specs.Plans.{Shape, Costs, IsPlan, Open, choice_total, pair_total, total, shape_of, loaded_costs, held_costs, loaded_total, held_total}
use Rattle.tables.proofs.Limits.{natural_open, choice_used_lem, limits_loaded_choices, limits-held_choices}
use Rattle.tables.proofs.Study.{trains_range, size_range, choice_open_lem, SameShape, SameOrder, SameOpen, same_figure, same_trains, same_limits, put_same_shape, put_study, figure_at}
use Rattle.tables.proofs.Plans.{study_shaped, open_plan, same_shape_total, choice_at_most_total}
use Rattle.operations.specs.Add.{add_open, added, add_outcome, add_block}
use Rattle.operations.proofs.LoadRuns.{Two, set_two_length, set_two_kept, set_two_lem, set_two}

-- H and T of the choice after the addition
abbrev loaded_after : ℕ → ℕ → ℕ → List ℤ → ℕ
loaded_after i a p b = loaded_choice b i a + p

abbrev held_after : ℕ → ℕ → ℕ → List ℤ → ℕ
held_after i a p b = held_choice b i a + scale b * p

-- the block with both written
abbrev written : ℕ → ℕ → ℕ → List ℤ → List ℤ
written i a p b = set_two (loaded_choice_place i a) (held_choice_place i a) (pos (loaded_after i a p b)) (pos (held_after i a p b)) b

-- ---- the four ways of an addition

module _ (i a p : ℕ) (b : List ℤ) where
  added_open : add_open i a b ≡ true → added i a p b ≡ written i a p b
  unfolding added
  added_open o = rw o

  -- a forbidden choice stays as it is
  pub added-closed : add_open i a b ≡ false → added i a p b ≡ b
  unfolding added
  added-closed f = rw f

  -- what holds of both holds of the block that an addition leaves
  by_open : (P : List ℤ → Type 0) → (add_open i a b ≡ true → P (written i a p b)) → (add_open i a b ≡ false → P b) → P (added i a p b)
  by_open P x y = go (add_open i a b) refl
    where
      go : (t : Bool) → add_open i a b ≡ t → P (added i a p b)
      go true o = rw (added_open o) (x o)
      go false f = rw (added-closed f) (y f)

  pub add-closed : add_open i a b ≡ false → (Fine ≡ add_outcome i a p b) × (b ≡ add_block i a p b)
  add-closed f = rw f (refl, sym (added-closed f))

  module _ (o : add_open i a b ≡ true) where
    pub cost_above : max_cost < loaded_choice b i a + p → (Declined CostAbove ≡ add_outcome i a p b) × (b ≡ add_block i a p b)
    cost_above h = rw (o, lt-ltb _ _ h) (refl, refl)

    module _ (h : loaded_choice b i a + p ≤ max_cost) where
      pub parts_above : max_parts < held_choice b i a + scale b * p → (Declined PartsOutside ≡ add_outcome i a p b) × (b ≡ add_block i a p b)
      parts_above q = rw (o, le-ltb _ _ h, lt-ltb _ _ q) (refl, refl)

      pub both_within : held_choice b i a + scale b * p ≤ max_parts → (Fine ≡ add_outcome i a p b) × (added i a p b ≡ add_block i a p b)
      both_within q = rw (o, le-ltb _ _ h, le-ltb _ _ q) (refl, refl)

    -- the two writes
    pub added_by : {c d : List ℤ} {x y : ℕ} → x ≡ loaded_choice b i a + p → y ≡ held_choice b i a + scale b * p
        → c ≡ set b (loaded_choice_place i a) (pos x) → d ≡ set c (held_choice_place i a) (pos y) → d ≡ added i a p b
    added_by e f g h = rw (added_open o) cc

-- ---- the block where it is done

-- the limits of a choice that is there, in either table
choice_limits : {b : List ℤ} → Study b → (i a from high : ℕ) → i < trains b → a < size b i
    → ((o : ℕ) → o < max_trains * max_choices → limits_at b (from + o) ≡ used_if (choice_used b o) (cost_to high)) → limits_at b (choice_place from i a) ≡ cost_to high
choice_limits {b} s i a from high h q law =
    let used : choice_used b (max_choices * i + a) ≡ true = choice_used_lem b i a (omega (arith, size_range s i h)) ∙ rw (lt-ltb i (trains b) h, lt-ltb a (size b i) q) in
    law (max_choices * i + a) (omega (arith, trains_range s, size_range s i h)) ∙ ap (λ (t : Bool). used_if t (cost_to high)) used

-- where one choice of a plan costs d more, and nothing else differs, the plan costs d more
total_raised : (s : Shape) (t u : Costs) (x : ℕ → ℕ) (i d : ℕ) → i < s.trains → u.constant ≡ t.constant → u.choice i (x i) ≡ t.choice i (x i) + d
    → ((j : ℕ) → j < s.trains → j ≢ i → u.choice j (x j) ≡ t.choice j (x j))
    → ((k : ℕ) → u.pair k (x (s.first k)) (x (s.second k)) ≡ t.pair k (x (s.first k)) (x (s.second k))) → total s u x ≡ total s t x + d
unfolding total choice_total pair_total
total_raised s t u x i d h c e f g =
    omega (
      arith,
      sum_one s.trains i (λ j. u.choice j (x j)) (λ j. t.choice j (x j)) h f,
      sum_cong s.pairs (λ k. u.pair k (x (s.first k)) (x (s.second k))) (λ k. t.pair k (x (s.first k)) (x (s.second k))) (λ k l. g k),
    )

module _ {b : List ℤ} (s : Study b) (i a p : ℕ) (h : i < trains b) (q : a < size b i) where
  -- the two places are there
  places : (i < max_trains) × (a < max_choices)
  places = omega (arith, trains_range s, size_range s i h)

  written_same_shape : SameShape b (written i a p b)
  written_same_shape =
      record {
        whole = set_two_length (loaded_choice_place i a) (held_choice_place i a) (pos (loaded_after i a p b)) (pos (held_after i a p b)) b;
        kept = λ o l n. set_two_kept (loaded_choice_place i a) (held_choice_place i a) (pos (loaded_after i a p b)) (pos (held_after i a p b)) b o (λ e. omega arith) (λ e. omega arith);
      }

  pub add_same_shape : SameShape b (added i a p b)
  add_same_shape = by_open i a p b (SameShape b) (λ o. written_same_shape) (λ f. record { whole = refl; kept = λ o l n. refl })

  written_same_order : SameOrder b (written i a p b)
  written_same_order =
      record {
        order_kept = λ o l.
            set_two_kept (loaded_choice_place i a) (held_choice_place i a) (pos (loaded_after i a p b)) (pos (held_after i a p b)) b o (λ e. omega (arith, places)) (λ e. omega (arith, places));
      }

  pub add_same_order : SameOrder b (added i a p b)
  add_same_order = by_open i a p b (SameOrder b) (λ o. written_same_order) (λ f. record { order_kept = λ o l. refl })

  -- what stands at the two places, and at each other
  written_two : Two (loaded_choice_place i a) (held_choice_place i a) (pos (loaded_after i a p b)) (pos (held_after i a p b)) (written i a p b)
  written_two =
      set_two_lem (loaded_choice_place i a) (held_choice_place i a) (pos (loaded_after i a p b)) (pos (held_after i a p b)) b (omega (arith, s.whole, places)) (omega (arith, s.whole, places))
      (λ e. omega arith)

  written-kept : (o : ℕ) → o ≢ loaded_choice_place i a → o ≢ held_choice_place i a → at (written i a p b) o ≡ at b o
  written-kept = set_two_kept (loaded_choice_place i a) (held_choice_place i a) (pos (loaded_after i a p b)) (pos (held_after i a p b)) b

  added-kept : (o : ℕ) → o ≢ loaded_choice_place i a → o ≢ held_choice_place i a → figure (added i a p b) o ≡ figure b o
  added-kept o m n = by_open i a p b (λ c. figure c o ≡ figure b o) (λ _. same_figure b (written i a p b) o (written-kept o m n)) (λ f. refl)

  -- what is forbidden stays so, and what is not stays so too
  pub add_same_open : SameOpen b (added i a p b)
  add_same_open = by_open i a p b (SameOpen b) open_after (λ f o h. refl)
    where
      open_after : add_open i a b ≡ true → SameOpen b (written i a p b)
      open_after w o l =
          dite (ℕ_discrete o (loaded_choice_place i a)) (λ (e : o ≡ loaded_choice_place i a). rw e (natural_open _ _ written_two.one ∙ sym w))
          (λ m. dite (ℕ_discrete o (held_choice_place i a)) (λ (e : o ≡ held_choice_place i a). rw e (natural_open _ _ written_two.other ∙ sym (sym (choice_open_lem s i a h q) ∙ w)))
          (λ n. ap is_open (written-kept o m n)))

  other_choice : (j c : ℕ) → j < trains b → c < size b j → (j ≡ i → c ≢ a)
      → (loaded_choice (added i a p b) j c ≡ loaded_choice b j c) × (held_choice (added i a p b) j c ≡ held_choice b j c)
  other_choice j c k l n =
      let w = places in
      let few = trains_range s in
      let small = size_range s j k in (
        added-kept (loaded_choice_place j c) (λ e. n (omega arith) (omega arith)) (λ e. omega arith),
        added-kept (held_choice_place j c) (λ e. omega arith) (λ e. n (omega arith) (omega arith)),
      )

  other_entry : (k c d : ℕ) → (loaded_entry (added i a p b) k c d ≡ loaded_entry b k c d) × (held_entry (added i a p b) k c d ≡ held_entry b k c d)
  other_entry k c d =
      let w = places in
      (added-kept (loaded_entry_place k c d) (λ e. omega arith) (λ e. omega arith), added-kept (held_entry_place k c d) (λ e. omega arith) (λ e. omega arith))

  -- after the addition the choice, where it is open, costs p points more in H, and s × p parts in T
  module _ (o : add_open i a b ≡ true) where
    pub add_choice_lem : loaded_choice (added i a p b) i a ≡ loaded_choice b i a + p
    add_choice_lem = rw (added_open i a p b o) (figure_at (written i a p b) (loaded_choice_place i a) _ written_two.one)

    pub add-held_choice : held_choice (added i a p b) i a ≡ held_choice b i a + scale b * p
    add-held_choice = rw (added_open i a p b o) (figure_at (written i a p b) (held_choice_place i a) _ written_two.other)

  -- and nothing else differs
  pub add-constant-kept : figure (added i a p b) constant_place ≡ figure b constant_place
  add-constant-kept = added-kept constant_place (λ e. omega arith) (λ e. omega arith)

  pub add_choice_kept : (j c : ℕ) → j < trains b → c < size b j → (j ≡ i → c ≢ a) → loaded_choice (added i a p b) j c ≡ loaded_choice b j c
  add_choice_kept j c k l n = (other_choice j c k l n).0

  pub add-held_choice_kept : (j c : ℕ) → j < trains b → c < size b j → (j ≡ i → c ≢ a) → held_choice (added i a p b) j c ≡ held_choice b j c
  add-held_choice_kept j c k l n = (other_choice j c k l n).1

  pub add_entry_kept : (k c d : ℕ) → loaded_entry (added i a p b) k c d ≡ loaded_entry b k c d
  add_entry_kept k c d = (other_entry k c d).0

  pub add-held_entry_kept : (k c d : ℕ) → held_entry (added i a p b) k c d ≡ held_entry b k c d
  add-held_entry_kept k c d = (other_entry k c d).1

  written_study : add_open i a b ≡ true → loaded_after i a p b ≤ max_cost → held_after i a p b ≤ max_parts → Study (written i a p b)
  written_study o k l =
      let held-open : is_open (at (set b (loaded_choice_place i a) (pos (loaded_after i a p b))) (held_choice_place i a)) ≡ true =
      ap is_open (get_or-set_other b (loaded_choice_place i a) (held_choice_place i a) (pos (loaded_after i a p b)) (pos 0) (λ e. omega arith)) ∙ sym (choice_open_lem s i a h q) ∙ o in
      let first = choice_limits s i a loaded_choices_from max_cost h q (limits_loaded_choices b) in
      let second =
      same_limits (put_same_shape b (loaded_choice_place i a) (pos (loaded_after i a p b)) (inr (omega arith))) s (held_choice_place i a) (omega (arith, places))
      ∙ choice_limits s i a held_choices_from max_parts h q (limits-held_choices b) in
      put_study (put_study s (loaded_choice_place i a) (loaded_after i a p b) (omega (arith, places)) (inr (omega arith)) o (rw first (omega arith)) (rw first k)) (held_choice_place i a) (held_after i a p b)
      (omega (arith, places)) (inr (omega arith)) held-open (rw second (omega arith)) (rw second l)

  pub add_study : Study (add_block i a p b)
  add_study = by (add_open i a b) refl
    where
      by : (t : Bool) → add_open i a b ≡ t → Study (add_block i a p b)
      by true o =
          dite (dec_lt max_cost (loaded_after i a p b)) (λ k. rw (← (cost_above i a p b o k).1) s)
          (λ m. dite (dec_lt max_parts (held_after i a p b)) (λ k. rw (← (parts_above i a p b o (omega arith) k).1) s)
          (λ n. rw (← (both_within i a p b o (omega arith) (omega arith)).1, added_open i a p b o) (written_study o (omega arith) (omega arith))))
      by false o = rw (← (add-closed i a p b o).1) s

  -- ---- totals

  module _ (x : ℕ → ℕ) (plan : IsPlan (shape_of b) x) where
    -- the plan's cost at train i decides
    loaded_raised : (d : ℕ) → loaded_choice (added i a p b) i (x i) ≡ loaded_choice b i (x i) + d → loaded_total (added i a p b) x ≡ loaded_total b x + d
    unfolding loaded_costs
    loaded_raised d e =
        same_shape_total add_same_shape s (loaded_costs (added i a p b)) x
        ∙ total_raised (shape_of b) (loaded_costs b) (loaded_costs (added i a p b)) x i d h refl e (λ j l n. (other_choice j (x j) l (plan.below j l) (λ e. absurd (n e))).0) (λ k. (other_entry k _ _).0)

    held_raised : (d : ℕ) → held_choice (added i a p b) i (x i) ≡ held_choice b i (x i) + d → held_total (added i a p b) x ≡ held_total b x + d
    unfolding held_costs
    held_raised d e =
        same_shape_total add_same_shape s (held_costs (added i a p b)) x
        ∙ total_raised (shape_of b) (held_costs b) (held_costs (added i a p b)) x i d h add-constant-kept e
        (λ j l n. (other_choice j (x j) l (plan.below j l) (λ e. absurd (n e))).1) (λ k. (other_entry k _ _).1)

    -- a plan that takes the choice, which then is open
    module _ (e : x i ≡ a) where
      taken : add_open i a b ≡ true
      taken = ap (λ (c : ℕ). is_open (at b (loaded_choice_place i c))) (sym e) ∙ plan.choices i h

      pub add_loaded_total : loaded_total (added i a p b) x ≡ loaded_total b x + p
      add_loaded_total = loaded_raised p (rw e (add_choice_lem taken))

      pub add-held-total : held_total (added i a p b) x ≡ held_total b x + scale b * p
      add-held-total = held_raised (scale b * p) (rw e (add-held_choice taken))

    -- a plan that does not
    module _ (n : x i ≢ a) where
      kept : (loaded_choice (added i a p b) i (x i) ≡ loaded_choice b i (x i)) × (held_choice (added i a p b) i (x i) ≡ held_choice b i (x i))
      kept = other_choice i (x i) h (plan.below i h) (λ _. n)

      pub add_loaded_total-kept : loaded_total (added i a p b) x ≡ loaded_total b x
      add_loaded_total-kept = omega (arith, loaded_raised 0 (omega (arith, kept.0)))

      pub add-held-total-kept : held_total (added i a p b) x ≡ held_total b x
      add-held-total-kept = omega (arith, held_raised 0 (omega (arith, kept.1)))

  -- ---- when it is done

  -- choice a for train i, and choice 0 for every other train
  abbrev chosen : ℕ → ℕ
  chosen = update (λ _. 0) i a

  chosen_plan : Open (shape_of b) → IsPlan (shape_of b) chosen
  chosen_plan o =
      open_plan (study_shaped s) o chosen
      (λ j l. dite (ℕ_discrete j i) (λ (e : j ≡ i). rw (update_same (λ _. 0) i a j e, e) q) (λ n. rw (update_other (λ _. 0) i a j n) (size_range s j l).0))

  -- nothing is forbidden, no plan's total passes L, and the cost stays within its limit
  pub add-within : Open (shape_of b) → loaded_choice b i a + p ≤ max_cost → ((x : ℕ → ℕ) → IsPlan (shape_of b) x → held_total (added i a p b) x ≤ max_parts)
      → add_outcome i a p b ≡ Fine
  unfolding held_costs
  add-within o k most = sym (both_within i a p b (o.choices i a h q) k held).0
    where
      held : held_after i a p b ≤ max_parts
      held =
          let t : held_choice (added i a p b) i (chosen i) ≡ held_after i a p b = rw (update_same (λ _. 0) i a i refl) (add-held_choice (o.choices i a h q)) in
          omega (arith, choice_at_most_total (shape_of (added i a p b)) (held_costs (added i a p b)) chosen i (omega (arith, same_trains add_same_shape)), most chosen (chosen_plan o))
