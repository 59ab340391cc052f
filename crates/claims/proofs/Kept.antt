-- Each operation keeps the block and the ledger together: it leaves what is forbidden, in H and in T, and T weighs s times what H does, as before.
use mathlib.Core.Path.{◌≡◌, refl, sym, ap, subst, ◌∙◌}
use mathlib.Core.Bool.{Bool, true, false, cond, ◌&&◌}
use mathlib.Core.List.{List}
use mathlib.Core.Logic.{◌≢◌, inl, inr}
use Prim.Native.Nat.{ℕ, ◌+◌, ◌*◌, ◌<◌}
use native.Mathlib.Decide.{ℕ_discrete}
use native.Mathlib.Nat.{mul-zero}
use native.Mathlib.Omega.{arith}
use lib.Dec.{eqb}
use lib.IntN.{ℤ}
use lib.ListN.{length}
use borrow.Author.Tests.{eq-eqb, ne_eqb}
use Rattle.theory.specs.Lists.{nth}
use Rattle.theory.specs.Order.{each_once}
use Rattle.tables.specs.Block.{trains, scale, pairs, size, first, second, constant_place, loaded_choice_place, held_choice_place, loaded_entry_place, held_entry_place, order_from, figure, loaded_choice, held_choice, loaded_entry}
use Rattle.tables.specs.Numbers.{Numbers, numbers_costs, InRange}
use Rattle.tables.specs.WellFormed.{Study}
use Rattle.tables.specs.Plans.{Shape, AlikeShapes, Costs, IsPlan, shape_of, loaded_costs, held_costs, loaded_total, held_total}
use Rattle.tables.proofs.Plans.{study_shaped, first-size, second-size, alike_shaped, alike_back, alike_then, same_shape_alike, same_shape_total}
use Rattle.tables.proofs.Study.{trains_range, pairs_range, size_range, first-below-trains, second-below-trains, same_figure, same_scale}
use Rattle.operations.specs.Load.{loaded_block}
use Rattle.operations.specs.Order.{ordered_block}
use Rattle.operations.proofs.Order.{ordered_else, ordered_shape, ordered_study, ordered_same_open}
use Rattle.operations.specs.Add.{add_open, added}
use Rattle.operations.proofs.Loaded.{load_study, load_alike, load_trains_lem, load_scale_lem, load_pairs_lem, load_constant, load_size_lem, load_first_lem, load_second_lem, load_loaded_choice, load_loaded_entry, load_choice_parts, load_entry_parts}
use Rattle.operations.proofs.Added.{added-closed, add_same_shape, add_same_open, add-constant-kept, add_choice_lem, add-held_choice, add_choice_kept, add-held_choice_kept, add_entry_kept, add-held_entry_kept}
use Rattle.rewriting.specs.Judged.{judged_block}
use Rattle.rewriting.proofs.Shape.{Moved, Any}
use Rattle.rewriting.proofs.Rewritten.{judged_study, judged_loaded, judged_alike}
use Rattle.weights.proofs.Weighs.{Weighs, open_weighted, load_weighs, add_weighs, alike_weighs, weighs_total}
use Rattle.weights.proofs.Held.{judged_weighs}
use Rattle.lines.specs.Layout.{add_train, add_choice, add_points}
use Rattle.claims.specs.Ledger.{Ledger, numbers_ledger, added_ledger}
use Rattle.claims.proofs.Keeps.{Keeps, same_study}

-- ---- load

-- the ledger of the numbers of a load
pub load_keeps : (l : Numbers) → InRange l → Keeps (numbers_ledger l) (loaded_block l)
unfolding loaded_costs held_costs
load_keeps l r =
    let b = loaded_block l in
    record {
      study = load_study r;
      same = same_study (load_study r) (load_alike r) (load_scale_lem r) choice entry;
      no_constant = refl;
      weighs =
          load_weighs (shape_of b) (scale b) (loaded_costs b) (held_costs b) (load_constant r ∙ sym (mul-zero (scale b)))
          (λ i a h q o. load_choice_parts r i a h q) (λ k a c h p q o. load_entry_parts r k a c h p q);
    }
  where
    there : (i : ℕ) → i < trains (loaded_block l) → i < length l.sizes
    there i h = omega (arith, load_trains_lem r)

    pair_there : (k : ℕ) → k < pairs (loaded_block l) → k < length l.firsts
    pair_there k h = omega (arith, load_pairs_lem r)

    choice : (i a : ℕ) → i < trains (loaded_block l) → a < size (loaded_block l) i → loaded_choice (loaded_block l) i a ≡ (numbers_costs l).choice i a
    choice i a h q = load_loaded_choice r i a (there i h) (rw (load_size_lem r i (there i h)) at q)

    entry : (k a c : ℕ) → k < pairs (loaded_block l) → a < size (loaded_block l) (first (loaded_block l) k) → c < size (loaded_block l) (second (loaded_block l) k)
        → loaded_entry (loaded_block l) k a c ≡ (numbers_costs l).pair k a c
    entry k a c h p q =
        let m = pair_there k h in
        let i = there (first (loaded_block l) k) (first-below-trains (load_study r) k h) in
        let j = there (second (loaded_block l) k) (second-below-trains (load_study r) k h) in
        load_loaded_entry r k a c m (rw (load_size_lem r (first (loaded_block l) k) i, load_first_lem r k m) at p) (rw (load_size_lem r (second (loaded_block l) k) j, load_second_lem r k m) at q)

-- ---- a block of the same shape

-- costs that agree at every choice and every entry that there is
pub record SameCosts (s : Shape) (t u : Costs) : Type 0 where
  pub constant : t.constant ≡ u.constant
  pub choices : (i a : ℕ) → i < s.trains → a < s.size i → t.choice i a ≡ u.choice i a
  pub entries : (k a c : ℕ) → k < s.pairs → a < s.size (s.first k) → c < s.size (s.second k) → t.pair k a c ≡ u.pair k a c

-- weigh the same
weighs_same : {s : Shape} {d : ℕ} {h t g u : Costs} → SameCosts s h g → SameCosts s t u → Weighs s d h t → Weighs s d g u
weighs_same {s} {d} {h} {t} {g} {u} e f x =
    record {
      weighs = λ w ag sp.
          sym (open_weighted s w sp t u f.constant (λ i a p q o. f.choices i a p q) (λ k a c p q r o. f.entries k a c p q r))
          ∙ x.weighs w ag sp
          ∙ ap (λ (v : ℕ). d * v) (open_weighted s w sp h g e.constant (λ i a p q o. e.choices i a p q) (λ k a c p q r o. e.entries k a c p q r));
    }

-- a changed block c of b's shape, where T weighs s times what H does
module _ {g : Ledger} {b c : List ℤ} (k : Keeps g b) (s : Study c) (e : AlikeShapes (shape_of c) (shape_of b)) (n : scale c ≡ scale b) where
  -- by a ledger of the same n, s, sizes and pairs, with the same entries forbidden
  keeps_from : (h : Ledger) → h.shape ≡ g.shape → h.scale ≡ g.scale → h.costs.constant ≡ 0
      → ((i a : ℕ) → i < trains b → a < size b i → loaded_choice c i a ≡ h.costs.choice i a)
      → ((j a d : ℕ) → j < pairs b → a < size b (first b j) → d < size b (second b j) → loaded_entry c j a d ≡ h.costs.pair j a d)
      → Weighs (shape_of b) (scale b) (loaded_costs c) (held_costs c) → Keeps h c
  keeps_from h shape scales zero choices entries weighs =
      let sh = study_shaped s in
      record {
        study = s;
        same =
            same_study s (subst (AlikeShapes (shape_of c)) (sym shape) (alike_then e sh k.same.shape_same)) (n ∙ k.same.scale_same ∙ sym scales)
            (λ i a q r. choices i a (omega (arith, e.trains_same)) (omega (arith, e.sizes_same i q)))
            (λ j a d q r t. entries j a d (omega (arith, e.pairs_same)) (omega (arith, first-size e sh j q)) (omega (arith, second-size e sh j q)));
        no_constant = zero;
        weighs = subst (λ (v : ℕ). Weighs (shape_of c) v (loaded_costs c) (held_costs c)) (sym n) (alike_weighs (alike_back e sh) (alike_shaped e sh) weighs);
      }

-- ---- shift, tighten and round

-- a rewriting leaves the shape and H, and every weighted total, whether it is done or declined
pub judged_keeps : {g : Ledger} {b c : List ℤ} {n : ℕ} → Keeps g b → Moved Any b n c → Keeps g (judged_block b c)
unfolding loaded_costs
judged_keeps {g} {b} {c} k v =
    keeps_from k (judged_study k.study v) (alike_back (judged_alike k.study v) (study_shaped k.study)) (same_scale (judged_loaded k.study v).shape) g refl refl k.no_constant
    (λ i a h q. choice i a h q ∙ k.same.choices_same i a h q) (λ j a d h p q. entry j a d h p q ∙ k.same.entries_same j a d h p q)
    (weighs_same (record { constant = refl; choices = λ i a h q. sym (choice i a h q); entries = λ j a d h p q. sym (entry j a d h p q) })
    (record { constant = refl; choices = λ i a h q. refl; entries = λ j a d h p q. refl }) (judged_weighs k.study v k.weighs))
  where
    choice : (i a : ℕ) → i < trains b → a < size b i → loaded_choice (judged_block b c) i a ≡ loaded_choice b i a
    choice i a h q =
        let w = size_range k.study i h in
        let n = trains_range k.study in
        same_figure b (judged_block b c) (loaded_choice_place i a) ((judged_loaded k.study v).loaded (loaded_choice_place i a) (record { table = inl (record { low = omega arith; high = omega arith }) }))

    entry : (j a d : ℕ) → j < pairs b → a < size b (first b j) → d < size b (second b j) → loaded_entry (judged_block b c) j a d ≡ loaded_entry b j a d
    entry j a d h p q =
        let u = size_range k.study (first b j) (first-below-trains k.study j h) in
        let y = size_range k.study (second b j) (second-below-trains k.study j h) in
        let m = pairs_range k.study in
        same_figure b (judged_block b c) (loaded_entry_place j a d) ((judged_loaded k.study v).loaded (loaded_entry_place j a d) (record { table = inr (inl (record { low = omega arith; high = omega arith })) }))

-- ---- add

-- an addition of p points to choice a of train i, which are there
module _ {g : Ledger} {b : List ℤ} (k : Keeps g b) (i a p : ℕ) (h : i < trains b) (q : a < size b i) where
  -- the points that choice c of train j is given, where o says whether it is open
  abbrev points_at : Bool → ℕ → ℕ → ℕ
  points_at o j c = cond (o && (eqb j i && eqb c a)) p 0

  -- at choice c of train j
  module _ (j c : ℕ) (m : j < trains b) (n : c < size b j) where
    -- H has the points more, and T s × points
    abbrev Raised : Bool → Type 0
    Raised o = (loaded_choice (added i a p b) j c ≡ loaded_choice b j c + points_at o j c) × (held_choice (added i a p b) j c ≡ held_choice b j c + scale b * points_at o j c)

    -- no points are given
    none : (o : Bool) → points_at o j c ≡ 0 → loaded_choice (added i a p b) j c ≡ loaded_choice b j c → held_choice (added i a p b) j c ≡ held_choice b j c → Raised o
    none o e u v = rw (e, mul-zero (scale b)) (omega (arith, u), omega (arith, v))

    -- at another choice
    other : (o : Bool) → (eqb j i && eqb c a) ≡ false → (j ≡ i → c ≢ a) → Raised o
    other true e d = none true (rw e) (add_choice_kept k.study i a p h q j c m n d) (add-held_choice_kept k.study i a p h q j c m n d)
    other false e d = none false refl (add_choice_kept k.study i a p h q j c m n d) (add-held_choice_kept k.study i a p h q j c m n d)

    -- at the choice itself, which is open or not
    here : (o : Bool) → add_open i a b ≡ o → j ≡ i → c ≡ a → Raised o
    here true o e f = rw (eq-eqb j i e, eq-eqb c a f, e, f) (add_choice_lem k.study i a p h q o, add-held_choice k.study i a p h q o)
    here false o e f = none false refl (rw (added-closed i a p b o)) (rw (added-closed i a p b o))

    raised : Raised ((shape_of b).choice_open j c)
    raised = go (ℕ_discrete j i) (ℕ_discrete c a)
      where
        go : Dec (j ≡ i) → Dec (c ≡ a) → Raised ((shape_of b).choice_open j c)
        go (yes e) (yes f) = here ((shape_of b).choice_open j c) (rw (e, f)) e f
        go (yes e) (no f) = other ((shape_of b).choice_open j c) (rw (eq-eqb j i e, ne_eqb c a f)) (λ _. f)
        go (no e) d = other ((shape_of b).choice_open j c) (rw (ne_eqb j i e)) (λ w. absurd (e w))

  -- so that T weighs s times what H does
  add_weighed : Weighs (shape_of b) (scale b) (loaded_costs (added i a p b)) (held_costs (added i a p b))
  unfolding loaded_costs held_costs
  add_weighed =
      let m : ℕ → ℕ → ℕ = λ j c. points_at ((shape_of b).choice_open j c) j c in
      weighs_same
      (record { constant = refl; choices = λ j c u v. sym (raised j c u v).0; entries = λ j c d u v w. sym (add_entry_kept k.study i a p h q j c d) })
      (record { constant = sym (add-constant-kept k.study i a p h q); choices = λ j c u v. sym (raised j c u v).1; entries = λ j c d u v w. sym (add-held_entry_kept k.study i a p h q j c d) })
      (add_weighs (shape_of b) (scale b) m (loaded_costs b) (held_costs b) k.weighs)

  -- and every plan's total in T is s times its total in H
  pub add-scaled : (x : ℕ → ℕ) → IsPlan (shape_of b) x → held_total (added i a p b) x ≡ scale b * loaded_total (added i a p b) x
  add-scaled x plan =
      let e = add_same_shape k.study i a p h q in
      rw (same_shape_total e k.study (held_costs (added i a p b)) x, same_shape_total e k.study (loaded_costs (added i a p b)) x) (weighs_total (study_shaped k.study) add_weighed x plan)

-- an addition that is done: the ledger adds the same points to the same choice, where it is open
pub add_keeps : {g : Ledger} {b : List ℤ} (l : List ℕ) → Keeps g b → add_train l < trains b → add_choice l < size b (add_train l)
    → Study (added (add_train l) (add_choice l) (add_points l) b) → Keeps (added_ledger l g) (added (add_train l) (add_choice l) (add_points l) b)
add_keeps {g} {b} l k h q s =
    let i = add_train l in
    let a = add_choice l in
    let p = add_points l in
    let e = add_same_shape k.study i a p h q in
    keeps_from k s (same_shape_alike e k.study (add_same_open k.study i a p h q)) (same_scale e) (added_ledger l g) refl refl k.no_constant choice
    (λ j c d m u v. add_entry_kept k.study i a p h q j c d ∙ k.same.entries_same j c d m u v) (add_weighed k i a p h q)
  where
    choice : (j c : ℕ) → j < trains b → c < size b j
        → loaded_choice (added (add_train l) (add_choice l) (add_points l) b) j c ≡ (added_ledger l g).costs.choice j c
    choice j c m n =
        rw (← k.same.shape_same.choices_open_same j c m n, ← k.same.choices_same j c m n) (raised k (add_train l) (add_choice l) (add_points l) h q j c m n).0

-- ---- order

-- another order of the trains leaves every place of the shape, of H and of T
pub order_keeps : {g : Ledger} {b : List ℤ} (l : List ℕ) → Keeps g b → length l ≡ trains b → each_once (trains b) (nth l) ≡ true → Keeps g (ordered_block l b)
unfolding loaded_costs held_costs
order_keeps {g} {b} l k e once =
    let sh = ordered_shape k.study l e once in
    keeps_from k (ordered_study k.study l e once) (same_shape_alike sh k.study (ordered_same_open k.study l e once)) (same_scale sh) g refl refl k.no_constant
    (λ i a h q. kept_at (loaded_choice_place i a) (loaded_choice_low i a h q) ∙ k.same.choices_same i a h q)
    (λ j a d h p q. kept_at (loaded_entry_place j a d) (loaded_entry_low j a d h p q) ∙ k.same.entries_same j a d h p q)
    (weighs_same
    (record {
      constant = refl;
      choices = λ i a h q. sym (kept_at (loaded_choice_place i a) (loaded_choice_low i a h q));
      entries = λ j a d h p q. sym (kept_at (loaded_entry_place j a d) (loaded_entry_low j a d h p q));
    })
    (record {
      constant = sym (kept_at constant_place (omega arith));
      choices = λ i a h q. sym (kept_at (held_choice_place i a) (held_choice_low i a h q));
      entries = λ j a d h p q. sym (kept_at (held_entry_place j a d) (held_entry_low j a d h p q));
    }) k.weighs)
  where
    kept_at : (p : ℕ) → p < order_from → figure (ordered_block l b) p ≡ figure b p
    kept_at p h = same_figure b (ordered_block l b) p (ordered_else k.study l e once p h)

    loaded_choice_low : (i a : ℕ) → i < trains b → a < size b i → loaded_choice_place i a < order_from
    loaded_choice_low i a h q = omega (arith, size_range k.study i h, trains_range k.study)

    held_choice_low : (i a : ℕ) → i < trains b → a < size b i → held_choice_place i a < order_from
    held_choice_low i a h q = omega (arith, size_range k.study i h, trains_range k.study)

    loaded_entry_low : (j a d : ℕ) → j < pairs b → a < size b (first b j) → d < size b (second b j) → loaded_entry_place j a d < order_from
    loaded_entry_low j a d h p q =
        omega (arith, size_range k.study (first b j) (first-below-trains k.study j h), size_range k.study (second b j) (second-below-trains k.study j h), pairs_range k.study)

    held_entry_low : (j a d : ℕ) → j < pairs b → a < size b (first b j) → d < size b (second b j) → held_entry_place j a d < order_from
    held_entry_low j a d h p q =
        omega (arith, size_range k.study (first b j) (first-below-trains k.study j h), size_range k.study (second b j) (second-below-trains k.study j h), pairs_range k.study)
