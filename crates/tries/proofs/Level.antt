-- A level study: every partial total before the last train is 0, and every plan's is 1. With a best of 1 no try is dropped before the last train, and a try of the last train counts, whether it is the first plan or dropped.
-- So a walk that no budget ends tries everything, where a best of 1 does not meet the bound.
use mathlib.Core.Path.{◌≡◌, refl, sym, ap, ap₂, subst, ◌∙◌}
use mathlib.Core.Bool.{Bool, true, false, not, ◌&&◌}
use mathlib.Core.List.{List}
use mathlib.Core.Logic.{◌⊎◌, inl, inr, ⊎_elim}
use Prim.Native.Nat.{ℕ, zero, suc, ◌+◌, ◌*◌, ◌<◌, ◌≤◌}
use native.Mathlib.Nat.{suc-mul, zero-add}
use native.Mathlib.Omega.{arith}
use lib.Dec.{leb}
use lib.ListN.{length, set, length-set}
use lib.Seq.{get_or-set_same}
use borrow.Author.Tests.{leb-true}
use Rattle.theory.specs.Sum.{sum}
use Rattle.theory.specs.Range.{all}
use Rattle.theory.specs.Tries.{tries_from}
use Rattle.theory.proofs.Sum.{sum_none}
use Rattle.theory.proofs.Range.{both_true, not_both, all-zero}
use Rattle.theory.proofs.Tries.{tries_none, tries_more}
use Rattle.tables.specs.Block.{max_trains}
use Rattle.tables.specs.Plans.{choices_of, Shape, Costs}
use Rattle.orders.specs.Ordered.{ordered_shape, ordered_costs}
use Rattle.search.specs.Walk.{Walk, pair_added, entry_passes, added, barred, counted, dropped, one_try, tried_from, choice_try, opened_train, no_choices, nothing_tried, walked, all_tries}
use Rattle.search.proofs.Tries.{try_cases, goes_unspent}
use Rattle.dearest.specs.Levels.{Level}

-- nothing met, and a known best is 1
pub record AtLevel (w : Walk) : Type 0 where
  pub unmet : w.met ≡ false
  pub one : w.found ≡ true → w.best.0 ≡ 1

-- from w to v: v is at level, and if v is unspent so was w, n tries before
pub record Took (n : ℕ) (w v : Walk) : Type 0 where
  pub level : AtLevel v
  pub unspent : v.spent ≡ false → w.spent ≡ false
  pub count : v.spent ≡ false → v.count ≡ w.count + n

-- the tries of a train, each of which takes n
tries_took : (n : ℕ) (one : ℕ → Walk → Walk) (k a : ℕ) → ((i : ℕ) → i < a + k → (u : Walk) → AtLevel u → Took n u (one i u))
    → (w : Walk) → AtLevel w → Took (k * n) w (tried_from one k a w)
unfolding tried_from
tries_took n one zero a h w l = record { level = l; unspent = λ e. e; count = λ e. omega arith }
tries_took n one (suc k) a h w l =
    let q = h a (omega arith) w l in
    let r = tries_took n one k (a + 1) (λ i s. h i (omega arith)) (one a w) q.level in
    record {
      level = r.level;
      unspent = λ e. q.unspent (r.unspent e);
      count = λ e. omega (arith, r.count e, q.count (r.unspent e), suc-mul k n);
    }

-- a try of total v at level that is dropped: v is not 0
dropped_above : (w : Walk) → AtLevel w → (bar : Bool) (v : ℕ) → bar ≡ false → dropped w bar v ≡ true → v ≡ 0 → ⊥
dropped_above w l bar v b e z =
    let f = both_true w.found (leb w.best.0 v) (rw b at e) in
    omega (arith, leb-true w.best.0 v f.1, l.one f.0)

-- one try: it counts, and goes on with n more, or is one of the last train's
try_took : (budget : ℕ) (bar : Bool) (v n : ℕ) (next : Walk → Walk) → bar ≡ false → (v ≡ 0) ⊎ (n ≡ 0)
    → ((u : Walk) → AtLevel u → Took n u (next u)) → (w : Walk) → AtLevel w → Took (1 + n) w (one_try budget bar v next w)
try_took budget bar v n next b c h w l =
    try_cases (Took (1 + n) w) budget bar v next w
    (λ s. record { level = l; unspent = λ e. e; count = λ e. absurd (not_both s (rw l.unmet e)) })
    (λ s q. record { level = record { unmet = l.unmet; one = l.one }; unspent = λ e. goes_unspent w s; count = λ e. absurd (not_both refl e) })
    (λ s q d. record {
      level = record { unmet = l.unmet; one = l.one };
      unspent = λ e. e;
      count = λ e. ⊎_elim (λ (z : v ≡ 0). absurd (dropped_above w l bar v b d z)) (λ (z : n ≡ 0). omega arith) c;
    })
    (λ s q d. let r = h (counted w) (record { unmet = l.unmet; one = l.one }) in
    record { level = r.level; unspent = r.unspent; count = λ e. omega (arith, r.count e) })

module _ {s : Shape} {c : Costs} (room : s.trains ≤ max_trains) (level : Level s c) (meets : ℕ → Bool) (above : meets 1 ≡ false) (budget : ℕ) where
  -- what a choice adds, and that it is not barred
  module _ (chosen : List ℕ) (t a : ℕ) (h : t < s.trains) (q : a < s.size t) (l : length chosen ≡ max_trains) where
    here : choices_of (set chosen t a) t ≡ a
    here = get_or-set_same chosen t a 0 (omega (arith, l, room))

    adds : added s c (choices_of (set chosen t a)) t ≡ c.choice t a
    unfolding added
    adds =
        let f = pair_added s c (choices_of (set chosen t a)) t in
        omega (arith, ap (c.choice t) here, ap (λ (m : ℕ). sum m f) level.pairs, sum_none f)

    passes : barred s (choices_of (set chosen t a)) t ≡ false
    unfolding barred
    passes =
        let f = entry_passes s (choices_of (set chosen t a)) t in
        ap not (ap₂ ◌&&◌ (ap (s.choice_open t) here ∙ level.permitted t a h q) (ap (λ (m : ℕ). all m f) level.pairs ∙ all-zero f))

  -- the partial total at train t: 0, and 1 where all trains are decided
  record Sums (t partial : ℕ) : Type 0 where
    pub before : t < s.trains → partial ≡ 0
    pub last : t ≡ s.trains → partial ≡ 1

  sum_next : (t partial a : ℕ) (chosen : List ℕ) → t < s.trains → a < s.size t → length chosen ≡ max_trains → Sums t partial
      → Sums (t + 1) (partial + added s c (choices_of (set chosen t a)) t)
  sum_next t partial a chosen h q l u =
      record {
        before = λ e. omega (arith, u.before h, adds chosen t a h q l, level.before t a e q);
        last = λ e. omega (arith, u.before h, adds chosen t a h q l, level.last t a e q);
      }

  opened_took : (left t partial : ℕ) (chosen : List ℕ) → t + left ≡ s.trains → length chosen ≡ max_trains → Sums t partial → (w : Walk) → AtLevel w
      → Took (tries_from s.size left t) w (opened_train s c meets budget left t partial chosen w)
  unfolding opened_train
  opened_took zero t partial chosen e l u w k =
      let z = u.last (omega arith) in
      record {
        level = record { unmet = rw z above; one = λ f. z };
        unspent = λ f. f;
        count = λ f. omega (arith, tries_none s.size t);
      }
  opened_took (suc left) t partial chosen e l u w k =
      let h : t < s.trains = omega arith in
      rw (tries_more s.size left t)
      (tries_took (1 + tries_from s.size left (t + 1)) (choice_try s c budget (opened_train s c meets budget left (t + 1)) t partial chosen)
      (s.size t) 0
      (λ a q. let q′ : a < s.size t = omega arith in
      let v = sum_next t partial a chosen h q′ l u in
      try_took budget _ _ (tries_from s.size left (t + 1)) _ (passes chosen t a h q′ l) (ends left v e)
      (opened_took left (t + 1) _ _ (omega arith) (length-set chosen t a ∙ l) v)) w k)
    where
      ends : {v : ℕ} (left : ℕ) → Sums (t + 1) v → t + suc left ≡ s.trains → (v ≡ 0) ⊎ (tries_from s.size left (t + 1) ≡ 0)
      ends zero v e = inr (tries_none s.size (t + 1))
      ends (suc left) v e = inl (v.before (omega arith))

  -- unspent, such a walk has tried everything
  pub level_tries : 0 < s.trains → (walked s c meets budget).spent ≡ false → (walked s c meets budget).count ≡ all_tries s
  unfolding walked
  level_tries h e =
      (opened_took s.trains 0 _ no_choices (omega arith) refl (record { before = λ q. level.constant; last = λ q. absurd (omega arith) })
      nothing_tried (record { unmet = refl; one = λ f. absurd (not_both f refl) })).count e ∙ zero-add _

-- in the order of loading the study stays level
pub ordered_level : {s : Shape} {c : Costs} → Level s c → (order : ℕ → ℕ) → ((d : ℕ) → d < s.trains → order d ≡ d) → Level (ordered_shape order s) (ordered_costs order s c)
ordered_level {s} {c} level order own =
    record {
      constant = level.constant;
      pairs = level.pairs;
      before = λ t a h. subst (λ (j : ℕ). a < s.size j → c.choice j a ≡ 0) (sym (own t (omega arith))) (level.before t a h);
      last = λ t a h. subst (λ (j : ℕ). a < s.size j → c.choice j a ≡ 1) (sym (own t (omega arith))) (level.last t a h);
      permitted = λ t a h. subst (λ (j : ℕ). a < s.size j → s.choice_open j a ≡ true) (sym (own t h)) (level.permitted t a h);
    }
