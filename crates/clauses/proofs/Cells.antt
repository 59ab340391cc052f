-- Each clause has one cell, and a plan goes through it just where it fails the clause. By the signs of the two literals.
use mathlib.Core.Path.{◌≡◌, refl, sym, ap, ap₂, ◌∙◌}
use mathlib.Core.Bool.{Bool, true, cond, not, ◌&&◌, and-true, and_self, and_comm}
use mathlib.Core.Logic.{dite}
use Prim.Native.Nat.{ℕ, zero, suc, ◌+◌, ◌*◌, ◌-◌, ◌/◌, ◌%◌, ◌<◌, ◌≤◌, min}
use native.Mathlib.Decide.{dec_lt, ℕ_discrete}
use native.Mathlib.Omega.{arith}
use borrow.Author.Tests.{ltb-true, leb-true, le-leb, lt-ltb, le-ltb, eqb-true, eqb-false, eq-eqb, ne_eqb, not-true}
use lib.Dec.{ltb, leb, eqb}
use lib.IntN.{ℤ, pos, negsuc, nat_abs}
use Rattle.theory.specs.Sum.{sum}
use Rattle.tables.specs.Block.{max_trains, at}
use Rattle.theory.proofs.Range.{both_true, bool_ext}
use Rattle.clauses.specs.Clauses.{Clauses, count, literals_right, Clear, meets, failed, train_of, failing, code_of, clause_choices, clause_entries, max_codes, cell_at, cell_of, other_of, cell_from, clause_cell}
use Rattle.clauses.proofs.Sums.{sum_only}

-- ---- literals

-- of two choices a plan takes one
other_of_two : (a : ℕ) → a < clause_choices → (not (eqb a 0) ≡ eqb a 1) × (not (eqb a 1) ≡ eqb a 0)
other_of_two zero h = (refl, refl)
other_of_two (suc zero) h = (refl, refl)
other_of_two (suc (suc a)) h = absurd (omega arith)

-- a plan that does not meet a literal takes the choice that fails it
fails_literal : (x : ℕ → ℕ) (z : ℤ) → 0 < nat_abs z → x (train_of z) < clause_choices → not (meets x z) ≡ eqb (x (train_of z)) (failing z)
unfolding meets
fails_literal x (pos zero) h q = absurd (omega arith)
fails_literal x (pos (suc i)) h q = let e : suc i - 1 ≡ i = omega arith in rw e (other_of_two (x i) (rw e at q)).0
fails_literal x (negsuc i) h q = let e : suc i - 1 ≡ i = omega arith in rw e (other_of_two (x i) (rw e at q)).1

-- 0 is never met
none_met : (x : ℕ → ℕ) (z : ℤ) → nat_abs z ≡ 0 → not (meets x z) ≡ true
unfolding meets
none_met x (pos zero) e = refl
none_met x (pos (suc i)) e = absurd (omega arith)
none_met x (negsuc i) e = absurd (omega arith)

pub failing_small : (z : ℤ) → failing z < clause_choices
failing_small (pos n) = omega arith
failing_small (negsuc n) = omega arith

-- what 19 leaves
pub record Right (n : ℕ) (z w : ℤ) : Type 0 where
  pub some : 0 < nat_abs z
  pub first : nat_abs z ≤ n
  pub second : nat_abs w ≤ n
  pub apart : nat_abs z ≡ nat_abs w → ⊥

pub literals_right_lem : (n : ℕ) (z w : ℤ) → literals_right n z w ≡ true → Right n z w
unfolding literals_right
literals_right_lem n z w e =
    let p = both_true (ltb 0 (nat_abs z) && leb (nat_abs z) n) (leb (nat_abs w) n && not (eqb (nat_abs z) (nat_abs w))) e in
    let q = both_true (ltb 0 (nat_abs z)) (leb (nat_abs z) n) p.0 in
    let r = both_true (leb (nat_abs w) n) (not (eqb (nat_abs z) (nat_abs w))) p.1 in
    record { some = ltb-true _ _ q.0; first = leb-true _ _ q.1; second = leb-true _ _ r.0; apart = eqb-false _ _ (not-true _ r.1) }

right_literals : (n : ℕ) (z w : ℤ) → Right n z w → literals_right n z w ≡ true
unfolding literals_right
right_literals n z w r =
    rw (lt-ltb 0 (nat_abs z) r.some, le-leb (nat_abs z) n r.first, le-leb (nat_abs w) n r.second, ne_eqb (nat_abs z) (nat_abs w) r.apart)

-- the two literals of a clause, where a clause of one has its first twice
pub other_right : {n : ℕ} {z w : ℤ} → Right n z w → (1 ≤ nat_abs (other_of z w)) × (nat_abs (other_of z w) ≤ n)
unfolding other_of
other_right {n} {z} {w} r =
    dite (ℕ_discrete (nat_abs w) 0)
    (λ (e : nat_abs w ≡ 0). rw (eq-eqb (nat_abs w) 0 e) (r.some, r.first))
    (λ m. rw (ne_eqb (nat_abs w) 0 m) (omega arith, r.second))

-- clauses over n trains are clauses over more
pub clear_wider : {n : ℕ} {cs : Clauses} (m : ℕ) → n ≤ m → Clear n cs → Clear m cs
clear_wider {n} {cs} m h g =
    record { few = g.few; same = g.same; literals = λ k q. wider (at cs.firsts k) (at cs.seconds k) (g.literals k q); weights = g.weights }
  where
    wider : (z w : ℤ) → literals_right n z w ≡ true → literals_right m z w ≡ true
    wider z w e = right_literals m z w (let r = literals_right_lem n z w e in record { some = r.some; first = omega (arith, r.first); second = omega (arith, r.second); apart = r.apart })

-- ---- the cell of a clause

-- choice a of train i with choice c of train j, the smaller first, and that a plan of two choices goes through it where the test holds
pub record Cell (n o : ℕ) (test : (ℕ → ℕ) → Bool) : Type 0 where
  pub i : ℕ
  pub a : ℕ
  pub j : ℕ
  pub c : ℕ
  pub is : o ≡ cell_at i a j c
  pub ascends : i ≤ j
  pub inside : j < n
  pub small : (a < clause_choices) × (c < clause_choices)
  pub fails : (x : ℕ → ℕ) → ((t : ℕ) → t < n → x t < clause_choices) → test x ≡ eqb (x i) a && eqb (x j) c

-- two literals of trains that are there
two_cell : (n : ℕ) (z w : ℤ) → 0 < nat_abs z → nat_abs z ≤ n → 0 < nat_abs w → nat_abs w ≤ n → Cell n (cell_of z w) (λ x. not (meets x z) && not (meets x w))
unfolding cell_of
two_cell n z w p q r s =
    dite (dec_lt (train_of w) (train_of z))
    (λ (l : train_of w < train_of z). record {
      i = train_of w;
      a = failing w;
      j = train_of z;
      c = failing z;
      is = rw (lt-ltb (train_of w) (train_of z) l);
      ascends = omega arith;
      inside = omega arith;
      small = (failing_small w, failing_small z);
      fails = λ x h. ap₂ ◌&&◌ (fails_literal x z p (h (train_of z) (omega arith))) (fails_literal x w r (h (train_of w) (omega arith))) ∙ and_comm (eqb (x (train_of z)) (failing z)) (eqb (x (train_of w)) (failing w));
    })
    (λ m. record {
      i = train_of z;
      a = failing z;
      j = train_of w;
      c = failing w;
      is = rw (le-ltb (train_of w) (train_of z) (omega arith));
      ascends = omega arith;
      inside = omega arith;
      small = (failing_small z, failing_small w);
      fails = λ x h. ap₂ ◌&&◌ (fails_literal x z p (h (train_of z) (omega arith))) (fails_literal x w r (h (train_of w) (omega arith)));
    })

module _ {n : ℕ} {cs : Clauses} (g : Clear n cs) (k : ℕ) (h : k < count cs) where
  pub clause_cell_lem : Cell n (clause_cell cs k) (λ x. failed cs x k)
  unfolding cell_from other_of failed
  clause_cell_lem =
      let z = at cs.firsts k in
      let w = at cs.seconds k in
      let r = literals_right_lem n z w (g.literals k h) in
      dite (ℕ_discrete (nat_abs w) 0)
      (λ (e : nat_abs w ≡ 0). rw (eq-eqb (nat_abs w) 0 e) (alone z w r.some r.first e))
      (λ m. rw (ne_eqb (nat_abs w) 0 m) (two_cell n z w r.some r.first (omega arith) r.second))
    where
      -- a clause of one
      alone : (z w : ℤ) → 0 < nat_abs z → nat_abs z ≤ n → nat_abs w ≡ 0 → Cell n (cell_of z z) (λ x. not (meets x z) && not (meets x w))
      alone z w p q e =
          let t = two_cell n z z p q p q in
          record {
            i = t.i;
            a = t.a;
            j = t.j;
            c = t.c;
            is = t.is;
            ascends = t.ascends;
            inside = t.inside;
            small = t.small;
            fails = λ x h. ap (λ (b : Bool). not (meets x z) && b) (none_met x w e) ∙ and-true (not (meets x z)) ∙ sym (and_self (not (meets x z))) ∙ t.fails x h;
          }

-- ---- the cells that a plan goes through: one for each code

-- where a plan of two choices goes through the cells of code o
abbrev pub plan_cell : (ℕ → ℕ) → ℕ → ℕ
plan_cell x o = clause_entries * o + (clause_choices * min 1 (x (o / max_trains)) + min 1 (x (o % max_trains)))

-- a plan goes through a cell just where it takes both its choices
same_cell : (x : ℕ → ℕ) (i a j c : ℕ) → i < max_trains → j < max_trains → a < clause_choices → c < clause_choices → x i < clause_choices → x j < clause_choices
    → eqb (cell_at i a j c) (plan_cell x (code_of i j)) ≡ eqb (x i) a && eqb (x j) c
same_cell x i a j c p q r s t u =
    let e : (max_trains * i + j) / max_trains ≡ i = omega arith in
    let f : (max_trains * i + j) % max_trains ≡ j = omega arith in
    rw (e, f)
    (bool_ext (eqb (cell_at i a j c) (clause_entries * code_of i j + (clause_choices * min 1 (x i) + min 1 (x j)))) (eqb (x i) a && eqb (x j) c)
    (λ b. let d = eqb-true (cell_at i a j c) (clause_entries * code_of i j + (clause_choices * min 1 (x i) + min 1 (x j))) b in
    rw (eq-eqb (x i) a (omega arith), eq-eqb (x j) c (omega arith)))
    (λ b. let d = both_true (eqb (x i) a) (eqb (x j) c) b in
    eq-eqb (cell_at i a j c) (clause_entries * code_of i j + (clause_choices * min 1 (x i) + min 1 (x j))) (omega (arith, eqb-true (x i) a d.0, eqb-true (x j) c d.1))))

-- of all codes, a plan meets a clause's cell at the clause's own, where it fails the clause
pub cell_term : {n o : ℕ} {test : (ℕ → ℕ) → Bool} → n ≤ max_trains → Cell n o test → (x : ℕ → ℕ) → ((t : ℕ) → t < n → x t < clause_choices) → (v : ℕ)
    → sum max_codes (λ p. cond (eqb o (plan_cell x p)) v 0) ≡ cond (test x) v 0
cell_term {n} {o} {test} few d x plan v =
    let p : d.i < max_trains = omega (arith, d.ascends, d.inside) in
    let q : d.j < max_trains = omega (arith, d.inside) in
    let e : eqb o (plan_cell x (code_of d.i d.j)) ≡ test x =
    ap (λ (c : ℕ). eqb c (plan_cell x (code_of d.i d.j))) d.is
    ∙ same_cell x d.i d.a d.j d.c p q d.small.0 d.small.1 (plan d.i (omega (arith, d.ascends, d.inside))) (plan d.j d.inside)
    ∙ sym (d.fails x plan) in
    sum_only max_codes (code_of d.i d.j) (λ p. cond (eqb o (plan_cell x p)) v 0) (omega arith)
    (λ p l m. ap (λ (b : Bool). cond b v 0) (ne_eqb o (plan_cell x p) (λ c. m (omega (arith, d.is, d.small)))))
    ∙ ap (λ (b : Bool). cond b v 0) e
