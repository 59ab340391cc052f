-- What a move leaves at each place, for every run of places.
use mathlib.Core.Path.{◌≡◌, refl, sym, ap, ◌∙◌}
use mathlib.Core.List.{List}
use mathlib.Core.Logic.{◌⊎◌, inl, inr, ⊎_elim, dite, ◌≢◌}
use Prim.Native.Nat.{ℕ, zero, suc, ◌+◌, ◌*◌, ◌<◌, ◌≤◌}
use native.Mathlib.Decide.{ℕ_discrete, dec_lt}
use native.Mathlib.Nat.{mul-lt-mul_of_pos_left}
use native.Mathlib.Omega.{arith}
use lib.IntN.{ℤ, pos, neg_ℤ, ◌+ℤ◌}
use lib.ListN.{length, set, length-set}
use lib.Seq.{get_or-set_same, get_or-set_other}
use lib.Signed.{mag}
use Rattle.theory.proofs.Range.{below_suc}
use Rattle.theory.proofs.Fold.{iter-ind}
use Rattle.tables.specs.Block.{at}
use Rattle.rewriting.specs.declared.sides.PlaceRun.{PlaceRun}
use Rattle.rewriting.specs.Moves.{Room, RunIn, run_place, add_at, add_run, move_run}
use Rattle.rewriting.proofs.Words.{mag_plus, mag_neg}

-- a wider room
pub room_more : {b : List ℤ} {h : ℕ} (g : ℕ) → Room b h → h ≤ g → Room b g
room_more g r l = record { room = λ p. omega (arith, r.room p) }

-- ---- a place that is in a run, and one that is not

pub record Met (r : PlaceRun) (p : ℕ) : Type 0 where
  pub turn : ℕ
  pub below : turn < r.count
  pub is : p ≡ run_place r turn

abbrev pub Missed : PlaceRun → ℕ → Type 0
Missed r p = (i : ℕ) → i < r.count → p ≢ run_place r i

-- the first n turns of a run
abbrev pub front : ℕ → PlaceRun → PlaceRun
front n r = record { from = r.from; step = r.step; count = n; to = r.to }

pub meet : (r : PlaceRun) (p : ℕ) → Met r p ⊎ Missed r p
meet r p = go r.count
  where
    go : (n : ℕ) → Met (front n r) p ⊎ Missed (front n r) p
    go zero = inr (λ i h e. omega arith)
    go (suc n) =
        dite (ℕ_discrete p (run_place r n)) (λ e. inl (record { turn = n; below = omega arith; is = e }))
        (λ ne. ⊎_elim
        (λ (m : Met (front n r) p). inl (record { turn = m.turn; below = omega (arith, m.below); is = m.is }))
        (λ (m : Missed (front n r) p). inr (λ i h e. ⊎_elim (λ (q : i ≡ n). ne (rw q at e)) (λ (q : i < n). m i q e) (below_suc i n h)))
        (go n))

pub run_front : {b : List ℤ} {r : PlaceRun} (n : ℕ) → n ≤ r.count → RunIn b r → RunIn b (front n r)
run_front n h o = record { apart = o.apart; inside = λ i l. o.inside i (omega arith); there = o.there }

-- a run of a list as long
pub run_kept : (b c : List ℤ) {r : PlaceRun} → length c ≡ length b → RunIn b r → RunIn c r
run_kept b c e o = record { apart = o.apart; inside = λ i l. rw e (o.inside i l); there = rw e o.there }

-- two turns of a run meet different places
apart : (from step i k : ℕ) → 0 < step → from + step * i ≡ from + step * k → i ≡ k
apart from step i k s e =
    dite (dec_lt i k) (λ (l : i < k). absurd (omega (arith, mul-lt-mul_of_pos_left l s)))
    (λ n. dite (dec_lt k i) (λ (l : k < i). absurd (omega (arith, mul-lt-mul_of_pos_left l s))) (λ m. omega arith))

-- ---- what a store leaves

pub at_set : (b : List ℤ) (q p : ℕ) (z : ℤ) → q < length b → p ≡ q → at (set b q z) p ≡ z
at_set b q p z h e = rw e (get_or-set_same b q z (pos 0) h)

pub at_set_other : (b : List ℤ) (q p : ℕ) (z : ℤ) → p ≢ q → at (set b q z) p ≡ at b p
at_set_other b q p z n = get_or-set_other b q p z (pos 0) n

-- ---- z added over a run

module _ (r : PlaceRun) (z : ℤ) (b : List ℤ) where
  pub add-length : length (add_run r z b) ≡ length b
  add-length = iter-ind (λ _ x. length x ≡ length b) r.count (λ i. add_at (run_place r i) z) b refl (λ i x h e. simp length-set e)

  pub add_missed : (p : ℕ) → Missed r p → at (add_run r z b) p ≡ at b p
  add_missed p m =
      iter-ind (λ _ x. at x p ≡ at b p) r.count (λ i. add_at (run_place r i) z) b refl
      (λ i x h e. at_set_other x (run_place r i) p (at x (run_place r i) +ℤ z) (m i h) ∙ e)

  module _ (o : RunIn b r) where
    pub add_met : (p : ℕ) → Met r p → at (add_run r z b) p ≡ at b p +ℤ z
    add_met p m =
        (iter-ind So r.count (λ i. add_at (run_place r i) z) b (refl, ((λ h. absurd (omega arith)), (λ h. refl))) turn).1.0 m.below
      where
        So : ℕ → List ℤ → Type 0
        So n x = (length x ≡ length b) × ((m.turn < n → at x p ≡ at b p +ℤ z) × (n ≤ m.turn → at x p ≡ at b p))

        turn : (i : ℕ) (x : List ℤ) → i < r.count → So i x → So (i + 1) (add_at (run_place r i) z x)
        turn i x h (len, (done, rest)) = by (ℕ_discrete i m.turn)
          where
            by : Dec (i ≡ m.turn) → So (i + 1) (add_at (run_place r i) z x)
            by (yes e) =
                let f : p ≡ run_place r i = rw e m.is in (
                  simp length-set len,
                  (
                    (λ l. at_set x (run_place r i) p _ (omega (arith, o.inside i h)) f ∙ ap (λ (y : ℤ). y +ℤ z) (rw f at (rest (omega arith)) ∙ ap (at b) (sym f))),
                    (λ l. absurd (omega arith)),
                  ),
                )
            by (no n) =
                let f : p ≢ run_place r i = λ e. n (apart r.from r.step i m.turn o.apart (sym e ∙ m.is)) in (
                  simp length-set len,
                  (
                    (λ l. at_set_other x (run_place r i) p _ f ∙ done (omega arith)),
                    (λ l. at_set_other x (run_place r i) p _ f ∙ rest (omega arith)),
                  ),
                )

    pub add_room : (h : ℕ) → Room b h → Room (add_run r z b) (h + mag z + 1)
    add_room h w =
        record {
          room = λ p. ⊎_elim
              (λ (m : Met r p). rw (add_met p m) (omega (arith, w.room p, mag_plus (at b p) z)))
              (λ (m : Missed r p). rw (add_missed p m) (omega (arith, w.room p)))
              (meet r p);
        }

-- so it is while the run is gone through
pub front_room : {r : PlaceRun} {b : List ℤ} (n : ℕ) (z : ℤ) (h g : ℕ) → n ≤ r.count → RunIn b r → Room b h → h + mag z + 1 ≤ g → Room (add_run (front n r) z b) g
front_room {r} {b} n z h g l o w e = room_more g (add_room (front n r) z b (run_front n l o) h w) e

pub add_at_room : (p : ℕ) (z : ℤ) (b : List ℤ) (h : ℕ) → p < length b → Room b h → Room (add_at p z b) (h + mag z + 1)
add_at_room p z b h l o = record { room = λ q. by q (ℕ_discrete q p) }
  where
    by : (q : ℕ) → Dec (q ≡ p) → mag (at (add_at p z b) q) ≤ h + mag z + 1
    by q (yes e) = rw (at_set b p q (at b p +ℤ z) l e) (omega (arith, o.room p, mag_plus (at b p) z))
    by q (no n) = rw (at_set_other b p q (at b p +ℤ z) n) (omega (arith, o.room q))

-- ---- a move

module _ (r : PlaceRun) (α : ℤ) (b : List ℤ) where
  pub move_length : length (move_run r α b) ≡ length b
  unfolding move_run
  move_length = add-length r (neg_ℤ α) (add_at r.to α b) ∙ length-set b r.to (at b r.to +ℤ α)

  -- a place that is neither in the run nor where the move goes
  pub move_other : (p : ℕ) → p ≢ r.to → Missed r p → at (move_run r α b) p ≡ at b p
  unfolding move_run
  move_other p n m = add_missed r (neg_ℤ α) (add_at r.to α b) p m ∙ at_set_other b r.to p (at b r.to +ℤ α) n

  module _ (o : RunIn b r) where
    still : RunIn (add_at r.to α b) r
    still = run_kept b (add_at r.to α b) (length-set b r.to (at b r.to +ℤ α)) o

    pub move_room : (h : ℕ) → Room b h → Room (move_run r α b) (h + (2 * mag α + 3))
    unfolding move_run
    move_room h w =
        room_more (h + (2 * mag α + 3))
        (add_room r (neg_ℤ α) (add_at r.to α b) still (h + mag α + 1) (add_at_room r.to α b h o.there w))
        (omega (arith, mag_neg α))

    module _ (m : Missed r r.to) where
      pub move_to : (p : ℕ) → p ≡ r.to → at (move_run r α b) p ≡ at b p +ℤ α
      unfolding move_run
      move_to p e = rw e (add_missed r (neg_ℤ α) (add_at r.to α b) r.to m ∙ at_set b r.to r.to (at b r.to +ℤ α) o.there refl)

      pub move_met : (p : ℕ) → Met r p → at (move_run r α b) p ≡ at b p +ℤ neg_ℤ α
      unfolding move_run
      move_met p q =
          add_met r (neg_ℤ α) (add_at r.to α b) still p q
          ∙ ap (λ (y : ℤ). y +ℤ neg_ℤ α) (at_set_other b r.to p (at b r.to +ℤ α) (λ e. m q.turn q.below (sym e ∙ q.is)))
