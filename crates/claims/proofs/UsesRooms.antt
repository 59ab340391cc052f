-- What follows from the statement on two rooms (specs/Rooms.antt), which is the premise of each law here: on two lists on the study K, of which one loads it as clauses, wrong replies to the last line; and of every
-- two lists whose ledgers know one study, with nothing forbidden. Of a room that loads what the other saved the premise holds.
use mathlib.Core.Path.{◌≡◌, refl, sym, ap, subst, ◌∙◌}
use mathlib.Core.Bool.{true}
use mathlib.Core.List.{List, [], ◌∷◌}
use Prim.Native.Nat.{ℕ, ◌<◌}
use Prim.Native.String.{String}
use native.Mathlib.Omega.{arith}
use lib.IntN.{ℤ, pos, negsuc}
use Rattle.theory.proofs.Range.{not_both}
use Rattle.tables.specs.Block.{loaded_choice_place, loaded_entry_place, at, nat, figure, trains, pairs, constant, size, first, second}
use Rattle.tables.specs.WellFormed.{is_open, fresh_block, Study}
use Rattle.tables.specs.Plans.{Open}
use Rattle.tables.proofs.Study.{trains_range, pairs_range, size_range, first-below-trains, second-below-trains, SameShape, same_trains, same_scale, same_pairs, same_size, same_first, same_second}
use Rattle.operations.specs.Saved.{SameLoaded}
use Rattle.service.specs.Calls.{Call, Exchange}
use Rattle.claims.specs.Ledger.{Ledger, plain_exchanges}
use Rattle.claims.specs.Claims.{SameStudy}
use Rattle.claims.specs.Rooms.{EqualStudies, says_reached, last_exchange, last_of, block_after, BothReached, RoomsAgree}
use Rattle.claims.proofs.Uses.{told}

-- ---- the study K, whose ceiling is half a point: a room that loads it, and one that loads it as clauses, shifts otherwise and certifies with another W

unfoldable first_room : List Exchange
unfolding told
first_room =
    told "0103000202020200000100000000000000000000000000000003000100000100000000000000000100020000010000000000000000010102000001000000000000000001" "81000000000000000000000000"
    ∷ told "03000000000000000000000001000000000000FFFFFFFFFFFF000000000000000000000000000000000001FFFFFFFFFFFF000000000000000000000000000000000001000000000001000000000000000000000000FFFFFFFFFFFF" "83000000000001000000000001"
    ∷ told "05000002000001000001000001000001000001000001000000000001000001000000000000000001000001000000000000000001000001000000" "85010000000000000002000002"
    ∷ []

-- by the reply to its certificate
unfoldable second_room : String → List Exchange
unfolding told
second_room r =
    told "090300020007FFFE0000010102000001FFFD0000010103000001FEFD0000010203000001FF00000001" "89000000000000000000000000"
    ∷ told "03000000000000000000000000000000000001FFFFFFFFFFFF000000000000000000000000000000000001FFFFFFFFFFFF000000000000000000000000000000000001000000000000FFFFFFFFFFFF000000000001000000000000" "83000000000001000000000001"
    ∷ told "05000004000002000002000002000002000002000002000000000002000002000000000000000002000002000000000000000002000002000000" r
    ∷ []

module _ (agree : RoomsAgree) (calls more : List Call) (e : plain_exchanges fresh_block calls ≡ first_room) (same : EqualStudies (block_after calls) (block_after more)) where
  both_reached : (r : String) → says_reached (last_exchange (second_room r)) ≡ true → plain_exchanges fresh_block more ≡ second_room r → BothReached calls more
  unfolding told first_room last_exchange
  both_reached r y f =
      record {
        one = subst (λ (es : List Exchange). says_reached (last_exchange es) ≡ true) (sym e) refl;
        other = subst (λ (es : List Exchange). says_reached (last_exchange es) ≡ true) (sym f) y;
        equal = same;
      }

  -- E of 3 where W is 4: a ceiling of three quarters of a part
  equal_ceilings : plain_exchanges fresh_block more ≡ second_room "85010000000000000003000004" → ⊥
  unfolding told first_room second_room last_exchange
  equal_ceilings f =
      let w = agree calls more (both_reached "85010000000000000003000004" refl f) in
      let h : ◌≡◌ {A = ℕ} 8 6 = rw (e, f) at w.ceilings in
      omega (arith, h)

  -- constants of 1 and of 2 parts
  equal_constants : plain_exchanges fresh_block more ≡ second_room "85010000000000000004000004" → constant (block_after calls) ≡ 1 → constant (block_after more) ≡ 2 → ⊥
  unfolding told second_room last_exchange
  equal_constants f p q = omega (arith, (agree calls more (both_reached "85010000000000000004000004" refl f)).constants, p, q)

-- ---- lists whose ledgers know one study, with nothing forbidden: H is equal then, so no more is needed

open_number : (z : ℤ) → is_open z ≡ true → z ≡ pos (nat z)
unfolding is_open
open_number (pos n) e = refl
open_number (negsuc n) e = absurd (not_both e refl)

open_same : (b c : List ℤ) (p : ℕ) → is_open (at b p) ≡ true → is_open (at c p) ≡ true → figure b p ≡ figure c p → at b p ≡ at c p
unfolding figure
open_same b c p e f h = open_number (at b p) e ∙ ap pos h ∙ sym (open_number (at c p) f)

module _ {g : Ledger} (o : Open g.shape) (inside : (k : ℕ) → k < g.shape.pairs → (g.shape.first k < g.shape.trains) × (g.shape.second k < g.shape.trains)) where
  equal_studies : {b c : List ℤ} → SameStudy g b → SameStudy g c → EqualStudies b c
  equal_studies {b} {c} s u =
      record {
        trains_same = s.shape_same.trains_same ∙ sym u.shape_same.trains_same;
        scale_same = s.scale_same ∙ sym u.scale_same;
        sizes_same = λ i h. s.shape_same.sizes_same i h ∙ sym (u.shape_same.sizes_same i (over i h));
        pairs_same = s.shape_same.pairs_same ∙ sym u.shape_same.pairs_same;
        firsts_same = λ k h. s.shape_same.firsts_same k h ∙ sym (u.shape_same.firsts_same k (pair_over k h));
        seconds_same = λ k h. s.shape_same.seconds_same k h ∙ sym (u.shape_same.seconds_same k (pair_over k h));
        choices_same = λ i a h q.
            let r : a < size c i = omega (arith, s.shape_same.sizes_same i h, u.shape_same.sizes_same i (over i h)) in
            let t : g.shape.choice_open i a ≡ true = o.choices i a (omega (arith, s.shape_same.trains_same)) (omega (arith, s.shape_same.sizes_same i h)) in
            open_same b c (loaded_choice_place i a) (s.shape_same.choices_open_same i a h q ∙ t) (u.shape_same.choices_open_same i a (over i h) r ∙ t)
            (s.choices_same i a h q ∙ sym (u.choices_same i a (over i h) r));
        entries_same = λ k a d h q r.
            let there = pair_over k h in
            let m = rows s k h in
            let n = rows u k there in
            let row : a < size c (first c k) = omega (arith, m.0, n.0) in
            let column : d < size c (second c k) = omega (arith, m.1, n.1) in
            let t : g.shape.entry_open k a d ≡ true = o.entries k a d (omega (arith, s.shape_same.pairs_same)) (omega (arith, m.0)) (omega (arith, m.1)) in
            open_same b c (loaded_entry_place k a d) (s.shape_same.entries_open_same k a d h q r ∙ t) (u.shape_same.entries_open_same k a d there row column ∙ t)
            (s.entries_same k a d h q r ∙ sym (u.entries_same k a d there row column));
      }
    where
      over : (i : ℕ) → i < trains b → i < trains c
      over i h = omega (arith, s.shape_same.trains_same, u.shape_same.trains_same)

      pair_over : (k : ℕ) → k < pairs b → k < pairs c
      pair_over k h = omega (arith, s.shape_same.pairs_same, u.shape_same.pairs_same)

      rows : {x : List ℤ} → SameStudy g x → (k : ℕ) → k < pairs x → (size x (first x k) ≡ g.shape.size (g.shape.first k)) × (size x (second x k) ≡ g.shape.size (g.shape.second k))
      rows {x} v k h =
          let e = v.shape_same in
          let i = inside k (omega (arith, e.pairs_same)) in
          let f = e.firsts_same k h in
          let j = e.seconds_same k h in
          (e.sizes_same (first x k) (omega (arith, i.0, f, e.trains_same)) ∙ ap g.shape.size f, e.sizes_same (second x k) (omega (arith, i.1, j, e.trains_same)) ∙ ap g.shape.size j)

  same_constants : RoomsAgree → (calls more : List Call) → SameStudy g (block_after calls) → SameStudy g (block_after more)
      → says_reached (last_of calls) ≡ true → says_reached (last_of more) ≡ true → constant (block_after calls) ≡ constant (block_after more)
  same_constants agree calls more s u x y = (agree calls more (record { one = x; other = y; equal = equal_studies s u })).constants

-- ---- a room that loads what the other saved (`LoadAfterSave` in specs/Saves.antt) holds an equal study, whatever is forbidden

module _ {b c : List ℤ} (s : Study b) (e : SameLoaded b c) where
  same_shape : SameShape b c
  same_shape = record { whole = e.whole; kept = e.shape }

  saved_studies : EqualStudies b c
  saved_studies =
      record {
        trains_same = sym (same_trains same_shape);
        scale_same = sym (same_scale same_shape);
        sizes_same = λ i h. sym (same_size same_shape i (omega (arith, trains_range s)));
        pairs_same = sym (same_pairs same_shape);
        firsts_same = λ k h. sym (same_first same_shape k (omega (arith, pairs_range s)));
        seconds_same = λ k h. sym (same_second same_shape k (omega (arith, pairs_range s)));
        choices_same = λ i a h q. sym (e.choices (loaded_choice_place i a) (omega arith) (omega (arith, trains_range s, size_range s i h)));
        entries_same = λ k a d h q r.
            let i = size_range s (first b k) (first-below-trains s k h) in
            let j = size_range s (second b k) (second-below-trains s k h) in
            sym (e.entries (loaded_entry_place k a d) (omega arith) (omega (arith, pairs_range s, i, j)));
      }
