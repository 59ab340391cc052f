-- Laws of written digits: a field after the front that was written before it.
use mathlib.Core.Path.{◌≡◌, refl, sym, ap, ◌∙◌}
use mathlib.Core.List.{List, [], ◌∷◌, ◌++◌, append_assoc, append-nil}
use Prim.Native.Nat.{ℕ, zero, suc, ◌+◌, ◌*◌, ◌-◌, ◌/◌, ◌%◌, ◌<◌, ◌≤◌}
use native.Mathlib.Nat.{add-zero}
use native.Mathlib.Numerals.{add-one}
use native.Mathlib.Omega.{arith}
use lib.ListN.{length, take, drop, set, length-append, take-append-drop, get_or}
use lib.Seq.{sets-eq, take_at, drop_at, take-take, drop-drop, drop-append-add, length-take-le, get_or-append-add, get_or-drop}
use Rattle.theory.proofs.Sum.{part_inside}
use Rattle.frames.specs.Digits.{byte_digits}
use Rattle.frames.specs.Fields.{field_digits}
use Rattle.frames.proofs.RoundTrip.{digits_append, digits-length}
use Rattle.frames.specs.Runs.{run_digits}
use Rattle.frames.proofs.RunDigits.{run_none, run_turn_lem, run_length}
use Rattle.replies.specs.Wrote.{Wrote, written}

-- ---- one byte

-- two stores
pub two_set : (d : List ℕ) (at x y : ℕ) → at + 2 ≤ length d → set (set d at x) (at + 1) y ≡ take at d ++ x ∷ y ∷ drop (at + 2) d
two_set d at x y h = rw add-one (sets-eq (x ∷ y ∷ []) d at h ∙ append_assoc (take at d) (x ∷ y ∷ []) (drop (at + 2) d))

-- ---- a field, from its last byte to its first

-- w bytes are still to be written, of the number r
pub record Still (d : List ℕ) (at width v : ℕ) (b : List ℕ) (r w : ℕ) : Type 0 where
  pub bytes : w ≤ width
  pub whole : length b ≡ length d
  pub before : take (at + 2 * w) b ≡ take (at + 2 * w) d
  pub behind : field_digits w r (drop (at + 2 * w) b) ≡ field_digits width v (drop (at + 2 * width) d)

-- the next byte
pub still_next : {d : List ℕ} {at width v : ℕ} {b : List ℕ} {r : ℕ} (w : ℕ) → Still d at width v b r w → at + 2 * width ≤ length d → 0 < w → {b' : List ℕ} → length b' ≡ length d
    → b' ≡ take (at + 2 * (w - 1)) b ++ byte_digits (r % 256) (drop (at + 2 * (w - 1) + 2) b) → Still d at width v b' (r / 256) (w - 1)
unfolding field_digits
still_next {d} {at} {width} {v} {b} {r} zero s h q g e = absurd (omega arith)
still_next {d} {at} {width} {v} {b} {r} (suc w) s h q {b'} g e =
    let k = at + 2 * w in
    let z : at + 2 * w + 2 ≡ at + 2 * suc w = omega arith in
    let y : suc w - 1 ≡ w = omega arith in
    let t : length (take k b) ≡ k = length-take-le k b (omega (arith, s.whole, s.bytes)) in
    let e' : b' ≡ take k b ++ byte_digits (r % 256) (drop (at + 2 * suc w) b) = rw (y, z) at e in
    rw y
    (record {
      bytes = omega (arith, s.bytes);
      whole = g;
      before =
          ap (take k) e' ∙ take_at (take k b) (byte_digits (r % 256) (drop (at + 2 * suc w) b)) k t
          ∙ sym (take-take k (at + 2 * suc w) b (omega arith)) ∙ ap (take k) s.before ∙ take-take k (at + 2 * suc w) d (omega arith);
      behind = ap (λ (x : List ℕ). field_digits w (r / 256) (drop k x)) e' ∙ rw (drop_at (take k b) (byte_digits (r % 256) (drop (at + 2 * suc w) b)) k t) s.behind;
    })

-- nothing is left
pub still_none : {d : List ℕ} {at width v : ℕ} {b : List ℕ} {r : ℕ} (w : ℕ) → Still d at width v b r w → w ≡ 0 → b ≡ take at d ++ field_digits width v (drop (at + 2 * width) d)
unfolding field_digits
still_none {d} {at} {width} {v} {b} {r} zero s e =
    let z : at + 2 * 0 ≡ at = omega arith in
    sym (take-append-drop at b) ∙ rw (← s.behind, z, ← rw z at s.before)
still_none (suc w) s e = absurd (omega arith)

-- ---- fields one after the other

pub wrote_none : {d : List ℕ} → Wrote d [] d 0
wrote_none = record { count = refl; front = refl }

-- one more field, of the number v
pub wrote_field : {d front b : List ℕ} {at : ℕ} → Wrote d front b at → (w : ℕ) {u v : ℕ} → u ≡ v → {b' : List ℕ} {r : ℕ}
    → (r ≡ at + 2 * w) × (b' ≡ take at b ++ field_digits w u (drop (at + 2 * w) b)) → Wrote d (front ++ field_digits w v []) b' r
wrote_field {d} {front} {b} {at} o w {u} {v} q {b'} {r} (p, e) =
    let n : length (front ++ field_digits w v []) ≡ length front + 2 * w = length-append front (field_digits w v []) ∙ ap (λ (k : ℕ). length front + k) (digits-length w v [] ∙ add-zero (2 * w)) in
    record {
      count = omega (arith, p, n, o.count);
      front =
          rw (
            e,
            q,
            o.front,
            o.count,
            n,
            take_at front (drop (length front) d) (length front) refl,
            drop-append-add front (drop (length front) d) (2 * w),
            drop-drop (2 * w) (length front) d,
            append_assoc,
            ← digits_append w v [] (drop (length front + 2 * w) d),
          );
    }

-- the characters under their definition's name
pub wrote_as : {d front reply b : List ℕ} {n : ℕ} → Wrote d front b n → front ≡ reply → Wrote d reply b n
wrote_as o e = rw e at o

-- a field before other characters, which stand before others
pub digits-first : (w v : ℕ) (p rest : List ℕ) → field_digits w v p ++ rest ≡ field_digits w v (p ++ rest)
digits-first w v p rest = sym (digits_append w v p rest)

-- characters that were written behind the front
pub wrote_through : {d front b : List ℕ} {at : ℕ} → Wrote d front b at → (p : List ℕ) {b' : List ℕ} {r : ℕ} → Wrote b (take at b ++ p) b' r → Wrote d (front ++ p) b' r
wrote_through {d} {front} {b} {at} o p {b'} {r} q =
    let t : take at b ≡ front = rw (o.front, o.count) (take_at front (drop (length front) d) (length front) refl) in
    let n : length (front ++ p) ≡ length front + length p = length-append front p in
    record {
      count = rw t at q.count;
      front = rw t at q.front ∙ rw (o.front, n, drop-append-add front (drop (length front) d) (length p), drop-drop (length p) (length front) d);
    }

-- the front of a buffer, as it is
pub wrote_front : (d : List ℕ) (at : ℕ) → at ≤ length d → Wrote d (take at d) d at
wrote_front d at h =
    let e = length-take-le at d h in
    record { count = sym e; front = rw e (sym (take-append-drop at d)) }

-- where what was written behind a front ends
pub wrote_end : {d b : List ℕ} {at r : ℕ} (p : List ℕ) → Wrote d (take at d ++ p) b r → at ≤ length d → r ≡ at + length p
wrote_end {d} {b} {at} {r} p o h = omega (arith, o.count, length-append (take at d) p, length-take-le at d h)

-- the written front
pub wrote_taken : {d reply b : List ℕ} {n : ℕ} → Wrote d reply b n → take n b ≡ reply
wrote_taken {d} {reply} o = rw (o.front, o.count) (take_at reply (drop (length reply) d) (length reply) refl)

pub wrote_length : {d reply b : List ℕ} {n : ℕ} → Wrote d reply b n → length (take n b) ≡ n
wrote_length o = ap length (wrote_taken o) ∙ sym o.count

-- what lies behind the reply stays
pub written_behind : (reply buffer : List ℕ) (k : ℕ) → get_or (written reply buffer) (length reply + k) 0 ≡ get_or buffer (length reply + k) 0
written_behind reply buffer k = get_or-append-add reply (drop (length reply) buffer) k 0 ∙ get_or-drop (length reply) buffer k 0

-- ---- a run of fields behind a front

module _ {d : List ℕ} {at : ℕ} (h : at ≤ length d) (w : ℕ) (f : ℕ → ℕ) where
  -- no number yet
  pub wrote_run_none : Wrote d (take at d ++ run_digits w 0 f []) d at
  wrote_run_none = wrote_as (wrote_front d at h) (sym (rw (run_none w f []) (append-nil (take at d))))

  module _ {b : List ℕ} {r : ℕ} (k : ℕ) (o : Wrote d (take at d ++ run_digits w k f []) b r) where
    -- where k numbers end
    pub wrote_run_end : r ≡ at + 2 * (w * k)
    wrote_run_end = omega (arith, wrote_end (run_digits w k f []) o h, run_length w k f [])

    -- there is room for one more of n numbers
    pub wrote_run_room : (n : ℕ) → at + 2 * (w * n) ≤ length d → k < n → r + 2 * w ≤ length d
    wrote_run_room n q t = omega (arith, wrote_run_end, part_inside w k n t)

    -- one more number
    pub wrote_run_more : {u : ℕ} → u ≡ f k → {b' : List ℕ} {r' : ℕ} → (r' ≡ r + 2 * w) × (b' ≡ take r b ++ field_digits w u (drop (r + 2 * w) b)) → Wrote d (take at d ++ run_digits w (k + 1) f []) b' r'
    wrote_run_more q e = wrote_as (wrote_field o w q e) (run_turn_lem (take at d) w k f)
