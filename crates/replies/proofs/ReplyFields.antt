-- Laws of numbers in fields, one after the other: how long they are, one more of them, and that each reads back.
use mathlib.Core.Path.{◌≡◌, refl, sym, ap, ◌∙◌}
use mathlib.Core.List.{List, [], ◌∷◌, ◌++◌}
use Prim.Native.Nat.{ℕ, zero, suc, ◌+◌, ◌*◌, ◌<◌, ◌≤◌, ◌^◌}
use native.Mathlib.Nat.{add-zero, zero-add, add_assoc}
use native.Mathlib.Numerals.{add-one}
use native.Mathlib.Omega.{arith}
use lib.ListN.{length, take}
use Rattle.theory.specs.Lists.{nth}
use Rattle.frames.specs.Fields.{field_digits, field}
use Rattle.frames.proofs.RoundTrip.{digits-length}
use Rattle.frames.specs.Runs.{run_digits}
use Rattle.frames.proofs.Stands.{Stands, stands_whole, stands_field, past_field, stands_run}
use Rattle.replies.specs.Replies.{fields_digits, bytes_in}
use Rattle.replies.specs.Shown.{shown_in, shown_behind}
use Rattle.replies.specs.Wrote.{Wrote}
use Rattle.replies.proofs.Writing.{digits-first}

-- ---- how long they are

pub fields_length : (ws vs rest : List ℕ) → length vs ≡ length ws → length (fields_digits ws vs rest) ≡ 2 * bytes_in ws + length rest
unfolding fields_digits
fields_length [] vs rest e = omega arith
fields_length (w ∷ ws) [] rest e = absurd (omega arith)
fields_length (w ∷ ws) (v ∷ vs) rest e = omega (arith, digits-length w v (fields_digits ws vs rest), fields_length ws vs rest (omega arith))

-- where they end
pub fields_end : (ws vs : List ℕ) {d b : List ℕ} {n : ℕ} → length vs ≡ length ws → Wrote d (fields_digits ws vs []) b n → n ≡ 2 * bytes_in ws
fields_end ws vs e o = omega (arith, o.count, fields_length ws vs [] e)

-- ---- writing

-- before characters that stand before others
pub fields_first : (ws vs p rest : List ℕ) → fields_digits ws vs p ++ rest ≡ fields_digits ws vs (p ++ rest)
unfolding fields_digits
fields_first [] vs p rest = refl
fields_first (w ∷ ws) [] p rest = refl
fields_first (w ∷ ws) (v ∷ vs) p rest = digits-first w v (fields_digits ws vs p) rest ∙ ap (field_digits w v) (fields_first ws vs p rest)

-- none yet
pub fields_none : [] ≡ fields_digits [] [] []
unfolding fields_digits
fields_none = refl

-- one more field: a turn of a loop that writes them
fields_next : (ws vs : List ℕ) (k : ℕ) (rest : List ℕ) → k < length ws → length vs ≡ length ws
    → fields_digits (take k ws) (take k vs) (field_digits (nth ws k) (nth vs k) rest) ≡ fields_digits (take (suc k) ws) (take (suc k) vs) rest
unfolding fields_digits
fields_next [] vs k rest h e = absurd (omega arith)
fields_next (w ∷ ws) [] k rest h e = absurd (omega arith)
fields_next (w ∷ ws) (v ∷ vs) zero rest h e = refl
fields_next (w ∷ ws) (v ∷ vs) (suc k) rest h e = ap (field_digits w v) (fields_next ws vs k rest (omega arith) (omega arith))

pub fields_more : (ws vs : List ℕ) (k : ℕ) → k < length ws → length vs ≡ length ws
    → fields_digits (take k ws) (take k vs) [] ++ field_digits (nth ws k) (nth vs k) [] ≡ fields_digits (take (k + 1) ws) (take (k + 1) vs) []
fields_more ws vs k h e = rw add-one (fields_first (take k ws) (take k vs) [] (field_digits (nth ws k) (nth vs k) []) ∙ fields_next ws vs k [] h e)

-- the bytes of one more field
pub bytes_more : (ws : List ℕ) (k : ℕ) → k < length ws → bytes_in (take (k + 1) ws) ≡ bytes_in (take k ws) + nth ws k
bytes_more ws k h = rw add-one (go ws k h)
  where
    go : (ws : List ℕ) (k : ℕ) → k < length ws → bytes_in (take (suc k) ws) ≡ bytes_in (take k ws) + nth ws k
    go [] k h = absurd (omega arith)
    go (w ∷ ws) zero h = omega arith
    go (w ∷ ws) (suc k) h = omega (arith, go ws k (omega arith))

-- a field is inside
pub bytes_inside : (ws : List ℕ) (k : ℕ) → k < length ws → bytes_in (take k ws) + nth ws k ≤ bytes_in ws
bytes_inside [] k h = absurd (omega arith)
bytes_inside (w ∷ ws) zero h = omega arith
bytes_inside (w ∷ ws) (suc k) h = omega (arith, bytes_inside ws k (omega arith))

-- ---- reading back

module _ {l : List ℕ} where
  -- behind the fields stands the rest
  past_fields : (at : ℕ) (ws vs rest : List ℕ) → length vs ≡ length ws → Stands l at (fields_digits ws vs rest) → Stands l (at + bytes_in ws) rest
  unfolding fields_digits
  past_fields at [] vs rest e s = rw add-zero s
  past_fields at (w ∷ ws) [] rest e s = absurd (omega arith)
  past_fields at (w ∷ ws) (v ∷ vs) rest e s = rw (← add_assoc at w (bytes_in ws)) (past_fields (at + w) ws vs rest (omega arith) (past_field w v (fields_digits ws vs rest) s))

  -- field k
  stands_fields : (at : ℕ) (ws vs rest : List ℕ) (k : ℕ) → length vs ≡ length ws → Stands l at (fields_digits ws vs rest) → k < length ws → nth vs k < 256 ^ nth ws k
      → field l (at + bytes_in (take k ws)) (nth ws k) ≡ nth vs k
  unfolding fields_digits
  stands_fields at [] vs rest k e s h q = absurd (omega arith)
  stands_fields at (w ∷ ws) [] rest k e s h q = absurd (omega arith)
  stands_fields at (w ∷ ws) (v ∷ vs) rest zero e s h q = rw add-zero (stands_field w v (fields_digits ws vs rest) s q)
  stands_fields at (w ∷ ws) (v ∷ vs) rest (suc k) e s h q =
      rw (← add_assoc at w (bytes_in (take k ws))) (stands_fields (at + w) ws vs rest k (omega arith) (past_field w v (fields_digits ws vs rest) s) (omega arith) q)

module _ (ws vs rest : List ℕ) (e : length vs ≡ length ws) where
  -- field k reads back
  pub fields_shown : (k : ℕ) → k < length ws → nth vs k < 256 ^ nth ws k → shown_in ws k (fields_digits ws vs rest) ≡ nth vs k
  fields_shown k h q =
      ap (λ (at : ℕ). field (fields_digits ws vs rest) at (nth ws k)) (sym (zero-add (bytes_in (take k ws)))) ∙ stands_fields 0 ws vs rest k e (stands_whole (fields_digits ws vs rest)) h q

-- and so does number i of a run behind
pub run_shown : (ws vs : List ℕ) (w n : ℕ) (f : ℕ → ℕ) (rest : List ℕ) → length vs ≡ length ws → (i : ℕ) → i < n → f i < 256 ^ w
    → shown_behind ws w i (fields_digits ws vs (run_digits w n f rest)) ≡ f i
run_shown ws vs w n f rest e i h q =
    let l = fields_digits ws vs (run_digits w n f rest) in
    let s : Stands l (0 + bytes_in ws) (run_digits w n f rest) = past_fields 0 ws vs (run_digits w n f rest) e (stands_whole l) in
    stands_run w n f rest (rw zero-add at s) i h q
