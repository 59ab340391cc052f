-- What stands in a line from a byte on, by `drop`: a field or a run that was written there reads back, and behind it stands the rest. So a line is read from its beginning to its end, whatever it has and however long it is.
use mathlib.Core.Path.{◌≡◌, refl, sym, ap, ◌∙◌}
use mathlib.Core.List.{List, [], ◌++◌}
use mathlib.Core.Logic.{⊎_elim}
use Prim.Native.Nat.{ℕ, zero, suc, ◌+◌, ◌*◌, ◌<◌, ◌≤◌, ◌^◌}
use native.Mathlib.Nat.{add-zero}
use native.Mathlib.Omega.{arith}
use lib.ListN.{length, drop, length-append}
use lib.Seq.{drop-drop, drop_at}
use Rattle.theory.proofs.Range.{below_suc}
use Rattle.theory.proofs.Sum.{part_inside}
use Rattle.frames.specs.Digits.{bytes}
use Rattle.frames.specs.Fields.{field, field_digits}
use Rattle.frames.proofs.RoundTrip.{field-drop, digits_append, digits-length, field_here}
use Rattle.frames.specs.Runs.{run_digits}
use Rattle.frames.proofs.RunDigits.{run_append, run_length}

-- from byte `at` on, the line has the characters p, and no others
pub record Stands (l : List ℕ) (at : ℕ) (p : List ℕ) : Type 0 where
  pub from : drop (2 * at) l ≡ p
  pub inside : 2 * at + length p ≡ length l

-- a line from its beginning
pub stands_whole : (l : List ℕ) → Stands l 0 l
stands_whole l = record { from = refl; inside = omega arith }

module _ {l : List ℕ} {at : ℕ} where
  -- so many bytes are there
  pub stands_there : {p : List ℕ} → Stands l at p → (w : ℕ) → 2 * w ≤ length p → at + w ≤ bytes l
  stands_there s w h = omega (arith, s.inside)

  -- behind w bytes stands the rest
  pub stands_past : (p rest : List ℕ) (w : ℕ) → Stands l at (p ++ rest) → length p ≡ 2 * w → Stands l (at + w) rest
  stands_past p rest w s e =
      let d : 2 * (at + w) ≡ 2 * at + 2 * w = omega arith in
      record {
        from = rw (d, ← drop-drop (2 * w) (2 * at) l, s.from) (drop_at p rest (2 * w) e);
        inside = omega (arith, s.inside, length-append p rest);
      }

  module _ (w v : ℕ) (rest : List ℕ) (s : Stands l at (field_digits w v rest)) where
    -- a field reads back
    pub stands_field : v < 256 ^ w → field l at w ≡ v
    stands_field h =
        ap (λ (k : ℕ). field l k w) (sym (add-zero at)) ∙ field-drop l at 0 w ∙ ap (λ (p : List ℕ). field p 0 w) s.from ∙ field_here w v rest h

    pub past_field : Stands l (at + w) rest
    past_field =
        stands_past (field_digits w v []) rest w (rw (digits_append w v [] rest) at s) (digits-length w v [] ∙ add-zero (2 * w))

    pub field_inside : at + w ≤ bytes l
    field_inside = stands_there s w (omega (arith, digits-length w v rest))

  module _ (w n : ℕ) (f : ℕ → ℕ) (rest : List ℕ) (s : Stands l at (run_digits w n f rest)) where
    pub past_run : Stands l (at + w * n) rest
    past_run =
        stands_past (run_digits w n f []) rest (w * n) (rw (run_append w n f [] rest) at s) (run_length w n f [] ∙ add-zero (2 * (w * n)))

    pub run_inside : (k : ℕ) → k < n → at + w * k + w ≤ bytes l
    run_inside k h = omega (arith, stands_there s (w * n) (omega (arith, run_length w n f rest)), part_inside w k n h)

module _ {l : List ℕ} {at : ℕ} where
  -- each field of a run reads back
  pub stands_run : (w n : ℕ) (f : ℕ → ℕ) (rest : List ℕ) → Stands l at (run_digits w n f rest) → (k : ℕ) → k < n → f k < 256 ^ w → field l (at + w * k) w ≡ f k
  unfolding run_digits
  stands_run w zero f rest s k h q = absurd (omega arith)
  stands_run w (suc n) f rest s k h q =
      ⊎_elim
      (λ (e : k ≡ n). rw e (stands_field w (f n) rest (past_run w n f (field_digits w (f n) rest) s) (rw e at q)))
      (λ (e : k < n). stands_run w n f (field_digits w (f n) rest) s k e q)
      (below_suc k n h)
