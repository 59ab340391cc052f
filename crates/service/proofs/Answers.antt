-- What an answer does not depend on: a buffer that holds the longest reply decides nothing, and lines over the limit are answered alike.
use mathlib.Core.Path.{◌≡◌, refl}
use mathlib.Core.Bool.{Bool, true, false, cond}
use mathlib.Core.List.{List}
use Prim.Native.Nat.{ℕ, ◌<◌, ◌≤◌}
use native.Mathlib.Omega.{arith}
use lib.IntN.{ℤ}
use lib.ListN.{length}
use borrow.Author.Tests.{le-ltb}
use Rattle.refusals.specs.declared.Refusal.TheVariants.{Malformed}
use Rattle.tables.specs.WellFormed.{well_formed}
use Rattle.frames.specs.Frames.{max_characters}
use Rattle.requests.specs.Answer.{declined}
use Rattle.radio.specs.Answer.{longest_form, form_answer}
use Rattle.radio.proofs.Cases.{form_apart, long_form}
use Rattle.service.specs.Answer.{min_buffer, answer}

-- buffers that hold the longest reply decide nothing
pub buffer_apart : (l : List ℕ) (b : List ℤ) (u v : List ℕ) → longest_form ≤ length u → longest_form ≤ length v → answer l b u ≡ answer l b v
unfolding answer
buffer_apart l b u v p q = rw (le-ltb (length u) min_buffer (omega arith), le-ltb (length v) min_buffer (omega arith)) (go (well_formed b) refl)
  where
    go : (t : Bool) → well_formed b ≡ t → cond t (form_answer l b (length u)) (declined b Malformed) ≡ cond t (form_answer l b (length v)) (declined b Malformed)
    go true e = form_apart l b (length u) (length v) p q e
    go false e = refl

-- lines over the limit are all answered alike
pub long_alike : (l k : List ℕ) (b : List ℤ) (d : List ℕ) → max_characters < length l → max_characters < length k → answer l b d ≡ answer k b d
unfolding answer
long_alike l k b d g h = rw (long_form l k b (length d) g h)
