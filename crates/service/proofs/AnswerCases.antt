-- The ways an answer can come about, in the order of the tests: 17, 16, the line in either form (`form_cases` in radio), of which a late 17 is one (`line_cases` in requests). Whatever holds of each holds of every answer.
use mathlib.Core.Path.{◌≡◌, refl}
use mathlib.Core.Bool.{Bool, true, false, cond}
use mathlib.Core.List.{List, []}
use Prim.Native.Nat.{ℕ, ◌+◌, ◌*◌, ◌<◌, ◌≤◌}
use native.Mathlib.Omega.{arith}
use lib.Dec.{ltb}
use lib.IntN.{ℤ}
use lib.ListN.{length}
use borrow.Author.Tests.{ltb-true, ltb-false}
use Rattle.refusals.specs.declared.Refusal.TheVariants.{Malformed}
use Rattle.tables.specs.WellFormed.{well_formed}
use Rattle.replies.specs.Replies.{longest_fixed}
use Rattle.requests.specs.Answer.{Answer, answered, declined}
use Rattle.radio.specs.Forms.{sum_width}
use Rattle.radio.specs.Answer.{form_answer}
use Rattle.service.specs.Answer.{min_buffer, answer}

-- the smallest buffer has room for every fixed reply in either form
pub fixed_fit : (d : List ℕ) → min_buffer ≤ length d → longest_fixed + 2 * sum_width ≤ length d
fixed_fit d h = omega arith

pub answer_cases : (l : List ℕ) (b : List ℤ) (d : List ℕ) (P : Answer → Type 0)
    → (length d < min_buffer → P (answered b []))
    → (well_formed b ≡ false → P (declined b Malformed))
    → (min_buffer ≤ length d → well_formed b ≡ true → P (form_answer l b (length d)))
    → P (answer l b d)
unfolding answer
answer_cases l b d P small malformed line = go (ltb (length d) min_buffer) (well_formed b) refl refl
  where
    go : (t u : Bool) → ltb (length d) min_buffer ≡ t → well_formed b ≡ u → P (cond t (answered b []) (cond u (form_answer l b (length d)) (declined b Malformed)))
    go true u e f = small (ltb-true (length d) min_buffer e)
    go false false e f = malformed f
    go false true e f = line (ltb-false (length d) min_buffer e) f
