-- Two lines that are the same up to a byte have the same fields up to it, whatever stands behind.
use mathlib.Core.Path.{◌≡◌, refl, sym, ap, ap₂, ◌∙◌}
use mathlib.Core.List.{List}
use Prim.Native.Nat.{ℕ, zero, suc, ◌+◌, ◌*◌, ◌<◌, ◌≤◌}
use native.Mathlib.Omega.{arith}
use lib.ListN.{take}
use lib.Seq.{get_or-take}
use Rattle.frames.specs.Digits.{byte_at}
use Rattle.frames.specs.Fields.{field}

byte_front : (l : List ℕ) (m i : ℕ) → 2 * i + 1 < m → byte_at (take m l) i ≡ byte_at l i
unfolding byte_at
byte_front l m i h = rw (get_or-take m l (2 * i) 0 (omega arith), get_or-take m l (2 * i + 1) 0 h)

field_front : (l : List ℕ) (m at w : ℕ) → 2 * (at + w) ≤ m → field (take m l) at w ≡ field l at w
unfolding field
field_front l m at zero h = refl
field_front l m at (suc w) h = ap₂ (λ (x y : ℕ). 256 * x + y) (field_front l m at w (omega arith)) (byte_front l m (at + w) (omega arith))

pub same_field : (l k : List ℕ) (m : ℕ) → take m l ≡ take m k → (at w : ℕ) → 2 * (at + w) ≤ m → field l at w ≡ field k at w
same_field l k m e at w h = sym (field_front l m at w h) ∙ ap (λ (p : List ℕ). field p at w) e ∙ field_front k m at w h
