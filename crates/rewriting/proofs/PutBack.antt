-- One more place put back: the loop has gone through a front of the old block, and `kept` of a front leaves the rest as it is.
use mathlib.Core.Path.{◌≡◌, refl, sym, ap, ◌∙◌}
use mathlib.Core.List.{List, [], ◌∷◌}
use Prim.Native.Nat.{ℕ, zero, suc, ◌+◌, ◌<◌, ◌^◌}
use native.Mathlib.Numerals.{add-one}
use native.Mathlib.Omega.{arith}
use lib.IntN.{ℤ, pos, negsuc}
use lib.ListN.{length, set, take}
use lib.Signed.{mag}
use mir.Syntax.{w64}
use mir.Val.{to_z, of_z}
use Rattle.tables.specs.Block.{at}
use Rattle.rewriting.specs.Judged.{kept_number, kept}
use Rattle.rewriting.proofs.Words.{back}

kept_fits : (z y : ℤ) → mag z < 2 ^ 63 → mag y < 2 ^ 63 → mag (kept_number z y) < 2 ^ 63
kept_fits (pos n) y g h = h
kept_fits (negsuc n) y g h = g

-- the next place
kept_next : (old e : List ℤ) (p : ℕ) → length e ≡ length old → p < length old
    → kept (take (suc p) old) e ≡ set (kept (take p old) e) p (kept_number (at old p) (at (kept (take p old) e) p))
unfolding kept
kept_next [] e p l h = absurd (omega arith)
kept_next (x ∷ old) [] p l h = absurd (omega arith)
kept_next (x ∷ old) (y ∷ e) zero l h = refl
kept_next (x ∷ old) (y ∷ e) (suc p) l h = ap (λ (m : List ℤ). kept_number x y ∷ m) (kept_next old e p (omega arith) (omega arith))

-- a turn of the loop: the kept number is stored
pub turn_back : (old e now : List ℤ) (p : ℕ) {r : ℤ} → length e ≡ length old → p < length old → now ≡ kept (take p old) e → mag (at old p) < 2 ^ 63 → mag (at now p) < 2 ^ 63
    → r ≡ kept_number (to_z w64 (of_z w64 (at old p))) (to_z w64 (of_z w64 (at now p))) → set now p (to_z w64 (of_z w64 r)) ≡ kept (take (p + 1) old) e
turn_back old e now p {r} l h so g i f =
    let q : r ≡ kept_number (at old p) (at now p) = f ∙ rw (back (at old p) g, back (at now p) i) in
    let fits : mag r < 2 ^ 63 = rw q (kept_fits (at old p) (at now p) g i) in
    ap (set now p) (back r fits ∙ q) ∙ rw (add-one, so) (sym (kept_next old e p l h))
