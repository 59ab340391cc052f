-- A line ends at its first line feed, and its length depends on nothing behind that.
use mathlib.Core.Path.{◌≡◌, refl, sym, ◌∙◌, ap}
use mathlib.Core.Bool.{Bool, true, false, not, cond}
use mathlib.Core.List.{List, [], ◌∷◌}
use Prim.Native.Nat.{ℕ, suc, ◌<◌, ◌≤◌}
use native.Mathlib.Numerals.{one-add}
use native.Mathlib.Omega.{arith}
use lib.Dec.{eqb, ltb}
use borrow.Author.Tests.{ltb-false}
use lib.ListN.{length, take}
use Rattle.std.specs.Prelude.{unwrap_or, Some, None}
use Rattle.std.specs.List.{position, position_or_len}
use Rattle.std.proofs.lemmas.List.Sums.{prefix_len-le-length}
use Rattle.std.proofs.lemmas.List.Recursion.{is_position_or_len}
use Rattle.stream.specs.Session.{line_feed}
use Rattle.stream.specs.Parts.{line_length}

-- a line feed ends a line
abbrev pub ends_line : ℕ → Bool
ends_line c = eqb c line_feed

-- the first line feed, or else the end, is where the line ends
pub first_line_feed : (part : List ℕ) → unwrap_or (position ends_line part) (length part) ≡ line_length part
unfolding line_length
first_line_feed part = go (ltb (position_or_len ends_line part) (length part)) refl ∙ sym (is_position_or_len line_length ends_line refl (λ x xs. ap (cond (ends_line x) 0) (sym (one-add (line_length xs)))) part)
  where
    go : (t : Bool) → ltb (position_or_len ends_line part) (length part) ≡ t → unwrap_or (cond t (Some (position_or_len ends_line part)) None) (length part) ≡ position_or_len ends_line part
    go true e = refl
    go false e = omega (arith, ltb-false (position_or_len ends_line part) (length part) e, prefix_len-le-length (λ c. not (ends_line c)) part)

pub line_length_most : (part : List ℕ) → line_length part ≤ length part
unfolding line_length
line_length_most [] = omega arith
line_length_most (c ∷ l) = go (eqb c line_feed) (line_length_most l)
  where
    go : (t : Bool) → line_length l ≤ length l → cond t 0 (suc (line_length l)) ≤ suc (length l)
    go true h = omega arith
    go false h = omega arith

-- the bytes behind its line feed have no say in the length of a line
pub line_length_taken : (part : List ℕ) → line_length part < length part → line_length (take (suc (line_length part)) part) ≡ line_length part
unfolding line_length
line_length_taken [] h = absurd (omega arith)
line_length_taken (c ∷ l) h = go (eqb c line_feed) refl (line_length_taken l)
  where
    go : (t : Bool) → eqb c line_feed ≡ t → (line_length l < length l → line_length (take (suc (line_length l)) l) ≡ line_length l)
        → line_length (take (suc (line_length (c ∷ l))) (c ∷ l)) ≡ line_length (c ∷ l)
    go true e next = rw e
    go false e next =
        let g : suc (line_length l) < suc (length l) = rw e at h in
        rw e (ap suc (next (omega arith)))
