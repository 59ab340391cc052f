-- Laws of runs of digits, by the number of fields: how long they are, what they read back, and that they go by their numbers alone.
use mathlib.Core.Path.{◌≡◌, refl, sym, ap, ◌∙◌}
use mathlib.Core.Bool.{true}
use mathlib.Core.List.{List, [], ◌++◌, append_assoc}
use Prim.Native.Nat.{ℕ, zero, suc, ◌+◌, ◌*◌, ◌<◌}
use native.Mathlib.Nat.{mul-zero, mul-suc, zero-add}
use native.Mathlib.Numerals.{add-one}
use native.Mathlib.Omega.{arith}
use lib.ListN.{length}
use Rattle.theory.specs.Lists.{list_of, nth}
use Rattle.theory.proofs.Lists.{list_length, list_nth}
use Rattle.frames.specs.Fields.{field_digits}
use Rattle.frames.specs.Runs.{run_digits}
use Rattle.frames.specs.Frames.{all_digits}
use Rattle.frames.proofs.RoundTrip.{digits_append, digits-length, digits-digits}

pub run_none : (w : ℕ) (f : ℕ → ℕ) (rest : List ℕ) → run_digits w 0 f rest ≡ rest
unfolding run_digits
run_none w f rest = refl

-- equal numbers, equal digits
pub run_cong : (w n : ℕ) (f g : ℕ → ℕ) (rest : List ℕ) → ((k : ℕ) → k < n → f k ≡ g k) → run_digits w n f rest ≡ run_digits w n g rest
unfolding run_digits
run_cong w zero f g rest e = refl
run_cong w (suc n) f g rest e = rw (e n (omega arith)) (run_cong w n f g (field_digits w (g n) rest) (λ k h. e k (omega arith)))

pub run_append : (w n : ℕ) (f : ℕ → ℕ) (p rest : List ℕ) → run_digits w n f (p ++ rest) ≡ run_digits w n f p ++ rest
unfolding run_digits
run_append w zero f p rest = refl
run_append w (suc n) f p rest = rw (digits_append w (f n) p rest) (run_append w n f (field_digits w (f n) p) rest)

pub run_length : (w n : ℕ) (f : ℕ → ℕ) (rest : List ℕ) → length (run_digits w n f rest) ≡ 2 * (w * n) + length rest
unfolding run_digits
run_length w zero f rest = omega (arith, mul-zero w)
run_length w (suc n) f rest = omega (arith, run_length w n f (field_digits w (f n) rest), digits-length w (f n) rest, mul-suc w n)

-- its characters are digits
pub run_digits_lem : (w n : ℕ) (f : ℕ → ℕ) (rest : List ℕ) → all_digits rest ≡ true → all_digits (run_digits w n f rest) ≡ true
unfolding run_digits
run_digits_lem w zero f rest e = e
run_digits_lem w (suc n) f rest e = run_digits_lem w n f (field_digits w (f n) rest) (digits-digits w (f n) rest e)

-- one more number: a turn of a loop that writes them
run_more : (w n : ℕ) (f : ℕ → ℕ) → run_digits w n f [] ++ field_digits w (f n) [] ≡ run_digits w (n + 1) f []
unfolding run_digits
run_more w n f = rw add-one (sym (run_append w n f [] (field_digits w (f n) [])))

pub run_turn_lem : (p : List ℕ) (w n : ℕ) (f : ℕ → ℕ) → p ++ run_digits w n f [] ++ field_digits w (f n) [] ≡ p ++ run_digits w (n + 1) f []
run_turn_lem p w n f = append_assoc p (run_digits w n f []) (field_digits w (f n) []) ∙ ap (λ (l : List ℕ). p ++ l) (run_more w n f)

-- before characters that stand before others
pub run_first : (w n : ℕ) (f : ℕ → ℕ) (p rest : List ℕ) → run_digits w n f p ++ rest ≡ run_digits w n f (p ++ rest)
run_first w n f p rest = sym (run_append w n f p rest)

-- all numbers of a list, counted from its first
pub run_whole : (w : ℕ) (list : List ℕ) (rest : List ℕ) → run_digits w (length list) (λ k. nth list (0 + k)) rest ≡ run_digits w (length list) (nth list) rest
run_whole w list rest = run_cong w (length list) (λ k. nth list (0 + k)) (nth list) rest (λ k h. ap (nth list) (zero-add k))

-- the numbers of a list that is given by its entries
pub run_list : (w n : ℕ) (f : ℕ → ℕ) (rest : List ℕ) → run_digits w (length (list_of n f)) (nth (list_of n f)) rest ≡ run_digits w n f rest
run_list w n f rest = rw (list_length f n) (run_cong w n (nth (list_of n f)) f rest (λ k h. list_nth f 0 n k h))
