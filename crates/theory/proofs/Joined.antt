-- Laws of lists that are joined of parts, one after the other, and of loops that write them part by part.
use mathlib.Core.Path.{◌≡◌, refl, sym, ◌∙◌, ap}
use mathlib.Core.List.{List, [], ◌++◌}
use mathlib.Core.Logic.{⊎_elim, dite}
use Prim.Native.Nat.{ℕ, zero, suc, ◌+◌, ◌-◌, ◌<◌, ◌≤◌}
use native.Mathlib.Decide.{dec_lt}
use native.Mathlib.Numerals.{add-one}
use native.Mathlib.Omega.{arith}
use lib.ListN.{length, take, drop, length-append, get_or-append}
use lib.Seq.{get_or-append-add, take-add, take_all, paste, take-paste}
use Rattle.theory.specs.Sum.{sum}
use Rattle.theory.specs.Lists.{nth, joined}
use Rattle.theory.proofs.Range.{below_suc}
use Rattle.theory.proofs.Sum.{sum_none, sum_more, sum_part}
use Rattle.theory.proofs.Lists.{paste_append}

pub joined_none : (f : ℕ → List ℕ) → joined 0 f ≡ []
unfolding joined
joined_none f = refl

-- ---- what holds of every entry, and of 0

module _ (P : ℕ → Type 0) (none : P 0) where
  append-all : (p q : List ℕ) → ((o : ℕ) → P (nth p o)) → ((o : ℕ) → P (nth q o)) → (o : ℕ) → P (nth (p ++ q) o)
  append-all p q f g o =
      dite (dec_lt o (length p))
      (λ (h : o < length p). rw (get_or-append p q 0 o h) (f o))
      (λ (h : o < length p → ⊥).
      let e : o ≡ length p + (o - length p) = omega (arith, h) in
      rw (ap (nth (p ++ q)) e, get_or-append-add p q (o - length p) 0) (g (o - length p)))

  pub joined-all : (n : ℕ) (f : ℕ → List ℕ) → ((i : ℕ) → i < n → (o : ℕ) → P (nth (f i) o)) → (o : ℕ) → P (nth (joined n f) o)
  unfolding joined
  joined-all zero f h o = none
  joined-all (suc n) f h o = append-all (joined n f) (f n) (joined-all n f (λ i q. h i (omega arith))) (h n (omega arith)) o

-- ---- parts of known lengths

module _ (f : ℕ → List ℕ) (len : ℕ → ℕ) where
  pub joined_length : (n : ℕ) → ((i : ℕ) → i < n → length (f i) ≡ len i) → length (joined n f) ≡ sum n len
  unfolding joined
  joined_length zero h = sym (sum_none len)
  joined_length (suc n) h =
      rw (← add-one n, sum_more n len) (length-append (joined n f) (f n) ∙ (λ j. joined_length n (λ i q. h i (omega arith)) j + h n (omega arith) j))

  -- entry o of part i
  pub joined-nth : (n : ℕ) → ((i : ℕ) → i < n → length (f i) ≡ len i) → (i o : ℕ) → i < n → o < len i → nth (joined n f) (sum i len + o) ≡ nth (f i) o
  unfolding joined
  joined-nth zero h i o q t = absurd (omega arith)
  joined-nth (suc n) h i o q t =
      let g = joined_length n (λ j w. h j (omega arith)) in
      ⊎_elim
      (λ (e : i ≡ n). rw (e, ← g) (get_or-append-add (joined n f) (f n) o 0))
      (λ (e : i < n).
      get_or-append (joined n f) (f n) 0 (sum i len + o) (omega (arith, sum_part n i len e)) ∙ joined-nth n (λ j w. h j (omega arith)) i o e t)
      (below_suc i n q)

  -- the parts of a list, one after the other, are its front
  pub joined_is : (s : List ℕ) (n : ℕ) → ((i : ℕ) → i < n → f i ≡ take (len i) (drop (sum i len) s)) → joined n f ≡ take (sum n len) s
  unfolding joined
  joined_is s zero h = rw (sum_none len)
  joined_is s (suc n) h =
      rw (← add-one n, sum_more n len, take-add (sum n len) (len n) s, joined_is s n (λ i q. h i (omega arith)), h n (omega arith))

-- ---- loops that write one part after the other

-- the parts stand in the front of a slice, and the next is written behind them
pub joined_turn : (f : ℕ → List ℕ) (i : ℕ) (out : List ℕ) (start n : ℕ) {out' p : List ℕ}
    → take start out ≡ joined i f → p ≡ f i → length p ≡ n → start + n ≤ length out → out' ≡ paste out start p n → take (start + n) out' ≡ joined (i + 1) f
unfolding joined
joined_turn f i out start n {out'} {p} e g h q t =
    rw (t, add-one) (take-paste out start p n (omega arith) (omega arith) ∙ rw (e, take_all n p (omega arith), g))

-- the first parts are pasted, and the next is pasted behind them
pub joined_paste : (f : ℕ → List ℕ) (i : ℕ) (d : List ℕ) (at n m : ℕ) {out out' p : List ℕ}
    → out ≡ paste d at (joined i f) n → length (joined i f) ≡ n → p ≡ f i → length p ≡ m → at + (n + m) ≤ length d → out' ≡ paste out (at + n) p m
    → out' ≡ paste d at (joined (i + 1) f) (n + m)
unfolding joined
joined_paste f i d at n m {out} {out'} {p} e len g h q t =
    t ∙ ap (λ (o : List ℕ). paste o (at + n) p m) e ∙ paste_append d at (joined i f) p n m len h q ∙ rw (g, add-one)
