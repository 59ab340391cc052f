-- Laws of lists given by their entries, and of loops that write them.
use mathlib.Core.Path.{◌≡◌, refl, sym, ap, subst, ◌∙◌}
use mathlib.Core.List.{List, [], ◌∷◌, ◌++◌, append-nil, append_assoc}
use mathlib.Core.Logic.{dite}
use Prim.Native.Nat.{ℕ, zero, suc, ◌+◌, ◌-◌, ◌<◌, ◌≤◌}
use native.Mathlib.Decide.{dec_lt}
use native.Mathlib.Nat.{add-zero, zero-add, add_assoc}
use native.Mathlib.Numerals.{add-one}
use native.Mathlib.Omega.{arith}
use lib.ListN.{length, get_or, set, take, drop, replicate, length-append, length-drop, length-replicate, get_or-eq_default}
use lib.Seq.{ext_get_or, length-take-le, get_or-take, get_or-drop, take_all, drop-drop, paste, paste-suc, take-paste, drop-paste, take-length, drop-length}
use Rattle.theory.specs.Lists.{list_from, list_of, nth}

module _ {A : Type 0} (f : ℕ → A) where
  list_from_length : (i n : ℕ) → length (list_from i n f) ≡ n
  unfolding list_from
  list_from_length i zero = refl
  list_from_length i (suc n) = ap suc (list_from_length (i + 1) n)

  pub list_length : (n : ℕ) → length (list_of n f) ≡ n
  list_length n = list_from_length 0 n

  list_from_nth : (d : A) (i n k : ℕ) → k < n → get_or (list_from i n f) k d ≡ f (i + k)
  unfolding list_from
  list_from_nth d i zero k h = absurd (omega arith)
  list_from_nth d i (suc n) zero h = ap f (sym (add-zero i))
  list_from_nth d i (suc n) (suc k) h = let e : i + 1 + k ≡ i + suc k = omega arith in list_from_nth d (i + 1) n k (omega arith) ∙ ap f e

  -- entry k
  pub list_nth : (d : A) (n k : ℕ) → k < n → get_or (list_of n f) k d ≡ f k
  list_nth d n k h = list_from_nth d 0 n k h ∙ ap f (zero-add k)

  -- past the end
  pub list_past : (d : A) (n k : ℕ) → n ≤ k → get_or (list_of n f) k d ≡ d
  list_past d n k h = get_or-eq_default (list_of n f) d (omega (arith, list_length n))

  list_from_next : (i n : ℕ) → list_from i (suc n) f ≡ list_from i n f ++ f (i + n) ∷ []
  unfolding list_from
  list_from_next i zero = ap (λ (k : ℕ). f k ∷ []) (sym (add-zero i))
  list_from_next i (suc n) = let e : i + 1 + n ≡ i + suc n = omega arith in ap (λ (l : List A). f i ∷ l) (rw e at (list_from_next (i + 1) n))

  -- a loop that puts one entry behind the other
  pub list_next : (out : List A) (n : ℕ) → (out ++ list_of n f) ++ f n ∷ [] ≡ out ++ list_of (n + 1) f
  list_next out n =
      rw (append_assoc, add-one, list_from_next 0 n, zero-add n)

-- a list is the list of its entries
pub list_is : (n : ℕ) (f : ℕ → ℕ) (s : List ℕ) → length s ≡ n → ((k : ℕ) → k < n → f k ≡ nth s k) → list_of n f ≡ s
list_is n f s e h =
    ext_get_or 0 (list_of n f) s (list_length f n ∙ sym e)
    (λ k q. let g : k < n = omega (arith, list_length f n) in list_nth f 0 n k g ∙ h k g)

pub list_cong : (n : ℕ) (f g : ℕ → ℕ) → ((k : ℕ) → k < n → f k ≡ g k) → list_of n f ≡ list_of n g
list_cong n f g e = list_is n f (list_of n g) (list_length g n) (λ k h. e k h ∙ sym (list_nth g 0 n k h))

-- a part of a list, by its entries
pub list_part : (n : ℕ) (f : ℕ → ℕ) (s : List ℕ) (start : ℕ) → start + n ≤ length s → ((k : ℕ) → k < n → f k ≡ nth s (start + k)) → list_of n f ≡ take n (drop start s)
list_part n f s start h e =
    list_is n f (take n (drop start s)) (length-take-le n (drop start s) (omega (arith, length-drop start s)))
    (λ k q. e k q ∙ sym (get_or-drop start s k 0) ∙ sym (get_or-take n (drop start s) k 0 q))

-- a part of n entries of a list, as a slice has it
module _ {A : Type 0} (s : List A) (start n : ℕ) where
  pub part_length : start + n ≤ length s → length (take (start + n - start) (drop start s)) ≡ n
  part_length h =
      let e : start + n - start ≡ n = omega arith in
      rw e (length-take-le n (drop start s) (omega (arith, length-drop start s)))

  pub part_at : (k : ℕ) (d : A) → k < n → get_or (take (start + n - start) (drop start s)) k d ≡ get_or s (start + k) d
  part_at k d h =
      let e : start + n - start ≡ n = omega arith in
      rw e (get_or-take n (drop start s) k d h ∙ get_or-drop start s k d)

-- what holds of every entry, and of 0
pub list_all : (P : ℕ → Type 0) → P 0 → (n : ℕ) (f : ℕ → ℕ) → ((k : ℕ) → k < n → P (f k)) → (o : ℕ) → P (nth (list_of n f) o)
list_all P none n f h o =
    dite (dec_lt o n)
    (λ (q : o < n). rw (list_nth f 0 n o q) (h o q))
    (λ (q : o < n → ⊥). rw (list_past f 0 n o (omega (arith, q))) none)

-- a loop that writes one entry after the other
module _ {A : Type 0} (out : List A) (from : ℕ) (f : ℕ → A) (n : ℕ) (d : A) where
  pub paste_more : (k : ℕ) {v : A} → from + n ≤ length out → k < n → v ≡ f k
      → set (paste out from (list_of n f) k) (from + k) v ≡ paste out from (list_of n f) (k + 1)
  paste_more k h q e =
      rw (e, add-one, ← list_nth f d n k q)
      (paste-suc out from (list_of n f) k d (omega arith) (omega (arith, list_length f n)))

-- the same from the first place on
pub paste_next : {A : Type 0} (out : List A) (f : ℕ → A) (n : ℕ) (d : A) (k : ℕ) {v : A} → n ≤ length out → k < n → v ≡ f k
    → set (paste out 0 (list_of n f) k) k v ≡ paste out 0 (list_of n f) (k + 1)
paste_next {A} out f n d k {v} h q e =
    subst (λ (i : ℕ). set (paste out 0 (list_of n f) k) i v ≡ paste out 0 (list_of n f) (k + 1)) (zero-add k) (paste_more out 0 f n d k (omega arith) q e)

-- all places were written
pub paste_all : {A : Type 0} (out s : List A) → length s ≡ length out → paste out 0 s (length out) ≡ s
paste_all out s e = rw (← e, take-length, e, zero-add, drop-length) (append-nil s)

-- two parts pasted one behind the other
pub paste_append : {A : Type 0} (d : List A) (at : ℕ) (p q : List A) (n m : ℕ) → length p ≡ n → length q ≡ m → at + (n + m) ≤ length d
    → paste (paste d at p n) (at + n) q m ≡ paste d at (p ++ q) (n + m)
paste_append {A} d at p q n m e f h =
    let front = take-paste d at p n (omega arith) (omega arith) in
    let behind : drop (at + n + m) (paste d at p n) ≡ drop (at + (n + m)) d =
    sym (drop-drop m (at + n) (paste d at p n)) ∙ ap (drop m) (drop-paste d at p n (omega arith) (omega arith)) ∙ drop-drop m (at + n) d ∙ ap (λ (k : ℕ). drop k d) (add_assoc at n m) in
    let all : take (n + m) (p ++ q) ≡ p ++ q = take_all (n + m) (p ++ q) (omega (arith, length-append p q)) in
    rw (front, behind, all, take_all n p (omega arith), take_all m q (omega arith)) (ap (λ (l : List A). l ++ drop (at + (n + m)) d) (append_assoc (take at d) p q))

-- a front of a local array
pub front_length : {A : Type 0} (n k : ℕ) (x : A) → k ≤ n → length (take k (replicate n x)) ≡ k
front_length n k x h = length-take-le k (replicate n x) (omega (arith, length-replicate n x))
