-- However an input is cut into parts, what is printed is what the definition prints on the whole input, and what is printed so far is a front of it. A step takes the line to its end; of a line that is longer than a
-- line may be only the front is kept, and it is declined like the whole line.
use mathlib.Core.Path.{◌≡◌, refl, sym, ◌∙◌, ap}
use mathlib.Core.Bool.{Bool, true, false, cond}
use mathlib.Core.List.{List, [], ◌∷◌, ◌++◌, flatten, IsPrefix, append_assoc, append-nil}
use Prim.Native.Nat.{ℕ, zero, suc, ◌<◌, ◌≤◌}
use native.Mathlib.Omega.{arith}
use lib.Dec.{ltb, eqb}
use lib.IntN.{ℤ}
use lib.ListN.{length, take, drop, length-take, length-drop, drop_of_length-le}
use lib.Seq.{take_all, take-take, take-append-le, length-take-le}
use borrow.Author.Tests.{ltb-true, ltb-false, ne_eqb}
use Rattle.tables.specs.WellFormed.{fresh_block}
use Rattle.frames.specs.Frames.{max_characters}
use Rattle.requests.specs.Answer.{answered}
use Rattle.service.specs.Calls.{exchanges}
use Rattle.service.proofs.Answers.{long_alike}
use Rattle.stream.specs.Session.{line_feed, no_line, line_call, line_calls, lines_from, reply_lines, printed_from, printed}
use Rattle.stream.specs.Parts.{line_length, kept_most, lengthened, answer_line, Shown, steps, over_part, start, over_more, over_parts, last_answer, by_parts}
use Rattle.stream.proofs.Steps.{next_open, next_ended}

-- ---- the front that is kept

-- a line is answered like what is kept of it
kept-answered : (l : List ℕ) (b : List ℤ) → answer_line (take kept_most l) b ≡ answer_line l b
unfolding answer_line
kept-answered l b = go (ltb max_characters (length l)) refl
  where
    go : (t : Bool) → ltb max_characters (length l) ≡ t → answer_line (take kept_most l) b ≡ answer_line l b
    go true e =
        let h = ltb-true max_characters (length l) e in
        rw (long_alike (take kept_most l) l b (line_call l).buffer (omega (arith, h, length-take kept_most l)) h)
    go false e = rw (take_all kept_most l (omega (arith, ltb-false max_characters (length l) e)))

-- bytes behind what is kept of a line, and behind the line
kept_more : (most : ℕ) (l p : List ℕ) → take most (take most l ++ p) ≡ take most (l ++ p)
kept_more most l p = go (ltb (length l) most) refl
  where
    go : (t : Bool) → ltb (length l) most ≡ t → take most (take most l ++ p) ≡ take most (l ++ p)
    go true e = rw (take_all most l (omega (arith, ltb-true (length l) most e)))
    go false e =
        let h = ltb-false (length l) most e in
        take-append-le most (take most l) p (omega (arith, length-take-le most l h)) ∙ take-take most most l (omega arith) ∙ sym (take-append-le most l p h)

-- none of a line is kept only where it is empty
kept_empty : (l : List ℕ) → no_line (take kept_most l) ≡ no_line l
kept_empty [] = refl
kept_empty (c ∷ l) = rw (ne_eqb (length (take kept_most (c ∷ l))) 0 (λ e. omega (arith, length-take kept_most (c ∷ l))), ne_eqb (length {A = ℕ} (c ∷ l)) 0 (λ e. omega arith))

kept_last : (l : List ℕ) (b : List ℤ) → (last_answer (take kept_most l) b).reply ≡ (last_answer l b).reply
unfolding last_answer
kept_last l b = rw (kept_empty l, kept-answered l b)

-- ---- the lines of an input that begins with a part

module _ (rest : List ℕ) where
  lines_go_on : (part front : List ℕ) → length part ≤ line_length part → lines_from front (part ++ rest) ≡ lines_from (front ++ part) rest
  unfolding line_length lines_from
  lines_go_on [] front h = rw (append-nil front)
  lines_go_on (c ∷ l) front h = go (eqb c line_feed) refl (λ g. lines_go_on l (front ++ c ∷ []) g)
    where
      go : (t : Bool) → eqb c line_feed ≡ t → (length l ≤ line_length l → lines_from (front ++ c ∷ []) (l ++ rest) ≡ lines_from (front ++ c ∷ [] ++ l) rest)
          → lines_from front (c ∷ l ++ rest) ≡ lines_from (front ++ c ∷ l) rest
      go true e next = let g : suc (length l) ≤ 0 = rw e at h in absurd (omega arith)
      go false e next =
          let g : suc (length l) ≤ suc (line_length l) = rw e at h in
          rw e (next (omega arith) ∙ ap (λ x. lines_from x rest) (append_assoc front (c ∷ []) l))

  lines_end : (part front : List ℕ) → line_length part < length part
      → lines_from front (part ++ rest) ≡ (front ++ take (line_length part) part) ∷ lines_from [] (drop (suc (line_length part)) part ++ rest)
  unfolding line_length lines_from
  lines_end [] front h = absurd (omega arith)
  lines_end (c ∷ l) front h = go (eqb c line_feed) refl (λ g. lines_end l (front ++ c ∷ []) g)
    where
      go : (t : Bool) → eqb c line_feed ≡ t
          → (line_length l < length l → lines_from (front ++ c ∷ []) (l ++ rest) ≡ (front ++ c ∷ [] ++ take (line_length l) l) ∷ lines_from [] (drop (suc (line_length l)) l ++ rest))
          → lines_from front (c ∷ l ++ rest) ≡ (front ++ take (line_length (c ∷ l)) (c ∷ l)) ∷ lines_from [] (drop (suc (line_length (c ∷ l))) (c ∷ l) ++ rest)
      go true e next = rw (e, append-nil front)
      go false e next =
          let g : suc (line_length l) < suc (length l) = rw e at h in
          rw e (next (omega arith) ∙ ap (λ x. x ∷ lines_from [] (drop (suc (line_length l)) l ++ rest)) (append_assoc front (c ∷ []) (take (line_length l) l)))

-- ---- what is printed on an input that begins behind a front

printed_on : (front : List ℕ) (b : List ℤ) (part rest : List ℕ) → length part ≤ line_length part → printed_from front b (part ++ rest) ≡ printed_from (front ++ part) b rest
unfolding printed_from
printed_on front b part rest h = rw (lines_go_on rest part front h)

printed_line : (front : List ℕ) (b : List ℤ) (part rest : List ℕ) → line_length part < length part
    → printed_from front b (part ++ rest)
    ≡ (answer_line (front ++ take (line_length part) part) b).reply ++ printed_from [] (answer_line (front ++ take (line_length part) part) b).block (drop (suc (line_length part)) part ++ rest)
unfolding printed_from answer_line reply_lines exchanges
printed_line front b part rest h = rw (lines_end rest part front h)

printed_last : (front : List ℕ) (b : List ℤ) → printed_from front b [] ≡ (last_answer front b).reply
unfolding printed_from lines_from reply_lines exchanges answer_line last_answer
printed_last front b = go (no_line front)
  where
    go : (t : Bool) → reply_lines (exchanges b (line_calls (cond t [] (front ∷ [])))) ≡ (cond t (answered b []) (answer_line front b)).reply
    go true = refl
    go false = append-nil _

-- ---- steps over a part

-- what steps come to, for whatever follows the part: what they print, and then what is printed behind the front that they leave
record Follows (front : List ℕ) (b : List ℤ) (part : List ℕ) (s : Shown) : Type 0 where
  left : List ℕ
  kept : s.line ≡ take kept_most left
  prints : (rest : List ℕ) → printed_from front b (part ++ rest) ≡ s.shown ++ printed_from left s.block rest

-- one step, and then the others
follows_next : (front : List ℕ) (b : List ℤ) (part : List ℕ) (f : ℕ)
    → ((front' : List ℕ) (b' : List ℤ) (part' : List ℕ) → length part' ≤ f → Follows front' b' part' (steps f (take kept_most front') b' part'))
    → length part ≤ suc f → Follows front b part (steps (suc f) (take kept_most front) b part)
unfolding steps lengthened
follows_next front b part f others h = go (ltb (line_length part) (length part)) refl
  where
    line : List ℕ
    line = front ++ take (line_length part) part

    go : (t : Bool) → ltb (line_length part) (length part) ≡ t → Follows front b part (steps (suc f) (take kept_most front) b part)
    go true e =
        let g = ltb-true (line_length part) (length part) e in
        let o = others [] (answer_line line b).block (drop (suc (line_length part)) part) (omega (arith, length-drop (suc (line_length part)) part)) in
        rw (next_ended (take kept_most front) b part g, kept_more kept_most front (take (line_length part) part), kept-answered line b)
        (record {
          left = o.left;
          kept = o.kept;
          prints = λ rest. printed_line front b part rest g ∙ ap (λ x. (answer_line line b).reply ++ x) (o.prints rest) ∙ sym (append_assoc (answer_line line b).reply _ _);
        })
    go false e =
        let g = ltb-false (line_length part) (length part) e in
        let o = others (front ++ part) b [] (omega arith) in
        rw (next_open (take kept_most front) b part g, kept_more kept_most front (take (line_length part) part), take_all (line_length part) part g, drop_of_length-le part g)
        (record { left = o.left; kept = o.kept; prints = λ rest. printed_on front b part rest g ∙ o.prints rest })

follows : (f : ℕ) (front : List ℕ) (b : List ℤ) (part : List ℕ) → length part ≤ f → Follows front b part (steps f (take kept_most front) b part)
unfolding steps
follows zero front b [] h = record { left = front; kept = refl; prints = λ rest. refl }
follows zero front b (c ∷ l) h = absurd (omega arith)
follows (suc f) front b part h = follows_next front b part f (follows f) h

-- ---- all parts

module _ {front : List ℕ} {b : List ℤ} where
  follows_more : {input : List ℕ} {s : Shown} → Follows front b input s → (part : List ℕ) → Follows front b (input ++ part) (over_more s part)
  unfolding over_part
  follows_more {input} {s} m part =
      let o : Follows m.left s.block part (over_part s.line s.block part) = rw m.kept (follows (length part) m.left s.block part (omega arith)) in
      record {
        left = o.left;
        kept = o.kept;
        prints =
            λ rest. ap (printed_from front b) (append_assoc input part rest) ∙ m.prints (part ++ rest) ∙ ap (λ x. s.shown ++ x) (o.prints rest) ∙ sym (append_assoc s.shown _ _);
      }

  follows_parts : (parts : List (List ℕ)) {input : List ℕ} {s : Shown} → Follows front b input s → Follows front b (input ++ flatten parts) (over_parts s parts)
  unfolding over_parts flatten
  follows_parts [] {input} m = rw (append-nil input) m
  follows_parts (p ∷ ps) {input} m = rw (← append_assoc input p (flatten ps)) (follows_parts ps (follows_more m p))

from_start : (parts : List (List ℕ)) → Follows [] fresh_block (flatten parts) (over_parts start parts)
from_start parts = follows_parts parts {input = []} {s = start} (record { left = []; kept = refl; prints = λ rest. refl })

-- what is printed so far is a front of what is printed in the end, however the input goes on
pub printed_so_far : (parts : List (List ℕ)) (rest : List ℕ) → IsPrefix (over_parts start parts).shown (printed (flatten parts ++ rest))
printed_so_far parts rest = let o = from_start parts in (printed_from o.left (over_parts start parts).block rest, sym (o.prints rest))

-- what is printed on parts is what the definition prints on the whole input
pub printed_by_parts : (parts : List (List ℕ)) → by_parts parts ≡ printed (flatten parts)
printed_by_parts parts =
    let s = over_parts start parts in
    let o = from_start parts in
    ap (λ x. s.shown ++ (last_answer x s.block).reply) o.kept
    ∙ ap (λ x. s.shown ++ x) (kept_last o.left s.block ∙ sym (printed_last o.left s.block))
    ∙ sym (o.prints [])
    ∙ ap printed (append-nil (flatten parts))
