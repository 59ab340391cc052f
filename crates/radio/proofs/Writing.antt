-- What the code writes is the second form of a reply: the kind is raised and the sum byte put behind the reply in the whole buffer, and what lies behind them stays.
use mathlib.Core.Path.{◌≡◌, refl, sym, ap, ◌∙◌}
use mathlib.Core.Bool.{Bool, true, false, cond}
use mathlib.Core.List.{List, [], ◌∷◌, ◌++◌, append_assoc}
use Prim.Native.Nat.{ℕ, ◌+◌, ◌*◌, ◌%◌, ◌≤◌}
use native.Mathlib.Omega.{arith}
use lib.Dec.{eqb}
use lib.IntN.{ℤ}
use lib.ListN.{length, take, drop, length-append, take-append-drop}
use lib.Seq.{take-take, length-take-le, drop-append-le}
use Rattle.std.proofs.lemmas.Slice.{drop-append-drop}
use Rattle.refusals.specs.declared.Refusal.TheVariants.{WrongSum}
use Rattle.tables.specs.WellFormed.{well_formed}
use Rattle.frames.specs.ByteSum.{byte_sum}
use Rattle.frames.specs.Frames.{max_characters}
use Rattle.frames.proofs.Front.{same_field}
use Rattle.lines.specs.Layout.{kind_width}
use Rattle.replies.specs.Replies.{refusal_byte, longest_fixed}
use Rattle.replies.specs.Shown.{kind_shown}
use Rattle.replies.specs.Wrote.{Wrote}
use Rattle.replies.proofs.Writing.{wrote_as, wrote_taken}
use Rattle.replies.proofs.Begins.{declined_begins}
use Rattle.requests.specs.Answer.{declined, line_answer}
use Rattle.requests.proofs.Begins.{line_begins}
use Rattle.radio.specs.Forms.{radio_added, sum_width, with_kind, with_sum, is_radio, plain_line, raised, radio_reply}
use Rattle.radio.specs.Answer.{plain_answer}
use Rattle.radio.proofs.Digits.{with_kind_front, with_kind_behind}
use Rattle.radio.proofs.Forms.{second}
use Rattle.radio.proofs.Replies.{some_reply, reply_length, reply_even}

-- ---- the kind, raised in front of a buffer

module _ (b : List ℕ) (n : ℕ) (some : 2 * kind_width ≤ n) (inside : n ≤ length b) where
  front_kind : kind_shown (take n b) ≡ kind_shown b
  front_kind = same_field (take n b) b n (take-take n n b (omega arith)) 0 kind_width some

  -- the reply in front of it is raised
  raised_front : take n (raised b) ≡ raised (take n b)
  raised_front = rw front_kind (go (eqb (kind_shown b) refusal_byte))
    where
      go : (t : Bool) → take n (cond t b (with_kind (kind_shown b + radio_added) b)) ≡ cond t (take n b) (with_kind (kind_shown b + radio_added) (take n b))
      go true = refl
      go false = with_kind_front (kind_shown b + radio_added) b n some

  -- what lies behind it stays
  raised_behind : drop n (raised b) ≡ drop n b
  raised_behind = go (eqb (kind_shown b) refusal_byte)
    where
      go : (t : Bool) → drop n (cond t b (with_kind (kind_shown b + radio_added) b)) ≡ drop n b
      go true = refl
      go false = with_kind_behind (kind_shown b + radio_added) b n some (omega arith)

-- ---- a reply written over other characters

-- buffers that are the same behind a reply
wrote_alike : {c b reply d : List ℕ} {r : ℕ} → Wrote c reply d r → drop (length reply) c ≡ drop (length reply) b → Wrote b reply d r
wrote_alike {c} {b} {reply} o e = record { count = o.count; front = o.front ∙ ap (λ (p : List ℕ). reply ++ p) e }

-- the sum byte behind a reply that was raised in the buffer
pub wrote_radio : (b : List ℕ) (n : ℕ) {c d : List ℕ} {r : ℕ} → 2 * kind_width ≤ n → n + 2 * sum_width ≤ length b → c ≡ raised b → Wrote c (with_sum (take n c)) d r
    → Wrote b (radio_reply (take n b)) d r
wrote_radio b n {c} {d} {r} some inside e o =
    let front : take n c ≡ raised (take n b) = ap (take n) e ∙ raised_front b n some (omega arith) in
    let whole : with_sum (take n c) ≡ radio_reply (take n b) = ap with_sum front ∙ sym (some_reply (take n b) (omega (arith, long_front))) in
    let long : length (radio_reply (take n b)) ≡ n + 2 * sum_width = omega (arith, long_front, reply_length (take n b) (omega (arith, long_front))) in
    wrote_alike (wrote_as o whole) (rw long (ap (drop (n + 2 * sum_width)) e ∙ raised_behind b (n + 2 * sum_width) (omega arith) inside))
  where
    long_front : length (take n b) ≡ n
    long_front = length-take-le n b (omega arith)

-- ---- a plain reply in the first part of a buffer

-- it ends in that part
pub wrote_inside : {d reply p : List ℕ} {n : ℕ} → Wrote d reply p n → length p ≡ length d → n ≤ length d
wrote_inside {d} {reply} o e = omega (arith, o.count, sym e ∙ ap length o.front ∙ length-append reply (drop (length reply) d))

-- what lies behind the part stays
pub wrote_part : (b : List ℕ) (k : ℕ) {reply p : List ℕ} {n : ℕ} → k ≤ length b → length p ≡ k → Wrote (take k b) reply p n → Wrote b reply (p ++ drop k b) n
wrote_part b k {reply} {p} inside same o =
    let long : length (take k b) ≡ k = length-take-le k b inside in
    let m : length reply ≤ length (take k b) = omega (arith, o.count, wrote_inside o (same ∙ sym long)) in
    let joined : drop (length reply) (take k b) ++ drop k b ≡ drop (length reply) b =
    sym (drop-append-le (length reply) (take k b) (drop k b) m) ∙ ap (drop (length reply)) (take-append-drop k b) in
    record { count = o.count; front = ap (λ (x : List ℕ). x ++ drop k b) o.front ∙ append_assoc reply (drop (length reply) (take k b)) (drop k b) ∙ ap (λ (x : List ℕ). reply ++ x) joined }

-- the second form has as many characters or more
reply_more : (r : List ℕ) → length r % 2 ≡ 0 → length r ≤ length (radio_reply r)
reply_more [] e = omega arith
reply_more (c ∷ []) e = absurd (omega arith)
reply_more (c ∷ d ∷ l) e = omega (arith, reply_length (c ∷ d ∷ l) (omega arith))

-- so that it is written over the plain reply
pub wrote_over : {b r c d : List ℕ} {n m : ℕ} → Wrote b r c n → length r % 2 ≡ 0 → Wrote c (radio_reply (take n c)) d m → Wrote b (radio_reply r) d m
wrote_over {b} {r} p e o =
    wrote_alike (rw (wrote_taken p) at o) (ap (drop (length (radio_reply r))) p.front ∙ drop-append-drop (length r) b r (length (radio_reply r)) (reply_more r e) refl)

-- ---- a second form, and the plain reply to it

pub second_short : (l : List ℕ) → is_radio l ≡ true → length l ≤ max_characters
second_short l e = (second e).frame.short

pub plain_even : (l : List ℕ) (b : List ℤ) (room : ℕ) → longest_fixed ≤ room → well_formed b ≡ true → length (plain_answer l b room).reply % 2 ≡ 0
plain_even l b room h right = go (eqb (byte_sum l) 0)
  where
    go : (t : Bool) → length (cond t (line_answer (plain_line l) b room) (declined b WrongSum)).reply % 2 ≡ 0
    go true = reply_even (line_begins (plain_line l) b room h right)
    go false = reply_even (declined_begins WrongSum)
