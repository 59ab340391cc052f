-- What a step leaves: the kept line grows by what there is room for, and a line that has ended is answered.
use mathlib.Core.Path.{◌≡◌, refl, sym, ◌∙◌, ap}
use mathlib.Core.Bool.{Bool, true, false}
use mathlib.Core.Logic.{⊎_elim}
use mathlib.Core.List.{List, [], ◌∷◌, ◌++◌, append_assoc}
use Prim.Native.Nat.{ℕ, suc, ◌+◌, ◌<◌, ◌≤◌, min}
use native.Mathlib.Nat.{eq-or-lt_of_le}
use native.Mathlib.Omega.{arith}
use lib.Dec.{ltb}
use lib.IntN.{ℤ}
use lib.ListN.{length, take, drop, set, get_or, length-take, length-append, length-replicate}
use lib.Seq.{take_all, take-take, take-append-add, length-take-le, drop-cons, set_at}
use borrow.Author.Tests.{lt-ltb, le-ltb, ltb-true, ltb-false, ne_eqb}
use Rattle.replies.specs.Wrote.{Wrote}
use Rattle.replies.proofs.Writing.{wrote_none, wrote_length}
use Rattle.requests.specs.Answer.{Answer, answered}
use Rattle.requests.specs.Wrote.{Answers}
use Rattle.radio.specs.Answer.{longest_form}
use Rattle.service.specs.Answer.{answer}
use Rattle.service.proofs.Answers.{buffer_apart}
use Rattle.service.proofs.Calls.{reply_short, reply_given}
use Rattle.stream.specs.Session.{line_feed, reply_buffer, line_call}
use Rattle.stream.specs.Parts.{line_length, kept_most, lengthened, answer_line, Taken, next_line, last_answer}
use Rattle.stream.specs.Steps.{Steps}
use Rattle.stream.proofs.Lines.{line_length_most, line_length_taken}

-- ---- the kept line

take_shorter : (a n : ℕ) (l : List ℕ) → n ≤ length l → take a (take n l) ≡ take (min n a) l
take_shorter a n l h = go (ltb n a) refl
  where
    go : (t : Bool) → ltb n a ≡ t → take a (take n l) ≡ take (min n a) l
    go true q = let e : min n a ≡ n = omega (arith, ltb-true n a q) in rw e (take_all a (take n l) (omega (arith, ltb-true n a q, length-take-le n l h)))
    go false q = let e : min n a ≡ a = omega (arith, ltb-false n a q) in rw e (take-take a n l (ltb-false n a q))

module _ (line part : List ℕ) where
  -- as many bytes as there is room for, behind the kept line
  pub room_filled : (room count : ℕ) → room + length line ≡ kept_most → count ≡ min (length part) room → line ++ take count part ≡ lengthened line (length part) part
  unfolding lengthened
  room_filled room count free most =
      let e : length line + room ≡ kept_most = omega arith in
      let all : take (length part) part ≡ part = take_all (length part) part (omega arith) in
      rw (all, most, ← e, take-append-add line part room)
      (ap (λ x. line ++ x) (sym (take_shorter room (length part) part (omega arith)) ∙ ap (take room) all))

  -- the first n bytes of a part, as a part of their own
  pub lengthened_front : (n : ℕ) → n ≤ length part → lengthened line (length (take n part)) (take n part) ≡ lengthened line n part
  unfolding lengthened
  lengthened_front n here = rw (length-take-le n part here, take_all n (take n part) (omega (arith, length-take-le n part here)))

-- ---- a line that has ended

-- one byte more behind what was written
wrote_more : (d reply b : List ℕ) (n c : ℕ) → Wrote d reply b n → n < length d → Wrote d (reply ++ c ∷ []) (set b n c) (n + 1)
wrote_more d reply b n c w h =
    let e : length (reply ++ c ∷ []) ≡ suc n = omega (arith, w.count, length-append reply (c ∷ [])) in
    record {
      count = omega (arith, e);
      front =
          rw (w.front, ← w.count, drop-cons d n 0 h, e)
          (set_at reply (get_or d n 0) (drop (suc n) d) c n (sym w.count) ∙ sym (append_assoc reply (c ∷ []) (drop (suc n) d)));
    }

buffer_length : length reply_buffer ≡ longest_form
unfolding reply_buffer
buffer_length = length-replicate {A = ℕ} longest_form 0

-- the program never gives 17
pub line_given : (line : List ℕ) (b : List ℤ) → 0 < length (answer line b (line_call line).buffer).reply
line_given line b = reply_given line b reply_buffer (omega (arith, buffer_length))

module _ (line : List ℕ) (b : List ℤ) (d : List ℕ) {left : List ℤ} {after : List ℕ} {n : ℕ} (a : Answers (answer line b d) d left after n) where
  pub line_short : n ≤ longest_form
  line_short = omega (arith, a.reply.count, reply_short line b d)

  pub line_answered : longest_form < length d → Answers (answer_line line b) d left (set after n line_feed) (n + 1)
  unfolding answer_line
  line_answered h =
      let e = buffer_apart line b (line_call line).buffer d (omega (arith, buffer_length)) (omega arith) in
      record { block = rw e a.block; reply = rw e (wrote_more d (answer line b d).reply after n line_feed a.reply (omega (arith, line_short))) }

-- ---- a step

module _ (line : List ℕ) (b : List ℤ) (part : List ℕ) where
  -- the part has no line end
  pub next_open : length part ≤ line_length part → next_line line b part ≡ record { used = line_length part; line = lengthened line (line_length part) part; answer = answered b [] }
  unfolding next_line
  next_open h = rw (le-ltb (line_length part) (length part) h)

  -- it has one
  pub next_ended : line_length part < length part → next_line line b part ≡ record { used = suc (line_length part); line = []; answer = answer_line (lengthened line (line_length part) part) b }
  unfolding next_line
  next_ended h = rw (lt-ltb (line_length part) (length part) h)

-- from what the functions of a step answer: the line's length, and the kept line with the bytes behind it
module _ (line : List ℕ) (b : List ℤ) (part buffer : List ℕ) {n : ℕ} {after : List ℕ} (ends : n ≡ line_length part) (grown : after ≡ lengthened line (length (take n part)) (take n part)) where
  here : n ≤ length part
  here = omega (arith, line_length_most part)

  grown_line : after ≡ lengthened line (line_length part) part
  grown_line = grown ∙ rw (← ends) (lengthened_front line part n here)

  pub steps_open : n ≡ length part → Steps (next_line line b part) buffer after b buffer (record { used = n; written = 0 })
  steps_open e =
      rw (next_open line b part (omega arith))
      (record {
        used = ends;
        kept = grown_line;
        printed = record { block = refl; reply = wrote_none };
      })

  pub steps_ended : {left : List ℤ} {reply : List ℕ} {w : ℕ} → (n ≡ length part → ⊥) → Answers (answer_line after b) buffer left reply w
      → Steps (next_line line b part) buffer [] left reply (record { used = n + 1; written = w })
  steps_ended e a =
      rw (next_ended line b part (⊎_elim (λ (q : n ≡ length part). absurd (e q)) (λ (q : n < length part). rw (← ends) q) (eq-or-lt_of_le here)))
      (record { used = omega (arith, ends); kept = refl; printed = rw (← grown_line) a })

-- ---- how much a step takes, prints and keeps

pub written-length : {a : Answer} {d after : List ℕ} {left : List ℤ} {n : ℕ} → Answers a d left after n → n ≡ length (take n after)
written-length a = sym (wrote_length a.reply)

pub written_fits : {a : Answer} {d after : List ℕ} {left : List ℤ} {n : ℕ} → Answers a d left after n → n ≤ length after
written_fits {a} {d} w =
    rw w.reply.front (omega (arith, w.reply.count, length-append a.reply (drop (length a.reply) d)))

module _ (line : List ℕ) (b : List ℤ) (part : List ℕ) where
  -- the definition's two cases
  by_end : (P : Taken → Type 0) → (line_length part < length part → P (record { used = suc (line_length part); line = []; answer = answer_line (lengthened line (line_length part) part) b }))
      → (length part ≤ line_length part → P (record { used = line_length part; line = lengthened line (line_length part) part; answer = answered b [] })) → P (next_line line b part)
  by_end P ended open-end = go (ltb (line_length part) (length part)) refl
    where
      go : (t : Bool) → ltb (line_length part) (length part) ≡ t → P (next_line line b part)
      go true e = let h = ltb-true (line_length part) (length part) e in rw (next_ended line b part h) (ended h)
      go false e = let h = ltb-false (line_length part) (length part) e in rw (next_open line b part h) (open-end h)

  pub used_within : (next_line line b part).used ≤ length part
  used_within = by_end (λ t. t.used ≤ length part) (λ h. h) (λ h. line_length_most part)

  pub used_some : 0 < length part → 0 < (next_line line b part).used
  used_some g = by_end (λ t. 0 < t.used) (λ h. omega arith) (λ h. omega arith)

  pub kept-within : length (next_line line b part).line ≤ kept_most
  unfolding lengthened
  kept-within = by_end (λ t. length t.line ≤ kept_most) (λ h. omega arith) (λ h. omega (arith, length-take kept_most (line ++ take (line_length part) part)))

  -- a step depends on what it takes and on nothing behind it
  pub next_taken : next_line line b (take (next_line line b part).used part) ≡ next_line line b part
  unfolding lengthened
  next_taken = by_end (λ t. next_line line b (take t.used part) ≡ t) ended (λ h. ap (next_line line b) (take_all (line_length part) part h) ∙ next_open line b part h)
    where
      ended : line_length part < length part → next_line line b (take (suc (line_length part)) part) ≡ record { used = suc (line_length part); line = []; answer = answer_line (lengthened line (line_length part) part) b }
      ended h =
          let n = line_length part in
          let e = line_length_taken part h in
          let k = length-take-le (suc n) part h in
          next_ended line b (take (suc n) part) (omega (arith, e, k)) ∙ rw (e, take-take n (suc n) part (omega arith))

-- ---- a last line without a line end

module _ (line : List ℕ) (b : List ℤ) (buffer : List ℕ) where
  pub last_none : length line ≡ 0 → Answers (last_answer line b) buffer b buffer 0
  unfolding last_answer
  last_none e = rw e (record { block = refl; reply = wrote_none })

  pub last_some : {left : List ℤ} {after : List ℕ} {n : ℕ} → (length line ≡ 0 → ⊥) → Answers (answer_line line b) buffer left after n → Answers (last_answer line b) buffer left after n
  unfolding last_answer
  last_some e a = rw (ne_eqb (length line) 0 e) a
