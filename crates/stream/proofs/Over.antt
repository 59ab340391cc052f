-- Steps over a part: each takes what the definition's next step takes, and once the part is used up more steps change nothing. What a step takes is a part of its own, so
-- after each step a program stands behind some parts, and what the step prints is what the definition prints next.
use mathlib.Core.Path.{◌≡◌, refl, sym, ◌∙◌, ap}
use mathlib.Core.List.{List, [], ◌∷◌, ◌++◌, append-nil}
use Prim.Native.Nat.{ℕ, zero, suc, ◌-◌, ◌<◌, ◌≤◌}
use native.Mathlib.Omega.{arith}
use lib.IntN.{ℤ}
use lib.ListN.{length, take, drop, length-drop, drop_of_length-le}
use lib.Seq.{take_all, length-take-le}
use Rattle.tables.specs.WellFormed.{fresh_block}
use Rattle.replies.proofs.Writing.{wrote_taken}
use Rattle.requests.specs.Answer.{answered}
use Rattle.requests.specs.Wrote.{Answers}
use Rattle.stream.specs.Parts.{line_length, kept_most, lengthened, next_line, Shown, steps, over_part, start, over_more, over_parts, last_answer}
use Rattle.stream.specs.declared.splitting.Step.{Step}
use Rattle.stream.specs.Steps.{Steps, Leaves, AfterParts, StepPrints, EndPrints}
use Rattle.stream.proofs.Steps.{next_open, used_within, used_some, kept-within, next_taken}

-- a step on nothing keeps all
next_nothing : (line : List ℕ) (b : List ℤ) → length line ≤ kept_most → next_line line b [] ≡ record { used = 0; line = line; answer = answered b [] }
unfolding line_length lengthened
next_nothing line b h = rw (next_open line b [] (omega arith), append-nil line, take_all kept_most line h)

steps_done : (f : ℕ) (line : List ℕ) (b : List ℤ) → length line ≤ kept_most → steps f line b [] ≡ record { line = line; block = b; shown = [] }
unfolding steps
steps_done zero line b h = refl
steps_done (suc f) line b h = rw (next_nothing line b h, steps_done f line b h)

abbrev Enough : ℕ → Type 0
Enough f =
    (g : ℕ) (line : List ℕ) (b : List ℤ) (part : List ℕ) → length line ≤ kept_most → length part ≤ f → length part ≤ g → steps f line b part ≡ steps g line b part

enough_more : (f : ℕ) → Enough f → Enough (suc f)
unfolding steps
enough_more f others g line b [] k p q = steps_done (suc f) line b k ∙ sym (steps_done g line b k)
enough_more f others zero line b (c ∷ l) k p q = absurd (omega arith)
enough_more f others (suc g) line b (c ∷ l) k p q =
    let t = next_line line b (c ∷ l) in
    let h = used_some line b (c ∷ l) (omega arith) in
    let e = length-drop t.used (c ∷ l) in
    rw (others g t.line t.answer.block (drop t.used (c ∷ l)) (kept-within line b (c ∷ l)) (omega (arith, h, e)) (omega (arith, h, e)))

-- as many steps as there are bytes are enough
steps_enough : (f : ℕ) → Enough f
unfolding steps
steps_enough zero g line b [] k p q = sym (steps_done g line b k)
steps_enough zero g line b (c ∷ l) k p q = absurd (omega arith)
steps_enough (suc f) g line b part k p q = enough_more f (steps_enough f) g line b part k p q

-- a part with bytes: one step, and then what is left of the part
over_next : (line : List ℕ) (b : List ℤ) (part : List ℕ) → 0 < length part
    → let t = next_line line b part in
    let s = over_part t.line t.answer.block (drop t.used part) in
    over_part line b part ≡ record { line = s.line; block = s.block; shown = t.answer.reply ++ s.shown }
unfolding steps over_part
over_next line b [] h = absurd (omega arith)
over_next line b (c ∷ l) h =
    let t = next_line line b (c ∷ l) in
    let rest = drop t.used (c ∷ l) in
    ap (λ (s : Shown). record { line = s.line; block = s.block; shown = t.answer.reply ++ s.shown })
    (steps_enough (length l) (length rest) t.line t.answer.block rest (kept-within line b (c ∷ l)) (omega (arith, used_some line b (c ∷ l) (omega arith), length-drop t.used (c ∷ l))) (omega arith))

-- what one step takes, as a part of its own
over_taken : (line : List ℕ) (b : List ℤ) (part : List ℕ) → 0 < length part
    → let t = next_line line b part in
    over_part line b (take t.used part) ≡ record { line = t.line; block = t.answer.block; shown = t.answer.reply }
unfolding steps over_part
over_taken line b part h =
    let t = next_line line b part in
    let k = length-take-le t.used part (used_within line b part) in
    over_next line b (take t.used part) (omega (arith, k, used_some line b part h))
    ∙ rw (next_taken line b part, drop_of_length-le (take t.used part) {i = t.used} (omega (arith, k)), append-nil t.answer.reply)

-- ---- where a program stands

-- one part more
over_last : (s : Shown) (ps : List (List ℕ)) (p : List ℕ) → over_parts s (ps ++ p ∷ []) ≡ over_more (over_parts s ps) p
unfolding over_parts
over_last s [] p = refl
over_last s (q ∷ ps) p = over_last (over_more s q) ps p

pub after_none : AfterParts [] fresh_block
unfolding over_parts
after_none = record { parts = []; leaves = record { kept = refl; left = refl } }

module _ {line : List ℕ} {b : List ℤ} (m : AfterParts line b) where
  pub after_part : (part : List ℕ) {line' : List ℕ} {b' : List ℤ} → Leaves (over_part line b part) line' b' → AfterParts line' b'
  after_part part t =
      record {
        parts = m.parts ++ part ∷ [];
        leaves =
            rw (over_last start m.parts part, ← m.leaves.kept, ← m.leaves.left)
            (record { kept = t.kept; left = t.left });
      }

  -- a step on what is left of a part
  module _ (part : List ℕ) {buffer line' reply : List ℕ} {b' : List ℤ} {r : Step} (t : Steps (next_line line b part) buffer line' b' reply r) where
    pub after_step : 0 < length part → AfterParts line' b'
    after_step h =
        after_part (take (next_line line b part).used part)
        (rw (over_taken line b part h) (record { kept = t.kept; left = t.printed.block }))

    pub step_prints : StepPrints part b' (take r.written reply)
    step_prints =
        record {
          parts = m.parts;
          next = rw (← m.leaves.kept, ← m.leaves.left, t.printed.block, wrote_taken t.printed.reply) refl;
        }

  -- the end of the input
  pub end_prints : {buffer reply : List ℕ} {b' : List ℤ} {w : ℕ} → Answers (last_answer line b) buffer b' reply w → EndPrints line b' (take w reply)
  end_prints a =
      record {
        parts = m.parts;
        kept = sym m.leaves.kept;
        next = rw (← m.leaves.left, a.block, wrote_taken a.reply) refl;
      }

-- ---- a loop over a part

-- the loop stands before what is left of a part: that comes to the same as the whole part
pub record InPart (s : Shown) (rest line : List ℕ) (b : List ℤ) : Type 0 where
  pub after : AfterParts line b
  pub lines : (over_part line b rest).line ≡ s.line
  pub blocks : (over_part line b rest).block ≡ s.block

pub in_part_first : (part line : List ℕ) (b : List ℤ) → AfterParts line b → InPart (over_part line b part) part line b
in_part_first part line b m = record { after = m; lines = refl; blocks = refl }

module _ {s : Shown} {rest line : List ℕ} {b : List ℤ} (m : InPart s rest line b) where
  -- a step on what is left; behind it stands what it does not take
  module _ (more : 0 < length rest) {buffer line' reply : List ℕ} {b' : List ℤ} {r : Step} (t : Steps (next_line line b rest) buffer line' b' reply r) where
    pub used_more : 0 < r.used
    used_more = omega (arith, t.used, used_some line b rest more)

    pub used_inside : r.used ≤ length rest
    used_inside = omega (arith, t.used, used_within line b rest)

    left_behind : take (length rest - r.used) (drop r.used rest) ≡ drop r.used rest
    left_behind = take_all (length rest - r.used) (drop r.used rest) (omega (arith, length-drop r.used rest))

    pub left_shorter : length (take (length rest - r.used) (drop r.used rest)) < length rest
    left_shorter = rw left_behind (omega (arith, used_more, used_inside, length-drop r.used rest))

    pub in_part_next : InPart s (take (length rest - r.used) (drop r.used rest)) line' b'
    in_part_next =
        let e = over_next line b rest more in
        rw left_behind
        (record {
          after = after_step m.after rest t more;
          lines = rw (t.kept, t.printed.block, t.used) (ap (λ s. s.line) (sym e) ∙ m.lines);
          blocks = rw (t.kept, t.printed.block, t.used) (ap (λ s. s.block) (sym e) ∙ m.blocks);
        })

-- nothing is left
pub in_part_last : (s : Shown) (rest line : List ℕ) (b : List ℤ) → InPart s rest line b → length rest ≡ 0 → Leaves s line b
unfolding steps over_part
in_part_last s [] line b m h = record { kept = m.lines; left = m.blocks }
in_part_last s (c ∷ l) line b m h = absurd (omega arith)
