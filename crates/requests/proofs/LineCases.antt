-- The ways an answer to a line can come about, where there is room for every fixed reply: a refusal of the reader, a request that is carried out, or 17 for a reply that is longer than
-- the room. Whatever holds of each holds of every answer to a line.
use mathlib.Core.Path.{◌≡◌, refl, sym, subst, ◌∙◌}
use mathlib.Core.Bool.{true}
use mathlib.Core.List.{List, []}
use mathlib.Core.Logic.{dite}
use Prim.Native.Nat.{ℕ, ◌<◌, ◌≤◌}
use native.Mathlib.Decide.{dec_lt}
use native.Mathlib.Omega.{arith}
use lib.IntN.{ℤ}
use lib.ListN.{length}
use borrow.Author.Tests.{le-ltb, lt-ltb}
use Rattle.theory.proofs.Range.{not_both}
use Rattle.refusals.specs.declared.Refusal.{Refusal}
use Rattle.tables.specs.WellFormed.{well_formed}
use Rattle.frames.specs.Frames.{max_characters}
use Rattle.lines.specs.declared.request.Request.{Request}
use Rattle.lines.specs.declared.request.Line.{Line}
use Rattle.lines.specs.declared.request.Line.TheVariants.{Asked, Refused}
use Rattle.lines.specs.Kinds.{request_kind}
use Rattle.reader.specs.Reading.{line_of}
use Rattle.replies.specs.Replies.{longest_fixed, longest_reply}
use Rattle.replies.specs.Shown.{accepted}
use Rattle.replies.proofs.Lengths.{refusal_length}
use Rattle.replies.proofs.Accepted.{empty_refused}
use Rattle.requests.specs.Answer.{Answer, answered, declined, requested, fixed_reply, fitted, line_answer}
use Rattle.requests.specs.Wrote.{Asks}
use Rattle.requests.proofs.Lengths.{requested_short, requested_most}

-- what a line asks of a block, if anything, has a fixed reply
abbrev pub FixedLine : List ℕ → List ℤ → Type 0
FixedLine l b = (q : Request) → line_of l b ≡ Asked q → fixed_reply (request_kind q) ≡ true

-- a reply that fits is given
pub fitted_same : (room : ℕ) (b : List ℤ) (a : Answer) → length a.reply ≤ room → fitted room b a ≡ a
fitted_same room b a h = rw (le-ltb room (length a.reply) h)

module _ (l : List ℕ) (b : List ℤ) (room : ℕ) where
  pub asked_line : (q : Request) → line_of l b ≡ Asked q → line_answer l b room ≡ fitted room b (requested q l b)
  unfolding line_answer
  asked_line q e = rw e

  -- a reply that is longer than the room is not given
  late_line : (q : Request) → line_of l b ≡ Asked q → room < length (requested q l b).reply → line_answer l b room ≡ answered b []
  late_line q e h = asked_line q e ∙ rw (lt-ltb room (length (requested q l b).reply) h)

  pub short_line : (q : Request) → line_of l b ≡ Asked q → length (requested q l b).reply ≤ room → line_answer l b room ≡ requested q l b
  short_line q e h = asked_line q e ∙ fitted_same room b (requested q l b) h

  -- an accepted line has the reply to what it asks, for which there is room
  pub accepted_line : accepted (line_answer l b room).reply ≡ true → (q : Request) → line_of l b ≡ Asked q → (length (requested q l b).reply ≤ room) × (line_answer l b room ≡ requested q l b)
  accepted_line y q e =
      dite (dec_lt room (length (requested q l b).reply))
      (λ (k : room < length (requested q l b).reply). absurd (not_both (rw (late_line q e k) at y) empty_refused))
      (λ n. let k : length (requested q l b).reply ≤ room = omega arith in (k, short_line q e k))

  module _ (h : longest_fixed ≤ room) where
    pub refused_line : (r : Refusal) → line_of l b ≡ Refused r → line_answer l b room ≡ declined b r
    unfolding line_answer
    refused_line r e = rw e (fitted_same room b (declined b r) (omega (arith, refusal_length r)))

    module _ (right : well_formed b ≡ true) where
      asks : (q : Request) → line_of l b ≡ Asked q → Asks l b q room
      asks q e = record { fits = h; right = right; asked = e }

      -- a fixed reply is given
      pub fixed_line : (q : Request) → fixed_reply (request_kind q) ≡ true → line_of l b ≡ Asked q → line_answer l b room ≡ requested q l b
      fixed_line q f e = short_line q e (omega (arith, requested_short l b room q f (asks q e)))

      pub line_cases : (P : Answer → Type 0)
          → ((r : Refusal) → line_of l b ≡ Refused r → P (declined b r))
          → ((q : Request) → Asks l b q room → length (requested q l b).reply ≤ room → P (requested q l b))
          → ((q : Request) → Asks l b q room → room < length (requested q l b).reply → P (answered b []))
          → P (line_answer l b room)
      line_cases P refused asked late = go (line_of l b) refl
        where
          go : (x : Line) → line_of l b ≡ x → P (line_answer l b room)
          go (Refused r) e = subst P (sym (refused_line r e)) (refused r e)
          go (Asked q) e =
              dite (dec_lt room (length (requested q l b).reply))
              (λ (k : room < length (requested q l b).reply). subst P (sym (late_line q e k)) (late q (asks q e) k))
              (λ n. let k : length (requested q l b).reply ≤ room = omega arith in subst P (sym (short_line q e k)) (asked q (asks q e) k))

      -- no reply is longer than the longest one
      pub line_short : length (line_answer l b room).reply ≤ longest_reply
      line_short =
          line_cases (λ a. length a.reply ≤ longest_reply) (λ r e. omega (arith, refusal_length r)) (λ q a k. (requested_most l b room q a).1) (λ q a k. omega arith)

      -- and none but those whose length is not fixed is longer than the longest fixed one
      pub line_short_fixed : FixedLine l b → length (line_answer l b room).reply ≤ longest_fixed
      line_short_fixed f =
          line_cases (λ a. length a.reply ≤ longest_fixed) (λ r e. omega (arith, refusal_length r)) (λ q a k. (requested_short l b room q (f q a.asked) a).1) (λ q a k. omega arith)

      -- in a room that holds the longest reply every line has one: 17 is not given there
      pub line_given : longest_reply ≤ room → 0 < length (line_answer l b room).reply
      line_given m =
          line_cases (λ a. 0 < length a.reply) (λ r e. omega (arith, refusal_length r)) (λ q a k. (requested_most l b room q a).0) (λ q a k. absurd (omega (arith, requested_most l b room q a)))

-- rooms for the longest reply are all alike
pub room_apart : (l : List ℕ) (b : List ℤ) (u v : ℕ) → longest_reply ≤ u → longest_reply ≤ v → well_formed b ≡ true → line_answer l b u ≡ line_answer l b v
room_apart l b u v g h right =
    line_cases l b u (omega arith) right (λ a. a ≡ line_answer l b v)
    (λ r e. sym (refused_line l b v (omega arith) r e))
    (λ q a k. sym (short_line l b v q a.asked (omega (arith, requested_most l b u q a))))
    (λ q a k. absurd (omega (arith, requested_most l b u q a)))

-- lines over the limit are all answered alike
pub long_line : (l k : List ℕ) (b : List ℤ) (room : ℕ) → max_characters < length l → max_characters < length k → line_answer l b room ≡ line_answer k b room
unfolding line_answer line_of
long_line l k b room g h = rw (lt-ltb max_characters (length l) g, lt-ltb max_characters (length k) h)
