-- What an accepted line of kind 0F is: its sizes are right, they give no more tries than may be, and there is room for the line that loads their dearest study, which is its reply. And the other way: such a line is accepted, and one whose sizes give more tries is declined with 24.
use mathlib.Core.Path.{◌≡◌, subst, ◌∙◌}
use mathlib.Core.Bool.{true, false}
use mathlib.Core.List.{List}
use Prim.Native.Nat.{ℕ, ◌≤◌}
use native.Mathlib.Omega.{arith}
use lib.IntN.{ℤ}
use lib.ListN.{length}
use Rattle.refusals.specs.declared.Refusal.TheVariants.{Tries}
use Rattle.dearest.specs.Dearest.{SizesRight, tries_within, dearest}
use Rattle.lines.specs.declared.request.FieldRun.{FieldRun}
use Rattle.lines.specs.declared.request.Line.TheVariants.{Asked}
use Rattle.lines.specs.Layout.{load_trains, dearest_size_field}
use Rattle.lines.specs.Text.{load_digits}
use Rattle.lines.specs.Verdicts.{field_run}
use Rattle.kinds.specs.Dearest.{dearest_request}
use Rattle.reader.specs.Reading.{line_of}
use Rattle.replies.specs.Replies.{longest_fixed}
use Rattle.replies.specs.Shown.{accepted}
use Rattle.replies.proofs.Lengths.{refusal_length}
use Rattle.requests.specs.Answer.{Answer, answered, declined, choices_in, requested, line_answer}
use Rattle.requests.specs.Wrote.{Asks}
use Rattle.requests.proofs.Ready.{dearest_ready}
use Rattle.requests.proofs.Dearest.{few_given, many_declined, accepted_few}
use Rattle.requests.proofs.LineCases.{accepted_line, short_line}

-- where the sizes stand
abbrev pub size_run : List ℕ → FieldRun
size_run l = field_run dearest_size_field.at (load_trains l)

-- an answer that is the line of the dearest study of the sizes that a line gives
pub record IsDearest (l : List ℕ) (b : List ℤ) (room : ℕ) (a : Answer) : Type 0 where
  pub right : SizesRight (choices_in l (size_run l))
  pub few : tries_within (choices_in l (size_run l)) ≡ true
  pub fits : length (load_digits (dearest (choices_in l (size_run l)))) ≤ room
  pub is : a ≡ answered b (load_digits (dearest (choices_in l (size_run l))))

module _ (l : List ℕ) (b : List ℤ) (room : ℕ) where
  pub dearest_accepted_line : accepted (line_answer l b room).reply ≡ true → Asks l b (dearest_request l) room → IsDearest l b room (line_answer l b room)
  unfolding requested
  dearest_accepted_line y a =
      let sizes = choices_in l (size_run l) in
      let c = accepted_line l b room y (dearest_request l) a.asked in
      let few = accepted_few sizes b (subst (λ (x : Answer). accepted x.reply ≡ true) c.1 y) in
      let given = few_given sizes b few in
      record { right = (dearest_ready a).right; few = few; fits = rw given at c.0; is = c.1 ∙ given }

  -- ---- the other way

  module _ (e : line_of l b ≡ Asked (dearest_request l)) where
    pub dearest_line_given : tries_within (choices_in l (size_run l)) ≡ true → length (load_digits (dearest (choices_in l (size_run l)))) ≤ room
        → line_answer l b room ≡ answered b (load_digits (dearest (choices_in l (size_run l))))
    unfolding requested
    dearest_line_given few f = let given = few_given (choices_in l (size_run l)) b few in short_line l b room (dearest_request l) e (rw given f) ∙ given

    -- 24, whatever room there is for the line
    pub dearest_line_declined : tries_within (choices_in l (size_run l)) ≡ false → longest_fixed ≤ room → line_answer l b room ≡ declined b Tries
    unfolding requested
    dearest_line_declined many h =
        let given = many_declined (choices_in l (size_run l)) b many in short_line l b room (dearest_request l) e (rw given (omega (arith, refusal_length Tries))) ∙ given
