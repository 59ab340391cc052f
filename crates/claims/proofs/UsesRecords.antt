-- What follows from each part of what demand 3 says of plan records (specs/Claims.antt), on a study of three trains with a forbidden choice and a forbidden entry: wrong replies that the statement
-- excludes. Each law has the statement as its premise, as in Uses.
use mathlib.Core.Path.{◌≡◌, refl, ap}
use mathlib.Core.Bool.{true, cond}
use mathlib.Core.List.{List, [], ◌∷◌, ◌++◌}
use Prim.Native.Nat.{ℕ, ◌<◌, ◌≤◌}
use Prim.Native.String.{String}
use native.Mathlib.Omega.{arith}
use lib.Dec.{eqb}
use lib.IntN.{ℤ}
use Rattle.theory.specs.Lists.{nth}
use Rattle.theory.specs.Range.{all, pass}
use Rattle.theory.proofs.Range.{not_both}
use Rattle.tables.specs.WellFormed.{fresh_block}
use Rattle.tables.specs.Plans.{plan_open}
use Rattle.frames.specs.Frames.{all_digits}
use Rattle.frames.specs.Text.{codes}
use Rattle.lines.specs.declared.kind.Kind.TheVariants.{Screen, Planner, Record}
use Rattle.lines.specs.Kinds.{kind_number}
use Rattle.lines.specs.Layout.{kind_of}
use Rattle.decoding.specs.Numbers.{numbers_of}
use Rattle.replies.specs.Shown.{accepted}
use Rattle.service.specs.Answer.{answer}
use Rattle.service.specs.Calls.{Call, last_block}
use Rattle.service.proofs.Lists.{next_answer, last_more}
use Rattle.claims.specs.Ledger.{Ledger, numbers_ledger}
use Rattle.claims.specs.Claims.{PlanOf, DeclinedAs, AtLine, AtCall}
use Rattle.claims.specs.Records.{ScreenApart, behind_kind, screen_answer, planner_answer, SameChoices, Taken, TakenByBoth}
use Rattle.claims.proofs.ByKind.{line_claim}
use Rattle.claims.proofs.ByComputing.{plan_test, plan_lem}
use Rattle.claims.proofs.Uses.{told}

-- two choices for each train, of which choice 1 of train 0 is forbidden; and so is choice 0 of train 0 beside choice 1 of train 1. The plans 000 and 001 cost 4 and 3, and there is no other
unfoldable closed_load : String
closed_load = "01030001020202000002FFFFFF000000000000000001000000010001000001FFFFFF000000000000"

unfoldable closed : Ledger
unfolding closed_load codes
closed = numbers_ledger (numbers_of (codes closed_load))

last_choice : ℕ → ℕ
last_choice i = cond (eqb i 2) 1 0

plan_001 : PlanOf closed last_choice
unfolding told closed_load closed last_choice plan_test
plan_001 = plan_lem closed.shape last_choice refl

module _ {b : List ℤ} where
  -- ---- 8C: n of 4; choice 2 of train 2; and a choice that the record does not have
  fourth_train : AtLine closed b (told "0C" "8C0400000000") → ⊥
  unfolding told closed_load closed
  fourth_train a = let h : ◌≡◌ {A = ℕ} 4 3 = (line_claim a Screen refl).trains in omega arith

  absent_shown : AtLine closed b (told "0C" "8C03000002") → ⊥
  unfolding told closed_load closed
  absent_shown a = let h : 2 < 2 = (line_claim a Screen refl).there 2 (omega arith) in omega arith

  other_screen : AtLine closed b (told "0C03000000" "8C03000001") → ⊥
  unfolding told closed_load closed
  other_screen a = let h : ◌≡◌ {A = ℕ} 1 0 = (line_claim a Screen refl).same 2 (omega arith) in omega arith

  -- ---- a record: of two trains; with the forbidden choice; with the forbidden entry; plan 000 at a cost of 3, and with a bound of 5
  two_recorded : AtLine closed b (told "0D" "8D020000000000000003000000000003") → ⊥
  unfolding told closed_load closed
  two_recorded a = let h : ◌≡◌ {A = ℕ} 2 3 = (line_claim a Planner refl).right.trains in omega arith

  forbidden_choice_record : AtLine closed b (told "0E" "8E03010000000000000001000000000001") → ⊥
  unfolding told closed_load closed
  forbidden_choice_record a = not_both ((line_claim a Record refl).right.plan.choices 0 (omega arith)) refl

  forbidden_record : AtLine closed b (told "0E" "8E03000100000000000003000000000003") → ⊥
  unfolding told closed_load closed
  forbidden_record a = not_both ((line_claim a Record refl).right.plan.entries 0 (omega arith)) refl

  other_record_cost : AtLine closed b (told "0D" "8D03000000000000000003000000000003") → ⊥
  unfolding told closed_load closed
  other_record_cost a = let h : ◌≡◌ {A = ℕ} 3 4 = (line_claim a Planner refl).right.cost in omega arith

  high_record : AtLine closed b (told "0D" "8D03000000000000000005000000000004") → ⊥
  unfolding told closed_load closed
  high_record a = let h : 5 ≤ 4 = (line_claim a Planner refl).right.bound in omega arith

  -- ---- 8D: a bound of 3 where the record has 2
  other_bound_read : AtLine closed b (told "0D03000000000000000002000000000004" "8D03000000000000000003000000000004") → ⊥
  unfolding told
  other_bound_read a = let h : ◌≡◌ {A = ℕ} 51 50 = ap (λ (p : List ℕ). nth p 19) (line_claim a Planner refl).same in omega arith

  -- ---- 8E: another choice than the line's; and a bound of 4, where plan 001 costs 3
  other_written : AtLine closed b (told "0E000001" "8E03000000000000000003000000000004") → ⊥
  unfolding told closed_load closed
  other_written a = let h : ◌≡◌ {A = ℕ} 0 1 = (line_claim a Record refl).same 2 (omega arith) in omega arith

  high_written : AtLine closed b (told "0E000000" "8E03000000000000000004000000000004") → ⊥
  unfolding told closed_load closed last_choice
  high_written a = let h : 4 ≤ 3 = (line_claim a Record refl).low last_choice plan_001 in omega arith

  -- 23 to a plan
  unwritten_plan : AtCall closed b (told "0E000001" "FF17") → ⊥
  unfolding told closed_load closed DeclinedAs all plan_open
  unwritten_plan a = not_both refl (a.unwritten refl (refl, refl))

-- ---- what is said of records beside demand 3 (specs/Records.antt)

-- document 02's lines of 0C with other figures are answered alike
other_figures : ScreenApart → (b : List ℤ) (buffer : List ℕ) → answer (codes "0C020001000000000002000000000002") b buffer ≡ answer (codes "0C020001FFFFFFFFFFFF123456789ABC") b buffer
unfolding told all_digits pass
other_figures apart = apart _ _ (record { screen = refl; digits = (refl, refl); long = refl; front = refl })

-- no screen shows choices 00 of a record of which planners are shown choices 01
other_shown : SameChoices → (r : List ℕ) (b c : List ℤ) (buffer other : List ℕ) → (screen_answer r b buffer).reply ≡ codes "8C020000"
    → (planner_answer r c other).reply ≡ codes "8D020001000000000002000000000002" → ⊥
unfolding told
other_shown same r b c buffer other e f =
    let d = same r b c buffer other (rw e refl) (rw f refl) in
    let h : ◌≡◌ {A = ℕ} 48 49 = ap (λ (p : List ℕ). nth p 5) (rw (e, f) at d) in
    omega arith

-- a record that a list of lines from fresh has written last is taken by both on the block that the list leaves
taken_after : TakenByBoth → (calls : List Call) (c : Call) → kind_of c.line ≡ kind_number Record → accepted (next_answer fresh_block calls c).reply ≡ true
    → Taken (behind_kind (next_answer fresh_block calls c).reply) (last_block fresh_block (calls ++ c ∷ [])) c.buffer
taken_after taken calls c known y = rw (last_more fresh_block calls c) (taken c.line (last_block fresh_block calls) c.buffer known y c.buffer (omega arith))
