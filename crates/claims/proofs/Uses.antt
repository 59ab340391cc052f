-- What follows from each part of demand 3's statement (specs/Claims.antt), on document 01's J and its session, and for a round on a branch line: what the replies there say, and wrong replies that the
-- statement excludes. Each law has the statement as its premise, not the service, so a part that said less would leave its law here without a proof. With forbidden entries, and at three parts a point,
-- such laws stand in UsesForbidden.
use Rattle.std.specs.Prelude.{Result, Ok, Err}
use mathlib.Core.Path.{◌≡◌, refl, sym, ap, subst}
use mathlib.Core.Bool.{true, false, cond, ◌&&◌}
use mathlib.Core.List.{List, [], ◌∷◌, map}
use mathlib.Core.Logic.{inl, inr, ⊎_elim}
use Prim.Native.Nat.{ℕ, zero, suc, ◌<◌, ◌≤◌}
use Prim.Native.String.{String}
use native.Mathlib.Omega.{arith}
use lib.Dec.{eqb}
use lib.IntN.{ℤ}
use lib.ListN.{length, take}
use borrow.Author.Tests.{not-true}
use Rattle.theory.specs.Sum.{sum}
use Rattle.theory.specs.Lists.{list_from}
use Rattle.theory.specs.Range.{all, pass}
use Rattle.theory.specs.Order.{each_once}
use Rattle.theory.proofs.Range.{not_both}
use Rattle.refusals.specs.declared.Refusal.{Refusal}
use Rattle.refusals.specs.declared.Refusal.TheVariants.{Fields, NoKind}
use Rattle.refusals.specs.Verdicts.{first_of}
use Rattle.tables.specs.Block.{trains, scale, pairs, constant, size, first, second, loaded_choice, loaded_entry}
use Rattle.tables.specs.WellFormed.{fresh_block}
use Rattle.tables.specs.Numbers.{is_cost, permits, paid}
use Rattle.tables.specs.Plans.{Open, Branches, LeastOf, PairOf, choice_total, pair_total, total, held_total}
use Rattle.tables.proofs.Plans.{plan_cong}
use Rattle.bounds.specs.Bounds.{bound_of}
use Rattle.clauses.specs.Clauses.{meets, failed, failed_weight}
use Rattle.certificates.specs.Rival.{as_fraction, plus, times, sum_of, Same, AtMost, Rival, rival_total, IsRival, ConstantAtMost}
use Rattle.weights.specs.Rival.{Amounts, given_of, Leaves, LiftsAtMost}
use Rattle.frames.specs.Digits.{digit, digit_of, byte_at}
use Rattle.frames.specs.Fields.{field, signed, field_digits}
use Rattle.frames.specs.Frames.{all_digits, framed}
use Rattle.frames.specs.Text.{codes}
use Rattle.lines.specs.declared.kind.Kind.{Kind}
use Rattle.lines.specs.declared.kind.Kind.TheVariants.{Load, Add, Shift, Tighten, Certify, Search, Save, Round, Clauses, Explain, Order}
use Rattle.lines.specs.declared.request.Line.TheVariants.{Asked, Refused}
use Rattle.lines.specs.Kinds.{new_kind}
use Rattle.lines.specs.Layout.{pair_at}
use Rattle.lines.specs.Verdicts.{field_verdict}
use Rattle.kinds.specs.Load.{pair_ordered, pair_verdict, head_verdict, rest_verdict, load_verdict}
use Rattle.decoding.specs.Numbers.{entries_of, numbers_of}
use Rattle.decoding.specs.Clauses.{clauses_of}
use Rattle.kinds.specs.Lines.{study_line}
use Rattle.reader.specs.Reading.{kind_line, line_of}
use Rattle.search.specs.declared.answer.Found.{Found}
use Rattle.search.specs.Ordered.{searched}
use Rattle.search.specs.Answer.{shown, search_answer}
use Rattle.search.specs.Stops.{Sooner, searched_on}
use Rattle.replies.specs.Shown.{accepted, bound_shown}
use Rattle.radio.specs.Answer.{form_answer}
use Rattle.radio.specs.Forms.{is_radio, plain_line, plain_reply}
use Rattle.service.specs.Answer.{min_buffer, answer}
use Rattle.service.specs.Calls.{Call, Exchange, exchange, last_block}
use Rattle.service.proofs.Calls.{answered_form}
use Rattle.claims.specs.Ledger.{Ledger, numbers_ledger, empty_ledger, plain_exchange, plain_exchanges, fed, ledger_of, cost_of, has_load}
use Rattle.claims.specs.Claims.{PlanOf, DeclinedAs, scaled_cost, start_costs, BoundClaim, AtLine, AtCall, EachCall, AfterList, Claimed}
use Rattle.claims.specs.OnePlan.{choice_weight, entry_weight, OnePlan}
use Rattle.claims.specs.Declined.{RefusedDeclines}
use Rattle.claims.specs.Rounds.{RoundRaises}
use Rattle.claims.specs.Stops.{SearchesSooner}
use Rattle.claims.specs.Seen.{Seen, Chained, seen_blocks, seen_exchanges}
use Rattle.claims.proofs.ByKind.{line_answered, line_claim, own_claim}
use Rattle.claims.proofs.Seen.{seen_demand}

-- a line and its reply, to be computed: whoever opens this name opens each definition on the way from characters to the ledger's costs
unfoldable pub told : String → String → Exchange
unfolding codes digit byte_at field list_from pair_at entries_of numbers_of permits paid sum choice_total pair_total total accepted new_kind is_radio fed ledger_of has_load
told l r = exchange (codes l) (codes r)

-- 'J is the first line above, loaded': by its ledger the plans 00, 01, 10 and 11 cost 3, 2, 3 and 2
unfoldable load : String
load = "010200010202000002000000000000000000010001000001000000000003000002"

unfoldable j : Ledger
unfolding load codes
j = numbers_ledger (numbers_of (codes load))

-- the plan of two trains that takes a and c
plan : ℕ → ℕ → ℕ → ℕ
plan a c i = cond (eqb i 0) a c

-- what holds at 0 and at 1 holds of one pair, of two trains and of two choices
at_one : (P : ℕ → Type 0) → P 0 → (k : ℕ) → k < 1 → P k
at_one P p zero h = p
at_one P p (suc k) h = absurd (omega arith)

pub at_two : (P : ℕ → Type 0) → P 0 → P 1 → (a : ℕ) → a < 2 → P a
at_two P p q zero h = p
at_two P p q (suc zero) h = q
at_two P p q (suc (suc a)) h = absurd (omega arith)

plan_01 : PlanOf j (plan 0 1)
unfolding told load j plan
plan_01 =
    record {
      below = at_two (λ i. plan 0 1 i < j.shape.size i) (omega arith) (omega arith);
      choices = at_two (λ i. j.shape.choice_open i (plan 0 1 i) ≡ true) refl refl;
      entries = at_one (λ k. j.shape.entry_open k (plan 0 1 (j.shape.first k)) (plan 0 1 (j.shape.second k)) ≡ true) refl;
    }

-- nothing is forbidden
j_open : Open j.shape
unfolding told load j
j_open =
    record {
      choices = λ i a h q.
          at_two (λ i. (a : ℕ) → a < j.shape.size i → j.shape.choice_open i a ≡ true) (at_two (λ a. j.shape.choice_open 0 a ≡ true) refl refl) (at_two (λ a. j.shape.choice_open 1 a ≡ true) refl refl)
          i h a q;
      entries = λ k a c h p q.
          at_one (λ k. (a c : ℕ) → a < j.shape.size (j.shape.first k) → c < j.shape.size (j.shape.second k) → j.shape.entry_open k a c ≡ true)
          (λ a c p q. at_two (λ a. j.shape.entry_open 0 a c ≡ true) (at_two (λ c. j.shape.entry_open 0 0 c ≡ true) refl refl c q) (at_two (λ c. j.shape.entry_open 0 1 c ≡ true) refl refl c q) a p)
          k h a c p q;
    }

-- a bound of 3 is above the cost of plan 01
too_high : {e : Exchange} → BoundClaim j e → bound_shown e.reply ≡ 3 → ⊥
unfolding told load j plan
too_high c e = let h : _ ≤ 2 = c.bound (plan 0 1) plan_01 in omega (arith, e)

-- by a bound of 2 no plan costs less
says_2 : {e : Exchange} → BoundClaim j e → bound_shown e.reply ≡ 2 → (x : ℕ → ℕ) → PlanOf j x → 2 ≤ cost_of j x
unfolding told load j
says_2 c e x p = omega (arith, c.bound x p, e)

-- a branch line of two trains, two parts a point, at which tightening finds nothing: the plans 00, 01, 10 and 11 cost 1, 2, 1 and 1
unfoldable branch_load : String
branch_load = "010200020202000001000000000000000001010001000000000000000001000000"

unfoldable branch : Ledger
unfolding branch_load codes
branch = numbers_ledger (numbers_of (codes branch_load))

branch_branches : Branches branch.shape
unfolding told branch_load branch
branch_branches = record { one = λ k l p q e. let first : k < 1 = p in let second : l < 1 = q in omega arith }

branch_open : Open branch.shape
unfolding told branch_load branch
branch_open =
    record {
      choices = λ i a h q.
          at_two (λ i. (a : ℕ) → a < branch.shape.size i → branch.shape.choice_open i a ≡ true) (at_two (λ a. branch.shape.choice_open 0 a ≡ true) refl refl)
          (at_two (λ a. branch.shape.choice_open 1 a ≡ true) refl refl) i h a q;
      entries = λ k a c h p q.
          at_one (λ k. (a c : ℕ) → a < branch.shape.size (branch.shape.first k) → c < branch.shape.size (branch.shape.second k) → branch.shape.entry_open k a c ≡ true)
          (λ a c p q. at_two (λ a. branch.shape.entry_open 0 a c ≡ true) (at_two (λ c. branch.shape.entry_open 0 0 c ≡ true) refl refl c q)
          (at_two (λ c. branch.shape.entry_open 0 1 c ≡ true) refl refl c q) a p) k h a c p q;
    }

-- no plan costs nothing
branch_cost : (a c : ℕ) → a < 2 → c < 2 → 0 < cost_of branch (plan a c)
unfolding told branch_load branch plan
branch_cost zero zero h k = omega arith
branch_cost zero (suc zero) h k = omega arith
branch_cost (suc zero) zero h k = omega arith
branch_cost (suc zero) (suc zero) h k = omega arith
branch_cost (suc (suc a)) c h k = absurd (omega arith)
branch_cost zero (suc (suc c)) h k = absurd (omega arith)
branch_cost (suc zero) (suc (suc c)) h k = absurd (omega arith)

branch_above : (x : ℕ → ℕ) → PlanOf branch x → 0 < cost_of branch x
unfolding told branch_load branch plan
branch_above x p = branch_cost (x 0) (x 1) (p.below 0 (omega arith)) (p.below 1 (omega arith))

-- J tightened is a rival with a constant of 2, of which choice 0 of train 1 costs 1 and all else nothing
rival : Rival
rival = record { gain = as_fraction 2; loss = as_fraction 0; choice = λ i a. as_fraction (cond (eqb i 1 && eqb a 0) 1 0); pair = λ k a c. as_fraction 0 }

-- it gives plan (a, c) its cost
same_cost : (a c : ℕ) → a < 2 → c < 2 → Same (rival_total j.shape rival (plan a c)) (plus (as_fraction (scaled_cost j (plan a c))) (as_fraction 0))
unfolding told load j plan rival Same rival_total sum_of plus as_fraction
same_cost zero zero h k = refl
same_cost zero (suc zero) h k = refl
same_cost (suc zero) zero h k = refl
same_cost (suc zero) (suc zero) h k = refl
same_cost (suc (suc a)) c h k = absurd (omega arith)
same_cost zero (suc (suc c)) h k = absurd (omega arith)
same_cost (suc zero) (suc (suc c)) h k = absurd (omega arith)

is_rival : IsRival j.shape (scaled_cost j) rival
unfolding told load j plan rival IsRival Same rival_total sum_of plus as_fraction
is_rival x p = same_cost (x 0) (x 1) (p.below 0 (omega arith)) (p.below 1 (omega arith))

-- the same by lifts and moves: 2 goes from row 1 of the pair to choice 1 of train 0, and 2 from train 0 to the constant
ups : Amounts
ups = record { lift = λ i. as_fraction (cond (eqb i 0) 2 0); row = λ k a. as_fraction (cond (eqb a 1) 2 0); column = λ k c. as_fraction 0 }

downs : Amounts
downs = record { lift = λ i. as_fraction 0; row = λ k a. as_fraction 0; column = λ k c. as_fraction 0 }

-- it leaves nothing below 0
leaves_choice : (i a : ℕ) → i < 2 → a < 2
    → AtMost (plus (ups.lift i) (given_of j.shape downs i a)) (plus (plus (as_fraction ((start_costs j).choice i a)) (downs.lift i)) (given_of j.shape ups i a))
unfolding told load j ups downs AtMost given_of sum_of plus as_fraction
leaves_choice zero zero h q = omega arith
leaves_choice zero (suc zero) h q = omega arith
leaves_choice (suc zero) zero h q = omega arith
leaves_choice (suc zero) (suc zero) h q = omega arith
leaves_choice (suc (suc i)) a h q = absurd (omega arith)
leaves_choice zero (suc (suc a)) h q = absurd (omega arith)
leaves_choice (suc zero) (suc (suc a)) h q = absurd (omega arith)

leaves_entry : (a c : ℕ) → a < 2 → c < 2 → AtMost (plus (ups.row 0 a) (ups.column 0 c)) (plus (plus (as_fraction ((start_costs j).pair 0 a c)) (downs.row 0 a)) (downs.column 0 c))
unfolding told load j ups downs AtMost plus as_fraction
leaves_entry zero zero h q = omega arith
leaves_entry zero (suc zero) h q = omega arith
leaves_entry (suc zero) zero h q = omega arith
leaves_entry (suc zero) (suc zero) h q = omega arith
leaves_entry (suc (suc a)) c h q = absurd (omega arith)
leaves_entry zero (suc (suc c)) h q = absurd (omega arith)
leaves_entry (suc zero) (suc (suc c)) h q = absurd (omega arith)

ups_leave : Leaves j.shape (start_costs j) ups downs
unfolding told load j
ups_leave =
    record {
      choices = λ i a h q o. leaves_choice i a h (at_two (λ i. a < j.shape.size i → a < 2) (λ l. l) (λ l. l) i h q);
      entries = λ k a c h p q o.
          at_one (λ k. a < j.shape.size (j.shape.first k) → c < j.shape.size (j.shape.second k)
          → AtMost (plus (ups.row k a) (ups.column k c)) (plus (plus (as_fraction ((start_costs j).pair k a c)) (downs.row k a)) (downs.column k c)))
          (λ p q. leaves_entry a c p q) k h p q;
    }

-- one clause: train 0 takes its choice 0 or train 1 does, else 5 points
unfoldable one_clause : String
one_clause = "0902000100010102000005"

-- ---- wrong replies to lines on J, whatever block a call had

module _ {b : List ℤ} where
  -- a line of no kind
  no_kind : AtLine j b (told "FF" "81000000000000000000000000") → ⊥
  unfolding told
  no_kind a = let z : ◌≡◌ {A = Result Kind Refusal} (Err NoKind) (Ok a.kind) = a.known in cc

  -- an 01 line answered under 84
  other_kind : AtLine j b (told load "84000000000000000000000000") → ⊥
  unfolding told load
  other_kind a = let h : ◌≡◌ {A = ℕ} 132 129 = line_answered a Load refl in omega arith

  -- an 07 line answered under 87
  save_under_87 : AtLine j b (told "07" "87") → ⊥
  unfolding told
  save_under_87 a = let h : ◌≡◌ {A = ℕ} 135 1 = line_answered a Save refl in omega arith

  -- a saved line with a cost of 3 where the ledger has 2
  other_save : AtLine j b (told "07" "010200010202000003000000000000000000010001000001000000000003000002") → ⊥
  unfolding told load j
  other_save a = let h : ◌≡◌ {A = ℕ} 3 2 = (line_claim a Save refl).gives.choices_same 0 0 (omega arith) (omega arith) in omega arith

  -- a saved line with a byte left over, which no block takes
  long_save : AtLine j b (told "07" "01020001020200000200000000000000000001000100000100000000000300000200") → ⊥
  unfolding told load is_cost first_of pass all_digits framed field_verdict pair_ordered pair_verdict head_verdict rest_verdict load_verdict study_line kind_line line_of
  long_save a = let z : Refused Fields ≡ Asked _ = (line_claim a Save refl).taken fresh_block in let h : ◌≡◌ {A = ℕ} 0 1 = cc in omega arith

  -- a bound of 3, to each kind that shows a bound
  high_bound : AtLine j b (told load "81000000000000000000000003") → ⊥
  unfolding told load
  high_bound a = too_high (line_claim a Load refl) refl

  high_added : AtLine j b (told "02" "82000000000000000000000003") → ⊥
  unfolding told
  high_added a = too_high (line_claim a Add refl) refl

  high_shifted : AtLine j b (told "03" "83000000000000000000000003") → ⊥
  unfolding told
  high_shifted a = too_high (line_claim a Shift refl) refl

  high_tightened : AtLine j b (told "04" "84000000000000000000000003") → ⊥
  unfolding told
  high_tightened a = too_high (line_claim a Tighten refl) refl

  high_round : AtLine j b (told "08" "88000000000000000000000003") → ⊥
  unfolding told
  high_round a = too_high (line_claim a Round refl).bound refl

  high_clauses : AtLine j b (told "09" "89000000000000000000000003") → ⊥
  unfolding told
  high_clauses a = too_high (line_claim a Clauses refl).bound_shown_lem refl

  -- plan 01 fails no clause of this line, and costs 2
  other_weights : AtLine j b (told one_clause "89000000000000000000000000") → ⊥
  unfolding told load j plan signed one_clause clauses_of meets failed failed_weight
  other_weights a = let h : ◌≡◌ {A = ℕ} 2 0 = (line_claim a Clauses refl).weights (plan 0 1) plan_01 in omega arith

  -- W of 0
  no_full_weight : AtLine j b (told "05" "85010000000000000002000000") → ⊥
  unfolding told
  no_full_weight a = let h : 0 < 0 = (line_claim a Certify refl).full_weight in omega arith

  -- a ceiling of 1
  low_ceiling : AtLine j b (told "05" "85000000000000000001000001") → ⊥
  unfolding told load rival ConstantAtMost AtMost times plus as_fraction
  low_ceiling a = let h : 2 ≤ 1 = (line_claim a Certify refl).ceiling j_open rival is_rival in omega arith

  low_moved : AtLine j b (told "05" "85000000000000000001000001") → ⊥
  unfolding told load j ups downs LiftsAtMost AtMost sum_of times plus as_fraction
  low_moved a = let h : 2 ≤ 1 = (line_claim a Certify refl).moved_ceiling ups downs ups_leave in omega arith

  -- ended, with no plan
  ended_without_plan : AtLine j b (told "06" "860100000004FFFFFFFFFFFFFFFF") → ⊥
  unfolding told
  ended_without_plan a = not_both ((line_claim a Search refl).ended refl) refl

  -- choice 2 of train 1
  absent_choice : AtLine j b (told "06" "8600000000030000000000020002") → ⊥
  unfolding told load j
  absent_choice a = let h : 2 < 2 = ((line_claim a Search refl).shown refl).0.below 1 (omega arith) in omega arith

  -- plan 01 at a cost of 3
  other_cost : AtLine j b (told "06" "8600000000030000000000030001") → ⊥
  unfolding told load j
  other_cost a = let h : ◌≡◌ {A = ℕ} 3 2 = ((line_claim a Search refl).shown refl).1 in omega arith

  -- ended with plan 00, which costs 3
  worse_plan : AtLine j b (told "06" "8601000000040000000000030000") → ⊥
  unfolding told load j plan
  worse_plan a = let h : 3 ≤ 2 = (line_claim a Search refl).least refl (plan 0 1) plan_01 in omega arith

  -- 02, where there is a plan
  without_on_j : AtLine j b (told "06" "860200000004FFFFFFFFFFFFFFFF") → ⊥
  unfolding told load j plan
  without_on_j a = (line_claim a Search refl).none refl (plan 0 1) plan_01

  -- 01 of choice 1 of train 1 at a limit of 3: plan 01 costs 2
  own_above : AtLine j b (told "0A010100000003" "8A01FF") → ⊥
  unfolding told load j plan
  own_above a = let h : 3 ≤ 2 = (line_claim a Explain refl).costs (inl refl) (plan 0 1) plan_01 refl in omega arith

  -- 02 of it
  pair_above : AtLine j b (told "0A010100000003" "8A0200") → ⊥
  unfolding told load j plan
  pair_above a = let h : 3 ≤ 2 = (line_claim a Explain refl).costs (inr refl) (plan 0 1) plan_01 refl in omega arith

  -- the train that is asked about as its own partner
  own_partner : AtLine j b (told "0A010100000001" "8A0201") → ⊥
  unfolding told load j
  own_partner a =
      let n = (line_claim a Explain refl).named refl in
      at_one (λ k. PairOf j.shape 1 1 k → ⊥)
      (λ t. ⊎_elim (λ (q : (0 ≡ 1) × (1 ≡ 1)). omega (arith, q.0)) (λ (q : (1 ≡ 1) × (0 ≡ 1)). omega (arith, q.1)) t) n.pair n.there n.trains

  -- a partner beside 01
  partner_of_01 : AtLine j b (told "0A010100000000" "8A0100") → ⊥
  unfolding told
  partner_of_01 a = let h : ◌≡◌ {A = ℕ} 0 255 = (line_claim a Explain refl).unnamed (λ (e : ◌≡◌ {A = ℕ} 1 2). omega (arith, e)) in omega arith

  -- a reason 03
  fourth_reason : AtLine j b (told "0A010100000000" "8A03FF") → ⊥
  unfolding told
  fourth_reason a = let h : 3 ≤ 2 = (line_claim a Explain refl).reason in omega arith

  -- an order with train 0 twice, and one that the line does not give
  train_twice : AtLine j b (told "0B0000" "8B0000") → ⊥
  unfolding told load j all each_once
  train_twice a = not_both ((line_claim a Order refl).once) refl

  turned_order : AtLine j b (told "0B0001" "8B0100") → ⊥
  unfolding told load j
  turned_order a = let h : ◌≡◌ {A = ℕ} 1 0 = (line_claim a Order refl).same 0 (omega arith) in omega arith

-- ---- replies to a round of the branch line

module _ {b : List ℤ} where
  -- a constant and a bound of 2 parts and 1 point: a plan costs 1, and none less
  settled_round : AtLine branch b (told "08" "88000000000002000000000001") → LeastOf branch.shape (cost_of branch) 1
  unfolding told branch
  settled_round a = ((line_claim a Round refl).settled branch_open branch_branches).1

  -- a bound of 0, as a tightening leaves it: no plan costs nothing
  low_round : AtLine branch b (told "08" "88000000000000000000000000") → ⊥
  unfolding told branch
  low_round a =
      let l = ((line_claim a Round refl).settled branch_open branch_branches).1 in
      let h : cost_of branch l.plan ≡ 0 = l.is in
      omega (arith, h, branch_above l.plan l.is_plan)

  -- a constant of 1 part beside a bound of 1 point
  low_constant : AtLine branch b (told "08" "88000000000001000000000001") → ⊥
  unfolding told branch_load branch
  low_constant a = let h : ◌≡◌ {A = ℕ} 1 2 = ((line_claim a Round refl).settled branch_open branch_branches).0 in omega arith

  -- a saved line of one part a point
  saved_scale : AtLine branch b (told "07" "010200010202000001000000000000000001010001000000000000000001000000") → ⊥
  unfolding told branch_load branch
  saved_scale a = let h : ◌≡◌ {A = ℕ} 1 2 = (line_claim a Save refl).gives.scale_same in omega arith

module _ (g : Ledger) (b : List ℤ) where
  -- E = W × c0, but 00; and 01, but E above it
  not_reached : constant b ≡ 2 → AtCall g b (told "05" "85000000000000000002000001") → ⊥
  unfolding told
  not_reached e a = let h : ◌≡◌ {A = ℕ} 0 1 = rw e at (line_claim (a.line refl) Certify refl).reached in omega arith

  reached_above : constant b ≡ 1 → AtCall g b (told "05" "85010000000000000002000001") → ⊥
  unfolding told
  reached_above e a = let h : ◌≡◌ {A = ℕ} 1 0 = rw e at (line_claim (a.line refl) Certify refl).reached in omega arith

  -- 12 to an addition, to a tightening and to a round, where nothing is forbidden, and 16 to any line
  add-outside : Open g.shape → AtCall g b (told "020000000001" "FF0C") → ⊥
  unfolding told DeclinedAs
  add-outside o a = a.never-outside refl o (refl, refl)

  tighten_outside : Open g.shape → AtCall g b (told "04" "FF0C") → ⊥
  unfolding told DeclinedAs
  tighten_outside o a = a.never-outside refl o (refl, refl)

  round_outside : Open g.shape → AtCall g b (told "08" "FF0C") → ⊥
  unfolding told DeclinedAs
  round_outside o a = a.never-outside refl o (refl, refl)

  no_malformed : (l : List ℕ) → AtCall g b (exchange l (told "" "FF10").reply) → ⊥
  unfolding told DeclinedAs
  no_malformed l a = a.never-malformed (refl, refl)

-- ---- certificates on J with W = 1 that say reached: W, the weights of both trains, and those of the pair

-- a plan's cost, by its two choices
cost_by : (x : ℕ → ℕ) (a c : ℕ) → x 0 ≡ a → x 1 ≡ c → cost_of j x ≡ cost_of j (plan a c)
unfolding told load j plan
cost_by x a c e f =
    plan_cong j.shape j.costs x (plan a c) (at_two (λ i. x i ≡ plan a c i) e f) (λ k h. at_one (λ k. (j.shape.first k < j.shape.trains) × (j.shape.second k < j.shape.trains)) (omega arith) k h)

-- choices of weight 1 are the plan's
weighed_only : {b : List ℤ} {l : List ℕ} → (w : OnePlan j b l) (a c : ℕ) → a < 2 → c < 2 → choice_weight j.shape l 0 a ≡ 1 → choice_weight j.shape l 1 c ≡ 1 → (a ≡ w.plan 0) × (c ≡ w.plan 1)
unfolding told load j plan
weighed_only {l = l} w a c h q e f =
    let same = w.only (plan a c) (at_two (λ i. plan a c i < j.shape.size i) h q) (at_two (λ i. choice_weight j.shape l i (plan a c i) ≡ 1) e f) in
    (same 0 (omega arith), same 1 (omega arith))

module _ {b : List ℤ} where
  -- no weight is 1
  no_weights : AtLine j b (told "05000001000000000000000000000000000000000000000000000000" "85010000000000000002000001") → ⊥
  unfolding told load j
  no_weights a =
      let w = (line_claim a Certify refl).one_plan refl refl in
      at_two (λ c. choice_weight j.shape (told "05000001000000000000000000000000000000000000000000000000" "").line 0 c ≡ 1 → ⊥) (λ e. omega (arith, e)) (λ e. omega (arith, e))
      (w.plan 0) (w.is_plan.below 0 (omega arith)) (w.choices 0 (omega arith))

  -- plan 01 has weight 1 at its choices, and no entry has any
  no_entry_weights : AtLine j b (told "05000001000001000000000000000001000000000000000000000000" "85010000000000000002000001") → ⊥
  unfolding told load j
  no_entry_weights a =
      let w = (line_claim a Certify refl).one_plan refl refl in
      let l = (told "05000001000001000000000000000001000000000000000000000000" "").line in
      at_two (λ c. (d : ℕ) → d < 2 → entry_weight j.shape l 0 c d ≡ 1 → ⊥) (at_two (λ d. entry_weight j.shape l 0 0 d ≡ 1 → ⊥) (λ e. omega (arith, e)) (λ e. omega (arith, e)))
      (at_two (λ d. entry_weight j.shape l 0 1 d ≡ 1 → ⊥) (λ e. omega (arith, e)) (λ e. omega (arith, e))) (w.plan 0) (w.is_plan.below 0 (omega arith)) (w.plan 1) (w.is_plan.below 1 (omega arith))
      (w.entries 0 (omega arith))

  -- both choices of train 0 have weight 1
  two_plans : AtLine j b (told "05000001000001000001000000000001000000000001000000000001" "85010000000000000002000001") → ⊥
  unfolding told load j
  two_plans a =
      let w = (line_claim a Certify refl).one_plan refl refl in
      let one = weighed_only w 0 1 (omega arith) (omega arith) refl refl in
      let other = weighed_only w 1 1 (omega arith) (omega arith) refl refl in
      omega (arith, one.0, other.0)

  -- weight 1 on plan 00, which costs 3
  dear_plan : AtLine j b (told "05000001000001000000000001000000000001000000000000000000" "85010000000000000002000001") → ⊥
  unfolding told load j plan
  dear_plan a =
      let w = (line_claim a Certify refl).one_plan refl refl in
      let is = weighed_only w 0 0 (omega arith) (omega arith) refl refl in
      let c : cost_of j w.plan ≡ 3 = cost_by w.plan 0 0 (sym is.0) (sym is.1) in
      let h : cost_of j w.plan ≤ 2 = w.least (plan 0 1) plan_01 in
      omega (arith, c, h)

  -- by c0 and T no plan comes to less either
  least_parts : AtLine j b (told "05000001000001000000000000000001000000000001000000000000" "85010000000000000002000001") → (y : ℕ → ℕ) × ((x : ℕ → ℕ) → PlanOf j x → held_total b y ≤ held_total b x)
  unfolding told
  least_parts a = let w = (line_claim a Certify refl).one_plan refl refl in (w.plan, w.least_held)

-- ---- document 01's session, its search with the count that document 02, change 6, leaves it

unfoldable session : List Exchange
unfolding told load
session =
    told load "81000000000000000000000000"
    ∷ told "04" "84000000000002000000000002"
    ∷ told "05000001000001000000000000000001000000000001000000000000" "85010000000000000002000001"
    ∷ told "060000000A" "8601000000030000000000020001"
    ∷ []

-- a list has a block for each line
as_many_blocks : {b : List ℤ} → Claimed [] session b → ⊥
unfolding session EachCall
as_many_blocks d = d.each

module _ {b₀ b₁ b₂ b₃ b : List ℤ} (d : Claimed (b₀ ∷ b₁ ∷ b₂ ∷ b₃ ∷ []) session b) where
  -- what the tightening, the certificate and the search show
  tightened_bound : (x : ℕ → ℕ) → PlanOf j x → 2 ≤ cost_of j x
  unfolding told load j session EachCall
  tightened_bound = says_2 (own_claim (d.each.1.0.line refl) Tighten refl refl) refl

  certified-ceiling : (r : Rival) → IsRival j.shape (scaled_cost j) r → ConstantAtMost 1 2 r
  unfolding told load j session EachCall
  certified-ceiling = (own_claim (d.each.1.1.0.line refl) Certify refl refl).ceiling j_open

  last_call : (x : ℕ → ℕ) → PlanOf j x → 2 ≤ cost_of j x
  unfolding told load j session EachCall
  last_call = (own_claim (d.each.1.1.1.0.line refl) Search refl refl).least refl

  -- the block that is left
  after : AfterList j b
  unfolding told load j session
  after = d.after refl

  j_shape : (trains b ≡ 2) × (scale b ≡ 1) × (size b 0 ≡ 2) × (pairs b ≡ 1) × (first b 0 ≡ 0) × (second b 0 ≡ 1)
  unfolding told load j
  j_shape =
      let s = after.same.shape_same in
      let n : trains b ≡ 2 = s.trains_same in
      let m : pairs b ≡ 1 = s.pairs_same in
      (n, after.same.scale_same, s.sizes_same 0 (omega arith), m, s.firsts_same 0 (omega arith), s.seconds_same 0 (omega arith))

  j_costs : (loaded_choice b 0 0 ≡ 2) × (loaded_entry b 0 0 0 ≡ 1)
  unfolding told load j
  j_costs =
      let s = after.same in
      let e = j_shape in
      let d : size b 1 ≡ 2 = s.shape_same.sizes_same 1 (omega (arith, e.0)) in (
        s.choices_same 0 0 (omega (arith, e.0)) (omega (arith, e.2)),
        s.entries_same 0 0 0 (omega (arith, e.3)) (rw e.4 (omega (arith, e.2))) (rw (e.5, d) (omega arith)),
      )

  j-total : held_total b (plan 0 1) ≡ 2
  unfolding told load j plan
  j-total = after.totals (plan 0 1) plan_01

  j_bound : bound_of b ≤ 2
  unfolding told load j plan
  j_bound = after.bound (plan 0 1) plan_01

-- a call on the block that a list left is answered by its line, in either form: never with 16
next_line_lem : {bs : List (List ℤ)} {es : List Exchange} {b : List ℤ} → Claimed bs es b → (l buffer : List ℕ) → min_buffer ≤ length buffer → answer l b buffer ≡ form_answer l b (length buffer)
next_line_lem {b = b} d l buffer h = answered_form l b buffer h d.right

-- ---- what the ledger is fed of a second form

-- J loaded by radio is fed as J loaded
fed_by_radio : plain_exchange (told "410200010202000002000000000000000000010001000001000000000003000002AE" "C10000000000000000000000003F") ≡ told load "81000000000000000000000000"
unfolding told load digit_of field_digits pass all_digits framed plain_line plain_reply
fed_by_radio = refl

-- ---- what a caller saw

-- J and its tightening were answered as in the session, in either form, by calls that met the contract: no plan of J costs less than 2
seen_bound : (s t : Seen) → Chained fresh_block (s ∷ t ∷ []) → map plain_exchange (seen_exchanges (s ∷ t ∷ [])) ≡ take 2 session → (x : ℕ → ℕ) → PlanOf j x → 2 ≤ cost_of j x
unfolding told load j session EachCall seen_blocks
seen_bound s t c e = let d : EachCall empty_ledger (s.block ∷ t.block ∷ []) (take 2 session) = subst (EachCall empty_ledger (s.block ∷ t.block ∷ [])) e (seen_demand (s ∷ t ∷ []) c).each in
    says_2 (own_claim (d.1.0.line refl) Tighten refl refl) refl

-- ---- what is said of searches, of declined calls and of rounds beside demand 3

-- after J and its tightening a search knows the plan that document 01's walk knows, by no more tries, and has ended where that has; and where its best does not cost the bound its answer is that walk's
module _ (sooner : SearchesSooner) (calls : List Call) (e : plain_exchanges fresh_block calls ≡ take 2 session) (budget : ℕ) where
  abbrev here : List ℤ
  here = last_block fresh_block calls

  abbrev old : Found
  old = shown (scale here) (searched_on here budget)

  sooner_there : Sooner (searched here budget) (searched_on here budget)
  unfolding told load session
  sooner_there = sooner calls (subst (λ (es : List Exchange). has_load es ≡ true) (sym e) refl) budget

  same_plan : (search_answer here budget).best ≡ old.best
  unfolding search_answer
  same_plan = let s = sooner_there in rw (s.found, s.best, s.plan) refl

  no_more_tries : (search_answer here budget).count ≤ old.count
  unfolding search_answer
  no_more_tries = sooner_there.tries

  ends_too : old.ended ≡ true → (search_answer here budget).ended ≡ true
  unfolding search_answer
  ends_too y = rw (sooner_there.ends (not-true (searched_on here budget).spent y)) refl

  unmet_alike : (searched here budget).met ≡ false → search_answer here budget ≡ old
  unfolding search_answer
  unmet_alike n = ap (shown (scale here)) (sooner_there.equal n)

-- a call that is answered FF0C leaves its block
declined_12 : RefusedDeclines → (l : List ℕ) (b : List ℤ) (buffer : List ℕ) → (answer l b buffer).reply ≡ (told "" "FF0C").reply → (answer l b buffer).block ≡ b
unfolding told
declined_12 declines l b buffer e = (declines l b buffer (rw e refl)).block

-- a round never takes from a constant of 2
round_from_2 : RoundRaises → (b : List ℤ) (buffer : List ℕ) → constant b ≡ 2 → 2 ≤ constant (answer (codes "08") b buffer).block
unfolding told
round_from_2 raises b buffer e = let h : constant b ≤ constant (answer (codes "08") b buffer).block = raises (codes "08") b buffer refl in omega (arith, h, e)
