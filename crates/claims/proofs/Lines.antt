-- What is claimed of one call, from what its reply shows: the figures were read back (`ReadBack` in `replies`), and each kind of reply has a claim of its own.
use Rattle.std.specs.Prelude.{Ok}
use mathlib.Core.Path.{◌≡◌, refl, sym, ap, ap₂, ◌∙◌}
use mathlib.Core.Bool.{Bool, true, false, not}
use mathlib.Core.List.{List, []}
use mathlib.Core.Logic.{◌⊎◌, ⊎_elim}
use Prim.Native.Nat.{ℕ, ◌*◌, ◌-◌, ◌<◌, ◌≤◌, ◌^◌}
use native.Mathlib.Omega.{arith}
use lib.Dec.{eqb}
use lib.IntN.{ℤ}
use lib.ListN.{length, get_or, drop}
use borrow.Author.Tests.{not-true, ne_eqb}
use Rattle.theory.specs.Lists.{nth}
use Rattle.theory.specs.Order.{each_once}
use Rattle.theory.proofs.Order.{once_cong, order_below}
use Rattle.theory.proofs.Range.{not_both, both_true}
use Rattle.refusals.specs.declared.Refusal.{Refusal}
use Rattle.refusals.specs.Refusals.{refusal_number}
use Rattle.tables.specs.Block.{max_trains, constant}
use Rattle.tables.specs.Plans.{Shape, IsPlan, Open, Branches, LeastOf, plan_open, choices_of}
use Rattle.tables.proofs.Plans.{plan_cong}
use Rattle.bounds.specs.Bounds.{bound_of}
use Rattle.certificates.specs.declared.certify.Ceiling.{Ceiling}
use Rattle.certificates.specs.Rival.{Rival, IsRival, ConstantAtMost}
use Rattle.weights.specs.Rival.{Amounts, Leaves, LiftsAtMost}
use Rattle.frames.specs.Digits.{digit, byte_at}
use Rattle.frames.specs.Fields.{field}
use Rattle.reasons.specs.declared.Reason.{Reason}
use Rattle.reasons.specs.declared.Reason.TheVariants.{Neither, Own, Partner}
use Rattle.reasons.specs.Reasons.{no_partner, reason_number, reason_train}
use Rattle.lines.specs.declared.kind.Kind.{Kind}
use Rattle.lines.specs.Kinds.{new_kind}
use Rattle.lines.specs.Layout.{kind_width, kind_of, explain_train, explain_choice, explain_limit, order_train, figure_width, record_choice, record_bound, record_cost, plan_choice}
use Rattle.lines.specs.Text.{record_digits}
use Rattle.search.specs.declared.answer.Found.{Found}
use Rattle.search.specs.Answer.{is_found, found_cost, found_plan}
use Rattle.replies.specs.Replies.{refusal_reply, choice_width, flag, bound_reply, certify_reply, shown_cost, shown_choice, search_reply, reason_reply, order_reply, screen_reply, record_reply}
use Rattle.replies.specs.Shown.{kind_shown, accepted, says_ended, says_ended_without, cost_shown, plan_shown, shows_plan, order_shown}
use Rattle.replies.proofs.ReadBack.{refusal_number_lem, constant-shown, bound_shown_lem, certify_flag, certify_weighted, certify_full_weight_lem, search_ended, search_without, search_cost, search_plan, reason-shown, train-shown, order-shown, screen_trains, screen_choice, record_behind, record_trains_shown, record_choice_shown, record_bound_shown, record_cost_shown}
use Rattle.service.specs.Calls.{exchange}
use Rattle.claims.specs.Ledger.{Ledger, by_kind, cost_of}
use Rattle.claims.specs.Claims.{PlanOf, DeclinedAs, outside, figures, malformed, scaled_cost, start_costs, BoundClaim, CeilingClaim, SearchClaim, RoundClaim, Partners, ExplainClaim, OrderClaim, ScreenClaim, RecordClaim, PlannerClaim, WrittenClaim, Claim, shown_kind, never_outside, writes_record, AtCall}
use Rattle.claims.specs.OnePlan.{OnePlan}
use Rattle.claims.proofs.ByKind.{reply_low}

-- ---- a call, from its line

module _ (g : Ledger) (b : List ℤ) (l reply : List ℕ) where
  -- a reply that is not accepted, which declines with another number, or with 23 a plan that has a forbidden entry
  pub at_refused : accepted reply ≡ false → (by_kind never_outside false l ≡ true → Open g.shape → DeclinedAs outside reply → ⊥)
      → (by_kind writes_record false l ≡ true → DeclinedAs figures reply → plan_open g.shape (plan_choice l) ≡ false) → (DeclinedAs malformed reply → ⊥) → AtCall g b (exchange l reply)
  at_refused e n u m = record { line = λ a. absurd (not_both a e); never-outside = n; unwritten = u; never-malformed = m }

  -- a reply under the line's own kind, which is no refusal
  pub at_accepted : (k : Kind) → new_kind (kind_of l) ≡ Ok k → kind_shown reply ≡ shown_kind k → Claim k g b (exchange l reply) → AtCall g b (exchange l reply)
  unfolding DeclinedAs
  at_accepted k known shown claim =
      record {
        line = λ _. record { kind = k; known = known; answered = shown; claim = claim };
        never-outside = λ _ _ d. omega (arith, d.0, shown, reply_low k);
        unwritten = λ _ d. absurd (omega (arith, d.0, shown, reply_low k));
        never-malformed = λ d. omega (arith, d.0, shown, reply_low k);
      }

-- a refusal shows its own number
pub refused_as : (r : Refusal) (n : ℕ) → DeclinedAs n (refusal_reply r) → refusal_number r ≡ n
unfolding DeclinedAs
refused_as r n d = sym (refusal_number_lem r) ∙ d.1

-- an empty reply shows none
pub empty_shows : (n : ℕ) → DeclinedAs n [] → ⊥
unfolding DeclinedAs field byte_at digit
empty_shows n d = omega (arith, d.0)

-- ---- what each kind of reply claims

-- 81 to 84, and 88
pub bound_claim : (g : Ledger) (l : List ℕ) (kind : Kind) (b : List ℤ) → bound_of b < 256 ^ figure_width → ((x : ℕ → ℕ) → PlanOf g x → bound_of b ≤ cost_of g x)
    → BoundClaim g (exchange l (bound_reply kind b))
bound_claim g l kind b h low = record { bound = λ x p. rw (bound_shown_lem kind b h) (low x p) }

-- 88
pub round_claim : (g : Ledger) (l : List ℕ) (kind : Kind) (b : List ℤ) → constant b < 256 ^ figure_width → bound_of b < 256 ^ figure_width
    → (Open g.shape → Branches g.shape → (constant b ≡ g.scale * bound_of b) × LeastOf g.shape (cost_of g) (bound_of b)) → BoundClaim g (exchange l (bound_reply kind b))
    → RoundClaim g (exchange l (bound_reply kind b))
round_claim g l kind b c h settled bound = record { bound = bound; settled = λ o one. rw (constant-shown kind b c, bound_shown_lem kind b h) (settled o one) }

-- 85, where 01 is a test's truth
pub flag_true : (t : Bool) → flag t ≡ 1 → t ≡ true
flag_true true e = refl
flag_true false e = absurd (omega (arith, e))

pub ceiling_claim : (g : Ledger) (b : List ℤ) (l : List ℕ) (full_weight : ℕ) (c : Ceiling) → 0 < full_weight → full_weight < 256 ^ 3 → c.weighted < 256 ^ 8
    → c.reached ≡ eqb c.weighted (full_weight * constant b)
    → (full_weight ≡ 1 → c.reached ≡ true → OnePlan g b l)
    → (Open g.shape → (r : Rival) → IsRival g.shape (scaled_cost g) r → ConstantAtMost full_weight c.weighted r)
    → ((up down : Amounts) → Leaves g.shape (start_costs g) up down → LiftsAtMost g.shape full_weight c.weighted up down) → CeilingClaim g b (exchange l (certify_reply full_weight c))
ceiling_claim g b l full_weight c z h q e one holds moved =
    record {
      full_weight = omega (arith, certify_full_weight_lem full_weight c h, z);
      ceiling = λ o r is. rw (certify_full_weight_lem full_weight c h, certify_weighted full_weight c q) (holds o r is);
      moved_ceiling = λ up down le. rw (certify_full_weight_lem full_weight c h, certify_weighted full_weight c q) (moved up down le);
      reached = rw (certify_full_weight_lem full_weight c h, certify_weighted full_weight c q) (certify_flag full_weight c ∙ ap flag e);
      one_plan = λ w r. one (sym (certify_full_weight_lem full_weight c h) ∙ w) (flag_true c.reached (sym (certify_flag full_weight c) ∙ r));
    }

-- 86: what is known of the answer
pub record Right (g : Ledger) (n : ℕ) (f : Found) : Type 0 where
  pub trains : n ≡ g.shape.trains
  pub inside : (j : ℕ) → j < g.shape.pairs → (g.shape.first j < n) × (g.shape.second j < n)
  pub low : is_found f ≡ true → found_cost f < 256 ^ figure_width - 1
  pub small : (i : ℕ) → i < n → get_or (found_plan f) i 0 < 256
  pub plan : is_found f ≡ true → PlanOf g (choices_of (found_plan f)) × (found_cost f ≡ cost_of g (choices_of (found_plan f)))
  pub ended : f.ended ≡ true → (x : ℕ → ℕ) → PlanOf g x → (is_found f ≡ true) × (found_cost f ≤ cost_of g x)

-- choices that agree with a plan's on every train are a plan
plan_as : (s : Shape) (x y : ℕ → ℕ) → ((i : ℕ) → i < s.trains → y i ≡ x i) → ((j : ℕ) → j < s.pairs → (s.first j < s.trains) × (s.second j < s.trains)) → IsPlan s x → IsPlan s y
plan_as s x y same inside p =
    record {
      below = λ i h. omega (arith, same i h, p.below i h);
      choices = λ i h. ap (s.choice_open i) (same i h) ∙ p.choices i h;
      entries = λ k h. ap₂ (s.entry_open k) (same (s.first k) (inside k h).0) (same (s.second k) (inside k h).1) ∙ p.entries k h;
    }

module _ (g : Ledger) (l : List ℕ) (n : ℕ) (f : Found) (r : Right g n f) where
  -- where a plan is known, it is what the reply shows
  module _ (e : is_found f ≡ true) where
    cost_known : cost_shown (search_reply n f) ≡ found_cost f
    cost_known =
        let s : shown_cost f ≡ found_cost f = rw e in
        search_cost n f (omega (arith, s, r.low e)) ∙ s

    choice_known : (i : ℕ) → shown_choice f i ≡ choices_of (found_plan f) i
    choice_known i = rw e

    plan_known : (i : ℕ) → i < n → plan_shown (search_reply n f) i ≡ choices_of (found_plan f) i
    plan_known i h = search_plan n f i h (omega (arith, choice_known i, r.small i h)) ∙ choice_known i

    pub known_shows : shows_plan (search_reply n f) ≡ true
    known_shows = rw (cost_known, ne_eqb (found_cost f) (256 ^ figure_width - 1) (λ q. omega (arith, r.low e)))

    -- on each train of the ledger, and its pairs are of these
    shown_same : (i : ℕ) → i < g.shape.trains → plan_shown (search_reply n f) i ≡ choices_of (found_plan f) i
    shown_same i h = plan_known i (omega (arith, r.trains))

    pairs_inside : (j : ℕ) → j < g.shape.pairs → (g.shape.first j < g.shape.trains) × (g.shape.second j < g.shape.trains)
    pairs_inside j h = omega (arith, r.inside j h, r.trains)

    known_plan : PlanOf g (plan_shown (search_reply n f))
    known_plan = plan_as g.shape (choices_of (found_plan f)) (plan_shown (search_reply n f)) shown_same pairs_inside (r.plan e).0

    known_cost : cost_shown (search_reply n f) ≡ cost_of g (plan_shown (search_reply n f))
    known_cost =
        cost_known
        ∙ (r.plan e).1
        ∙ plan_cong g.shape g.costs (choices_of (found_plan f)) (plan_shown (search_reply n f)) (λ i h. sym (shown_same i h)) pairs_inside

  -- where none is known, the reply shows FF
  module _ (e : is_found f ≡ false) where
    unknown_hides : shows_plan (search_reply n f) ≡ false
    unknown_hides =
        let s : shown_cost f ≡ 256 ^ figure_width - 1 = rw e in
        rw (search_cost n f (omega (arith, s)), s)

    unknown_choice : (i : ℕ) → i < n → plan_shown (search_reply n f) i ≡ 256 ^ choice_width - 1
    unknown_choice i h =
        let s : shown_choice f i ≡ 256 ^ choice_width - 1 = rw e in
        search_plan n f i h (omega (arith, s)) ∙ s

  shows_known : shows_plan (search_reply n f) ≡ true → is_found f ≡ true
  shows_known s = go (is_found f) refl
    where
      go : (t : Bool) → is_found f ≡ t → is_found f ≡ true
      go true e = e
      go false e = absurd (not_both s (unknown_hides e))

  -- 01 says ended, and shows a plan; 02 says ended, and shows none
  says_found : says_ended (search_reply n f) ≡ true → (f.ended ≡ true) × (is_found f ≡ true)
  says_found s = both_true f.ended (is_found f) (sym (search_ended n f) ∙ s)

  says_none : says_ended_without (search_reply n f) ≡ true → (f.ended ≡ true) × (is_found f ≡ false)
  says_none s = let w = both_true f.ended (not (is_found f)) (sym (search_without n f) ∙ s) in (w.0, not-true (is_found f) w.1)

  pub search_claim : SearchClaim g (exchange l (search_reply n f))
  search_claim =
      record {
        ended = λ s. known_shows (says_found s).1;
        shown = λ s. (known_plan (shows_known s), known_cost (shows_known s));
        least = λ s x p. let w = says_found s in rw (cost_known w.1) (r.ended w.0 x p).1;
        blank = λ s. let e = (says_none s).1 in (unknown_hides e, λ i h. unknown_choice e i (omega (arith, r.trains)));
        none = λ s x p. let w = says_none s in not_both (r.ended w.0 x p).0 w.1;
      }

-- 8A
reason_most : (r : Reason) → reason_number r ≤ 2
reason_most Neither = omega arith
reason_most Own = omega arith
reason_most (Partner j) = omega arith

-- what 02 names, of a train below 24, and what else stands there
of_partner : {P : ℕ → Type 0} (r : Reason) → ((j : ℕ) → r ≡ Partner j → P j) → reason_number r ≡ 2 → P (reason_train r)
of_partner (Partner j) f e = f j refl
of_partner Neither f e = absurd (omega (arith, e))
of_partner Own f e = absurd (omega (arith, e))

without_partner : (r : Reason) → (reason_number r ≡ 2 → ⊥) → reason_train r ≡ no_partner
without_partner Neither n = refl
without_partner Own n = refl
without_partner (Partner j) n = absurd (n refl)

pub explain_claim : (g : Ledger) (l : List ℕ) (r : Reason) → reason_train r < 256
    → ((reason_number r ≡ 0 → ⊥) → (x : ℕ → ℕ) → PlanOf g x → x (explain_train l) ≡ explain_choice l → explain_limit l ≤ cost_of g x)
    → ((j : ℕ) → r ≡ Partner j → Partners g (explain_train l) j) → ExplainClaim g (exchange l (reason_reply r))
explain_claim g l r h costs named =
    let n = reason-shown r in
    let t = train-shown r h in
    record {
      reason = omega (arith, n, reason_most r);
      costs = λ e. costs (λ z. ⊎_elim (λ q. absurd (omega (arith, n, z, q))) (λ q. absurd (omega (arith, n, z, q))) e);
      named = λ e. rw t (of_partner {P = Partners g (explain_train l)} r named (sym n ∙ e));
      unnamed = λ e. t ∙ without_partner r (λ q. e (n ∙ q));
    }

-- 8B: the trains of a list that has each train of the ledger once, as the line has them
pub order_claim : (g : Ledger) (l : List ℕ) (trains : List ℕ) → length trains ≡ g.shape.trains → g.shape.trains ≤ max_trains → each_once g.shape.trains (nth trains) ≡ true
    → ((d : ℕ) → d < g.shape.trains → nth trains d ≡ order_train l d) → OrderClaim g (exchange l (order_reply trains))
order_claim g l trains e few once same =
    record { once = once_cong g.shape.trains (order_shown (order_reply trains)) (nth trains) shown ∙ once; same = λ d h. shown d h ∙ same d h }
  where
    shown : (d : ℕ) → d < g.shape.trains → order_shown (order_reply trains) d ≡ nth trains d
    shown d h = order-shown trains d (omega (arith, e)) (omega (arith, few, order_below {order = nth trains} (record { once = once }) d h))

-- 8C to 8E: a list that has a choice of the ledger for each train
pub record Chosen (g : Ledger) (choices : List ℕ) : Type 0 where
  pub trains : length choices ≡ g.shape.trains
  pub few : g.shape.trains ≤ max_trains
  pub there : (i : ℕ) → i < g.shape.trains → nth choices i < g.shape.size i
  pub small : (i : ℕ) → i < g.shape.trains → nth choices i < 256

-- 8C: as the line has them
pub screen_claim : (g : Ledger) (l : List ℕ) (choices : List ℕ) → Chosen g choices → ((i : ℕ) → i < g.shape.trains → nth choices i ≡ record_choice l i)
    → ScreenClaim g (exchange l (screen_reply choices))
screen_claim g l choices c same =
    record {
      trains = screen_trains choices (omega (arith, c.trains, c.few)) ∙ c.trains;
      there = λ i h. omega (arith, shown i h, c.there i h);
      same = λ i h. shown i h ∙ same i h;
    }
  where
    shown : (i : ℕ) → i < g.shape.trains → record_choice (screen_reply choices) i ≡ nth choices i
    shown i h = screen_choice choices i (omega (arith, c.trains)) (c.small i h)

-- 8D and 8E: they are a plan, with its cost and a bound that is not above it
pub record RightFigures (g : Ledger) (choices : List ℕ) (bound cost : ℕ) : Type 0 where
  pub plan : PlanOf g (nth choices)
  pub inside : (j : ℕ) → j < g.shape.pairs → (g.shape.first j < g.shape.trains) × (g.shape.second j < g.shape.trains)
  pub total : cost ≡ cost_of g (nth choices)
  pub covers : bound ≤ cost
  pub low : cost < 256 ^ figure_width

module _ (g : Ledger) (l : List ℕ) (kind : Kind) (choices : List ℕ) (bound cost : ℕ) (c : Chosen g choices) (f : RightFigures g choices bound cost) where
  abbrev shown_record : List ℕ
  shown_record = record_reply kind choices bound cost

  fewer : length choices < 256
  fewer = omega (arith, c.trains, c.few)

  recorded_choice : (i : ℕ) → i < g.shape.trains → record_choice shown_record i ≡ nth choices i
  recorded_choice i h = record_choice_shown kind choices bound cost i (omega (arith, c.trains)) (c.small i h)

  recorded_bound : record_bound shown_record ≡ bound
  recorded_bound = record_bound_shown kind choices bound cost fewer (omega (arith, f.covers, f.low))

  recorded_cost : record_cost shown_record ≡ cost
  recorded_cost = record_cost_shown kind choices bound cost fewer f.low

  recorded_total : record_cost shown_record ≡ cost_of g (record_choice shown_record)
  recorded_total = recorded_cost ∙ f.total ∙ plan_cong g.shape g.costs (nth choices) (record_choice shown_record) (λ i h. sym (recorded_choice i h)) f.inside

  record_claim : RecordClaim g (exchange l shown_record)
  record_claim =
      record {
        trains = record_trains_shown kind choices bound cost fewer ∙ c.trains;
        plan = plan_as g.shape (nth choices) (record_choice shown_record) recorded_choice f.inside f.plan;
        cost = recorded_total;
        bound = omega (arith, recorded_bound, recorded_cost, f.covers);
      }

  -- 8D: the record that stands in the line
  pub planner_claim : record_digits choices bound cost ≡ drop (2 * kind_width) l → PlannerClaim g (exchange l shown_record)
  planner_claim again = record { right = record_claim; same = record_behind kind choices bound cost ∙ again }

  -- 8E: with a bound that is at most every plan's cost
  pub written_claim : ((i : ℕ) → i < g.shape.trains → nth choices i ≡ plan_choice l i) → ((x : ℕ → ℕ) → PlanOf g x → bound ≤ cost_of g x) → WrittenClaim g (exchange l shown_record)
  written_claim same low = record { right = record_claim; same = λ i h. recorded_choice i h ∙ same i h; low = λ x p. rw recorded_bound (low x p) }
