-- What is claimed of plan records, on a block that the ledger keeps. Choices that the block has are the ledger's; where the figures of a record are right, they are a plan of the ledger, with its
-- cost. The published bound is at most every plan's cost, so that a record is not written for its figures only where its plan has a forbidden entry.
use mathlib.Core.Path.{◌≡◌, refl, sym, ◌∙◌}
use mathlib.Core.Bool.{Bool, true, false}
use mathlib.Core.List.{List}
use Prim.Native.Nat.{ℕ, ◌<◌}
use native.Mathlib.Omega.{arith}
use lib.IntN.{ℤ}
use lib.ListN.{length}
use Rattle.theory.specs.Lists.{nth}
use Rattle.theory.proofs.Lists.{list_length, list_nth}
use Rattle.theory.proofs.Range.{not_both}
use Rattle.tables.specs.Block.{trains, size}
use Rattle.tables.specs.Plans.{IsPlan, shape_of, choices_held, plan_open, loaded_total}
use Rattle.tables.proofs.Held.{held_trains, held_below, held_plan, open_cong, alike_open}
use Rattle.tables.proofs.Plans.{study_shaped, alike_shaped, alike_inside}
use Rattle.tables.proofs.Study.{trains_range, size_range}
use Rattle.bounds.specs.Bounds.{bound_of}
use Rattle.records.specs.Records.{record_right}
use Rattle.records.proofs.Right.{right_parts, right_intro}
use Rattle.frames.specs.Digits.{bytes}
use Rattle.frames.specs.Frames.{Framed}
use Rattle.lines.specs.declared.kind.Kind.TheVariants.{Planner, Record}
use Rattle.lines.specs.Layout.{record_trains, record_choice_field, record_choice, record_bound, record_cost, plan_choice_field, plan_choice}
use Rattle.lines.specs.Verdicts.{field_run}
use Rattle.lines.proofs.Records.{record_again}
use Rattle.kinds.proofs.RecordsAccepted.{FineRecord, FinePlan, held_list}
use Rattle.replies.specs.Replies.{screen_reply, record_reply}
use Rattle.requests.specs.Answer.{choices_in}
use Rattle.service.specs.Calls.{exchange}
use Rattle.claims.specs.Ledger.{Ledger}
use Rattle.claims.specs.Claims.{ScreenClaim, PlannerClaim, WrittenClaim}
use Rattle.claims.proofs.Keeps.{Keeps, plan_out, cost_is, bound_low, loaded_total_most}
use Rattle.claims.proofs.Lines.{Chosen, screen_claim, RightFigures, planner_claim, written_claim}

-- choices that the block has
module _ {g : Ledger} {b : List ℤ} (k : Keeps g b) (choices : List ℕ) (held : choices_held (shape_of b) (length choices) (nth choices) ≡ true) where
  count : length choices ≡ trains b
  count = held_trains (shape_of b) (length choices) (nth choices) held

  below : (i : ℕ) → i < trains b → nth choices i < size b i
  below i h = held_below (shape_of b) (length choices) (nth choices) held i (omega (arith, count))

  -- are the ledger's
  chosen : Chosen g choices
  chosen =
      let s = k.same.shape_same in
      record {
        trains = count ∙ s.trains_same;
        few = omega (arith, s.trains_same, trains_range k.study);
        there = λ i h. let q : i < trains b = omega (arith, s.trains_same) in omega (arith, below i q, s.sizes_same i q);
        small = λ i h. let q : i < trains b = omega (arith, s.trains_same) in omega (arith, below i q, size_range k.study i q);
      }

  -- where none of their entries is forbidden they are a plan
  open_plan : plan_open (shape_of b) (nth choices) ≡ true → IsPlan (shape_of b) (nth choices)
  open_plan = held_plan (shape_of b) (length choices) (nth choices) held

  right_figures : (bound cost : ℕ) → record_right b (nth choices) bound cost ≡ true → RightFigures g choices bound cost
  right_figures bound cost right =
      let r = right_parts b (nth choices) bound cost right in
      let p = open_plan r.0 in
      let s = k.same.shape_same in
      record {
        plan = plan_out k (nth choices) p;
        inside = λ j h. omega (arith, alike_inside s (study_shaped k.study) j h, s.trains_same);
        total = r.1.0 ∙ sym (cost_is k (nth choices) p);
        covers = omega (arith, r.1.0, r.1.1);
        low = omega (arith, r.1.0, loaded_total_most k.study (nth choices) p);
      }

  -- where no record of them is written, one is forbidden: the published bound is not above their total
  forbidden_by_ledger : record_right b (nth choices) (bound_of b) (loaded_total b (nth choices)) ≡ false → plan_open g.shape (nth choices) ≡ false
  forbidden_by_ledger e = go (plan_open g.shape (nth choices)) refl
    where
      go : (t : Bool) → plan_open g.shape (nth choices) ≡ t → plan_open g.shape (nth choices) ≡ false
      go false q = q
      go true q =
          let x = nth choices in
          let o = alike_open k.same.shape_same (study_shaped k.study) x below ∙ q in
          let p = open_plan o in
          absurd (not_both (right_intro b x (bound_of b) (loaded_total b x) o refl (omega (arith, bound_low k x (plan_out k x p), cost_is k x p))) e)

module _ {g : Ledger} {b : List ℤ} (k : Keeps g b) {l : List ℕ} where
  -- ---- 0C and 0D

  module _ (f : FineRecord l b) where
    abbrev read : List ℕ
    read = choices_in l (field_run record_choice_field.at (record_trains l))

    read_held : choices_held (shape_of b) (length read) (nth read) ≡ true
    read_held = held_list (shape_of b) (record_trains l) (record_choice l) read refl ∙ f.held

    pub screen_right : ScreenClaim g (exchange l (screen_reply read))
    screen_right =
        let c = chosen k read read_held in
        screen_claim g l read c (λ i h. list_nth (record_choice l) 0 (record_trains l) i (omega (arith, c.trains, list_length (record_choice l) (record_trains l))))

    pub planner_right : Framed l (bytes l) → record_right b (nth read) (record_bound l) (record_cost l) ≡ true
        → PlannerClaim g (exchange l (record_reply Planner read (record_bound l) (record_cost l)))
    planner_right w right =
        planner_claim g l Planner read (record_bound l) (record_cost l) (chosen k read read_held) (right_figures k read read_held (record_bound l) (record_cost l) right)
        (record_again l w.digits f.ends)

  -- ---- 0E

  module _ (f : FinePlan l b) where
    abbrev given : List ℕ
    given = choices_in l (field_run plan_choice_field.at (trains b))

    given_held : choices_held (shape_of b) (length given) (nth given) ≡ true
    given_held = held_list (shape_of b) (trains b) (plan_choice l) given refl ∙ f.held

    given_same : (i : ℕ) → i < g.shape.trains → nth given i ≡ plan_choice l i
    given_same i h = list_nth (plan_choice l) 0 (trains b) i (omega (arith, k.same.shape_same.trains_same))

    pub written_right : record_right b (nth given) (bound_of b) (loaded_total b (nth given)) ≡ true
        → WrittenClaim g (exchange l (record_reply Record given (bound_of b) (loaded_total b (nth given))))
    written_right right =
        let total = loaded_total b (nth given) in
        written_claim g l Record given (bound_of b) total (chosen k given given_held) (right_figures k given given_held (bound_of b) total right) given_same (bound_low k)

    pub unwritten_forbidden : record_right b (nth given) (bound_of b) (loaded_total b (nth given)) ≡ false → plan_open g.shape (plan_choice l) ≡ false
    unwritten_forbidden e =
        sym (open_cong g.shape (alike_shaped k.same.shape_same (study_shaped k.study)) (nth given) (plan_choice l) given_same) ∙ forbidden_by_ledger k given given_held e
