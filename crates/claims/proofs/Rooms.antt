-- Two rooms, equal ceilings: a certificate that says reached has weights that agree, spare what is forbidden, and weigh T as W times its constant. In both blocks T weighs s times what the one H does, so neither
-- constant is above the other (`reached_same` in weights). Of the lists nothing is needed but that block and ledger keep together, which an accepted certificate shows, in either form.
use Rattle.std.specs.Prelude.{Result, Ok, Err}
use mathlib.Core.Path.{◌≡◌, refl, sym, ap, ap₂, ◌∙◌}
use mathlib.Core.Bool.{true, false, ◌&&◌}
use mathlib.Core.List.{List}
use mathlib.Core.Logic.{inl, inr}
use Prim.Native.Nat.{ℕ, ◌*◌, ◌<◌, ◌≤◌}
use native.Mathlib.Nat.{mul_assoc, mul_comm}
use lib.Dec.{eqb}
use lib.IntN.{ℤ}
use borrow.Author.Tests.{eqb-true}
use Rattle.theory.proofs.Range.{not_both, both_true}
use Rattle.refusals.specs.declared.Refusal.{Refusal}
use Rattle.tables.specs.Block.{loaded_choice_place, loaded_entry_place, scale, constant}
use Rattle.tables.specs.WellFormed.{is_open, is_fresh, Study}
use Rattle.tables.specs.Plans.{AlikeShapes, shape_of, loaded_costs, held_costs}
use Rattle.tables.specs.Counts.{weight_count}
use Rattle.tables.proofs.Plans.{study_shaped, alike_back}
use Rattle.tables.proofs.Study.{fresh_is_fresh, same_figure}
use Rattle.certificates.specs.declared.certify.Ceiling.{Ceiling}
use Rattle.certificates.specs.Certify.{Weights, weighted, certificate}
use Rattle.certificates.proofs.Agrees.{Agrees}
use Rattle.certificates.proofs.Ceilings.{certify_ceiling}
use Rattle.weights.specs.Weights.{Spares}
use Rattle.weights.proofs.Alike.{alike_agrees, alike_spares, alike_weighted}
use Rattle.weights.proofs.Spared.{spared_spares}
use Rattle.weights.proofs.Weighs.{Weighs, open_weighted, alike_weighs, reached_same}
use Rattle.lines.specs.declared.kind.Kind.TheVariants.{Certify}
use Rattle.lines.specs.Kinds.{kind_number, new_kind}
use Rattle.lines.specs.Layout.{kind_of, certify_full_weight}
use Rattle.lines.proofs.KindNumbers.{number_kind}
use Rattle.kinds.specs.Lines.{certify_request}
use Rattle.kinds.proofs.Accepted.{certify_fine}
use Rattle.reader.proofs.LineAccepted.{line_makes}
use Rattle.replies.specs.Replies.{longest_fixed}
use Rattle.replies.specs.Shown.{accepted, flag_shown, weighted_shown, full_weight_shown}
use Rattle.replies.proofs.Accepted.{refusal_refused}
use Rattle.replies.proofs.ReadBack.{certify_flag}
use Rattle.requests.specs.Answer.{Answer, certified, requested, line_answer}
use Rattle.requests.specs.Wrote.{Asks}
use Rattle.requests.proofs.LineCases.{fixed_line}
use Rattle.service.specs.Calls.{Call, exchange}
use Rattle.claims.specs.Ledger.{Ledger}
use Rattle.claims.specs.Claims.{reaches}
use Rattle.claims.specs.Rooms.{EqualStudies, says_reached, last_of, block_after, RoomsAgree, OpenRoomsAgree}
use Rattle.claims.proofs.Asking.{line_asking, asking_kind}
use Rattle.claims.proofs.ByKind.{line_claim}
use Rattle.claims.proofs.Keeps.{Keeps}
use Rattle.claims.proofs.Lines.{flag_true}
use Rattle.claims.proofs.OnePlan.{line_weights}
use Rattle.claims.proofs.After.{State, state_right, called_line, last_of_calls}

-- ---- a certificate that says reached

-- it leaves a block that some ledger keeps together with, whose constant some weights reach; and its reply shows them
record Reached (b : List ℤ) (reply : List ℕ) : Type 0 where
  ledger : Ledger
  keeps : Keeps ledger b
  weights : Weights
  agrees : Agrees (shape_of b) weights
  spares : Spares (shape_of b) weights
  above : 0 < weights.full_weight
  is : weighted (shape_of b) weights (held_costs b) ≡ weights.full_weight * constant b
  shows : weighted_shown reply ≡ full_weight_shown reply * constant b

-- a study was loaded
keeps_of : {g : Ledger} {b : List ℤ} → State g b → is_fresh b ≡ false → Keeps g b
keeps_of (inl e) f = absurd (not_both fresh_is_fresh (rw e at f))
keeps_of (inr k) f = k

module _ {g : Ledger} {b : List ℤ} (s : State g b) (l : List ℕ) (room : ℕ) (fits : longest_fixed ≤ room) where
  abbrev here : Answer
  here = line_answer l b room

  module _ (y : accepted here.reply ≡ true) (known : new_kind (kind_of l) ≡ Ok Certify) (f : flag_shown here.reply ≡ 1) where
    asked : Asks l b (certify_request l (weight_count (shape_of b))) room
    asked = asking_kind Certify (line_asking l b room fits (state_right s) y) known

    answer_is : here ≡ certified (certify_full_weight l) (certificate b (line_weights l b)) b
    unfolding requested
    answer_is = fixed_line l b room asked.fits asked.right (certify_request l (weight_count (shape_of b))) refl asked.asked

    -- what demand 3 claims of it
    shows_it : weighted_shown here.reply ≡ full_weight_shown here.reply * constant b
    shows_it =
        let claim = line_claim ((called_line s l room fits).call.line y) Certify known in
        eqb-true _ _ (flag_true (reaches b here.reply) (sym claim.reached ∙ f))

    reached_call : Reached here.block here.reply
    reached_call = go (certificate b (line_weights l b)) refl
      where
        go : (c : Result Ceiling Refusal) → certificate b (line_weights l b) ≡ c → Reached here.block here.reply
        go (Err r) h = absurd (not_both (rw (answer_is, h) at y) (refusal_refused r))
        go (Ok c) h =
            let w = certify_ceiling b (line_weights l b) h in
            let m = line_makes l b (certify_request l (weight_count (shape_of b))) asked.asked in
            let e = flag_true c.reached (sym (certify_flag (certify_full_weight l) c) ∙ rw (answer_is, h) at f) in
            let same : here.block ≡ b = rw (answer_is, h) refl in
            rw same
            (record {
              ledger = g;
              keeps = keeps_of s m.1.2;
              weights = line_weights l b;
              agrees = w.agrees;
              spares = spared_spares (shape_of b) (line_weights l b) w.spares;
              above = (certify_fine l (weight_count (shape_of b)) m.1.1).full_weight.0;
              is = eqb-true _ _ (sym w.reached ∙ e);
              shows = shows_it;
            })

  reached_says : accepted here.reply ≡ true → says_reached (exchange l here.reply) ≡ true → Reached here.block here.reply
  reached_says y e =
      let p = both_true (accepted here.reply) (eqb (kind_of l) (kind_number Certify) && eqb (flag_shown here.reply) 1) e in
      let q = both_true (eqb (kind_of l) (kind_number Certify)) (eqb (flag_shown here.reply) 1) p.1 in
      reached_call y (ap new_kind (eqb-true (kind_of l) (kind_number Certify) q.0) ∙ number_kind Certify) (eqb-true (flag_shown here.reply) 1 q.1)

-- a list that ends so leaves such a block
reached_after : (calls : List Call) → says_reached (last_of calls) ≡ true → Reached (block_after calls) (last_of calls).reply
reached_after calls e =
    let r = last_of calls in
    let y = (both_true (accepted r.reply) (eqb (kind_of r.line) (kind_number Certify) && eqb (flag_shown r.reply) 1) e).0 in
    last_of_calls (λ l a. says_reached (exchange l a.reply) ≡ true → Reached a.block a.reply) (λ g b s l room h y. reached_says s l room h y) calls y e

-- ---- equal studies

module _ {b c : List ℤ} (e : EqualStudies b c) where
  -- −1 is a number like any other, so what is forbidden is equal too
  pub equal_shapes : AlikeShapes (shape_of b) (shape_of c)
  equal_shapes =
      record {
        trains_same = e.trains_same;
        sizes_same = e.sizes_same;
        pairs_same = e.pairs_same;
        firsts_same = e.firsts_same;
        seconds_same = e.seconds_same;
        choices_open_same = λ i a h q. ap is_open (e.choices_same i a h q);
        entries_open_same = λ k a d h q r. ap is_open (e.entries_same k a d h q r);
      }

  -- the other's T weighs s times what this one's H does
  equal_weighs : Study b → Study c → Weighs (shape_of c) (scale c) (loaded_costs c) (held_costs c) → Weighs (shape_of b) (scale b) (loaded_costs b) (held_costs c)
  unfolding loaded_costs
  equal_weighs s u x =
      let v = alike_weighs (alike_back equal_shapes (study_shaped s)) (study_shaped u) x in
      record {
        weighs = λ w ag sp.
            v.weighs w ag sp
            ∙ ap₂ (λ (m n : ℕ). m * n) (sym e.scale_same)
            (open_weighted (shape_of b) w sp (loaded_costs c) (loaded_costs b) refl
            (λ i a h q o. same_figure b c (loaded_choice_place i a) (sym (e.choices_same i a h q)))
            (λ k a d h q r o. same_figure b c (loaded_entry_place k a d) (sym (e.entries_same k a d h q r))));
      }

  module _ {x y : List ℕ} (r : Reached b x) (q : Reached c y) where
    equal_constants : constant b ≡ constant c
    unfolding held_costs
    equal_constants =
        let sh = study_shaped r.keeps.study in
        reached_same {t = held_costs b} {u = held_costs c} r.keeps.weighs (equal_weighs r.keeps.study q.keeps.study q.keeps.weighs)
        r.weights r.agrees r.spares r.above r.is
        q.weights (alike_agrees equal_shapes sh q.weights q.agrees) (alike_spares equal_shapes sh q.weights q.spares) q.above
        (alike_weighted equal_shapes sh q.weights (held_costs c) ∙ q.is)

    -- E of the one times W of the other
    equal_ceilings : weighted_shown x * full_weight_shown y ≡ weighted_shown y * full_weight_shown x
    equal_ceilings =
        let v : ℕ = full_weight_shown x in
        let w : ℕ = full_weight_shown y in
        ap (λ (n : ℕ). n * w) (r.shows ∙ ap (λ (n : ℕ). v * n) equal_constants)
        ∙ mul_assoc v (constant c) w ∙ ap (λ (n : ℕ). v * n) (mul_comm (constant c) w) ∙ mul_comm v (w * constant c)
        ∙ ap (λ (n : ℕ). n * v) (sym q.shows)

-- every two lists
pub rooms_agree : RoomsAgree
rooms_agree calls more w =
    let r = reached_after calls w.one in
    let q = reached_after more w.other in
    record { constants = equal_constants w.equal r q; ceilings = equal_ceilings w.equal r q }

pub open_rooms_agree : OpenRoomsAgree
open_rooms_agree calls more w o = (rooms_agree calls more w).constants
