-- 'a written record is taken by both straight afterwards, in a buffer as long', by radio too: what is so of plain lines in any room for a reply (proofs/Records.antt), put into the second form.
use mathlib.Core.Path.{◌≡◌, ap, ◌∙◌}
use mathlib.Core.Bool.{true}
use mathlib.Core.List.{List}
use Prim.Native.Nat.{ℕ, ◌≤◌}
use native.Mathlib.Omega.{arith}
use lib.IntN.{ℤ}
use lib.ListN.{length}
use Rattle.tables.specs.WellFormed.{well_formed}
use Rattle.lines.specs.declared.kind.Kind.{Kind}
use Rattle.lines.specs.declared.kind.Kind.TheVariants.{Screen, Planner, Record}
use Rattle.requests.specs.Answer.{Answer, line_answer}
use Rattle.requests.proofs.Begins.{line_begins}
use Rattle.radio.specs.Answer.{by_radio}
use Rattle.radio.specs.Forms.{plain_line}
use Rattle.radio.proofs.Replies.{reply_back, reply_accepted}
use Rattle.service.specs.Answer.{min_buffer, answer}
use Rattle.claims.specs.Radio.{radio_with, TakenByRadio, RecordByRadio}
use Rattle.claims.specs.Records.{line_with}
use Rattle.claims.proofs.Radio.{radio_room, radio_fits, radio_called, accepted_by_radio, radio_reply_back}
use Rattle.claims.proofs.Records.{line_kind_is, TakenIn, record_taken}

taken_by_radio : {r : List ℕ} {b : List ℤ} (buffer : List ℕ) → min_buffer ≤ length buffer → well_formed b ≡ true → TakenIn r b (radio_room buffer) → TakenByRadio r b buffer
taken_by_radio {r} {b} buffer h right t =
    let room = radio_room buffer in
    let same : (k : Kind) → answer (radio_with k r) b buffer ≡ by_radio (line_answer (line_with k r) b room) =
    λ k. radio_called k (line_with k r) b buffer (t.frame k) (line_kind_is k r) (omega (arith, t.short k)) h right in
    record {
      screen = rw (same Screen) (reply_accepted (line_begins (line_with Screen r) b room (radio_fits buffer h) right) ∙ t.screen);
      screen_leaves = rw (same Screen) t.screen_leaves;
      planner = rw (same Planner) (reply_back (line_begins (line_with Planner r) b room (radio_fits buffer h) right) ∙ t.planner);
      planner_leaves = rw (same Planner) t.planner_leaves;
    }

pub record_by_radio : RecordByRadio
record_by_radio l b buffer known y again h =
    let w = accepted_by_radio Record l b buffer known y in
    let room = radio_room buffer in
    let t = record_taken (plain_line l) b room (radio_fits buffer w.large) w.right w.known w.accepted_plain (radio_room again) (omega (arith, h)) in
    let block : (answer l b buffer).block ≡ b = ap (λ (a : Answer). a.block) w.is ∙ t.0 in
    rw (radio_reply_back w, block) (taken_by_radio again (omega (arith, w.large, h)) w.right t.1)
