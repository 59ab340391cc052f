-- The promises about plan records (specs/Records.antt). 1: no field of a screen's line behind its choices is read, neither by its verdict nor by its request nor by its reply. 2: what both are shown
-- is read from the record, and written again it is the record's own text. 3: each figure of a written record reads back, since a plan's total is below the highest number of a figure and no bound that
-- is written is above it; so every test that the record passed it passes again.
use Rattle.std.specs.Prelude.{Ok, Err}
use mathlib.Core.Path.{◌≡◌, refl, sym, ap, subst, ◌∙◌}
use mathlib.Core.Bool.{true}
use mathlib.Core.List.{List, []}
use Prim.Native.Nat.{ℕ, ◌<◌, ◌≤◌, ◌^◌}
use native.Mathlib.Omega.{arith}
use lib.IntN.{ℤ}
use lib.ListN.{length, take}
use Rattle.theory.specs.Lists.{nth}
use Rattle.theory.proofs.Lists.{list_length}
use Rattle.refusals.specs.Verdicts.{Verdict, Fine}
use Rattle.tables.specs.Block.{trains}
use Rattle.tables.specs.WellFormed.{well_formed, Study}
use Rattle.tables.specs.Plans.{shape_of, choices_held, loaded_total}
use Rattle.tables.proofs.Held.{held_trains, held_below, held_cong}
use Rattle.tables.proofs.Study.{study_well_formed, study_not_fresh, trains_range, size_range}
use Rattle.bounds.specs.Bounds.{bound_of}
use Rattle.records.specs.Records.{record_right}
use Rattle.records.proofs.Right.{right_parts, right_plan}
use Rattle.frames.specs.Digits.{bytes}
use Rattle.frames.specs.Fields.{field_digits}
use Rattle.frames.specs.Frames.{all_digits, framed, new_frame}
use Rattle.lines.specs.declared.kind.Kind.{Kind}
use Rattle.lines.specs.declared.kind.Kind.TheVariants.{Screen, Planner, Record}
use Rattle.lines.specs.declared.request.Request.{Request}
use Rattle.lines.specs.declared.request.Line.{Line}
use Rattle.lines.specs.declared.request.Line.TheVariants.{Asked, Refused}
use Rattle.lines.specs.Kinds.{kind_number, needs_study, request_kind}
use Rattle.lines.specs.Layout.{kind_width, kind_of, numbers_in, end_of, figure_width, record_trains, record_choice_field, record_choice, record_bound, record_cost_field, record_cost, plan_choice}
use Rattle.lines.specs.Text.{choices_digits, record_digits}
use Rattle.lines.specs.Verdicts.{field_run}
use Rattle.lines.proofs.KindNumbers.{number_kind, number_low}
use Rattle.lines.proofs.Records.{first_byte, behind_first, trains_recorded, choice_recorded, choices_recorded, bound_recorded, cost_recorded, record_text_length, record_text_bytes, record_framed, record_front, record_again}
use Rattle.kinds.specs.Records.{record_verdict, screen_request, planner_request}
use Rattle.kinds.specs.Lines.{kind_verdict, kind_request, study_line}
use Rattle.frames.proofs.Front.{same_field}
use Rattle.kinds.proofs.RecordsAccepted.{record_fine, record_intro, record_trains_front, record_verdict_front, screen_request_front, record_choices_front}
use Rattle.reader.specs.Reading.{kind_line, framed_line, line_of}
use Rattle.reader.proofs.LineAccepted.{line_makes, line_asks}
use Rattle.reader.proofs.LineKind.{line_known}
use Rattle.replies.specs.Replies.{reply_kind, screen_reply, record_reply, longest_fixed, longest_reply}
use Rattle.replies.specs.Shown.{accepted}
use Rattle.replies.proofs.Lengths.{record_reply_length}
use Rattle.replies.proofs.ReadBack.{record_behind}
use Rattle.replies.proofs.Accepted.{screen_accepted}
use Rattle.requests.specs.Answer.{Answer, answered, choices_in, requested, carried_out, fitted, line_answer}
use Rattle.requests.specs.Wrote.{Asks, Chooses}
use Rattle.requests.proofs.RecordLines.{record_run, plan_run, screen_accepted_line, planner_accepted_line, plan_accepted_line, screen_given, planner_given}
use Rattle.radio.specs.Answer.{form_answer}
use Rattle.radio.proofs.Forms.{known_plain}
use Rattle.radio.proofs.Cases.{form_plain}
use Rattle.service.specs.Answer.{min_buffer, answer}
use Rattle.service.proofs.Calls.{answered_line}
use Rattle.claims.specs.Records.{choices_end, SameFront, ScreenApart, line_with, behind_kind, screen_answer, planner_answer, SameChoices, Taken, TakenByBoth}
use Rattle.claims.proofs.Asking.{kind_known, line_asking, asking_kind, asks_answered, accepted_call, accepted_asks, calls_alike}
use Rattle.claims.proofs.Keeps.{loaded_total_most}

-- ---- 1

-- lines of digits that are equally long are frames, or they are not, for the same reason
pub same_frame : (l k : List ℕ) → length l ≡ length k → all_digits l ≡ true → all_digits k ≡ true → new_frame l ≡ new_frame k
unfolding framed
same_frame l k long digits other = rw (long, digits, other)

-- lines that are read alike where they are frames
framed_alike : (l k : List ℕ) (b : List ℤ) (v : Verdict) → kind_line l b ≡ kind_line k b → framed_line v l b ≡ framed_line v k b
framed_alike l k b (Ok _) e = e
framed_alike l k b (Err r) e = refl

module _ {l k : List ℕ} (e : SameFront l k) where
  other_kind : kind_of k ≡ kind_number Screen
  other_kind = sym (same_field l k (choices_end l) e.front 0 kind_width (omega arith)) ∙ e.screen

  module _ (b : List ℤ) where
    same_study : study_line Screen l b ≡ study_line Screen k b
    unfolding study_line
    same_study = rw (record_verdict_front l k e.long e.front b, screen_request_front l k e.long e.front)

    -- the same is asked, or for the same reason nothing
    same_line : line_of l b ≡ line_of k b
    unfolding line_of kind_line
    same_line = ap (λ (v : Verdict). framed_line v l b) (same_frame l k e.long e.digits.0 e.digits.1) ∙ framed_alike l k b (new_frame k) (rw (e.screen, other_kind, number_kind Screen) same_study)

    -- by the same choices
    same_choices_in : choices_in l (field_run record_choice_field.at (record_trains l)) ≡ choices_in k (field_run record_choice_field.at (record_trains l))
    same_choices_in = record_choices_front l k e.long e.front ∙ ap (numbers_in k record_choice_field) (sym (record_trains_front l k e.long e.front))

    same_requested : requested (screen_request l) l b ≡ requested (screen_request l) k b
    unfolding requested
    same_requested = ap (λ (choices : List ℕ). answered b (screen_reply choices)) same_choices_in

    same_carried : (z : Line) → line_of l b ≡ z → carried_out z l b ≡ carried_out z k b
    same_carried (Refused r) p = refl
    same_carried (Asked q) p =
        let own = line_known l b q p in
        let known = kind_known Screen l e.screen in
        let same : request_kind q ≡ Screen = cc in
        let made : q ≡ screen_request l = (line_makes l b q p).1.0 ∙ ap (λ (j : Kind). kind_request j l b) same in
        subst (λ (r : Request). requested r l b ≡ requested r k b) (sym made) same_requested

    -- and the same is answered, in any room
    pub same_answer : (room : ℕ) → line_answer l b room ≡ line_answer k b room
    unfolding line_answer
    same_answer room = ap (fitted room b) (same_carried (line_of l b) refl ∙ ap (λ (z : Line). carried_out z k b) same_line)

pub screen_apart : ScreenApart
screen_apart l k e b buffer =
    let room = length buffer in
    let plain : (p : List ℕ) → kind_of p ≡ kind_number Screen → form_answer p b room ≡ line_answer p b room = λ p known. form_plain p b room (known_plain Screen p (kind_known Screen p known)) in
    calls_alike l k b buffer (plain l e.screen ∙ same_answer e b room ∙ sym (plain k (other_kind e)))

-- ---- 2

-- an accepted call of a line of kind k asks what lines of its kind ask, and is answered by its line
module _ (k : Kind) (l : List ℕ) (b : List ℤ) (buffer : List ℕ) (known : kind_of l ≡ kind_number k) (y : accepted (answer l b buffer).reply ≡ true) where
  asks_as : Asks l b (kind_request k l b) (length buffer)
  asks_as = accepted_asks l b buffer k (kind_known k l known) y

  by_line : answer l b buffer ≡ line_answer l b (length buffer)
  by_line = asks_answered l b buffer (accepted_call l b buffer y).0 asks_as

  line_accepted : accepted (line_answer l b (length buffer)).reply ≡ true
  line_accepted = rw by_line at y

-- the choices that stand in a record that is read
abbrev read : List ℕ → List ℕ
read l = choices_in l (record_run l)

-- no more of them than there may be trains
read_few : {l : List ℕ} {b : List ℤ} → Chooses l b (record_run l) → length (read l) < 256
read_few {l} c = omega (arith, list_length (record_choice l) (record_trains l), c.there.count)

-- a record that was read, written again, is the record
read_again : (k : Kind) (r : List ℕ) → framed (line_with k r) ≡ true → bytes (line_with k r) ≡ end_of (record_cost_field (record_trains (line_with k r)))
    → record_digits (read (line_with k r)) (record_bound (line_with k r)) (record_cost (line_with k r)) ≡ r
read_again k r w ends = record_again (line_with k r) w ends ∙ behind_first (kind_number k) r

pub line_kind_is : (k : Kind) (r : List ℕ) → kind_of (line_with k r) ≡ kind_number k
line_kind_is k r = first_byte (kind_number k) r (omega (arith, number_low k))

module _ (r : List ℕ) (b : List ℤ) (buffer : List ℕ) where
  -- a screen is shown n and choices of the record
  record ScreenShown : Type 0 where
    choices : List ℕ
    bound : ℕ
    cost : ℕ
    few : length choices < 256
    again : record_digits choices bound cost ≡ r
    is : (screen_answer r b buffer).reply ≡ screen_reply choices

  screen_shown : accepted (screen_answer r b buffer).reply ≡ true → ScreenShown
  screen_shown y =
      let l = line_with Screen r in
      let known = line_kind_is Screen r in
      let asks = asks_as Screen l b buffer known y in
      let m = line_makes l b (screen_request l) asks.asked in
      let a = screen_accepted_line l b (length buffer) (line_accepted Screen l b buffer known y) asks in
      record {
        choices = read l;
        bound = record_bound l;
        cost = record_cost l;
        few = read_few a.0;
        again = read_again Screen r m.0.digits (record_fine l b m.1.1).ends;
        is = ap (λ (x : Answer). x.reply) (by_line Screen l b buffer known y ∙ a.1);
      }

  -- planners are shown the record
  planner_shown : accepted (planner_answer r b buffer).reply ≡ true → (planner_answer r b buffer).reply ≡ field_digits kind_width (reply_kind Planner) r
  unfolding record_reply
  planner_shown y =
      let l = line_with Planner r in
      let known = line_kind_is Planner r in
      let asks = asks_as Planner l b buffer known y in
      let m = line_makes l b (planner_request l) asks.asked in
      let a = planner_accepted_line l b (length buffer) (line_accepted Planner l b buffer known y) asks in
      ap (λ (x : Answer). x.reply) (by_line Planner l b buffer known y ∙ a.is) ∙ ap (field_digits kind_width (reply_kind Planner)) (read_again Planner r m.0.digits (record_fine l b m.1.1).ends)

-- what planners are shown up to the bound
abbrev up_to_bound : List ℕ → List ℕ
up_to_bound r = let shown = field_digits kind_width (reply_kind Planner) r in behind_kind (take (choices_end shown) shown)

shown_alike : (choices : List ℕ) (bound cost : ℕ) → length choices < 256 → behind_kind (screen_reply choices) ≡ up_to_bound (record_digits choices bound cost)
unfolding screen_reply
shown_alike choices bound cost h =
    rw (trains_recorded (reply_kind Planner) choices bound cost h, record_front (reply_kind Planner) choices bound cost)
    (behind_first (reply_kind Screen) (choices_digits choices []) ∙ sym (behind_first (reply_kind Planner) (choices_digits choices [])))

pub same_choices : SameChoices
same_choices r b c buffer other e f =
    let s = screen_shown r b buffer e in
    rw (s.is, planner_shown r c other f) (shown_alike s.choices s.bound s.cost s.few ∙ ap up_to_bound s.again)

-- ---- 3

-- a record that both take in this room, and behind any kind a frame far within the limit
pub record TakenIn (r : List ℕ) (b : List ℤ) (room : ℕ) : Type 0 where
  pub frame : (k : Kind) → framed (line_with k r) ≡ true
  pub short : (k : Kind) → length (line_with k r) ≤ longest_reply
  pub screen : accepted (line_answer (line_with Screen r) b room).reply ≡ true
  pub screen_leaves : (line_answer (line_with Screen r) b room).block ≡ b
  pub planner : (line_answer (line_with Planner r) b room).reply ≡ field_digits kind_width (reply_kind Planner) r
  pub planner_leaves : (line_answer (line_with Planner r) b room).block ≡ b

-- a record of a plan of the block, with figures that are right
module _ {b : List ℤ} (s : Study b) (choices : List ℕ) (bound cost : ℕ) (held : choices_held (shape_of b) (length choices) (nth choices) ≡ true)
    (true_figures : record_right b (nth choices) bound cost ≡ true) where
  abbrev text : List ℕ
  text = record_digits choices bound cost

  count : length choices ≡ trains b
  count = held_trains (shape_of b) (length choices) (nth choices) held

  few : length choices < 256
  few = omega (arith, count, trains_range s)

  small : (i : ℕ) → i < length choices → nth choices i < 256
  small i h = omega (arith, held_below (shape_of b) (length choices) (nth choices) held i h, size_range s i (omega (arith, count)))

  cost_low : cost < 256 ^ figure_width
  cost_low = omega (arith, (right_parts b (nth choices) bound cost true_figures).1.0, loaded_total_most s (nth choices) (right_plan b (nth choices) bound cost (length choices) held true_figures))

  bound_fits : bound < 256 ^ figure_width
  bound_fits = let r = (right_parts b (nth choices) bound cost true_figures).1 in omega (arith, r.0, r.1, cost_low)

  -- behind any kind it reads back
  module _ (k : Kind) where
    abbrev line : List ℕ
    line = line_with k text

    trains_back : record_trains line ≡ length choices
    trains_back = trains_recorded (kind_number k) choices bound cost few

    choices_back : read line ≡ choices
    choices_back = rw trains_back (choices_recorded (kind_number k) choices bound cost small)

    -- and is judged fine
    fine : record_verdict line b ≡ Fine
    fine =
        record_intro (record {
          ends = omega (arith, record_text_bytes (kind_number k) choices bound cost, trains_back);
          held = rw trains_back (held_cong (shape_of b) (length choices) (record_choice line) (nth choices) (λ i h. choice_recorded (kind_number k) choices bound cost i h (small i h)) ∙ held);
        })

    asks : needs_study k ≡ true → kind_verdict k line b ≡ Fine → line_of line b ≡ Asked (kind_request k line b)
    asks n v = line_asks k line b _ (record_framed (kind_number k) choices bound cost few) (line_kind_is k text) (rw n (study_not_fresh s)) v

  module _ (room : ℕ) (h : longest_fixed ≤ room) (fits : length (record_reply Planner choices bound cost) ≤ room) where
    for_screens : line_answer (line Screen) b room ≡ answered b (screen_reply (read (line Screen)))
    for_screens = screen_given (line Screen) b room h (study_well_formed s) (asks Screen refl (fine Screen))

    for_planners : line_answer (line Planner) b room ≡ answered b (record_reply Planner choices bound cost)
    for_planners =
        let l = line Planner in
        let p = choices_back Planner in
        let u = bound_recorded (kind_number Planner) choices bound cost few bound_fits in
        let v = cost_recorded (kind_number Planner) choices bound cost few cost_low in
        planner_given l b room (asks Planner refl (fine Planner)) (rw (p, u, v) true_figures) (rw (p, u, v) fits) ∙ rw (p, u, v) refl

    taken : TakenIn text b room
    unfolding record_reply
    taken =
        record {
          frame = λ k. (record_framed (kind_number k) choices bound cost few).digits;
          short = λ k. omega (arith, record_text_length (kind_number k) choices bound cost, few);
          screen = rw for_screens (screen_accepted (read (line Screen)));
          screen_leaves = rw for_screens refl;
          planner = rw for_planners refl;
          planner_leaves = rw for_planners refl;
        }

-- a record that a line writes leaves the block, and is taken in a room as long
pub record_taken : (l : List ℕ) (b : List ℤ) (room : ℕ) → longest_fixed ≤ room → well_formed b ≡ true → kind_of l ≡ kind_number Record → accepted (line_answer l b room).reply ≡ true
    → (again : ℕ) → room ≤ again → ((line_answer l b room).block ≡ b) × TakenIn (behind_kind (line_answer l b room).reply) b again
record_taken l b room m right known y again h =
    let w = plan_accepted_line l b room y (asking_kind Record (line_asking l b room m right y) (kind_known Record l known)) in
    let choices = choices_in l (plan_run (trains b)) in
    let total = loaded_total b (nth choices) in
    let held = ap (λ (n : ℕ). choices_held (shape_of b) n (nth choices)) (list_length (plan_choice l) (trains b)) ∙ w.chooses.held in
    let fits : length (record_reply Planner choices (bound_of b) total) ≤ again =
    omega (arith, record_reply_length Planner choices (bound_of b) total, record_reply_length Record choices (bound_of b) total, w.fits, h) in
    rw (w.is, record_behind Record choices (bound_of b) total)
    (refl, taken w.chooses.study choices (bound_of b) total held w.right again (omega (arith, m, h)) fits)

-- so it is by two calls
taken_by_calls : {r : List ℕ} {b : List ℤ} (buffer : List ℕ) → min_buffer ≤ length buffer → well_formed b ≡ true → TakenIn r b (length buffer) → Taken r b buffer
taken_by_calls {r} {b} buffer h right t =
    let same : (k : Kind) → answer (line_with k r) b buffer ≡ line_answer (line_with k r) b (length buffer) =
    λ k. let l = line_with k r in answered_line l b buffer h (known_plain k l (kind_known k l (line_kind_is k r))) right in
    record {
      screen = rw (same Screen) t.screen;
      screen_leaves = rw (same Screen) t.screen_leaves;
      planner = rw (same Planner) t.planner;
      planner_leaves = rw (same Planner) t.planner_leaves;
    }

pub taken_by_both : TakenByBoth
taken_by_both l b buffer known y again h =
    let c = accepted_call l b buffer y in
    let t = record_taken l b (length buffer) (omega (arith, c.0)) c.1 known (line_accepted Record l b buffer known y) (length again) h in
    rw (by_line Record l b buffer known y, t.0) (taken_by_calls again (omega (arith, c.0, h)) c.1 t.1)
