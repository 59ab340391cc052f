-- How many choices a search tries, read from its reply. A search that is accepted had a study, leaves it, and shows the count of its walk: in loaded order it is at most the number that the sizes give (`answer_tries` in tries). The
-- reply to an accepted line of kind 0F is the line of the dearest study of its sizes. Every block takes it as a load, and is then that study loaded, of which the walk tries everything (`dearest_answer_ended`).
use mathlib.Core.Path.{◌≡◌, refl, sym, ap, subst, ◌∙◌}
use mathlib.Core.Bool.{Bool, true, false, ◌&&◌}
use mathlib.Core.List.{List}
use Prim.Native.Nat.{ℕ, ◌<◌, ◌≤◌}
use native.Mathlib.Omega.{arith}
use lib.IntN.{ℤ}
use lib.ListN.{length}
use Rattle.theory.specs.Tries.{tries_of}
use Rattle.tables.specs.Block.{trains, size, order}
use Rattle.tables.specs.WellFormed.{well_formed, Study}
use Rattle.tables.specs.Plans.{IsPlan, shape_of}
use Rattle.tables.proofs.Study.{size_range}
use Rattle.operations.specs.Load.{loaded_block}
use Rattle.dearest.specs.Dearest.{SizesRight, dearest_tries, dearest}
use Rattle.dearest.proofs.Loaded.{dearest_in_range, dearest_study, dearest_level}
use Rattle.lines.specs.declared.kind.Kind.TheVariants as kind
use Rattle.lines.specs.Kinds.{kind_number, new_kind}
use Rattle.lines.specs.Layout.{kind_of, search_budget}
use Rattle.lines.specs.Text.{load_digits}
use Rattle.lines.proofs.KindNumbers.{number_kind}
use Rattle.kinds.specs.Lines.{search_request}
use Rattle.decoding.proofs.Written.{load_kind, numbers_back}
use Rattle.saving.proofs.SavedLines.{load_read}
use Rattle.search.specs.Answer.{is_found, search_answer}
use Rattle.search.proofs.Theorems.{search_count, answer_without}
use Rattle.tries.proofs.Most.{answer_tries}
use Rattle.tries.proofs.Dearest.{dearest_answer_ended, dearest_answer_spent}
use Rattle.replies.specs.Replies.{longest_fixed, bound_reply, ending, search_reply}
use Rattle.replies.specs.Shown.{accepted, ending_shown, says_ended, count_shown}
use Rattle.replies.proofs.Accepted.{bound_accepted}
use Rattle.replies.proofs.ReadBack.{ending-shown, search_ended, count-shown}
use Rattle.requests.specs.Answer.{Answer, answered, requested, line_answer}
use Rattle.requests.specs.Wrote.{Asks}
use Rattle.requests.proofs.Ready.{search_ready}
use Rattle.requests.proofs.LineCases.{fixed_line}
use Rattle.requests.proofs.DearestLine.{IsDearest, dearest_accepted_line}
use Rattle.service.specs.Answer.{min_buffer, answer}
use Rattle.claims.specs.Claims.{sizes_of}
use Rattle.claims.specs.Dearest.{TriesAtMost, AllTried, LoadsDearest, DearestReached}
use Rattle.claims.proofs.Asking.{line_asking, asking_kind, asks_answered, accepted_call, accepted_asks}
use Rattle.claims.proofs.Saves.{load_answer}
use Rattle.claims.proofs.After.{state_right, last_of_calls}

-- ---- an accepted search

module _ {l : List ℕ} {b : List ℤ} {room : ℕ} (asked : Asks l b (search_request l) room) where
  study : Study b
  study = (search_ready asked).0

  line_is : line_answer l b room ≡ answered b (search_reply (trains b) (search_answer b (search_budget l)))
  unfolding requested
  line_is = fixed_line l b room asked.fits asked.right (search_request l) refl asked.asked

  -- the count fits its field
  count_low : (search_answer b (search_budget l)).count ≤ search_budget l
  unfolding search_answer
  count_low = search_count study (search_budget l)

  count_is : count_shown (search_reply (trains b) (search_answer b (search_budget l))) ≡ (search_answer b (search_budget l)).count
  count_is = count-shown (trains b) (search_answer b (search_budget l)) (omega (arith, count_low, (search_ready asked).1))

-- ---- at most

-- a reply counts no more tries than the sizes of the block c give, if its trains stand in loaded order
abbrev TriedAtMost : List ℕ → List ℤ → Type 0
TriedAtMost reply c = ((d : ℕ) → d < trains c → order c d ≡ d) → count_shown reply ≤ tries_of (trains c) (size c)

tried_line : (l : List ℕ) (b : List ℤ) (room : ℕ) → longest_fixed ≤ room → well_formed b ≡ true → accepted (line_answer l b room).reply ≡ true → kind_of l ≡ kind_number kind.Search
    → TriedAtMost (line_answer l b room).reply (line_answer l b room).block
tried_line l b room h right y known =
    let asked = asking_kind kind.Search (line_asking l b room h right y) (ap new_kind known ∙ number_kind kind.Search) in
    rw (line_is asked) (λ own. omega (arith, count_is asked, answer_tries (study asked) own (search_budget l)))

-- a list that ends so, in either form
pub tries_at_most : TriesAtMost
tries_at_most calls e =
    last_of_calls (λ l a. kind_of l ≡ kind_number kind.Search → TriedAtMost a.reply a.block) (λ g b s l room h y. tried_line l b room h (state_right s) y) calls e.fine e.kind e.loaded

-- ---- the dearest study

module _ {sizes : List ℕ} (r : SizesRight sizes) where
  abbrev text : List ℕ
  text = load_digits (dearest sizes)

  abbrev here : List ℤ
  here = loaded_block (dearest sizes)

  -- every block takes its line, and then holds it
  loads_it : (c : List ℤ) (buffer : List ℕ) → well_formed c ≡ true → min_buffer ≤ length buffer → answer text c buffer ≡ answered here (bound_reply kind.Load here)
  loads_it c buffer right h =
      load_answer text c buffer h right (load_read (dearest_in_range r) c)
      ∙ ap (λ (x : List ℤ). answered x (bound_reply kind.Load x)) (ap loaded_block (numbers_back (dearest_in_range r)))

  -- nothing is forbidden in it, so that choice 0 everywhere is a plan,
  first_plan : IsPlan (shape_of here) (λ i. 0)
  first_plan =
      let v = dearest_level r in
      record {
        below = λ i h. omega (arith, size_range (dearest_study r) i h);
        choices = λ i h. v.permitted i 0 h (omega (arith, size_range (dearest_study r) i h));
        entries = λ k h. absurd (omega (arith, h, v.pairs));
      }

  -- and a search that ends knows one
  ended_found : (budget : ℕ) → (search_answer here budget).ended ≡ true → is_found (search_answer here budget) ≡ true
  ended_found budget e = by (is_found (search_answer here budget)) refl
    where
      by : (t : Bool) → is_found (search_answer here budget) ≡ t → is_found (search_answer here budget) ≡ true
      by true f = f
      by false f = absurd (answer_without (dearest_study r) budget e f (λ i. 0) first_plan)

  -- an accepted search on it
  module _ (l buffer : List ℕ) (known : kind_of l ≡ kind_number kind.Search) (y : accepted (answer l here buffer).reply ≡ true) where
    asked : Asks l here (search_request l) (length buffer)
    asked = accepted_asks l here buffer kind.Search (ap new_kind known ∙ number_kind kind.Search) y

    answer_is : answer l here buffer ≡ answered here (search_reply (trains here) (search_answer here (search_budget l)))
    answer_is = asks_answered l here buffer (accepted_call l here buffer y).0 asked ∙ line_is asked

    says_ended_as : says_ended (answer l here buffer).reply ≡ (search_answer here (search_budget l)).ended && is_found (search_answer here (search_budget l))
    says_ended_as = rw answer_is (search_ended (trains here) (search_answer here (search_budget l)))

    ending_as : ending_shown (answer l here buffer).reply ≡ ending (search_answer here (search_budget l))
    ending_as = rw answer_is (ending-shown (trains here) (search_answer here (search_budget l)))

    all_tried_here : AllTried (dearest_tries sizes) l (answer l here buffer).reply
    all_tried_here =
        let n = search_budget l in
        let count : count_shown (answer l here buffer).reply ≡ (search_answer here n).count = rw answer_is (count_is asked) in
        record {
          enough = λ h. let d = dearest_answer_ended r n h in (says_ended_as ∙ rw (d.0, ended_found n d.0) refl, count ∙ d.1);
          less = λ h. let d = dearest_answer_spent r n h in (ending_as ∙ rw d.0 refl, count ∙ d.1);
        }

  pub loads_dearest : LoadsDearest (dearest_tries sizes) text
  loads_dearest =
      record {
        load = load_kind (dearest sizes);
        taken = λ b buffer right h. rw (loads_it b buffer right h) (bound_accepted kind.Load here);
        tried = λ b buffer right h l other known.
            subst (λ (c : List ℤ). accepted (answer l c other).reply ≡ true → AllTried (dearest_tries sizes) l (answer l c other).reply)
            (sym (ap (λ (a : Answer). a.block) (loads_it b buffer right h))) (all_tried_here l other known);
      }

-- the reply to every accepted line of kind 0F is the line of the dearest study of its sizes
module _ (l : List ℕ) (b : List ℤ) (buffer : List ℕ) (known : kind_of l ≡ kind_number kind.Dearest) (y : accepted (answer l b buffer).reply ≡ true) where
  given : IsDearest l b (length buffer) (answer l b buffer)
  given =
      let a = accepted_asks l b buffer kind.Dearest (ap new_kind known ∙ number_kind kind.Dearest) y in
      let e = asks_answered l b buffer (accepted_call l b buffer y).0 a in
      subst (IsDearest l b (length buffer)) (sym e) (dearest_accepted_line l b (length buffer) (rw e at y) a)

  reached : LoadsDearest (dearest_tries (sizes_of l)) (answer l b buffer).reply
  reached = subst (LoadsDearest (dearest_tries (sizes_of l))) (ap (λ (a : Answer). a.reply) (sym given.is)) (loads_dearest given.right)

pub dearest_reached : DearestReached
dearest_reached = reached
