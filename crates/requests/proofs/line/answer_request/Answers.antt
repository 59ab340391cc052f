-- Each request has its function, and its case of the definition; a fixed reply fits.
use mathlib.Core.Path.{refl}
use Rattle.requests.proofs.Ready.{study_ready, load_ready, add_ready, shift_ready, certify_ready, search_ready, clauses_ready, explain_ready, order_ready, screen_ready, planner_ready, plan_ready, dearest_ready}
use Rattle.requests.proofs.line.answer_request.Goals as goal

pub answer_load-requires : goal.answer_load-requires
answer_load-requires c = let a = rw c.in-Load.is at c.requires in (a.fits, load_ready a)

pub answer_add-requires : goal.answer_add-requires
answer_add-requires c = let a = rw c.in-Add.is at c.requires in (a.fits, add_ready a)

pub answer_shift-requires : goal.answer_shift-requires
answer_shift-requires c = let a = rw c.in-Shift.is at c.requires in (a.fits, shift_ready a)

pub answer_tighten-requires : goal.answer_tighten-requires
answer_tighten-requires c = let a = rw c.in-Tighten.is at c.requires in (a.fits, study_ready a refl)

pub answer_certify-requires : goal.answer_certify-requires
answer_certify-requires c = let a = rw c.in-Certify.is at c.requires in (a.fits, certify_ready a)

pub known-requires : goal.known-requires
known-requires c = study_ready (rw c.in-Search.is at c.requires) refl

pub answer_search-requires : goal.answer_search-requires
answer_search-requires c = let a = rw c.in-Search.is at c.requires in (a.fits, (search_ready a).1)

pub known-requires-in-Save : goal.known-requires-in-Save
known-requires-in-Save c = study_ready (rw c.in-Save.is at c.requires) refl

pub answer_round-requires : goal.answer_round-requires
answer_round-requires c = let a = rw c.in-Round.is at c.requires in (a.fits, study_ready a refl)

pub answer_clauses-requires : goal.answer_clauses-requires
answer_clauses-requires c = let a = rw c.in-Clauses.is at c.requires in (a.fits, clauses_ready a)

pub known-requires-in-Explain : goal.known-requires-in-Explain
known-requires-in-Explain c = study_ready (rw c.in-Explain.is at c.requires) refl

pub answer_explain-requires : goal.answer_explain-requires
answer_explain-requires c = let a = rw c.in-Explain.is at c.requires in rw c.known-in-Explain.ensures (a.fits, explain_ready a)

pub answer_order-requires : goal.answer_order-requires
answer_order-requires c = let a = rw c.in-Order.is at c.requires in (a.fits, order_ready a)

pub answer_screen-requires : goal.answer_screen-requires
answer_screen-requires c = let a = rw c.in-Screen.is at c.requires in (a.fits, (screen_ready a).there)

pub known-requires-in-Planner : goal.known-requires-in-Planner
known-requires-in-Planner c = study_ready (rw c.in-Planner.is at c.requires) refl

pub answer_planner-requires : goal.answer_planner-requires
answer_planner-requires c = let a = rw c.in-Planner.is at c.requires in rw c.known-in-Planner.ensures (a.fits, planner_ready a)

pub known-requires-in-Record : goal.known-requires-in-Record
known-requires-in-Record c = study_ready (rw c.in-Record.is at c.requires) refl

pub answer_record-requires : goal.answer_record-requires
answer_record-requires c = let a = rw c.in-Record.is at c.requires in rw c.known-in-Record.ensures (a.fits, plan_ready a)

pub answer_dearest-requires : goal.answer_dearest-requires
answer_dearest-requires c = let a = rw c.in-Dearest.is at c.requires in (a.fits, dearest_ready a)
