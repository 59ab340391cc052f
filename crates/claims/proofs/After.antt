-- After any list of calls from the fresh block the block is fresh still, or it and the ledger keep together: before the first accepted load nothing is accepted that needs a study, so that what is accepted
-- loads or leaves the block fresh, and each call after it keeps them together.
use Rattle.std.specs.Prelude.{Ok, Err}
use mathlib.Core.Path.{◌≡◌, refl, sym, subst}
use mathlib.Core.Bool.{Bool, true, false, cond, ◌&&◌}
use mathlib.Core.List.{List, [], ◌∷◌, ◌++◌}
use mathlib.Core.Logic.{◌⊎◌, inl, inr}
use Prim.Native.Nat.{ℕ, ◌≤◌}
use lib.IntN.{ℤ}
use Rattle.std.proofs.lemmas.List.{map-append}
use Rattle.theory.proofs.Range.{not_both}
use Rattle.refusals.specs.declared.Refusal.{Refusal}
use Rattle.refusals.specs.declared.Refusal.TheVariants.{Tries, WrongSum}
use Rattle.refusals.specs.Verdicts.{Verdict, Fine}
use Rattle.tables.specs.WellFormed.{well_formed, fresh_block}
use Rattle.tables.proofs.Study.{study_well_formed, fresh_is_fresh, fresh_well_formed}
use Rattle.dearest.specs.Dearest.{dearest}
use Rattle.lines.specs.declared.kind.Kind.{Kind}
use Rattle.lines.specs.declared.kind.Kind.TheVariants as kind
use Rattle.lines.specs.declared.request.Request.{Request}
use Rattle.lines.specs.declared.request.Request.TheVariants.{Load, Clauses, Dearest}
use Rattle.lines.specs.Kinds.{new_kind, needs_study, request_kind}
use Rattle.lines.specs.Layout.{kind_of}
use Rattle.lines.specs.Text.{load_digits}
use Rattle.kinds.specs.Clauses.{clauses_verdict, clauses_request}
use Rattle.kinds.specs.Dearest.{dearest_verdict, dearest_request}
use Rattle.decoding.proofs.Written.{load_kind}
use Rattle.reader.proofs.LineAccepted.{Makes, line_makes}
use Rattle.reader.proofs.LineKind.{line_known}
use Rattle.replies.specs.Replies.{longest_fixed}
use Rattle.replies.specs.Shown.{kind_shown, accepted}
use Rattle.replies.proofs.Accepted.{empty_refused, refusal_refused}
use Rattle.requests.specs.Answer.{Answer, answered, declined, requested, line_answer}
use Rattle.requests.proofs.LineCases.{line_cases}
use Rattle.requests.proofs.Dearest.{dearest_cases}
use Rattle.radio.specs.Forms.{as_plain}
use Rattle.service.specs.Answer.{answer}
use Rattle.service.specs.Calls.{Call, Exchange, exchange, last_block, blocks, exchanges}
use Rattle.service.proofs.Lists.{next_answer, exchanges_more}
use Rattle.claims.specs.Ledger.{Ledger, by_kind, changed, loads, plain_exchange, plain_exchanges, fed, ledger_of, empty_ledger, ledger_after, has_load}
use Rattle.claims.specs.Claims.{sizes_of, Claim, shown_kind, AtCall, EachCall}
use Rattle.claims.specs.Rooms.{last_exchange, last_of, block_after}
use Rattle.claims.proofs.ByKind.{by_kind_lem, kind_accepted}
use Rattle.claims.proofs.Keeps.{Keeps}
use Rattle.claims.proofs.DearestClaims.{dearest_claim}
use Rattle.claims.proofs.PlainCalls.{plain_call, plain_outcome, plain_cases}
use Rattle.claims.proofs.Steps.{fed_refused, Good, accepted_call, Allowed, tries_allowed, wrong_allowed, line_allowed, declined-call, empty_call, good_load, clauses_answer, outcome_of, good_clauses, clauses_allowed, good_line, good_call}

-- ---- fresh, or kept together

abbrev pub State : Ledger → List ℤ → Type 0
State g b = (b ≡ fresh_block) ⊎ Keeps g b

pub state_right : {g : Ledger} {b : List ℤ} → State g b → well_formed b ≡ true
state_right (inl e) = rw e fresh_well_formed
state_right (inr k) = study_well_formed k.study

-- ---- one call

-- of a call that had the block b and the answer a: the state afterwards, in which an accepted load leaves block and ledger together, and what is claimed of it
pub record Called (g : Ledger) (b : List ℤ) (l : List ℕ) (a : Answer) : Type 0 where
  pub state : State (fed (exchange l a.reply) g) a.block
  pub kept : accepted a.reply && by_kind loads false l ≡ true → Keeps (fed (exchange l a.reply) g) a.block
  pub call : AtCall (fed (exchange l a.reply) g) b (exchange l a.reply)

called_good : {g : Ledger} {b : List ℤ} {l : List ℕ} {a : Answer} → Good g b l a → Called g b l a
called_good w = record { state = inr w.keeps; kept = λ y. w.keeps; call = w.call }

module _ (g : Ledger) (l : List ℕ) where
  -- a reply that leaves the block fresh, and is none to an accepted load
  called_still : (reply : List ℕ) → accepted reply && by_kind loads false l ≡ false → AtCall (fed (exchange l reply) g) fresh_block (exchange l reply)
      → Called g fresh_block l (answered fresh_block reply)
  called_still reply e c = record { state = inl refl; kept = λ y. absurd (not_both y e); call = c }

  -- one that is not accepted
  called_quiet : (reply : List ℕ) → accepted reply ≡ false → AtCall g fresh_block (exchange l reply) → Called g fresh_block l (answered fresh_block reply)
  called_quiet reply e c = called_still reply (rw e) (rw (fed_refused g l reply e) c)

  called_empty : Called g fresh_block l (answered fresh_block [])
  called_empty = called_quiet [] empty_refused (empty_call g fresh_block l)

  called_declined : (r : Refusal) → Allowed g l r → Called g fresh_block l (declined fresh_block r)
  called_declined r w = called_quiet _ (refusal_refused r) (declined-call g fresh_block l r w)

  -- one to an accepted line of a kind that loads nothing
  called_answered : (k : Kind) → new_kind (kind_of l) ≡ Ok k → loads k ≡ false → (reply : List ℕ) → kind_shown reply ≡ shown_kind k → Claim k (changed k l g) fresh_block (exchange l reply)
      → Called g fresh_block l (answered fresh_block reply)
  called_answered k known no_load reply shown claim =
      called_still reply (rw (by_kind_lem loads false l known, no_load, kind_accepted k reply shown) refl) (accepted_call g fresh_block l k known reply shown claim)

  -- on a fresh block clauses load, or are declined
  new_clauses : new_kind (kind_of l) ≡ Ok kind.Clauses → clauses_verdict l ≡ Fine → Called g fresh_block l (requested (clauses_request l) l fresh_block)
  unfolding requested
  new_clauses e v = go (outcome_of l) refl
    where
      go : (o : Verdict) → outcome_of l ≡ o → Called g fresh_block l (clauses_answer l fresh_block o)
      go (Ok _) f = called_good (good_clauses g l fresh_block e v f)
      go (Err r) f = called_declined r (clauses_allowed g l r e f)

  -- the dearest study is given there, or declined, and leaves the block fresh
  new_dearest : new_kind (kind_of l) ≡ Ok kind.Dearest → dearest_verdict l ≡ Fine → Called g fresh_block l (requested (dearest_request l) l fresh_block)
  unfolding requested
  new_dearest e v =
      dearest_cases (sizes_of l) fresh_block (Called g fresh_block l)
      (λ w. called_answered kind.Dearest e refl (load_digits (dearest (sizes_of l))) (load_kind (dearest (sizes_of l))) (dearest_claim l v w))
      (λ w. called_declined Tries (tries_allowed g l))

  -- what needs a study is not asked on a fresh block
  not_on_fresh : (q : Request) → Makes l fresh_block q → needs_study (request_kind q) ≡ true → ⊥
  not_on_fresh q m n = not_both fresh_is_fresh (rw n at m.2)

  -- so only what needs none is
  new_request : (q : Request) → Makes l fresh_block q → new_kind (kind_of l) ≡ Ok (request_kind q) → Called g fresh_block l (requested q l fresh_block)
  new_request (Load q) m e = called_good (subst (λ (s : Request). Good g fresh_block l (requested s l fresh_block)) (sym m.0) (good_load g l fresh_block e m.1))
  new_request (Clauses q) m e = subst (λ (s : Request). Called g fresh_block l (requested s l fresh_block)) (sym m.0) (new_clauses e m.1)
  new_request (Dearest q) m e = subst (λ (s : Request). Called g fresh_block l (requested s l fresh_block)) (sym m.0) (new_dearest e m.1)
  new_request q m e = absurd (not_on_fresh q m refl)

  line_new : (room : ℕ) → longest_fixed ≤ room → Called g fresh_block l (line_answer l fresh_block room)
  line_new room h =
      line_cases l fresh_block room h fresh_well_formed (Called g fresh_block l)
      (λ r e. called_declined r (line_allowed g l fresh_block r e))
      (λ q a f. new_request q (line_makes l fresh_block q a.asked).1 (line_known l fresh_block q a.asked))
      (λ q a f. called_empty)

call_new : (g : Ledger) (l buffer : List ℕ) → Called g fresh_block (plain_call l fresh_block buffer).line (plain_outcome l fresh_block buffer)
call_new g l buffer =
    plain_cases l fresh_block buffer fresh_well_formed (Called g fresh_block)
    (called_empty g (as_plain l)) (called_declined g (as_plain l) WrongSum (wrong_allowed g (as_plain l))) (line_new g (as_plain l))

-- a plain line, where there is room for every fixed reply, and a call, with the two additions removed
pub called_line : {g : Ledger} {b : List ℤ} → State g b → (l : List ℕ) (room : ℕ) → longest_fixed ≤ room → Called g b l (line_answer l b room)
called_line {g} (inl e) l room h = rw e (line_new g l room h)
called_line (inr k) l room h = called_good (good_line k l room h)

pub called : {g : Ledger} {b : List ℤ} → State g b → (l buffer : List ℕ) → Called g b (plain_call l b buffer).line (plain_outcome l b buffer)
called {g} (inl e) l buffer = rw e (call_new g l buffer)
called (inr k) l buffer = called_good (good_call k l buffer)

-- ---- lists of calls, from any state

pub after_from : {g : Ledger} {b : List ℤ} → State g b → (cs : List Call) → State (ledger_of g (plain_exchanges b cs)) (last_block b cs)
unfolding exchanges ledger_of last_block
after_from s [] = s
after_from {g = g} {b = b} s (c ∷ cs) = after_from {g = fed (plain_call c.line b c.buffer) g} (called s c.line c.buffer).state cs

pub kept_from : {g : Ledger} {b : List ℤ} → Keeps g b → (cs : List Call) → Keeps (ledger_of g (plain_exchanges b cs)) (last_block b cs)
unfolding exchanges ledger_of last_block
kept_from k [] = k
kept_from {g = g} {b = b} k (c ∷ cs) = kept_from {g = fed (plain_call c.line b c.buffer) g} (good_call k c.line c.buffer).keeps cs

-- an accepted load among them leaves block and ledger together
pub loaded_from : {g : Ledger} {b : List ℤ} → State g b → (cs : List Call) → has_load (plain_exchanges b cs) ≡ true → Keeps (ledger_of g (plain_exchanges b cs)) (last_block b cs)
unfolding exchanges ledger_of last_block has_load
loaded_from s [] y = absurd (not_both y refl)
loaded_from {g = g} {b = b} s (c ∷ cs) y = go (accepted e.reply && by_kind loads false e.line) refl y (loaded_from {g = fed (plain_call c.line b c.buffer) g} w.state cs)
  where
    e : Exchange
    e = plain_call c.line b c.buffer

    after : List ℤ
    after = (answer c.line b c.buffer).block

    w : Called g b e.line (plain_outcome c.line b c.buffer)
    w = called s c.line c.buffer

    go : (t : Bool) → accepted e.reply && by_kind loads false e.line ≡ t → cond t true (has_load (plain_exchanges after cs)) ≡ true
        → (has_load (plain_exchanges after cs) ≡ true → Keeps (ledger_of (fed e g) (plain_exchanges after cs)) (last_block after cs))
        → Keeps (ledger_of (fed e g) (plain_exchanges after cs)) (last_block after cs)
    go true f y others = kept_from (w.kept f) cs
    go false f y others = others y

pub each_from : {g : Ledger} {b : List ℤ} → State g b → (cs : List Call) → EachCall g (blocks b cs) (plain_exchanges b cs)
unfolding EachCall blocks exchanges
each_from s [] = tt
each_from {g = g} {b = b} s (c ∷ cs) = let w = called s c.line c.buffer in (w.call, each_from {g = fed (plain_call c.line b c.buffer) g} w.state cs)

-- ---- lists of calls, from the fresh block

pub after_calls : (cs : List Call) → State (ledger_after cs) (last_block fresh_block cs)
after_calls cs = after_from (inl refl) cs

pub after_load : (cs : List Call) → has_load (plain_exchanges fresh_block cs) ≡ true → Keeps (ledger_after cs) (last_block fresh_block cs)
after_load cs = loaded_from (inl refl) cs

-- ---- the last call of a list

-- what holds of each accepted plain line, in whatever state, holds of a list whose last line is accepted, in either form
module _ (P : List ℕ → Answer → Type 0)
    (line : (g : Ledger) (b : List ℤ) → State g b → (l : List ℕ) (room : ℕ) → longest_fixed ≤ room → accepted (line_answer l b room).reply ≡ true → P l (line_answer l b room)) where
  last_call : {g : Ledger} {b : List ℤ} → State g b → (l buffer : List ℕ) → accepted (plain_call l b buffer).reply ≡ true → P (plain_call l b buffer).line (plain_outcome l b buffer)
  last_call {g} {b} s l buffer =
      plain_cases l b buffer (state_right s) (λ k a. accepted a.reply ≡ true → P k a)
      (λ y. absurd (not_both y empty_refused)) (λ y. absurd (not_both y (refusal_refused WrongSum))) (line g b s (as_plain l))

  last_from : {g : Ledger} {b : List ℤ} → State g b → (cs : List Call) → accepted (last_exchange (plain_exchanges b cs)).reply ≡ true
      → P (last_exchange (plain_exchanges b cs)).line (answered (last_block b cs) (last_exchange (plain_exchanges b cs)).reply)
  unfolding last_exchange exchanges last_block
  last_from s [] y = absurd (not_both y empty_refused)
  last_from s (c ∷ []) y = last_call s c.line c.buffer y
  last_from {g = g} {b = b} s (c ∷ d ∷ cs) y = last_from {g = fed (plain_call c.line b c.buffer) g} (called s c.line c.buffer).state (d ∷ cs) y

  pub last_of_calls : (cs : List Call) → accepted (last_of cs).reply ≡ true → P (last_of cs).line (answered (block_after cs) (last_of cs).reply)
  last_of_calls = last_from {g = empty_ledger} (inl refl)

-- ---- one call more

pub ledger_more : (g : Ledger) (es : List Exchange) (e : Exchange) → ledger_of g (es ++ e ∷ []) ≡ fed e (ledger_of g es)
unfolding ledger_of
ledger_more g [] e = refl
ledger_more g (d ∷ es) e = ledger_more (fed d g) es e

module _ (cs : List Call) (c : Call) where
  -- its answer, by the ledger and the block that the list leaves
  pub after_more : Called (ledger_after cs) (last_block fresh_block cs) (plain_call c.line (last_block fresh_block cs) c.buffer).line (plain_outcome c.line (last_block fresh_block cs) c.buffer)
  after_more = called (after_calls cs) c.line c.buffer

  -- the ledger then is fed its exchange; the block is `last_more` in service
  pub ledger_after_more : ledger_after (cs ++ c ∷ []) ≡ fed (plain_call c.line (last_block fresh_block cs) c.buffer) (ledger_after cs)
  ledger_after_more =
      let e : Exchange = exchange c.line (next_answer fresh_block cs c).reply in
      rw (exchanges_more fresh_block cs c, map-append plain_exchange (exchanges fresh_block cs) (e ∷ [])) (ledger_more empty_ledger (plain_exchanges fresh_block cs) (plain_exchange e))
