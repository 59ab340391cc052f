-- What follows from each part of what is said of kind 0F, in demand 3 (`DearestClaim` in specs/Claims.antt) and beside it (specs/Dearest.antt): wrong replies that the statement excludes, which is the premise of each law here.
use mathlib.Core.Path.{◌≡◌, refl, sym, ap, subst, ◌∙◌}
use mathlib.Core.Bool.{true}
use mathlib.Core.List.{List, [], ◌∷◌}
use Prim.Native.Nat.{ℕ, ◌<◌, ◌≤◌}
use Prim.Native.String.{String}
use native.Mathlib.Omega.{arith}
use lib.IntN.{ℤ}
use lib.ListN.{length}
use Rattle.theory.specs.Lists.{nth}
use Rattle.theory.specs.Product.{product}
use Rattle.theory.specs.Range.{pass}
use Rattle.theory.specs.Tries.{tries_from, tries_of}
use Rattle.theory.proofs.Range.{not_both}
use Rattle.theory.proofs.Tries.{tries_of_cong}
use Rattle.refusals.specs.declared.Refusal.TheVariants.{Fields}
use Rattle.refusals.specs.Verdicts.{first_of}
use Rattle.tables.specs.Block.{trains, size, order}
use Rattle.tables.specs.WellFormed.{fresh_block, well_formed}
use Rattle.tables.specs.Numbers.{Numbers, is_cost}
use Rattle.dearest.specs.Dearest.{dearest}
use Rattle.frames.specs.Frames.{all_digits, framed}
use Rattle.frames.specs.Text.{codes}
use Rattle.lines.specs.declared.kind.Kind.TheVariants.{Dearest}
use Rattle.lines.specs.declared.request.Line.TheVariants.{Refused, Asked}
use Rattle.lines.specs.Text.{load_digits}
use Rattle.lines.specs.Verdicts.{field_verdict}
use Rattle.kinds.specs.Load.{pair_ordered, pair_verdict, head_verdict, rest_verdict, load_verdict, load_request}
use Rattle.kinds.specs.Lines.{study_line}
use Rattle.decoding.specs.Numbers.{numbers_of}
use Rattle.decoding.proofs.Again.{load_again}
use Rattle.reader.specs.Reading.{kind_line, line_of}
use Rattle.reader.proofs.LineAccepted.{line_makes}
use Rattle.reader.proofs.LineKind.{line_kind}
use Rattle.service.specs.Answer.{min_buffer, answer}
use Rattle.service.specs.Calls.{Call, Exchange}
use Rattle.claims.specs.Ledger.{Ledger, plain_exchanges}
use Rattle.claims.specs.Claims.{sizes_of, DearestClaim, AtLine}
use Rattle.claims.specs.Dearest.{EndsInSearch, TriesAtMost, LoadsDearest, DearestReached}
use Rattle.claims.specs.Rooms.{last_exchange, block_after}
use Rattle.claims.proofs.ByKind.{line_answered, line_claim}
use Rattle.claims.proofs.Uses.{told}

-- ---- demand 3, whatever the ledger

module _ {g : Ledger} {b : List ℤ} where
  -- an 0F line answered under 8F
  dearest_under_8f : AtLine g b (told "0F0101" "8F") → ⊥
  unfolding told
  dearest_under_8f a = let h : ◌≡◌ {A = ℕ} 143 1 = line_answered a Dearest refl in omega arith

  -- with a byte left over, so that no block takes it
  long_dearest : AtLine g b (told "0F0101" "01010001010000010000") → ⊥
  unfolding told is_cost first_of pass all_digits framed field_verdict pair_ordered pair_verdict head_verdict rest_verdict load_verdict study_line kind_line line_of
  long_dearest a = let z : Refused Fields ≡ Asked _ = (line_claim a Dearest refl).taken fresh_block in let h : ◌≡◌ {A = ℕ} 0 1 = cc in omega arith

  -- a study of one train whose choice costs nothing
  free_dearest : AtLine g b (told "0F0101" "010100010100000000") → ⊥
  unfolding told dearest
  free_dearest a = let h : ◌≡◌ {A = ℕ} 0 1 = ap (λ (x : Numbers). nth x.choices 0) (line_claim a Dearest refl).gives in omega arith

  -- the dearest study of the sizes turned round
  other_sizes : AtLine g b (told "0F020102" "01020001020100000000000000000100") → ⊥
  unfolding told dearest
  other_sizes a = let h : ◌≡◌ {A = ℕ} 2 1 = ap (λ (x : Numbers). nth x.sizes 0) (line_claim a Dearest refl).gives in omega arith

  -- eight trains of eight choices, 19,173,960 tries, that are not declined
  many_tries : AtLine g b (told "0F080808080808080808" "01") → ⊥
  unfolding told product tries_from
  many_tries a = let h : 19173960 ≤ 10000000 = (line_claim a Dearest refl).few in omega arith

-- a line that every block takes as a load is the line of its own numbers
own_line : (l : List ℕ) → ((b : List ℤ) → line_of l b ≡ Asked (load_request l)) → load_digits (numbers_of l) ≡ l
own_line l taken =
    let m = line_makes l fresh_block (load_request l) (taken fresh_block) in
    load_again l m.0.digits (line_kind l fresh_block (load_request l) (taken fresh_block)) m.1.1

-- so equal sizes get equal lines, after whatever calls
equal_lines : {d e : Exchange} → DearestClaim d → DearestClaim e → sizes_of d.line ≡ sizes_of e.line → d.reply ≡ e.reply
equal_lines {d} {e} c f same = sym (own_line d.reply c.taken) ∙ ap load_digits (c.gives ∙ ap dearest same ∙ sym f.gives) ∙ own_line e.reply f.taken

-- ---- how many choices a search tries

-- document 01's J, of two trains with two choices
unfoldable j_line : String
j_line = "010200010202000002000000000000000000010001000001000000000003000002"

-- there are six choices to try
six_tries : (sizes : ℕ → ℕ) → ((i : ℕ) → i < 2 → sizes i ≡ 2) → tries_of 2 sizes ≡ 6
unfolding told product tries_from
six_tries sizes e = tries_of_cong 2 sizes (λ i. 2) e

-- and no search shows seven tries
fewer_tries : TriesAtMost → (calls : List Call) → plain_exchanges fresh_block calls ≡ told j_line "81000000000000000000000000" ∷ told "060000000A" "8601000000070000000000020001" ∷ []
    → trains (block_after calls) ≡ 2 → ((i : ℕ) → i < 2 → size (block_after calls) i ≡ 2) → ((d : ℕ) → d < 2 → order (block_after calls) d ≡ d) → ⊥
unfolding told last_exchange
fewer_tries most calls e n sizes own =
    let ends : EndsInSearch calls =
    record {
      kind = rw e refl;
      fine = rw e refl;
      loaded = λ d h. own d (omega arith);
    } in
    let shown : 7 ≤ tries_of (trains (block_after calls)) (size (block_after calls)) = rw e at (most calls ends) in
    omega (arith, shown, six_tries (size (block_after calls)) sizes, ap (λ (m : ℕ). tries_of m (size (block_after calls))) n)

-- ---- the reply to a line of kind 0F is no line of clauses

dearest_as_clauses : DearestReached → (b : List ℤ) (buffer : List ℕ) → (answer (codes "0F0101") b buffer).reply ≡ codes "09" → ⊥
unfolding told
dearest_as_clauses reached b buffer f =
    let h : ◌≡◌ {A = ℕ} 9 1 = rw f at (reached (codes "0F0101") b buffer refl (rw f refl)).load in
    omega (arith, h)

-- ---- the dearest study of two trains with two choices: six tries

-- the line that loads it
unfoldable two_by_two : String
two_by_two = "01020001020200000000000000000100000100"

module _ (reached : DearestReached) (b : List ℤ) (buffer : List ℕ) (e : (answer (codes "0F020202") b buffer).reply ≡ codes two_by_two) where
  two_loads : LoadsDearest 6 (codes two_by_two)
  unfolding told two_by_two product tries_from
  two_loads = subst (LoadsDearest 6) e (reached (codes "0F020202") b buffer refl (rw e refl))

  module _ (c : List ℤ) (room : List ℕ) (right : well_formed c ≡ true) (h : min_buffer ≤ length room) where
    -- is not declined by a well-formed block
    dearest_taken : (answer (codes two_by_two) c room).reply ≡ codes "FF05" → ⊥
    unfolding told two_by_two
    dearest_taken f = not_both (rw f at (two_loads.taken c room right h)) refl

    -- a search with a budget of six tries is neither spent, nor has it ended after five
    all_tried : (other : List ℕ) → (answer (codes "0600000006") (answer (codes two_by_two) c room).block other).reply ≡ codes "8601000000050000000000010000" → ⊥
    unfolding told two_by_two
    all_tried other f =
        let q : 6 ≤ 6 = omega arith in
        let t = (two_loads.tried c room right h (codes "0600000006") other refl (rw f refl)).enough q in
        let n : ◌≡◌ {A = ℕ} 5 6 = rw f at t.1 in
        omega (arith, n)

    unspent : (other : List ℕ) → (answer (codes "0600000006") (answer (codes two_by_two) c room).block other).reply ≡ codes "8600000000060000000000010000" → ⊥
    unfolding told two_by_two
    unspent other f =
        let q : 6 ≤ 6 = omega arith in
        let t = (two_loads.tried c room right h (codes "0600000006") other refl (rw f refl)).enough q in
        not_both (rw f at t.0) refl

    -- one with a budget of five is spent: it has not ended, with a plan or without, and shows no count but five
    one_less : (other : List ℕ) → (answer (codes "0600000005") (answer (codes two_by_two) c room).block other).reply ≡ codes "8602000000050000000000010000" → ⊥
    unfolding told two_by_two
    one_less other f =
        let q : 5 < 6 = omega arith in
        let t = (two_loads.tried c room right h (codes "0600000005") other refl (rw f refl)).less q in
        let n : ◌≡◌ {A = ℕ} 2 0 = rw f at t.0 in
        omega (arith, n)

    other_budget : (other : List ℕ) → (answer (codes "0600000005") (answer (codes two_by_two) c room).block other).reply ≡ codes "8600000000040000000000010000" → ⊥
    unfolding told two_by_two
    other_budget other f =
        let q : 5 < 6 = omega arith in
        let t = (two_loads.tried c room right h (codes "0600000005") other refl (rw f refl)).less q in
        let n : ◌≡◌ {A = ℕ} 4 5 = rw f at t.1 in
        omega (arith, n)
