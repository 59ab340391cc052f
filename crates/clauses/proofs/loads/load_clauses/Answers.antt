-- The cells hold the costs and the codes are the pairs, so the numbers are those of the clauses.
use mathlib.Core.Path.{◌≡◌, refl, sym, ap, ◌∙◌}
use mathlib.Core.Bool.{Bool}
use mathlib.Core.List.{List}
use Prim.Native.Nat.{ℕ, ◌≤◌}
use native.Mathlib.Omega.{arith}
use lib.ListN.{length}
use Rattle.tables.specs.Block.{max_trains, max_pairs}
use Rattle.operations.specs.Load.{loaded_block}
use Rattle.operations.specs.Given.{numbers_lent}
use Rattle.clauses.specs.declared.clause.Clause.{Clause}
use Rattle.clauses.specs.Given.{clauses_given, numbers_made}
use Rattle.clauses.specs.Clauses.{pair_codes, clause_numbers, sums_within}
use Rattle.clauses.proofs.Cells.{clear_wider}
use Rattle.clauses.proofs.Ranges.{in_range_lem}
use Rattle.clauses.proofs.Loading.{codes_small, clauses_made, pairs-declined, sums-declined, sums_taken}
use Rattle.clauses.proofs.loads.load_clauses.Goals.{After-sums_within}
use Rattle.clauses.proofs.loads.load_clauses.Goals as goal

-- the clear clauses are those that were given, so their pairs are
named : (l : List Clause) {k : List Clause} {codes : List ℕ} → k ≡ l → codes ≡ pair_codes (clauses_given k) → codes ≡ pair_codes (clauses_given l)
named l e f = f ∙ ap (λ (m : List Clause). pair_codes (clauses_given m)) e

pub known-clear-requires : goal.known-clear-requires
known-clear-requires c = clear_wider max_trains c.requires.trains.1 c.requires.clear

pub returns-then-len-gt-PAIRS : goal.returns-then-len-gt-PAIRS
returns-then-len-gt-PAIRS c =
    let a = c.args in
    let e = ap (λ (l : List ℕ). length l) (named a.clauses.now c.known-clear.ensures c.charge_in.ensures.pairs) in
    let w = pairs-declined a.n a.scale (clauses_given a.clauses.now) a.block.now (omega (arith, c.len.ensures.value)) in
    record { value = w.0; block_after = w.1 }

pub numbers-numbers-requires : goal.numbers-numbers-requires
numbers-numbers-requires c =
    let e = ap (λ (l : List ℕ). length l) c.deref.ensures.0 in
    (c.requires.trains.1, omega (arith, c.len.ensures.value), codes_small (clauses_given c.args.clauses.now) (c.deref.ensures.0 ∙ named c.args.clauses.now c.known-clear.ensures c.charge_in.ensures.pairs))

-- there are not too many pairs, and the numbers are those of the clauses
module _ (c : After-sums_within) where
  few : length (pair_codes (clauses_given c.args.clauses.now)) ≤ max_pairs
  few = let e = ap (λ (l : List ℕ). length l) (named c.args.clauses.now c.known-clear.ensures c.charge_in.ensures.pairs) in omega (arith, c.len.ensures.value)

  are : numbers_made c.numbers-numbers.result ≡ clause_numbers c.args.n c.args.scale (clauses_given c.args.clauses.now)
  are =
      clauses_made c.args.n c.args.scale c.args.clauses.now c.charge_in.new.cells c.requires.trains.1 (rw c.known-clear.ensures at c.charge_in.ensures.costs)
      (c.deref.ensures.0 ∙ named c.args.clauses.now c.known-clear.ensures c.charge_in.ensures.pairs)
      c.numbers-numbers.ensures

  judged : {t : Bool} → t ≡ sums_within (numbers_made c.numbers-numbers.result) → sums_within (clause_numbers c.args.n c.args.scale (clauses_given c.args.clauses.now)) ≡ t
  judged e = ap sums_within (sym are) ∙ sym e

pub returns-then-not-sums_within : goal.returns-then-not-sums_within
returns-then-not-sums_within c =
    let a = c.args in
    let s = (goal.at.returns-then-not-sums_within c).After-sums_within in
    let w = sums-declined a.n a.scale (clauses_given a.clauses.now) a.block.now (few s) (judged s c.if-not-sums_within.ensures) in
    record { value = w.0; block_after = w.1 }

pub known-lent-requires : goal.known-lent-requires
known-lent-requires c =
    let s = (goal.at.known-lent-requires c).After-sums_within in
    rw (c.deref-2.ensures.0, c.deref-3.ensures.0, c.deref-4.ensures.0, c.deref-5.ensures.0, are s) (in_range_lem c.requires (few s) (judged s c.if-not-sums_within.ensures))

pub returns : goal.returns
returns c =
    let a = c.args in
    let s = (goal.at.returns c).After-sums_within in
    let e : numbers_lent c.known-lent.result ≡ numbers_made c.numbers-numbers.result = (let k = c.known-lent.ensures in rw (k.scale, k.sizes, k.choices, k.pairs, k.entries, c.deref-2.ensures.0, c.deref-3.ensures.0, c.deref-4.ensures.0, c.deref-5.ensures.0) refl) in
    let w = sums_taken a.n a.scale (clauses_given a.clauses.now) a.block.now (few s) (judged s c.if-not-sums_within.ensures) in
    record { value = w.0; block_after = c.load_lent.ensures ∙ ap loaded_block (e ∙ are s) ∙ w.1 }
