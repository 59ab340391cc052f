-- The calls are the definition, of literals that are small.
use mathlib.Core.Path.{◌∙◌}
use native.Mathlib.Omega.{arith}
use Rattle.tables.specs.Block.{max_trains}
use Rattle.clauses.specs.Clauses.{cell_of, other_of}
use Rattle.clauses.proofs.Words.{word_is}
use Rattle.clauses.proofs.Cells.{literals_right_lem, other_right, failing_small}
use Rattle.clauses.proofs.literals.clause_cell.Goals as goal

pub train-requires : goal.train-requires
train-requires c =
    let z = c.args.clause in
    let r = literals_right_lem max_trains z.first z.second c.requires in
    rw (word_is z.first r.first) (r.some, r.first)

pub train-requires-2 : goal.train-requires-2
train-requires-2 c =
    let z = c.args.clause in
    let r = other_right (literals_right_lem max_trains z.first z.second c.requires) in
    rw (c.other-second.ensures, word_is (other_of z.first z.second) r.1) r

pub cell-requires : goal.cell-requires
cell-requires c =
    let z = c.args.clause.first in
    let w = other_of c.args.clause.first c.args.clause.second in
    let r = literals_right_lem max_trains z c.args.clause.second c.requires in
    let s = other_right r in
    rw (c.train.ensures, c.failing.ensures, c.train-2.ensures, c.failing-2.ensures, c.other-second.ensures, word_is z r.first, word_is w s.1)
    (omega (arith, r.some, r.first), failing_small z, omega arith, failing_small w)

pub returns-clause-value : goal.returns-clause-value
unfolding cell_of
returns-clause-value c =
    let z = c.args.clause.first in
    let w = other_of c.args.clause.first c.args.clause.second in
    let r = literals_right_lem max_trains z c.args.clause.second c.requires in
    c.cell.ensures.value ∙ rw (c.train.ensures, c.failing.ensures, c.train-2.ensures, c.failing-2.ensures, c.other-second.ensures, word_is z r.first, word_is w (other_right r).1)
