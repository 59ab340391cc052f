-- Document 01, '04 tighten'. The leasts are over permitted entries, and what goes to a forbidden choice is lost: that is put back at the end.
use Rattle.std.specs.Prelude.{List, ℕ, ℤ}
use Rattle.theory.specs.Fold.{iter}
use Rattle.refusals.specs.Verdicts.{Verdict}
use Rattle.tables.specs.Block.{trains, pairs}
use Rattle.rewriting.specs.declared.sides.Side.TheVariants.{Rows, Columns}
use Rattle.rewriting.specs.Judged.{judged, judged_block}
use Rattle.rewriting.specs.Leasts.{lanes_tightened, train_tightened}

-- 'for each a ascending, the least c_ij(a,b) over b moves from that row to c_i(a). Then for each b ascending the least over a moves to c_j(b)'
unfoldable pub pair_tightened : ℕ → List ℤ → List ℤ
pair_tightened k b = lanes_tightened Columns k (lanes_tightened Rows k b)

-- 'For each pair in order'
abbrev pub pairs_tightened : List ℤ → List ℤ
pairs_tightened b = iter (pairs b) pair_tightened b

-- 'After all pairs, by train, the least c_i(a) is taken off every choice and added to c0'
abbrev pub trains_tightened : List ℤ → List ℤ
trains_tightened b = iter (trains b) train_tightened b

-- where a tightening ends
unfoldable pub tightened : List ℤ → List ℤ
tightened b = trains_tightened (pairs_tightened b)

abbrev pub tighten_outcome : List ℤ → Verdict
tighten_outcome b = judged b (tightened b)

abbrev pub tighten_block : List ℤ → List ℤ
tighten_block b = judged_block b (tightened b)
