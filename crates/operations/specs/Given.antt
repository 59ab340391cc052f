-- The numbers of a load as the code holds them: a pair's two trains stand together.
use Rattle.std.specs.Prelude.{map}
use Rattle.tables.specs.Numbers.{Numbers, numbers}
use Rattle.operations.specs.declared.load_numbers.LoadNumbers.{LoadNumbers}
use Rattle.operations.specs.declared.lent_study.LentStudy.{LentStudy}

abbrev pub numbers_given : LoadNumbers → Numbers
numbers_given l = numbers l.scale l.sizes.items l.choices.items (map (λ p. p.first) l.pairs.items) (map (λ p. p.second) l.pairs.items) l.entries.items

-- and as lent lists hold them
abbrev pub numbers_lent : LentStudy → Numbers
numbers_lent l = numbers l.scale l.sizes.now l.choices.now (map (λ p. p.first) l.pairs.now) (map (λ p. p.second) l.pairs.now) l.entries.now
