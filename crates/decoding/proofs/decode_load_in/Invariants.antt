use mathlib.Core.Path.{◌≡◌}
use Rattle.theory.specs.Lists.{list_of}
use Rattle.tables.specs.Numbers.{numbers}
use Rattle.operations.specs.Given.{numbers_given}
use Rattle.lines.specs.Layout.{load_trains, load_scale, load_size, choice_count, load_first, load_second, numbers_in, choice_field, pair_at}
use Rattle.decoding.specs.Numbers.{entries_of}
use Rattle.decoding.proofs.decode_load_in.Given as goal

abbrev pub invariant-loop-k : goal.invariant-loop-k
invariant-loop-k l =
    let line = l.frame.line.now in record {
      at : l.at ≡ pair_at line l._k;
      numbers : numbers_given l.numbers
          ≡ numbers (load_scale line) (list_of (load_trains line) (load_size line)) (numbers_in line (choice_field line) (choice_count line))
          (list_of l._k (load_first line)) (list_of l._k (load_second line)) (entries_of line l._k);
    }
