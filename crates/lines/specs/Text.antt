-- Lines and records the other way round: document 01, '01 load', the line that loads given numbers; document 02, change 11, the record of a plan.
use Rattle.std.specs.Prelude.{List, [], ℕ, zero, suc, ◌+◌, ◌*◌, length}
use Rattle.theory.specs.Lists.{nth}
use Rattle.tables.specs.Plans.{Shape}
use Rattle.tables.specs.Counts.{pair_entries, entries_before}
use Rattle.tables.specs.Numbers.{Numbers, list_shape}
use Rattle.frames.specs.Fields.{field_digits}
use Rattle.frames.specs.Runs.{run_digits}
use Rattle.lines.specs.declared.kind.Kind.TheVariants.{Load}
use Rattle.lines.specs.Kinds.{kind_number}
use Rattle.lines.specs.Layout.{kind_width, count_width, scale_width, cost_width, pair_width, figure_width, size_field}

-- kind, n, s and sizes, before other characters
abbrev pub head_digits : ℕ → List ℕ → List ℕ → List ℕ
head_digits s sizes rest =
    field_digits kind_width (kind_number Load) (field_digits count_width (length sizes) (field_digits scale_width s (run_digits count_width (length sizes) (nth sizes) rest)))

-- a pair before other characters: 'i, j (1 each), costs (3 each), a outer, b inner'
abbrev pub pair_run : ℕ → ℕ → ℕ → (ℕ → ℕ) → List ℕ → List ℕ
pair_run i j count f rest = field_digits count_width i (field_digits count_width j (run_digits cost_width count f rest))

-- pair k of this shape; the costs of all pairs are given
unfoldable pub pair_digits : Shape → List ℕ → ℕ → List ℕ → List ℕ
pair_digits s entries k rest = pair_run (s.first k) (s.second k) (pair_entries s k) (λ o. nth entries (entries_before s k + o)) rest

-- `left` pairs from pair k on, before other characters
unfoldable pub pairs_digits : Shape → List ℕ → ℕ → ℕ → List ℕ → List ℕ
pairs_digits s entries k zero rest = rest
pairs_digits s entries k (suc left) rest = pair_digits s entries k (pairs_digits s entries (k + 1) left rest)

-- the shape by which a line's costs stand, which is the same whatever is forbidden
abbrev pub text_shape : Numbers → Shape
text_shape x = list_shape x.sizes x.firsts x.seconds

-- 'n (1 byte), s (2), sizes (1 each), choice costs by train then choice (3 each), m (1), then each pair'
unfoldable pub load_digits : Numbers → List ℕ
load_digits x =
    head_digits x.scale x.sizes
    (run_digits cost_width (length x.choices) (nth x.choices)
    (field_digits count_width (length x.firsts) (pairs_digits (text_shape x) x.entries 0 (length x.firsts) [])))

-- how many bytes a load line has, by how many sizes, choice costs, pairs and pair costs
abbrev pub line_bytes : ℕ → ℕ → ℕ → ℕ → ℕ
line_bytes n choices m entries = size_field.at + count_width * n + cost_width * choices + count_width + (pair_width * m + cost_width * entries)

abbrev pub load_bytes : Numbers → ℕ
load_bytes x = line_bytes (length x.sizes) (length x.choices) (length x.firsts) (length x.entries)

-- ---- document 02, change 11

-- 'n, n choices', before other characters
abbrev pub choices_digits : List ℕ → List ℕ → List ℕ
choices_digits choices rest = field_digits count_width (length choices) (run_digits count_width (length choices) (nth choices) rest)

-- a record: 'n, n choices, bound (6), cost (6), in points'
unfoldable pub record_digits : List ℕ → ℕ → ℕ → List ℕ
record_digits choices bound cost = choices_digits choices (field_digits figure_width bound (field_digits figure_width cost []))

-- how many bytes a record of n choices has
abbrev pub record_bytes : ℕ → ℕ
record_bytes n = count_width + count_width * n + 2 * figure_width
