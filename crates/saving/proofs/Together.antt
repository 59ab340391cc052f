-- Saving and loading, together: a save straight after an accepted load gives that line back, and a saved line loads the same study on every block, as the new block is a load's numbers alone.
use mathlib.Core.Path.{◌≡◌, ap, ◌∙◌}
use mathlib.Core.Bool.{true}
use mathlib.Core.List.{List}
use Prim.Native.Nat.{ℕ, ◌*◌, ◌≤◌}
use native.Mathlib.Omega.{arith}
use lib.IntN.{ℤ}
use lib.ListN.{length}
use Rattle.refusals.specs.Verdicts.{Fine}
use Rattle.tables.specs.Block.{trains, scale, pairs}
use Rattle.tables.specs.WellFormed.{Study}
use Rattle.tables.specs.Plans.{shape_of}
use Rattle.tables.specs.Counts.{choice_count, entry_count}
use Rattle.tables.specs.Numbers.{Numbers, numbers, InRange}
use Rattle.operations.specs.Load.{loaded_block}
use Rattle.operations.specs.Saved.{saved_numbers, SameLoaded, AsLoaded}
use Rattle.operations.proofs.Loaded.{load_study}
use Rattle.numbers.proofs.Saved.{saved_back, saved_range, saved_again, load_as_loaded, saved-trains, saved_choices, saved-pairs, saved_entries}
use Rattle.frames.specs.Frames.{framed, Framed}
use Rattle.lines.specs.declared.kind.Kind.TheVariants.{Load}
use Rattle.lines.specs.Kinds.{kind_number}
use Rattle.lines.specs.Layout.{kind_of}
use Rattle.lines.specs.Text.{load_digits, line_bytes, load_bytes}
use Rattle.kinds.specs.Load.{load_verdict}
use Rattle.decoding.specs.Numbers.{numbers_of}
use Rattle.decoding.proofs.LoadRange.{load_in_range}
use Rattle.decoding.proofs.Again.{load_again}
use Rattle.decoding.proofs.Written.{load_kind, load_judged, numbers_back}
use Rattle.decoding.proofs.Size.{load_length, load_longest, load_framed}
use Rattle.replies.specs.Replies.{longest_reply}

-- straight after an accepted line, a save gives that very line
pub save_after_load : (l : List ℕ) → framed l ≡ true → kind_of l ≡ kind_number Load → load_verdict l ≡ Fine → load_digits (saved_numbers (loaded_block (numbers_of l))) ≡ l
save_after_load l e kind f = ap load_digits (saved_back (load_in_range l f)) ∙ load_again l e kind f

-- ---- the saved line of a study

module _ {b : List ℤ} (s : Study b) where
  -- how many characters it has
  pub save_length : length (load_digits (saved_numbers b)) ≡ 2 * line_bytes (trains b) (choice_count (shape_of b)) (pairs b) (entry_count (shape_of b))
  save_length = omega (arith, load_length (saved_range s), saved-trains b, saved_choices b, saved-pairs b, saved_entries b)

  -- it is no longer than the longest reply
  pub save_most : length (load_digits (saved_numbers b)) ≤ longest_reply
  save_most = omega (arith, load_longest (saved_range s))

  -- it is a frame of at most 19,834 characters
  pub save_framed : Framed (load_digits (saved_numbers b)) (load_bytes (saved_numbers b))
  save_framed = load_framed (saved_range s)

  -- a load
  pub save_kind : kind_of (load_digits (saved_numbers b)) ≡ kind_number Load
  save_kind = load_kind (saved_numbers b)

  -- that is accepted
  pub save_fine : load_verdict (load_digits (saved_numbers b)) ≡ Fine
  save_fine = load_judged (saved_range s)

  -- with the numbers that the block holds
  pub save_numbers : numbers_of (load_digits (saved_numbers b)) ≡ saved_numbers b
  save_numbers = numbers_back (saved_range s)

  -- and gives a block with the same study
  pub save_again : SameLoaded b (loaded_block (numbers_of (load_digits (saved_numbers b))))
  save_again = rw save_numbers (saved_again s)

  pub save_study : Study (loaded_block (numbers_of (load_digits (saved_numbers b))))
  save_study = rw save_numbers (load_study (saved_range s))

  pub save_as_loaded : AsLoaded (loaded_block (numbers_of (load_digits (saved_numbers b))))
  save_as_loaded = rw save_numbers (load_as_loaded (saved_range s))

  -- saved again, it is the same line
  pub save_twice : load_digits (saved_numbers (loaded_block (numbers_of (load_digits (saved_numbers b))))) ≡ load_digits (saved_numbers b)
  save_twice = ap load_digits (rw save_numbers (saved_back (saved_range s)))

-- ---- numbers that are those of a study

-- lists that are the block's with its scale are so with a number that is its scale
pub read_as : (b : List ℤ) {s : ℕ} {sizes choices firsts seconds entries : List ℕ} → s ≡ scale b → numbers (scale b) sizes choices firsts seconds entries ≡ saved_numbers b
    → numbers s sizes choices firsts seconds entries ≡ saved_numbers b
read_as b {s} {sizes} {choices} {firsts} {seconds} {entries} e f = ap (λ (t : ℕ). numbers t sizes choices firsts seconds entries) e ∙ f

-- numbers that are those of the block can be written
pub read_writes : {b : List ℤ} → Study b → {x : Numbers} → x ≡ saved_numbers b → (n : ℕ) → length (load_digits (saved_numbers b)) ≤ n → InRange x × (2 * load_bytes x ≤ n)
read_writes s e n h = rw e (saved_range s, omega (arith, load_length (saved_range s)))
