-- 16, 'block of another length or not well formed': both sides of each limit that a block has. Each block here is one that is well formed, with one number changed: places are counted as document
-- 01's 'State block' and document 02, change 10, have them. The replies are what the documents say of such blocks, and are the reference implementation's too.
use mathlib.Core.Path.{◌≡◌, refl}
use mathlib.Core.Bool.{Bool, true, false, ◌&&◌}
use mathlib.Core.List.{List, [], ◌∷◌, ◌++◌}
use Prim.Native.Nat.{ℕ, ◌+◌, ◌*◌, ◌<◌}
use lib.Dec.{ltb}
use lib.IntN.{ℤ, pos, negsuc}
use lib.ListN.{replicate, set}
use borrow.Author.Tests.{ltb-true, not-true}
use Rattle.std.specs.Prelude.{not}
use Rattle.std.proofs.lemmas.Bool.{false_from_ne_true}
use Rattle.theory.specs.Lists.{list_from}
use Rattle.theory.proofs.Range.{both_true, not_both}
use Rattle.tables.specs.Block.{block_length, max_trains, max_choices, max_pairs, entries_of_pair, loaded_choices_from, held_choices_from, loaded_entries_from, held_entries_from, at, pairs}
use Rattle.tables.specs.WellFormed.{within, limits_at, pair_right, order_right, mate, is_fresh, well_formed, Study}
use Rattle.tables.proofs.Study.{study_of_lem}
use Rattle.cases.specs.Calls.{Block, held, Row, declined, Right}
use Rattle.cases.specs.Computed.{computed}
use Rattle.cases.specs.Studies.{j_with, j, turned}
use Rattle.cases.proofs.Rows.{right_by}
use Rattle.cases.proofs.Forbidden.{d_with, d}

-- ---- why one test that fails is enough: a well-formed block that is not fresh passes all of them, so the others need not be computed

-- the block is not fresh, and the number at place p is outside its limits
unfoldable pub outside_at : List ℤ → ℕ → Bool
outside_at b p = not (is_fresh b) && (ltb p block_length && not (within (limits_at b p) (at b p)))

-- pair k is not two trains of the block, the lower first, behind the pair before it
unfoldable pub misplaced : List ℤ → ℕ → Bool
misplaced b k = not (is_fresh b) && (ltb k (pairs b) && not (pair_right b k))

-- the order has not each train exactly once
unfoldable pub misordered : List ℤ → Bool
misordered b = not (is_fresh b) && not (order_right b)

-- of H and T of the choice, or of the pair of choices, with this offset, one alone is below 0
unfoldable pub choice_alone : List ℤ → ℕ → Bool
choice_alone b o = not (is_fresh b) && (ltb o (max_trains * max_choices) && not (mate (at b (loaded_choices_from + o)) (at b (held_choices_from + o))))

unfoldable pub entry_alone : List ℤ → ℕ → Bool
entry_alone b o = not (is_fresh b) && (ltb o (max_pairs * entries_of_pair) && not (mate (at b (loaded_entries_from + o)) (at b (held_entries_from + o))))

not_well_formed : (b : List ℤ) (n limit : ℕ) (t : Bool) → not (is_fresh b) && (ltb n limit && not t) ≡ true → (Study b → n < limit → t ≡ true) → well_formed b ≡ false
not_well_formed b n limit t e passes =
    let f = both_true (not (is_fresh b)) (ltb n limit && not t) e in
    let g = both_true (ltb n limit) (not t) f.1 in
    false_from_ne_true (well_formed b) (λ w. not_both (passes (study_of_lem b w (not-true (is_fresh b) f.0)) (ltb-true n limit g.0)) (not-true t g.1))

pub outside_lem : (b : List ℤ) (p : ℕ) → outside_at b p ≡ true → well_formed b ≡ false
unfolding outside_at
outside_lem b p e = not_well_formed b p block_length (within (limits_at b p) (at b p)) e (λ s. s.places p)

pub disordered_lem : (b : List ℤ) (k : ℕ) → misplaced b k ≡ true → well_formed b ≡ false
unfolding misplaced
disordered_lem b k e = not_well_formed b k (pairs b) (pair_right b k) e (λ s. s.ordered k)

pub not_once_lem : (b : List ℤ) → misordered b ≡ true → well_formed b ≡ false
unfolding misordered
not_once_lem b e =
    let f = both_true (not (is_fresh b)) (not (order_right b)) e in
    false_from_ne_true (well_formed b) (λ w. not_both (study_of_lem b w (not-true (is_fresh b) f.0)).once (not-true (order_right b) f.1))

pub half_choice_lem : (b : List ℤ) (o : ℕ) → choice_alone b o ≡ true → well_formed b ≡ false
unfolding choice_alone
half_choice_lem b o e = not_well_formed b o (max_trains * max_choices) (mate (at b (loaded_choices_from + o)) (at b (held_choices_from + o))) e (λ s. s.choices_mated o)

pub half_entry_lem : (b : List ℤ) (o : ℕ) → entry_alone b o ≡ true → well_formed b ≡ false
unfolding entry_alone
half_entry_lem b o e = not_well_formed b o (max_pairs * entries_of_pair) (mate (at b (loaded_entries_from + o)) (at b (held_entries_from + o))) e (λ s. s.entries_mated o)

-- ---- the blocks

-- each number at its greatest: 24 trains, of which the first has 8 choices, and 48 pairs, those of trains 0 and 1 and the first three of train 2; H and T of the first choice and of the first entry
unfoldable pub greatest : Block
unfolding computed
greatest =
    held
    (record {
      scale = 1000;
      constant = 72000000000;
      sizes = 8 ∷ replicate 23 1;
      firsts = replicate 23 0 ++ replicate 22 1 ++ replicate 3 2;
      seconds = list_from 1 23 (λ (j : ℕ). j) ++ list_from 2 22 (λ (j : ℕ). j) ++ list_from 3 3 (λ (j : ℕ). j);
      loaded_choices = (1000000 ∷ []) ∷ [];
      held_choices = (72000000000 ∷ []) ∷ [];
      loaded_entries = ((1000000 ∷ []) ∷ []) ∷ [];
      held_entries = ((72000000000 ∷ []) ∷ []) ∷ [];
    })
    refl

-- four trains of one choice, and pairs (1, 2) and (1, 3)
unfoldable pub four : Block
unfolding computed
four =
    held
    (record {
      scale = 1;
      constant = 0;
      sizes = 1 ∷ 1 ∷ 1 ∷ 1 ∷ [];
      firsts = 1 ∷ 1 ∷ [];
      seconds = 2 ∷ 3 ∷ [];
      loaded_choices = [];
      held_choices = [];
      loaded_entries = [];
      held_entries = [];
    })
    refl

-- ---- the table: on a block that is well formed what is wrong is the line's byte left over

-- a block that is not well formed
unfoldable pub malformed : (b : List ℤ) → well_formed b ≡ false → Row
malformed b e = declined (record { numbers = b; formed = false; shown = e }) "0400" "FF 10"

-- the block with z at place p, which is outside its limits
unfoldable pub outside : (b : Block) (p : ℕ) (z : ℤ) → outside_at (set b.numbers p z) p ≡ true → Row
outside b p z e = malformed (set b.numbers p z) (outside_lem (set b.numbers p z) p e)

-- by which pair k is misplaced
unfoldable pub disordered : (b : Block) (p : ℕ) (z : ℤ) (k : ℕ) → misplaced (set b.numbers p z) k ≡ true → Row
disordered b p z k e = malformed (set b.numbers p z) (disordered_lem (set b.numbers p z) k e)

-- by which the order has not each train exactly once
unfoldable pub not_once : (b : Block) (p : ℕ) (z : ℤ) → misordered (set b.numbers p z) ≡ true → Row
not_once b p z e = malformed (set b.numbers p z) (not_once_lem (set b.numbers p z) e)

-- by which H and T differ at offset o of the choices, and of the entries
unfoldable pub half_choice : (b : Block) (p : ℕ) (z : ℤ) (o : ℕ) → choice_alone (set b.numbers p z) o ≡ true → Row
half_choice b p z o e = malformed (set b.numbers p z) (half_choice_lem (set b.numbers p z) o e)

unfoldable pub half_entry : (b : Block) (p : ℕ) (z : ℤ) (o : ℕ) → entry_alone (set b.numbers p z) o ≡ true → Row
half_entry b p z o e = malformed (set b.numbers p z) (half_entry_lem (set b.numbers p z) o e)

unfoldable pub table : List Row
unfolding computed j_with j d_with d greatest four turned outside_at misplaced misordered choice_alone entry_alone malformed outside disordered not_once half_choice half_entry
table =
    -- 'another length': one more, one less, document 01's own, and none
    malformed (replicate 6677 (pos 0)) refl
    ∷ malformed (replicate 6675 (pos 0)) refl
    ∷ malformed (replicate 6652 (pos 0)) refl
    ∷ malformed [] refl
    -- 'n is 1 to 24, s 1 to 1000, m 0 to 48, sizes 1 to 8, .. H 0 to 1,000,000, c0 and T 0 to L': the greatest of all, and each one more
    ∷ declined greatest "0400" "FF 05"
    ∷ outside greatest 0 (pos 25) refl
    ∷ outside greatest 1 (pos 1001) refl
    ∷ outside greatest 2 (pos 49) refl
    ∷ outside greatest 3 (pos 72000000001) refl
    ∷ outside greatest 4 (pos 9) refl
    ∷ outside greatest 124 (pos 1000001) refl
    ∷ outside greatest 316 (pos 72000000001) refl
    ∷ outside greatest 508 (pos 1000001) refl
    ∷ outside greatest 3580 (pos 72000000001) refl
    ∷ outside greatest 6675 (pos 24) refl
    -- one less than the least of n, s, c0 and a size
    ∷ outside j 0 (pos 0) refl
    ∷ outside j 1 (pos 0) refl
    ∷ outside j 3 (negsuc 0) refl
    ∷ outside j 4 (pos 0) refl
    -- 'pairs as above': j equal to i, and below i; j equal to n; the first pair again, and a pair before the first
    ∷ declined four "0400" "FF 05"
    ∷ disordered four 76 (pos 1) 0 refl
    ∷ disordered four 76 (pos 0) 0 refl
    ∷ disordered four 77 (pos 4) 1 refl
    ∷ disordered four 77 (pos 2) 1 refl
    ∷ disordered four 29 (pos 0) 1 refl
    -- document 02, change 5: 'An entry −1 in one of them only is 16'. A permitted choice with −1 in H, and in T; a forbidden one with 0; an entry with −1 in H, and in T
    ∷ declined d "0400" "FF 05"
    ∷ half_choice j 124 (negsuc 0) 0 refl
    ∷ half_choice j 316 (negsuc 0) 0 refl
    ∷ half_choice d 125 (pos 0) 1 refl
    ∷ half_choice d 317 (pos 0) 1 refl
    ∷ half_entry j 508 (negsuc 0) 0 refl
    ∷ half_entry j 3580 (negsuc 0) 0 refl
    -- −2 of a forbidden choice
    ∷ outside d 125 (negsuc 1) refl
    ∷ outside d 317 (negsuc 1) refl
    -- 'Unused places are 0': behind the last size, i and j; behind the last choice, in H and in T; behind the last entry of a row, and of the last pair; the last place of T; behind the last train of the order; the last place of all
    ∷ outside j 6 (pos 1) refl
    ∷ outside j 29 (pos 1) refl
    ∷ outside j 77 (pos 1) refl
    ∷ outside j 126 (pos 1) refl
    ∷ outside j 318 (negsuc 0) refl
    ∷ outside j 510 (negsuc 0) refl
    ∷ outside j 3644 (pos 1) refl
    ∷ outside j 6651 (pos 1) refl
    ∷ outside j 6651 (negsuc 0) refl
    ∷ outside j 6654 (pos 1) refl
    ∷ outside j 6675 (pos 1) refl
    ∷ outside j 6675 (negsuc 0) refl
    -- document 02, change 10: 'a loaded block's order is judged likewise'. Another order than the loaded one; a train twice; a train that is not there; −1
    ∷ declined turned "0400" "FF 05"
    ∷ not_once j 6653 (pos 0) refl
    ∷ not_once j 6652 (pos 2) refl
    ∷ outside j 6652 (negsuc 0) refl
    ∷ []

pub table_right : Right table
unfolding computed j_with j d_with d greatest four turned malformed outside disordered not_once half_choice half_entry table
table_right = right_by table refl
