-- Document 02, change 11: the text of a record behind a first byte, which is a line's kind or a reply's. Each field reads back, as what stands in the text is known from its beginning on; and a record that was read, written
-- again, is that very text, as each field is the line from its place on, from the line's end to its beginning.
use mathlib.Core.Path.{◌≡◌, refl, sym, ap, ◌∙◌}
use mathlib.Core.Bool.{true}
use mathlib.Core.List.{List, [], ◌++◌}
use Prim.Native.Nat.{ℕ, ◌+◌, ◌*◌, ◌<◌, ◌^◌}
use native.Mathlib.Omega.{arith}
use lib.ListN.{length, take, drop}
use lib.Seq.{take_at, drop-length}
use Rattle.theory.specs.Lists.{nth}
use Rattle.theory.specs.Range.{pass}
use Rattle.theory.proofs.Lists.{list_length, list_is}
use Rattle.frames.specs.Digits.{bytes}
use Rattle.frames.specs.Fields.{field_digits}
use Rattle.frames.specs.Runs.{run_of, run_digits}
use Rattle.frames.specs.Frames.{all_digits, framed, Framed}
use Rattle.frames.proofs.Bytes.{Whole, framed_whole}
use Rattle.frames.proofs.Parts.{make_framed}
use Rattle.frames.proofs.RoundTrip.{digits_append, digits-length, digits-digits}
use Rattle.frames.proofs.RunDigits.{run_append, run_length, run_digits_lem, run_list}
use Rattle.frames.proofs.Stands.{Stands, stands_whole, stands_field, past_field, stands_run, past_run}
use Rattle.frames.proofs.There.{field_there, run_there}
use Rattle.lines.specs.Layout.{kind_width, kind_of, end_of, count_width, figure_width, record_trains_field, record_trains, record_choice_field, record_choice, record_bound_field, record_bound, record_cost_field, record_cost}
use Rattle.lines.specs.Text.{choices_digits, record_digits, record_bytes}

-- ---- a first byte before other characters

module _ (v : ℕ) (rest : List ℕ) where
  pub first_byte : v < 256 → kind_of (field_digits kind_width v rest) ≡ v
  first_byte h = stands_field kind_width v rest (stands_whole (field_digits kind_width v rest)) (omega arith)

  stands_behind : Stands (field_digits kind_width v rest) kind_width rest
  stands_behind = past_field kind_width v rest (stands_whole (field_digits kind_width v rest))

  pub behind_first : drop (2 * kind_width) (field_digits kind_width v rest) ≡ rest
  behind_first = stands_behind.from

-- ---- n and n choices behind it, before other characters

module _ (v : ℕ) (choices rest : List ℕ) where
  abbrev choices_text : List ℕ
  choices_text = field_digits kind_width v (choices_digits choices rest)

  stands_choices : Stands choices_text record_choice_field.at (run_digits count_width (length choices) (nth choices) rest)
  stands_choices = past_field count_width (length choices) (run_digits count_width (length choices) (nth choices) rest) (stands_behind v (choices_digits choices rest))

  stands_figures : Stands choices_text (record_bound_field (length choices)).at rest
  stands_figures = past_run count_width (length choices) (nth choices) rest stands_choices

  pub choices_trains : length choices < 256 → record_trains choices_text ≡ length choices
  choices_trains h = stands_field count_width (length choices) (run_digits count_width (length choices) (nth choices) rest) (stands_behind v (choices_digits choices rest)) (omega arith)

  pub choices_choice : (i : ℕ) → i < length choices → nth choices i < 256 → record_choice choices_text i ≡ nth choices i
  choices_choice i h q = stands_run count_width (length choices) (nth choices) rest stands_choices i h (omega arith)

  -- all of them, as a list
  pub choices_listed : ((i : ℕ) → i < length choices → nth choices i < 256) → run_of choices_text record_choice_field.at count_width (length choices) ≡ choices
  choices_listed h = list_is (length choices) (record_choice choices_text) choices refl (λ i q. choices_choice i q (h i q))

  pub choices_text_length : length choices_text ≡ 2 * (kind_width + count_width + count_width * length choices) + length rest
  choices_text_length =
      let run = run_digits count_width (length choices) (nth choices) rest in
      omega (arith, digits-length kind_width v (choices_digits choices rest), digits-length count_width (length choices) run, run_length count_width (length choices) (nth choices) rest)

  pub choices_text_digits : all_digits rest ≡ true → all_digits choices_text ≡ true
  choices_text_digits e = digits-digits kind_width v _ (digits-digits count_width (length choices) _ (run_digits_lem count_width (length choices) (nth choices) rest e))

choices_append : (v : ℕ) (choices p rest : List ℕ) → choices_text v choices (p ++ rest) ≡ choices_text v choices p ++ rest
choices_append v choices p rest =
    let n = length choices in
    let run = run_digits count_width n (nth choices) p in
    rw (run_append count_width n (nth choices) p rest, digits_append count_width n run rest) (digits_append kind_width v (field_digits count_width n run) rest)

-- ---- a record behind it

abbrev figures_digits : ℕ → ℕ → List ℕ
figures_digits bound cost = field_digits figure_width bound (field_digits figure_width cost [])

module _ (v : ℕ) (choices : List ℕ) (bound cost : ℕ) where
  abbrev record_text : List ℕ
  record_text = field_digits kind_width v (record_digits choices bound cost)

  record_stands : Stands record_text (record_bound_field (length choices)).at (figures_digits bound cost)
  unfolding record_digits
  record_stands = stands_figures v choices (figures_digits bound cost)

  module _ (h : length choices < 256) where
    pub trains_recorded : record_trains record_text ≡ length choices
    unfolding record_digits
    trains_recorded = choices_trains v choices (figures_digits bound cost) h

    pub bound_recorded : bound < 256 ^ figure_width → record_bound record_text ≡ bound
    bound_recorded q = rw trains_recorded (stands_field figure_width bound (field_digits figure_width cost []) record_stands q)

    pub cost_recorded : cost < 256 ^ figure_width → record_cost record_text ≡ cost
    cost_recorded q = rw trains_recorded (stands_field figure_width cost [] (past_field figure_width bound (field_digits figure_width cost []) record_stands) q)

  pub choice_recorded : (i : ℕ) → i < length choices → nth choices i < 256 → record_choice record_text i ≡ nth choices i
  unfolding record_digits
  choice_recorded i q r = choices_choice v choices (figures_digits bound cost) i q r

  pub choices_recorded : ((i : ℕ) → i < length choices → nth choices i < 256) → run_of record_text record_choice_field.at count_width (length choices) ≡ choices
  unfolding record_digits
  choices_recorded q = choices_listed v choices (figures_digits bound cost) q

  pub record_text_length : length record_text ≡ 2 * (kind_width + record_bytes (length choices))
  unfolding record_digits
  record_text_length =
      omega (arith, choices_text_length v choices (figures_digits bound cost), digits-length figure_width bound (field_digits figure_width cost []), digits-length figure_width cost [])

  pub record_text_bytes : bytes record_text ≡ kind_width + record_bytes (length choices)
  record_text_bytes = omega (arith, record_text_length)

  pub record_text_digits : all_digits record_text ≡ true
  unfolding record_digits all_digits pass
  record_text_digits = choices_text_digits v choices (figures_digits bound cost) (digits-digits figure_width bound (field_digits figure_width cost []) (digits-digits figure_width cost [] refl))

  -- a frame
  pub record_framed : length choices < 256 → Framed record_text (kind_width + record_bytes (length choices))
  record_framed h =
      record {
        digits = make_framed record_text (omega (arith, record_text_length)) (omega (arith, record_text_length)) record_text_digits;
        whole = sym record_text_bytes;
        short = omega (arith, record_text_length);
      }

  -- up to the end of its choices it is n and the choices, which a screen is shown
  pub record_front : take (2 * (record_bound_field (length choices)).at) record_text ≡ field_digits kind_width v (choices_digits choices [])
  unfolding record_digits
  record_front =
      rw (choices_append v choices [] (figures_digits bound cost))
      (take_at (choices_text v choices []) (figures_digits bound cost) (2 * (record_bound_field (length choices)).at) (omega (arith, choices_text_length v choices [])))

-- ---- the other way: a record that was read, written again

module _ {l : List ℕ} (w : Whole l) (ends : bytes l ≡ end_of (record_cost_field (record_trains l))) where
  abbrev choices_read : List ℕ
  choices_read = run_of l record_choice_field.at count_width (record_trains l)

  no_more : drop (2 * end_of (record_cost_field (record_trains l))) l ≡ []
  no_more = let e : 2 * end_of (record_cost_field (record_trains l)) ≡ length l = omega (arith, ends, w.even) in rw e (drop-length l)

  from_cost : field_digits figure_width (record_cost l) [] ≡ drop (2 * (record_cost_field (record_trains l)).at) l
  from_cost = ap (field_digits figure_width (record_cost l)) (sym no_more) ∙ field_there w (record_cost_field (record_trains l)).at figure_width (omega (arith, ends))

  from_bound : field_digits figure_width (record_bound l) (drop (2 * (record_cost_field (record_trains l)).at) l) ≡ drop (2 * (record_bound_field (record_trains l)).at) l
  from_bound = field_there w (record_bound_field (record_trains l)).at figure_width (omega (arith, ends))

  from_choices : run_digits count_width (length choices_read) (nth choices_read) (drop (2 * (record_bound_field (record_trains l)).at) l) ≡ drop (2 * record_choice_field.at) l
  from_choices =
      run_list count_width (record_trains l) (record_choice l) (drop (2 * (record_bound_field (record_trains l)).at) l)
      ∙ run_there w record_choice_field.at count_width (record_trains l) (omega (arith, ends))

  from_trains : field_digits count_width (length choices_read) (drop (2 * record_choice_field.at) l) ≡ drop (2 * record_trains_field.at) l
  from_trains = rw (list_length (record_choice l) (record_trains l)) (field_there w record_trains_field.at count_width (omega (arith, ends)))

  digits_again : record_digits choices_read (record_bound l) (record_cost l) ≡ drop (2 * kind_width) l
  unfolding record_digits
  digits_again = rw (from_cost, from_bound, from_choices) from_trains

-- of a frame that ends where its record does
pub record_again : (l : List ℕ) → framed l ≡ true → bytes l ≡ end_of (record_cost_field (record_trains l))
    → record_digits (run_of l record_choice_field.at count_width (record_trains l)) (record_bound l) (record_cost l) ≡ drop (2 * kind_width) l
record_again l e ends = digits_again (framed_whole l e) ends
