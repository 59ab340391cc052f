-- Under which numbers the reader declines a line: never under 10, 12, 14, 23 or 24, which are judged once a line is read, nor under 16 or 25, which are judged before.
-- Each verdict is made of fields, runs of fields and ends, in turn; each of these declines under 5 or under the number that its rule names.
use mathlib.Core.Path.{◌≡◌, refl, subst}
use mathlib.Core.Bool.{Bool, true, false, cond, ◌&&◌, ◌||◌, not}
use mathlib.Core.List.{List, [], ◌∷◌}
use Prim.Native.Nat.{ℕ, zero, suc}
use lib.Dec.{leb, ltb, eqb}
use lib.IntN.{ℤ}
use lib.ListN.{length}
use Rattle.std.specs.Prelude.{Result, Ok, Err}
use Rattle.refusals.specs.declared.Refusal.{Refusal}
use Rattle.refusals.specs.declared.Refusal.TheVariants.{Characters, TooLong, Fields, Pair, Literal, Order as order_refused, NotHeld}
use Rattle.theory.specs.Order.{each_once}
use Rattle.refusals.specs.Verdicts.{Verdict, Fine, Declined, then, first_of, unless}
use Rattle.refusals.specs.Refusals.{refusal_number}
use Rattle.tables.specs.Block.{trains, size}
use Rattle.tables.specs.WellFormed.{is_fresh}
use Rattle.tables.specs.Plans.{shape_of, choices_held}
use Rattle.tables.specs.Counts.{move_count, weight_count}
use Rattle.clauses.specs.Clauses.{literals_right}
use Rattle.frames.specs.Frames.{max_characters, framed, new_frame}
use Rattle.frames.specs.Digits.{bytes}
use Rattle.lines.specs.declared.kind.Kind.{Kind}
use Rattle.lines.specs.declared.kind.Kind.TheVariants.{Load, Add, Shift, Tighten, Certify, Search, Save, Round, Clauses, Explain, Order, Screen, Planner, Record, Dearest}
use Rattle.lines.specs.declared.field.Field.{Field}
use Rattle.lines.specs.declared.request.Request.{Request}
use Rattle.lines.specs.declared.request.Line.{Line}
use Rattle.lines.specs.declared.request.Line.TheVariants.{Asked, Refused}
use Rattle.lines.specs.Kinds.{kind_number, kind_if, all_kinds, kind_among, new_kind, needs_study}
use Rattle.lines.specs.Layout.{kind_width, kind_of, number_in, further, trains_field, scale_field, size_field, pair_count_field, add_train, points_field, lift_field, move_field, full_weight_field, weight_field, budget_field, load_trains, load_pairs, choice_count, entry_count, pair_at, end_of, below, choice_field, entry_field, add_train_field, add_choice_field, clause_count_field, clause_count, clause_at, clause_weight_field, clause_first, clause_second, limit_field, order_field, order_train, record_trains_field, record_trains, record_choice, record_cost_field, plan_choice_field, plan_choice, dearest_size_field}
use Rattle.lines.specs.Verdicts.{obeys, field_verdict, run_verdict, end_verdict, runs_verdict, last_verdict}
use Rattle.kinds.specs.Load.{pair_ordered, pair_verdict, head_verdict, rest_verdict, load_verdict}
use Rattle.kinds.specs.Clauses.{clause_verdict, clause_run_verdict, clauses_verdict}
use Rattle.kinds.specs.Records.{record_verdict, plan_verdict}
use Rattle.kinds.specs.Dearest.{dearest_verdict}
use Rattle.kinds.specs.Lines.{choice_verdict, add_verdict, shift_verdict, certify_verdict, search_verdict, explain_verdict, order_verdict, concluded, kind_verdict, study_line}
use Rattle.reader.specs.Reading.{new_kind_line, kind_line, framed_line, line_of}

-- 'Order: 17, 16, .. Then fields .. Then 10, 12 or 14', and document 02, change 11, 23, change 13, 24, and change 14, 25: the numbers that reading a line gives are the others
abbrev pub of_reading : ℕ → Bool
of_reading n = not (eqb n 10 || eqb n 12 || eqb n 14 || eqb n 16 || eqb n 23 || eqb n 24 || eqb n 25)

abbrev Own : Refusal → Type 0
Own r = of_reading (refusal_number r) ≡ true

-- a verdict that declines, if it does, under one of these
abbrev OwnVerdict : Verdict → Type 0
OwnVerdict (Ok _) = Unit {0}
OwnVerdict (Err r) = Own r

record Reads (v : Verdict) : Type 0 where
  own : OwnVerdict v

-- ---- what verdicts are made of

reads_then : {v w : Verdict} → Reads v → Reads w → Reads (then v w)
reads_then {v} {w} p q = go v p
  where
    go : (u : Verdict) → Reads u → Reads (then u w)
    go (Ok _) _ = q
    go (Err r) o = o

reads_unless : (t : Bool) (r : Refusal) → Own r → Reads (unless t r)
reads_unless true r o = record { own = tt }
reads_unless false r o = record { own = o }

reads_first : (n : ℕ) (f : ℕ → Verdict) → ((k : ℕ) → Reads (f k)) → Reads (first_of n f)
unfolding first_of
reads_first zero f h = record { own = tt }
reads_first (suc n) f h = reads_then (reads_first n f h) (h n)

module _ (l : List ℕ) where
  reads_field : (f : Field) → Own f.refusal → Reads (field_verdict l f)
  unfolding field_verdict
  reads_field f o = reads_then (reads_unless (leb (end_of f) (bytes l)) Fields refl) (reads_unless (obeys f.rule f.width (number_in l f)) f.refusal o)

  reads_run : (f : Field) (count : ℕ) → Own f.refusal → Reads (run_verdict l f count)
  reads_run f count o = reads_first count (λ k. field_verdict l (further f k)) (λ k. reads_field (further f k) o)

  reads_end : (at : ℕ) → Reads (end_verdict (bytes l) at)
  reads_end at = reads_unless (eqb at (bytes l)) Fields refl

  reads_last : (f : Field) → Own f.refusal → Reads (last_verdict l f)
  unfolding last_verdict
  reads_last f o = reads_then (reads_field f o) (reads_end (end_of f))

  reads_runs : (f : Field) (n : ℕ) (g : Field) (m : ℕ) → Own f.refusal → Own g.refusal → Reads (runs_verdict l f n g m)
  unfolding runs_verdict
  reads_runs f n g m o p = reads_then (reads_run f n o) (reads_then (reads_run g m p) (reads_end (further g m).at))

  -- ---- the kinds

  reads_pair : (k : ℕ) → Reads (pair_verdict l k)
  unfolding pair_verdict
  reads_pair k =
      reads_then (reads_unless (leb (entry_field (pair_at l k)).at (bytes l)) Fields refl)
      (reads_then (reads_unless (pair_ordered l k) Pair refl) (reads_run (entry_field (pair_at l k)) (entry_count l (pair_at l k)) refl))

  reads_load : Reads (load_verdict l)
  unfolding load_verdict head_verdict rest_verdict
  reads_load =
      reads_then (reads_then (reads_field trains_field refl) (reads_field scale_field refl))
      (reads_then (reads_run size_field (load_trains l) refl)
      (reads_then (reads_run (choice_field l) (choice_count l) refl)
      (reads_then (reads_field (pair_count_field l) refl)
      (reads_then (reads_first (load_pairs l) (pair_verdict l) reads_pair) (reads_end (pair_at l (load_pairs l)))))))

  reads_choice : (b : List ℤ) (f : Field) → Own f.refusal → Reads (choice_verdict l b f)
  reads_choice b f o =
      reads_then (reads_field (below add_train_field (trains b)) refl)
      (reads_then (reads_field (below add_choice_field (size b (add_train l))) refl) (reads_last f o))

  reads_add : (b : List ℤ) → Reads (add_verdict l b)
  unfolding add_verdict
  reads_add b = reads_choice b points_field refl

  reads_shift : (n moves : ℕ) → Reads (shift_verdict l n moves)
  unfolding shift_verdict
  reads_shift n moves = reads_runs lift_field n (move_field n) moves refl refl

  reads_certify : (weights : ℕ) → Reads (certify_verdict l weights)
  unfolding certify_verdict
  reads_certify weights = reads_runs full_weight_field 1 weight_field weights refl refl

  reads_search : Reads (search_verdict l)
  unfolding search_verdict
  reads_search = reads_last budget_field refl

  reads_clause : (k : ℕ) → Reads (clause_verdict l k)
  unfolding clause_verdict
  reads_clause k =
      reads_then (reads_unless (leb (clause_weight_field k).at (bytes l)) Fields refl)
      (reads_then (reads_unless (literals_right (load_trains l) (clause_first l k) (clause_second l k)) Literal refl) (reads_field (clause_weight_field k) refl))

  reads_clauses : Reads (clauses_verdict l)
  unfolding clauses_verdict head_verdict clause_run_verdict
  reads_clauses =
      reads_then (reads_then (reads_field trains_field refl) (reads_field scale_field refl))
      (reads_then (reads_field clause_count_field refl)
      (reads_then (reads_first (clause_count l) (clause_verdict l) reads_clause) (reads_end (clause_at (clause_count l)))))

  reads_explain : (b : List ℤ) → Reads (explain_verdict l b)
  unfolding explain_verdict
  reads_explain b = reads_choice b limit_field refl

  reads_order : (n : ℕ) → Reads (order_verdict l n)
  unfolding order_verdict
  reads_order n = reads_then (reads_end (further order_field n).at) (reads_unless (each_once n (order_train l)) order_refused refl)

  reads_record : (b : List ℤ) → Reads (record_verdict l b)
  unfolding record_verdict
  reads_record b =
      reads_then (reads_field record_trains_field refl)
      (reads_then (reads_end (end_of (record_cost_field (record_trains l)))) (reads_unless (choices_held (shape_of b) (record_trains l) (record_choice l)) NotHeld refl))

  reads_plan : (b : List ℤ) → Reads (plan_verdict l b)
  unfolding plan_verdict
  reads_plan b = reads_then (reads_end (further plan_choice_field (trains b)).at) (reads_unless (choices_held (shape_of b) (trains b) (plan_choice l)) NotHeld refl)

  -- 5 and 6
  reads_dearest : Reads (dearest_verdict l)
  unfolding dearest_verdict
  reads_dearest =
      reads_then (reads_field trains_field refl)
      (reads_then (reads_run dearest_size_field (load_trains l) refl) (reads_end (further dearest_size_field (load_trains l)).at))

-- ---- the line

-- a kind, or 3
abbrev OwnKind : Result Kind Refusal → Type 0
OwnKind (Ok k) = Unit {0}
OwnKind (Err r) = Own r

own_kind_if : (k : Kind) (n : ℕ) (other : Result Kind Refusal) → OwnKind other → OwnKind (kind_if k n other)
own_kind_if k n other o = go (eqb n (kind_number k))
  where
    go : (t : Bool) → OwnKind (cond t (Ok k) other)
    go true = tt
    go false = o

own_among : (kinds : List Kind) (n : ℕ) → OwnKind (kind_among kinds n)
own_among [] n = refl
own_among (k ∷ kinds) n = own_kind_if k n (kind_among kinds n) (own_among kinds n)

own_new_kind : (n : ℕ) → OwnKind (new_kind n)
unfolding new_kind
own_new_kind n = own_among all_kinds n

-- a line that is declined, if it is, under one of these numbers
abbrev OwnLine : Line → Type 0
OwnLine (Asked q) = Unit {0}
OwnLine (Refused r) = Own r

own_concluded : (v : Verdict) (q : Request) → Reads v → OwnLine (concluded v q)
own_concluded (Ok _) q p = tt
own_concluded (Err r) q p = p.own

own_cond : (t : Bool) (x y : Line) → OwnLine x → OwnLine y → OwnLine (cond t x y)
own_cond true x y p q = p
own_cond false x y p q = q

module _ (l : List ℕ) (b : List ℤ) where
  reads_kind : (k : Kind) → Reads (kind_verdict k l b)
  reads_kind Load = reads_load l
  reads_kind Add = reads_add l b
  reads_kind Shift = reads_shift l (trains b) (move_count (shape_of b))
  reads_kind Tighten = reads_end l kind_width
  reads_kind Certify = reads_certify l (weight_count (shape_of b))
  reads_kind Search = reads_search l
  reads_kind Save = reads_end l kind_width
  reads_kind Round = reads_end l kind_width
  reads_kind Clauses = reads_clauses l
  reads_kind Explain = reads_explain l b
  reads_kind Order = reads_order l (trains b)
  reads_kind Screen = reads_record l b
  reads_kind Planner = reads_record l b
  reads_kind Record = reads_plan l b
  reads_kind Dearest = reads_dearest l

  own_study : (k : Kind) → OwnLine (study_line k l b)
  unfolding study_line
  own_study k = own_cond (needs_study k && is_fresh b) _ _ refl (own_concluded (kind_verdict k l b) _ (reads_kind k))

  -- 2 and 1
  own_frame : OwnVerdict (new_frame l)
  own_frame = go (ltb max_characters (length l)) (framed l)
    where
      go : (t u : Bool) → OwnVerdict (cond t (Declined TooLong) (cond u Fine (Declined Characters)))
      go true u = refl
      go false true = tt
      go false false = refl

  own_kind : OwnLine (kind_line l b)
  unfolding kind_line
  own_kind = go (new_kind (kind_of l)) (own_new_kind (kind_of l))
    where
      go : (n : Result Kind Refusal) → OwnKind n → OwnLine (new_kind_line n l b)
      go (Ok k) o = own_study k
      go (Err r) o = o

  own_line : OwnLine (line_of l b)
  unfolding line_of
  own_line = go (new_frame l) own_frame
    where
      go : (v : Verdict) → OwnVerdict v → OwnLine (framed_line v l b)
      go (Ok _) o = own_kind
      go (Err r) o = o

  -- the reader declines a line under none of 10, 12, 14, 16, 23, 24 and 25
  pub line_refused : (r : Refusal) → line_of l b ≡ Refused r → of_reading (refusal_number r) ≡ true
  line_refused r e = subst (λ (x : Line). OwnLine x) e own_line
