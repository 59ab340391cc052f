-- Document 01, 'Lists and the ledger': what the ledger knows of a list of lines, each with its reply.
use Rattle.refusals.specs.declared.Refusal.{Refusal}
use Rattle.std.specs.Prelude.{Bool, true, false, cond, ◌&&◌, List, [], ◌∷◌, map, ℕ, ◌+◌, eqb, ℤ, Result, Ok, Err}
use Rattle.tables.specs.WellFormed.{fresh_block}
use Rattle.tables.specs.Numbers.{Numbers, numbers, numbers_shape, numbers_costs}
use Rattle.tables.specs.Plans.{Shape, Costs, total}
use Rattle.lines.specs.declared.kind.Kind.{Kind}
use Rattle.lines.specs.declared.kind.Kind.TheVariants.{Load, Add, Shift, Tighten, Certify, Search, Save, Round, Clauses, Explain, Order, Screen, Planner, Record, Dearest}
use Rattle.lines.specs.Kinds.{new_kind}
use Rattle.lines.specs.Layout.{kind_of, add_train, add_choice, add_points}
use Rattle.decoding.specs.Numbers.{numbers_of}
use Rattle.decoding.specs.Clauses.{clause_numbers_of}
use Rattle.replies.specs.Shown.{accepted}
use Rattle.radio.specs.Forms.{is_radio, plain_line, plain_reply}
use Rattle.service.specs.Calls.{Call, Exchange, exchange, exchanges}

-- what the ledger knows: n, sizes and pairs, and which choices and pairs of choices are forbidden; s; costs in points, with no constant, and 0 for what is forbidden
pub record Ledger : Type 0 where
  pub scale : ℕ
  pub shape : Shape
  pub costs : Costs

-- the ledger of a study's numbers
abbrev pub numbers_ledger : Numbers → Ledger
numbers_ledger n = record { scale = n.scale; shape = numbers_shape n; costs = numbers_costs n }

-- 'It starts empty'
abbrev pub empty_ledger : Ledger
empty_ledger = numbers_ledger (numbers 0 [] [] [] [] [])

-- the points of an add line, at the choice that it names. Document 02, change 5: 'Forbidden entries stay so under every line that doesn't load, additions included, in the ledger too'
abbrev pub added_ledger : List ℕ → Ledger → Ledger
added_ledger l g =
    record {
      scale = g.scale;
      shape = g.shape;
      costs =
          record {
            constant = g.costs.constant;
            choice = λ i a. g.costs.choice i a + cond (g.shape.choice_open i a && (eqb i (add_train l) && eqb a (add_choice l))) (add_points l) 0;
            pair = g.costs.pair;
          };
    }

-- ---- what goes by the kind of a line

-- this of a kind, the other where there is none
abbrev pub if_known : {A : Type 0} → (Kind → A) → A → Result Kind Refusal → A
if_known f other (Ok k) = f k
if_known f other (Err _) = other

-- 'The first byte is the kind': this of the line's kind, the other where it has none
abbrev pub by_kind : {A : Type 0} → (Kind → A) → A → List ℕ → A
by_kind f other l = if_known f other (new_kind (kind_of l))

-- what the ledger becomes by an accepted line of each kind. 'Accepted load: n, s, sizes, pairs and costs in points become those of the line'; 'Accepted add: the cost of the named choice grows by
-- the line's points', where that choice isn't forbidden; 'Every other accepted line ..: nothing changes'; document 02, of a round: 'an accepted one changes nothing in the ledger', of clauses: 'an accepted one
-- sets the ledger likewise'
abbrev pub changed : Kind → List ℕ → Ledger → Ledger
changed Load l g = numbers_ledger (numbers_of l)
changed Add l g = added_ledger l g
changed Shift l g = g
changed Tighten l g = g
changed Certify l g = g
changed Search l g = g
changed Save l g = g
changed Round l g = g
changed Clauses l g = numbers_ledger (clause_numbers_of l)
changed Explain l g = g
changed Order l g = g
changed Screen l g = g
changed Planner l g = g
changed Record l g = g
changed Dearest l g = g

-- 'a list with an accepted load': the kinds that load; a line of clauses 'counts as an accepted load'
abbrev pub loads : Kind → Bool
loads Load = true
loads Add = false
loads Shift = false
loads Tighten = false
loads Certify = false
loads Search = false
loads Save = false
loads Round = false
loads Clauses = true
loads Explain = false
loads Order = false
loads Screen = false
loads Planner = false
loads Record = false
loads Dearest = false

-- ---- lists of lines with their replies

-- document 02, change 14: a second form and its reply 'with the two additions removed' (`fed_by_radio` in proofs/Uses.antt); a plain line and its reply as they are
abbrev pub plain_exchange : Exchange → Exchange
plain_exchange e = cond (is_radio e.line) (exchange (plain_line e.line) (plain_reply e.reply)) e

-- 'Lists of lines hold every kind in either form': what the ledger is fed, and what is claimed, is of plain lines
abbrev pub plain_exchanges : List ℤ → List Call → List Exchange
plain_exchanges b calls = map plain_exchange (exchanges b calls)

-- 'The ledger is fed the lines in order, each with its reply, and nothing of the block': of a refused line 'nothing changes'
unfoldable pub fed : Exchange → Ledger → Ledger
fed e g = cond (accepted e.reply) (by_kind (λ k. changed k e.line g) g e.line) g

unfoldable pub ledger_of : Ledger → List Exchange → Ledger
ledger_of g [] = g
ledger_of g (e ∷ es) = ledger_of (fed e g) es

-- the ledger of a list of calls from a fresh block
abbrev pub ledger_after : List Call → Ledger
ledger_after calls = ledger_of empty_ledger (plain_exchanges fresh_block calls)

-- 'A plan's cost is the sum of the ledger's costs for its choices and its pairs, in points'
abbrev pub cost_of : Ledger → (ℕ → ℕ) → ℕ
cost_of g x = total g.shape g.costs x

-- the list has an accepted load
unfoldable pub has_load : List Exchange → Bool
has_load [] = false
has_load (e ∷ es) = cond (accepted e.reply && by_kind loads false e.line) true (has_load es)
