-- Demand 3 of what a program reads and prints: the lines of an input are a list of calls from a fresh block, and `printed` is made of its replies.
use mathlib.Core.List.{List}
use Prim.Native.Nat.{ℕ}
use Rattle.stream.specs.Session.{line_calls, input_lines}
use Rattle.claims.specs.Claims.{Demand}
use Rattle.claims.proofs.Demand.{demand}

-- demand 3, of the lines of every input
pub input_demand : (input : List ℕ) → Demand (line_calls (input_lines input))
input_demand input = demand (line_calls (input_lines input))
