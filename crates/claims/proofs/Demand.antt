-- Demand 3, proved: what is claimed of every list of calls from a fresh block (specs/Claims.antt). Each call is right by the state that the calls before it leave (After).
use mathlib.Core.Path.{refl}
use mathlib.Core.List.{List}
use mathlib.Core.Logic.{inl}
use Rattle.service.specs.Calls.{Call}
use Rattle.claims.specs.Claims.{Demand}
use Rattle.claims.proofs.Keeps.{after_list}
use Rattle.claims.proofs.After.{state_right, each_from, after_calls, after_load}

-- every list of calls
pub demand : (calls : List Call) → Demand calls
demand calls = record { right = state_right (after_calls calls); after = λ y. after_list (after_load calls y); each = each_from (inl refl) calls }
