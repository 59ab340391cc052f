-- Where a search starts: no train is decided, and no plan is known.
use Rattle.std.specs.Prelude.{◌≡◌}
use Rattle.search.specs.declared.walk.Best.{Best}
use Rattle.search.specs.declared.walk.Search.{Search}
use Rattle.search.specs.Walk.{no_choices}
use Rattle.search.specs.Held.{unknown}

-- no plan is known
abbrev pub no_best : Best
no_best = record { to_beat = unknown; left_then = 0; plan = no_choices }

-- nothing is tried
pub record Started (s : Search) : Type 0 where
  pub chosen : s.chosen ≡ no_choices
  pub best : s.best ≡ no_best
