-- Document 02, change 13, 'Kind 0F: n and sizes': the first reason to decline it by its fields, '6 applies', and the request that it makes. 24 is judged after them, where the request is carried out.
use Rattle.std.specs.Prelude.{List, ℕ}
use Rattle.refusals.specs.Verdicts.{Verdict, then}
use Rattle.frames.specs.Digits.{bytes}
use Rattle.lines.specs.declared.request.Request.{Request}
use Rattle.lines.specs.declared.request.Request.TheVariants.{Dearest}
use Rattle.lines.specs.Layout.{further, trains_field, load_trains, dearest_size_field}
use Rattle.lines.specs.Verdicts.{field_verdict, run_verdict, end_verdict, field_run}

unfoldable pub dearest_verdict : List ℕ → Verdict
dearest_verdict l =
    then (field_verdict l trains_field) (then (run_verdict l dearest_size_field (load_trains l)) (end_verdict (bytes l) (further dearest_size_field (load_trains l)).at))

abbrev pub dearest_request : List ℕ → Request
dearest_request l = Dearest (record { sizes = field_run dearest_size_field.at (load_trains l) })
