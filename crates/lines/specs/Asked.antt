-- Document 01, 'Lines': a read line is 'either a refusal or one of six requests', by the first reason to decline it.
use Rattle.std.specs.Prelude.{Result, Ok, Err}
use Rattle.refusals.specs.declared.Refusal.{Refusal}
use Rattle.refusals.specs.Verdicts.{Verdict}
use Rattle.lines.specs.declared.request.Request.{Request}
use Rattle.lines.specs.declared.request.Line.{Line}
use Rattle.lines.specs.declared.request.Line.TheVariants.{Asked, Refused}

-- what the fields of a line ask: the request, if the verdict is fine
abbrev pub request_if : Verdict → Request → Result Request Refusal
request_if (Ok _) q = Ok q
request_if (Err r) q = Err r

abbrev pub line_from : Result Request Refusal → Line
line_from (Ok q) = Asked q
line_from (Err r) = Refused r
