use Rattle.std.proofs.Common.{◌≡◌, length}
use Rattle.wa_decode.specs.Places.{EndsIn}
use Rattle.wa_decode.proofs.Vectors.{Row}
use Rattle.wa_decode.proofs.production.vector.Given as goal

abbrev pub invariant-loop-read : goal.invariant-loop-read
invariant-loop-read g l = record {
  ends : EndsIn l.bytes l.fn.at l.at;
  count : l._read ≡ length l.values;
  row : Row g.P.Production.format l.bytes l.initial.at l.count l.values l.at;
}
