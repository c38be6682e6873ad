use Rattle.wa_decode.specs.Places.{EndsIn}
use Rattle.wa_decode.proofs.CodeParts.{RunsRow}
use Rattle.wa_decode.proofs.code.runs.Given as goal

abbrev pub invariant-loop-read : goal.invariant-loop-read
invariant-loop-read l = record {
  ends : EndsIn l.bytes l.fn.at l.at;
  row : RunsRow l.bytes l.initial.at l.count l.locals l._read l.at;
}
