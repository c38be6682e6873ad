use Rattle.std.proofs.Common.{◌≡◌, length}
use Rattle.wa_decode.specs.Places.{EndsIn}
use Rattle.wa_decode.proofs.CodeParts.{CodeRow}
use Rattle.wa_decode.proofs.code.codes.Given as goal

abbrev pub invariant-loop-ty : goal.invariant-loop-ty
invariant-loop-ty l = record {
  ends : EndsIn l.bytes l.fn.at l.at;
  count : length l.funcs ≡ l.ty-index;
  row : CodeRow l.bytes l.initial.at l.types l.funcs l.at;
}
