use Rattle.std.proofs.Common.{take}
use Rattle.std.specs.Prelude.{All}
use Rattle.wa_syntax.specs.Validity.{IsTypedFunction}
use Rattle.wa_valid.specs.Names.{names}
use Rattle.wa_valid.proofs.valid.bodies.Given as goal

abbrev pub invariant-loop-at : goal.invariant-loop-at
invariant-loop-at l = All (IsTypedFunction (names l.context)) (take l.at l.funcs)
