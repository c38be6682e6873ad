use Rattle.std.proofs.Common.{take, w32, w64, FitsSigned, arith, rules}
use Rattle.std.proofs.lemmas.Int.{ints, to_z-of_z}
use Rattle.wa_syntax.specs.Leb128.{IsSigned, IsShortest}
use Rattle.wa_syntax.proofs.leb128.write_i32.Goals as goal

pub returns-clause-ok : goal.returns-clause-ok
returns-clause-ok c =
    let bytes = take c.signed_bytes-len.result.1 c.signed_bytes-len.result.0 in
    let wide : FitsSigned w64 c.from.result = search rules in
    let shortest : IsShortest (IsSigned 32) bytes c.args.v = rw (to_z-of_z w64 c.from.result wide, c.from.ensures, to_z-of_z w32 c.args.v c.ranges.v) at (c.signed_bytes-len.ensures.shortest 32 (omega (arith, ints, c.from.ensures)) (omega (arith, ints, c.from.ensures))) in
    (bytes, shortest, search rules)
