use Rattle.std.proofs.Common.{take, w64, arith, rules}
use Rattle.std.proofs.lemmas.Int.{ints, to_z-of_z}
use Rattle.wa_syntax.specs.Leb128.{IsSigned, IsShortest}
use Rattle.wa_syntax.proofs.leb128.write_i64.Goals as goal

pub returns-clause-ok : goal.returns-clause-ok
returns-clause-ok c =
    let bytes = take c.signed_bytes-len.result.1 c.signed_bytes-len.result.0 in
    let shortest : IsShortest (IsSigned 64) bytes c.args.v = rw (to_z-of_z w64 c.args.v c.ranges.v) at (c.signed_bytes-len.ensures.shortest 64 (omega (arith, ints)) (omega (arith, ints))) in
    (bytes, shortest, search rules)
