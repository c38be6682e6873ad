use Rattle.std.proofs.Common.{arith}
use Rattle.wa_syntax.proofs.Shortest.{IsWritten-more, IsWritten-last}
use Rattle.wa_syntax.proofs.leb128.unsigned_bytes.Goals as goal

pub loop-rest-preserved : goal.loop-rest-preserved
loop-rest-preserved c = IsWritten-more _ _ _ _ c.loop-rest-test.true c.loop-rest.invariant

pub returns-clause-shortest : goal.returns-clause-shortest
returns-clause-shortest c = IsWritten-last _ _ _ _ c.loop-rest-test.false (omega arith) c.loop-rest.invariant
