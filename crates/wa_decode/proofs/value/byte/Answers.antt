use Rattle.std.proofs.Common.{rules}
use Rattle.wa_decode.proofs.Reading.{byte-at}
use Rattle.wa_decode.proofs.value.byte.Goals as goal

pub returns-in-Some-clause-reads : goal.returns-in-Some-clause-reads
returns-in-Some-clause-reads c = byte-at _ _ _ (search rules) (search rules)
