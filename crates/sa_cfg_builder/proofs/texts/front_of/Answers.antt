use Rattle.std.proofs.Common.{sym}
use Rattle.std.proofs.lemmas.List.{take_all}
use Rattle.sa_cfg_builder.proofs.texts.front_of.Goals as goal

-- src/texts.rt:45:9
pub returns-then-bytes-le-END : goal.returns-then-bytes-le-END
returns-then-bytes-le-END c = sym (take_all 1024 c.args.bytes.now c.if-bytes-le-END.true)
