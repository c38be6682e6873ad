use Rattle.std.proofs.Common.{◌++◌, ◌∷◌, [], ◌%◌}
use Rattle.wa_exec.proofs.HandingOn.{hands_none}
use Rattle.wa_exec.proofs.environment.put.Goals as goal

pub returns-then-is_err-clause-hands : goal.returns-then-is_err-clause-hands
returns-then-is_err-clause-hands g c =
    (c.args.host.now ++ c.args.word % 256 ∷ [], hands_none (g.O.Sink.output c.args.out.now) (c.args.host.now ++ c.args.word % 256 ∷ []))
