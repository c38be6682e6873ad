use Rattle.wa_exec.proofs.HandingOn.{hands_front}
use Rattle.wa_exec.proofs.environment.flush_host.Goals as goal

pub returns-in-Err-Failed-clause-hands : goal.returns-in-Err-Failed-clause-hands
returns-in-Err-Failed-clause-hands g c =
    hands_front (g.O.Sink.output c.args.out.now) (g.O.Sink.output c.flush.new.out) c.args.host.now c.in-Err-Failed.ensures.front

pub returns-in-Err-NoMemory-clause-hands : goal.returns-in-Err-NoMemory-clause-hands
returns-in-Err-NoMemory-clause-hands g c =
    hands_front (g.O.Sink.output c.args.out.now) (g.O.Sink.output c.flush.new.out) c.args.host.now c.in-Err-NoMemory.ensures.front
