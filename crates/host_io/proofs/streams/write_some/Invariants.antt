use Rattle.std.specs.Io.KnownBytes.{Keeps}
use Rattle.host_io.proofs.streams.write_some.Given as goal

-- the writes so far were interrupted
abbrev pub invariant-loop : goal.invariant-loop
invariant-loop g l = Keeps (g.W.Write.contents l.fn.writer) (g.W.Write.contents l.writer)
