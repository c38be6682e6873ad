use Rattle.std.proofs.Common.{inl, inr}
use Rattle.sa_driver.proofs.build.both_written.Goals as goal

pub returns-in-Done-clause-written : goal.returns-in-Done-clause-written
returns-in-Done-clause-written g c =
    inr (g.S.ReadFiles.files c.written.new.store, g.S.ReadFiles.faults c.written.new.store, c.written.ensures.written.whole c.in-Done.is, c.written-in-Done.ensures.written)

pub returns-in_default-clause-written : goal.returns-in_default-clause-written
returns-in_default-clause-written g c = inl (c.written.ensures.written, c.in_default.not-Done)
