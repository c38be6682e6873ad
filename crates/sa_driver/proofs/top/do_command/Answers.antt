use Rattle.std.proofs.Common.{map, refl}
use Rattle.sa_driver.proofs.EndLemmas.{tells_one}
use Rattle.sa_driver.proofs.top.do_command.Goals as goal

pub returns-in-Silent-clause-does : goal.returns-in-Silent-clause-does
returns-in-Silent-clause-does g c = rw (c.in-Run.is, c.in-Silent.is) (c.run.ensures.does, ((refl, refl), c.run.ensures.listening))

pub returns-in-Build-clause-does : goal.returns-in-Build-clause-does
returns-in-Build-clause-does g c = rw c.in-Build.is (c.build.ensures.does, ((refl, refl), c.build.ensures.listening))

pub returns-in-Check-clause-does : goal.returns-in-Check-clause-does
returns-in-Check-clause-does g c = rw c.in-Check.is (c.check.ensures.does, ((refl, refl), c.check.ensures.listening))

pub returns-in-Exec-clause-does : goal.returns-in-Exec-clause-does
returns-in-Exec-clause-does g c = rw c.in-Exec.is (c.exec.ensures.does, ((refl, refl), c.exec.ensures.listening))

pub returns-in-Gen-clause-does : goal.returns-in-Gen-clause-does
returns-in-Gen-clause-does g c = rw c.in-Gen.is (c.print_generated.ensures.does, ((refl, refl), c.print_generated.ensures.listening))

pub returns-in-Selftest-clause-does : goal.returns-in-Selftest-clause-does
returns-in-Selftest-clause-does g c = rw c.in-Selftest.is (c.selftest.ensures.does, ((refl, refl), c.selftest.ensures.listening))

pub returns-in-Listing-clause-does : goal.returns-in-Listing-clause-does
returns-in-Listing-clause-does g c = rw c.in-Listing.is (c.listing.ensures.does, ((refl, refl), c.listing.ensures.listening))

pub returns-in-Dump-clause-does : goal.returns-in-Dump-clause-does
returns-in-Dump-clause-does g c = rw c.in-Dump.is (c.dump.ensures.does, ((refl, refl), c.dump.ensures.listening))

pub returns-in-Help-clause-does : goal.returns-in-Help-clause-does
returns-in-Help-clause-does g c = rw c.in-Help.is (c.help.ensures.does, ((refl, refl), c.help.ensures.listening))

pub returns-in-Version-clause-does : goal.returns-in-Version-clause-does
returns-in-Version-clause-does g c = rw c.in-Version.is (c.version.ensures.does, ((refl, refl), c.version.ensures.listening))

pub returns-in-Explain-clause-does : goal.returns-in-Explain-clause-does
returns-in-Explain-clause-does g c = rw c.in-Explain.is (c.explain.ensures.does, ((refl, refl), c.explain.ensures.listening))

pub returns-in-Check-clause-further : goal.returns-in-Check-clause-further
returns-in-Check-clause-further g c = rw c.in-Check.is (tells_one c.in-Check.line.contracts c.in-Check.line.extent c.in-Check.line.detail (map (λ file. file.now) c.in-Check.line.files.items) _ c.check.ensures.further)
