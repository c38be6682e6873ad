use Rattle.std.proofs.Common.{refl}
use Rattle.sa_driver.proofs.report.report.Goals as goal

pub returns-in-Yes-clause-ends : goal.returns-in-Yes-clause-ends
returns-in-Yes-clause-ends g c =
    rw c.in-Yes.is (record { occurs = c.tell_lines.ensures.occurs; reported = c.tell_lines.ensures.reported; reported_part = c.tell_lines.ensures.reported_part })

pub returns-in-Failed-clause-ends : goal.returns-in-Failed-clause-ends
returns-in-Failed-clause-ends g c = rw c.in-Failed.is (refl, (refl, refl))

pub returns-in-NoMemory-clause-ends : goal.returns-in-NoMemory-clause-ends
returns-in-NoMemory-clause-ends g c = rw c.in-NoMemory.is (refl, (refl, refl))
