use Rattle.sa_driver.proofs.texts.library.Goals as goal

pub returns-in-Some-clause-does : goal.returns-in-Some-clause-does
returns-in-Some-clause-does g c = rw c.in-Some.is c.print_file.ensures.does

pub returns-in-None-clause-does : goal.returns-in-None-clause-does
returns-in-None-clause-does g c = rw (c.in-None.is, ← c.library_list.ensures) c.show.ensures.does
