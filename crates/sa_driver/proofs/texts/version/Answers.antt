use Rattle.sa_driver.proofs.texts.version.Goals as goal

pub returns-clause-does : goal.returns-clause-does
returns-clause-does g c = rw (← c.version_text.ensures) c.show.ensures.does
