use Rattle.sa_driver.proofs.texts.help.Goals as goal

pub returns-clause-does : goal.returns-clause-does
returns-clause-does g c = rw (← c.help_text.ensures) c.show.ensures.does
