use Rattle.std.proofs.Common.{◌∙◌, Err, ap, inl, inr, map, refl, sym}
use Rattle.std.specs.Prelude.{string_bytes}
use Rattle.sa_driver.proofs.OutputLemmas.{detail_of_command, detail_of_none, no_steps}
use Rattle.sa_driver.proofs.RunLemmas.{idle}
use Rattle.sa_driver.proofs.top.obey.Goals as goal

pub returns-clause-obeys : goal.returns-clause-obeys
returns-clause-obeys g c = rw c.in-Ok.ensures.taken (inr c.do_command-outcome.ensures.does)

pub returns-in-Err-Usage-clause-obeys : goal.returns-in-Err-Usage-clause-obeys
returns-in-Err-Usage-clause-obeys g c = rw (c.in-Err-Usage.ensures.usage (ap Err c.in-Err-Usage.field-0-is)) (inl (record { cause = c.without_command.ensures.cause; bytes = c.without_command.ensures.bytes; store = refl; input = refl; out = refl; err = ((refl, refl), c.without_command.ensures.listening) }))

pub returns-in-Err-NoMemory-clause-obeys : goal.returns-in-Err-NoMemory-clause-obeys
returns-in-Err-NoMemory-clause-obeys g c = idle _ _ _ (record { cause = c.without_command-in-Err-NoMemory.ensures.cause; bytes = c.without_command-in-Err-NoMemory.ensures.bytes; store = refl; input = refl; out = refl; err = ((refl, refl), c.without_command-in-Err-NoMemory.ensures.listening) })

pub returns-clause-detail : goal.returns-clause-detail
returns-clause-detail g c = inl (c.of_command-asked.ensures ∙ sym (detail_of_command (map string_bytes c.args.words.now) _ c.in-Ok.ensures.taken))

pub returns-in-Err-Usage-clause-detail : goal.returns-in-Err-Usage-clause-detail
returns-in-Err-Usage-clause-detail g c =
    let none = c.in-Err-Usage.ensures.usage (ap Err c.in-Err-Usage.field-0-is) in
    inl (c.without_command.ensures.detail ∙ c.of_arguments-asked.ensures ∙ sym (detail_of_none (map string_bytes c.args.words.now) none))

pub returns-in-Err-NoMemory-clause-detail : goal.returns-in-Err-NoMemory-clause-detail
returns-in-Err-NoMemory-clause-detail g c = inr (c.without_command-in-Err-NoMemory.ensures.detail ∙ c.brief.ensures)

pub returns-in-Err-NoMemory-clause-steps : goal.returns-in-Err-NoMemory-clause-steps
returns-in-Err-NoMemory-clause-steps g c = no_steps _ c.without_command-in-Err-NoMemory.result.outcome c.without_command-in-Err-NoMemory.ensures.steps c.without_command-in-Err-NoMemory.ensures.cause
