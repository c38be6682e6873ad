use Rattle.std.proofs.Common.{rules}
use Rattle.sa_read.specs.Front.{IsTakenText}
use Rattle.sa_read.specs.SourceFiles.{at}
use Rattle.sa_read.proofs.FrontLemmas.{breach, up_to_next}
use Rattle.sa_read.proofs.tokens.scan_all.Goals as goal

pub returns-in_err-scan_text-clause-refused : goal.returns-in_err-scan_text-clause-refused
returns-in_err-scan_text-clause-refused c =
    search (rules, breach c.args.texts.now c.args.lists.now c.loop-number.number c.in_err-scan_text.field-0.0 c.requires.tokens c.loop-number-test.true c.loop-number.invariant c.in_err-scan_text.ensures.refused)

pub loop-number-preserved : goal.loop-number-preserved
loop-number-preserved c = λ k lt. up_to_next (λ k. IsTakenText (at c.args.texts.now k)) c.loop-number.number c.loop-number.invariant c.in_ok-scan_text.ensures.taken k lt
