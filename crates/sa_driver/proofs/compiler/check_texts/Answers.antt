use Rattle.std.proofs.Common.{subst}
use Rattle.std.specs.Prelude.{IfOk}
use Rattle.sa_read.specs.Front.{AreSpelled}
use Rattle.sa_driver.proofs.compiler.check_texts.Goals as goal

pub returns-clause-made : goal.returns-clause-made
returns-clause-made c = subst (λ texts. IfOk c.typed-core.result (λ x. AreSpelled texts)) c.as_slice.ensures c.typed-core.ensures.made
