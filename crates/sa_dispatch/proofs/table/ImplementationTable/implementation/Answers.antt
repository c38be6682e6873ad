use Rattle.std.proofs.Common.{◌∙◌}
use Rattle.sa_dispatch.proofs.Numbered.{found_signature, fits-at, row-at}
use Rattle.sa_dispatch.proofs.table.ImplementationTable.implementation.Goals as goal

pub implementation-requires-clause-rising : goal.implementation-requires-clause-rising
implementation-requires-clause-rising c = (found_signature _ _ c.args.sig c.in_ok-signature.signature.now c.self.invariant c.in_ok-signature.ensures.value).rising

pub implementation-requires-clause-fits : goal.implementation-requires-clause-fits
implementation-requires-clause-fits c = fits-at _ _ c.args.sig c.in_ok-signature.signature.now c.self.invariant c.in_ok-signature.ensures.value

pub returns : goal.returns
returns c = c.implementation.ensures ∙ row-at _ _ _ c.args.sig c.args.ty c.in_ok-signature.signature.now c.self.invariant c.self.view_is c.in_ok-signature.ensures.value
