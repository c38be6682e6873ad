use Rattle.std.proofs.Common.{◌∙◌, arith, sym}
use Rattle.sa_include_names.specs.Tables.{occurs_in}
use Rattle.sa_include_names.proofs.Misuses.{arg_here}
use Rattle.sa_include_names.proofs.header.+types.Goals as goal

pub in_args-returns-in-Some : goal.in_args-returns-in-Some
in_args-returns-in-Some t c =
    sym (c.loop-arg.invariant ∙ arg_here (occurs_in c.args.scope.now) c.args.args.now c.loop-arg.arg-index c.arg-item.result c.in-Some.pos (omega arith) c.arg-item.is (sym c.in_type.ensures ∙ c.in-Some.is))
