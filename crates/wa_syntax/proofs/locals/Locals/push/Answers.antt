use Rattle.std.proofs.Common.{arith}
use Rattle.wa_syntax.proofs.Runs.{types_of_runs-push, length-types_of_runs-push}
use Rattle.wa_syntax.proofs.locals.Locals.push.Goals as goal

pub invariant_of-self-2 : goal.invariant_of-self-2
invariant_of-self-2 c =
    rw (c.in_ok-push.ensures.items, length-types_of_runs-push) (omega (arith, c.saturating_add-self-inside.ensures, c.from.ensures, c.self.invariant))

pub returns-clause-ok : goal.returns-clause-ok
returns-clause-ok c = rw (c.in_ok-push.ensures.items, ← c.self.view_is) (types_of_runs-push c.self.inside.runs.items (record { count = c.args.count; ty = c.args.ty }))
