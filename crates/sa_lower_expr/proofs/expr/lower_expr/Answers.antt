use Rattle.sa_lower_expr.proofs.Forms.{placed-gives}
use Rattle.sa_lower_expr.proofs.expr.lower_expr.Goals as goal

pub returns : goal.returns
returns c =
    placed-gives (record { scope = c.args.scope; owner = c.args.owner; inside = c.args.inside; variables = c.variables_in.result }) c.args.e.now c.in_ok-placed.placed c.in_ok-placed.ensures
