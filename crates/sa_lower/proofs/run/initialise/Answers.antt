-- The initialiser of a shared gives a value.
use Rattle.sa_typing.specs.Rows.{rows}
use Rattle.sa_lower.proofs.Parts.{start_there}
use Rattle.sa_lower_expr.proofs.Values.{not_missing, value_typed}
use Rattle.sa_lower.proofs.run.initialise.Goals as goal

pub lower_expr-requires : goal.lower_expr-requires
lower_expr-requires c =
    let scope = c.env_of_initialiser-scope.ensures in
    value_typed _ _ _ (start_there (rows c.args.view.now) c.args.shared.now _ _ _ scope c.of_body-inside.ensures c.in-Some.is c.requires)

pub unreachable-requires : goal.unreachable-requires
unreachable-requires c =
    let scope = c.env_of_initialiser-scope.ensures in
    let has = start_there (rows c.args.view.now) c.args.shared.now _ _ _ scope c.of_body-inside.ensures c.in-Some.is c.requires in
    not_missing _ _ _ c.in_ok-value.value has c.in_ok-value.ensures c.in_default-value.is
