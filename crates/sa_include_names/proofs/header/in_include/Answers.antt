use Rattle.std.proofs.Common.{◌∙◌, ap}
use Rattle.sa_include_names.specs.Headers.{misused_types}
use Rattle.sa_include_names.specs.Tables.{first, hidden_in, number_in, occurs_in}
use Rattle.sa_include_names.proofs.Misuses.{include_given}
use Rattle.sa_include_names.proofs.header.in_include.Goals as goal

pub returns-else-not-may_include : goal.returns-else-not-may_include
returns-else-not-may_include c =
    let scope = c.args.scope.now in
    include_given scope.classes.now (number_in scope.numbers.now) scope.arrays.now scope.kind (hidden_in scope.params) c.args.ty.now c.in-Named.name c.in-Named.given c.in-Named.pos c.may_include.result c.in_types.result
    c.in-Named.is c.may_include.ensures c.if-not-may_include.false (c.in_types.ensures ∙ ap (λ ts. first (misused_types (occurs_in scope) ts)) c.as_slice.ensures)
