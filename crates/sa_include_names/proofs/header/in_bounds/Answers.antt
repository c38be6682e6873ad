use Rattle.std.proofs.Common.{◌∙◌, arith, sym}
use Rattle.sa_graph.proofs.Firsts.{first_here}
use Rattle.sa_ast.specs.declared.class.TypeParam.{TypeParam}
use Rattle.sa_include_names.specs.Headers.{misused_option}
use Rattle.sa_include_names.specs.Tables.{occurs_in}
use Rattle.sa_include_names.proofs.header.in_bounds.Goals as goal

pub returns-in-Some : goal.returns-in-Some
returns-in-Some c =
    sym (c.loop-param.invariant ∙ first_here (λ (p : TypeParam). misused_option (occurs_in c.args.scope.now) p.bound) c.args.params.now c.loop-param.param-index c.param-item.result c.in-Some.pos (omega arith) c.param-item.is (sym c.in_bound.ensures ∙ c.in-Some.is))
