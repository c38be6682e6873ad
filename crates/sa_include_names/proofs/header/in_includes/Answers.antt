use Rattle.std.proofs.Common.{◌∙◌, arith, sym}
use Rattle.sa_graph.proofs.Firsts.{first_here}
use Rattle.sa_ast.specs.declared.class.Include.{Include}
use Rattle.sa_include_names.specs.Tables.{misused_include_in}
use Rattle.sa_include_names.proofs.header.in_includes.Goals as goal

pub returns-in-Some : goal.returns-in-Some
returns-in-Some c =
    sym (c.loop-include.invariant ∙ first_here (λ (i : Include). misused_include_in c.args.scope.now i.ty) c.args.includes.now c.loop-include.include-index c.include-item.result c.in-Some.pos (omega arith) c.include-item.is (sym c.in_include.ensures ∙ c.in-Some.is))
