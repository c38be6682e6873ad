use Rattle.std.proofs.Common.{◌+◌, List, take, take_all, subst}
use Rattle.std.specs.List.{All}
use Rattle.std.proofs.lemmas.List.Elements.{All-more}
use Rattle.sa_ast.specs.declared.class.Include.{Include}
use Rattle.sa_include_names.specs.Tables.{number_in}
use Rattle.sa_include.specs.Included.{BringsAll}
use Rattle.sa_include.proofs.include_trial.try_class.Goals as goal

-- the next clause contributes everything too
pub loop-clause-preserved : goal.loop-clause-preserved
loop-clause-preserved c =
    let clause = c.clause-item.result in
    let Brings = λ (i : Include). BringsAll (number_in c.args.includes.now.numbers) c.args.whole.now c.args.made.now i in
    All-more Brings c.args.clauses.now c.loop-clause.clause-index clause c.loop-clause-test.true c.loop-clause.invariant
    (subst Brings c.clause-item.is c.in_ok-try_clause.ensures)

pub returns-clause-included : goal.returns-clause-included
returns-clause-included c =
    subst (All (BringsAll (number_in c.args.includes.now.numbers) c.args.whole.now c.args.made.now))
    (take_all c.loop-clause.clause-index c.args.clauses.now c.loop-clause-test.false) c.loop-clause.invariant
