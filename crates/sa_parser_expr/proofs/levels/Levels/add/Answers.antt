use Rattle.sa_parser_expr.proofs.Innermost.{reverse-added, level_of-added}
use Rattle.sa_parser_expr.proofs.levels.Levels.add.Goals as goal

pub invariant_of-self : goal.invariant_of-self
invariant_of-self c = record {
  sum = level_of-added c.args.self.now.counters.items c.in-Some.innermost c.in-Some.ensures.last c.args.self.now.level c.index_mut.result.now c.index_mut.ensures.value c.args.self.now.sum;
}

pub returns-clause-counters : goal.returns-clause-counters
returns-clause-counters c =
    reverse-added c.args.self.now.counters.items c.in-Some.innermost c.in-Some.ensures.last c.index_mut.result.now c.index_mut.ensures.value
