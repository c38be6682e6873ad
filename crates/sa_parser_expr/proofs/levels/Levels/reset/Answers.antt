use Rattle.sa_parser_expr.proofs.Innermost.{reverse-set_to_one, level_of-set_to_one}
use Rattle.sa_parser_expr.proofs.levels.Levels.reset.Goals as goal

pub invariant_of-self : goal.invariant_of-self
invariant_of-self c = record {
  sum = level_of-set_to_one c.args.self.now.counters.items c.in-Some.innermost c.in-Some.ensures.last c.args.self.now.level c.index_mut-counter.result.now c.index_mut-counter.ensures.value c.args.self.now.sum;
}

pub returns-in-Some : goal.returns-in-Some
returns-in-Some c =
    reverse-set_to_one c.args.self.now.counters.items c.in-Some.innermost c.in-Some.ensures.last c.index_mut-counter.result.now c.index_mut-counter.ensures.value
