use Rattle.std.proofs.Common.{rules}
use Rattle.sa_parser_expr.proofs.SpelledExpressions.{result_word}
use Rattle.sa_parser_expr.proofs.ExactFirsts as exact
use Rattle.sa_parser_expr.specs.Enclosures.{where_of}
use Rattle.sa_parser_expr.proofs.grammar.Grammar.result_word.Goals as goal

pub returns-clause-spelled : goal.returns-clause-spelled
returns-clause-spelled g c = λ around.
    result_word c.args.self.now.tokens c.args.self.now.scope around c.args.from _ _ _ c.requires.scope c.requires.there (search rules) (search rules) (search rules)

pub returns-clause-exact : goal.returns-clause-exact
returns-clause-exact g c = λ around.
    exact.result c.args.self.now.tokens c.args.self.now.scope (where_of around) c.args.from _ _ _ c.requires.scope c.requires.there
    (search rules) (search rules) (search rules)
