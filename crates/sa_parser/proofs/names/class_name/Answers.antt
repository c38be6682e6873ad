use Rattle.std.proofs.Common.{refl, arith, rules, ◌≡◌, ◌≢◌, Some}
use Rattle.sa_lexer.specs.declared.token.TokenKind.TheVariants as token
use Rattle.sa_parser.proofs.SpelledStatements.{named}
use Rattle.sa_parser_expr.specs.Positions.{kind_at}
use Rattle.sa_parser_expr.specs.Tests.{is_class_name}
use Rattle.sa_parser_expr.proofs.Runs.{refused_at}
use Rattle.sa_parser.proofs.ExactStatements as exact
use Rattle.sa_parser.proofs.names.class_name.Goals as goal

pub returns-clause-spelled : goal.returns-clause-spelled
returns-clause-spelled c = named c.args.tokens.now _ c.args.from _ (record { kind = token.ClassName; there = grind arith; is = refl }) (search rules)

pub returns-in_default-clause-exact : goal.returns-in_default-clause-exact
returns-in_default-clause-exact c =
    let t = c.args.tokens.now in
    let other : kind_at t.list.now c.args.from ≢ Some token.ClassName = search rules in
    refused_at t c.args.from c.unexpected.result refl c.unexpected.ensures.value (exact.unnamed t is_class_name c.args.from (exact.shut_class_name t c.args.from other))

pub returns-clause-exact : goal.returns-clause-exact
returns-clause-exact c =
    let t = c.args.tokens.now in
    let there : kind_at t.list.now c.args.from ≡ Some token.ClassName = grind arith in
    exact.named t is_class_name c.args.from token.ClassName _ there refl (search rules)
