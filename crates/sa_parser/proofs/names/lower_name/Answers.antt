use Rattle.std.proofs.Common.{refl, rules, ◌≡◌, ◌≢◌, Some}
use Rattle.sa_lexer.specs.declared.token.TokenKind.TheVariants as token
use Rattle.sa_parser.proofs.SpelledStatements.{named}
use Rattle.sa_parser_expr.specs.Positions.{kind_at}
use Rattle.sa_parser_expr.proofs.Runs.{refused_at}
use Rattle.sa_parser.proofs.ExactStatements as exact
use Rattle.sa_parser.proofs.names.lower_name.Goals as goal

pub returns-clause-spelled : goal.returns-clause-spelled
returns-clause-spelled c = named c.args.tokens.now _ c.args.from _ (record { kind = token.Lower; there = search rules; is = refl }) (search rules)

pub returns-then-not-is_lower-clause-exact : goal.returns-then-not-is_lower-clause-exact
returns-then-not-is_lower-clause-exact c =
    let t = c.args.tokens.now in
    let other : kind_at t.list.now c.args.from ≢ Some token.Lower = search rules in
    refused_at t c.args.from c.unexpected.result refl c.unexpected.ensures.value (exact.no_lower t c.args.from other)

pub returns-clause-exact : goal.returns-clause-exact
returns-clause-exact c =
    let t = c.args.tokens.now in
    let there : kind_at t.list.now c.args.from ≡ Some token.Lower = search rules in
    exact.lower t c.args.from _ there (search rules)
