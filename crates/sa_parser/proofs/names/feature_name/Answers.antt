use Rattle.std.proofs.Common.{◌≡◌, ◌⊎◌, Some, rules, ◌≢◌, refl}
use Rattle.sa_lexer.specs.declared.token.TokenKind.TheVariants as token
use Rattle.sa_parser_expr.specs.Positions.{kind_at}
use Rattle.sa_parser.proofs.SpelledStatements.{named, feature_stands}
use Rattle.sa_parser_expr.specs.Tests.{is_feature}
use Rattle.sa_parser_expr.proofs.Runs.{refused_at}
use Rattle.sa_parser.proofs.ExactStatements as exact
use Rattle.sa_parser_expr.proofs.Tested.{feature_met}
use Rattle.sa_parser.proofs.names.feature_name.Goals as goal

pub returns-clause-spelled : goal.returns-clause-spelled
returns-clause-spelled c =
    let t = c.args.tokens.now in
    let kinds : (kind_at t.list.now c.args.from ≡ Some token.Lower) ⊎ (kind_at t.list.now c.args.from ≡ Some token.IterName) = c.is_feature_name.ensures.value.0 (search rules) in
    named t _ c.args.from _ (feature_stands t c.args.from kinds) (search rules)

pub returns-then-not-is_feature_name-clause-exact : goal.returns-then-not-is_feature_name-clause-exact
returns-then-not-is_feature_name-clause-exact c =
    let t = c.args.tokens.now in
    let no_lower : kind_at t.list.now c.args.from ≢ Some token.Lower = search rules in
    let no_iter : kind_at t.list.now c.args.from ≢ Some token.IterName = search rules in
    refused_at t c.args.from c.unexpected.result refl c.unexpected.ensures.value
    (exact.unnamed t is_feature c.args.from (exact.shut_feature t c.args.from no_lower no_iter))

pub returns-clause-exact : goal.returns-clause-exact
returns-clause-exact c =
    let t = c.args.tokens.now in
    let kinds : (kind_at t.list.now c.args.from ≡ Some token.Lower) ⊎ (kind_at t.list.now c.args.from ≡ Some token.IterName) = c.is_feature_name.ensures.value.0 (search rules) in
    let there = feature_stands t c.args.from kinds in
    exact.named t is_feature c.args.from there.kind _ there.there (feature_met there.is) (search rules)
