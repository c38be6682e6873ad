use Rattle.std.proofs.Common.{◌≡◌, ◌≢◌, ◌⊎◌, Some, rules}
use Rattle.sa_lexer.specs.declared.token.TokenKind.TheVariants as token
use Rattle.sa_parser_expr.specs.Positions.{kind_at}
use Rattle.sa_parser_expr.proofs.Tested.{feature_met}
use Rattle.sa_parser.proofs.SpelledStatements.{feature_stands}
use Rattle.sa_parser.proofs.ExactStatements.{instead}
use Rattle.sa_parser.proofs.ExactIncludes as exact
use Rattle.sa_parser.proofs.include.optional_changes.Goals as goal

pub returns-then-not-is_feature_name-clause-exact : goal.returns-then-not-is_feature_name-clause-exact
returns-then-not-is_feature_name-clause-exact c =
    let t = c.args.tokens.now in
    let no_lower : kind_at t.list.now c.args.from ≢ Some token.Lower = search rules in
    let no_iter : kind_at t.list.now c.args.from ≢ Some token.IterName = search rules in
    exact.no_changes t c.args.from _ no_lower no_iter (search rules)

pub returns-clause-exact : goal.returns-clause-exact
returns-clause-exact c =
    let t = c.args.tokens.now in
    let kinds : (kind_at t.list.now c.args.from ≡ Some token.Lower) ⊎ (kind_at t.list.now c.args.from ≡ Some token.IterName) =
    c.is_feature_name.ensures.value.0 (search rules) in
    let there = feature_stands t c.args.from kinds in
    instead t (λ v r. exact.changes_there t c.args.from (record { kind = there.kind; there = there.there; met = feature_met there.is }) r)
    c.changes.result c.changes.ensures.exact
