use Rattle.std.proofs.Common.{◌≡◌, Some, refl, arith, rules}
use Rattle.sa_lexer.specs.declared.token.TokenKind.TheVariants as token
use Rattle.sa_lexer.specs.declared.word.Word.TheVariants as word
use Rattle.sa_parser.specs.declared.member.Declaration.TheVariants as declaration
use Rattle.sa_parser_expr.specs.Forms.{refuse}
use Rattle.sa_parser_expr.specs.Positions.{kind_at}
use Rattle.sa_parser_expr.proofs.Runs.{refused_at}
use Rattle.sa_parser.proofs.ExactFeatures as exact
use Rattle.sa_parser.proofs.member.variables.Goals as goal
use Rattle.sa_parser.proofs.member.variables.Goals.{in_default-via-in-Some+in-Word+in_default, in_default-via-in-Some+in_default}
use Rattle.sa_parser.proofs.member.variables.Goals.{in_default-via-in_default}

pub returns-in-Some-Word-Attr-clause-exact : goal.returns-in-Some-Word-Attr-clause-exact
returns-in-Some-Word-Attr-clause-exact c =
    let t = c.args.tokens.now in
    let there : kind_at t.list.now c.args.from ≡ Some (token.Word word.Attr) = grind arith in
    exact.made t declaration.Variables (λ v r. exact.attr_there t c.args.access refuse c.args.from there r)
    c.attr.result c.attr.ensures.exact

pub returns-in-Some-Word-Shared-clause-exact : goal.returns-in-Some-Word-Shared-clause-exact
returns-in-Some-Word-Shared-clause-exact c =
    let t = c.args.tokens.now in
    let there : kind_at t.list.now c.args.from ≡ Some (token.Word word.Shared) = grind arith in
    exact.made t declaration.Variables (λ v r. exact.shared_there t c.args.access refuse c.args.from there r)
    c.shared.result c.shared.ensures.exact

pub returns-in_default-clause-exact : goal.returns-in_default-clause-exact
returns-in_default-clause-exact c =
    let t = c.args.tokens.now in
    refused_at t c.args.from c.unexpected.result refl c.unexpected.ensures.value
    (elim c.in_default.branch [
      | in_default-via-in-Some+in-Word+in_default w ↦ exact.none_declared t c.args.access c.args.from (search rules) (search rules)
      | in_default-via-in-Some+in_default w ↦ exact.none_declared t c.args.access c.args.from (search rules) (search rules)
      | in_default-via-in_default w ↦ exact.none_declared t c.args.access c.args.from (search rules) (search rules)
    ])
