use Rattle.std.proofs.Common.{◌+◌, rules}
use Rattle.sa_parser_expr.specs.Lexemes.{lexeme_at}
use Rattle.sa_parser_expr.specs.StatementForms.{name_as}
use Rattle.sa_parser_expr.specs.Tests.{is_feature}
use Rattle.sa_parser_expr.proofs.Runs.{handed_on, refused_at}
use Rattle.sa_parser.specs.FeatureForms.{changed_form}
use Rattle.sa_parser.proofs.ExactIncludes as exact
use Rattle.sa_parser.proofs.include.change.Goals as goal
use Rattle.sa_parser.proofs.ExactNames.{name_there}

pub returns-in_err-left-clause-exact : goal.returns-in_err-left-clause-exact
returns-in_err-left-clause-exact c =
    let t = c.args.tokens.now in
    handed_on t (name_as is_feature) c.args.from _ (search rules) c.in_err-left.ensures.exact (λ rest r. exact.no_change t c.args.from r)

pub returns-in_err-next-clause-exact : goal.returns-in_err-next-clause-exact
returns-in_err-next-clause-exact c =
    let t = c.args.tokens.now in
    let left = c.in_ok-left in
    let name = name_there t is_feature c.args.from left.next _ left.ensures.exact in
    let other = c.in_err-next.ensures in
    refused_at t (c.args.from + 1) _ (search rules) (rw left.ensures.alone at other.fault)
    (exact.behind_name t c.args.from name.stood
    (exact.no_arrow t (lexeme_at t c.args.from name.stood.kind) (c.args.from + 1) (rw left.ensures.alone at other.another)))

pub returns-in_err-new-clause-exact : goal.returns-in_err-new-clause-exact
returns-in_err-new-clause-exact c =
    let t = c.args.tokens.now in
    let left = c.in_ok-left in
    let name = name_there t is_feature c.args.from left.next _ left.ensures.exact in
    let f = lexeme_at t c.args.from name.stood.kind in
    let arrow = c.in_ok-next.ensures in
    handed_on t (changed_form f) c.in_ok-next.next _ (search rules) (c.in_err-new.ensures.exact f)
    (λ rest r. exact.behind_both t c.args.from left.next c.in_ok-next.next _ name left.ensures.alone arrow.sign arrow.next.0 r)

pub returns-clause-exact : goal.returns-clause-exact
returns-clause-exact c =
    let t = c.args.tokens.now in
    let left = c.in_ok-left in
    let name = name_there t is_feature c.args.from left.next _ left.ensures.exact in
    let f = lexeme_at t c.args.from name.stood.kind in
    let arrow = c.in_ok-next.ensures in
    let new = c.in_ok-new in
    exact.change t c.args.from left.next c.in_ok-next.next new.next _ new.new _ name left.ensures.alone arrow.sign arrow.next.0
    (new.ensures.exact f) (search rules)
