use Rattle.std.proofs.Common.{◌≡◌, ◌≢◌, ◌+◌, Some, rules}
use Rattle.sa_lexer.specs.declared.token.TokenKind.TheVariants as token
use Rattle.sa_lexer.specs.declared.sign.Sign.TheVariants as sign
use Rattle.sa_parser_expr.specs.Forms.{nest, type}
use Rattle.sa_parser_expr.specs.Positions.{kind_at}
use Rattle.sa_parser_expr.specs.StatementForms.{name_as}
use Rattle.sa_parser_expr.specs.Tests.{is_class_name}
use Rattle.sa_parser_expr.proofs.Runs.{taken, takes, handed_on, stops, makes}
use Rattle.sa_parser.proofs.ExactHeads as exact
use Rattle.sa_parser.proofs.class.param.Goals as goal
use Rattle.sa_parser.proofs.ExactNames.{name_there}

pub returns-in_err-name-clause-exact : goal.returns-in_err-name-clause-exact
returns-in_err-name-clause-exact c =
    let t = c.args.tokens.now in
    handed_on t (name_as is_class_name) c.args.from _ (search rules) c.in_err-name.ensures.exact (λ rest r. exact.no_param t c.args.from r)

pub returns-then-not-is_sign-clause-exact : goal.returns-then-not-is_sign-clause-exact
returns-then-not-is_sign-clause-exact c =
    let t = c.args.tokens.now in
    let name = c.in_ok-name in
    let named = name_there t is_class_name c.args.from name.next _ name.ensures.exact in
    let other : kind_at t.list.now name.next ≢ Some (token.Sign sign.Less) = search rules in
    takes t (exact.param_named t c.args.from _ named (rw (← name.ensures.alone) (exact.unbounded t _ name.next other)))

pub returns-in_err-ty-clause-exact : goal.returns-in_err-ty-clause-exact
returns-in_err-ty-clause-exact c =
    let t = c.args.tokens.now in
    let name = c.in_ok-name in
    let named = name_there t is_class_name c.args.from name.next _ name.ensures.exact in
    let less : kind_at t.list.now name.next ≡ Some (token.Sign sign.Less) = search rules in
    handed_on t (nest type) (name.next + 1) _ (search rules) c.in_err-ty.ensures.exact
    (λ rest r. exact.param_named t c.args.from _ named (rw (← name.ensures.alone) (exact.behind_less t _ name.next less (stops t r))))

pub returns-clause-exact : goal.returns-clause-exact
returns-clause-exact c =
    let t = c.args.tokens.now in
    let name = c.in_ok-name in
    let named = name_there t is_class_name c.args.from name.next _ name.ensures.exact in
    let less : kind_at t.list.now name.next ≡ Some (token.Sign sign.Less) = search rules in
    let one = c.in_ok-ty in
    takes t
    (exact.param_named t c.args.from _ named
    (rw (← name.ensures.alone) (exact.behind_less t _ name.next less (makes t one.next (taken t one.ensures.exact)))))
