use Rattle.std.proofs.Common.{arith, rules}
use Rattle.sa_lexer.specs.declared.sign.Sign.TheVariants as sign
use Rattle.sa_parser_expr.specs.StatementForms.{name_as}
use Rattle.sa_parser_expr.specs.Tests.{is_class_name}
use Rattle.sa_parser_expr.proofs.Runs.{taken, takes, handed_on, follows, stops, makes}
use Rattle.sa_parser.specs.ClassForms.{params_form, types_after_form}
use Rattle.sa_parser.proofs.ExactHeads as exact
use Rattle.sa_parser.proofs.ExactStatements.{same_tree}
use Rattle.sa_parser.proofs.class.concrete_head.Goals as goal
use Rattle.sa_parser.proofs.ExactNames.{name_there}

pub returns-in_err-name-clause-exact : goal.returns-in_err-name-clause-exact
returns-in_err-name-clause-exact c =
    let t = c.args.tokens.now in
    handed_on t (name_as is_class_name) c.args.from _ (search rules) c.in_err-name.ensures.exact
    (λ rest r. exact.no_concrete t c.args.from r)

pub returns-in_err-params-clause-exact : goal.returns-in_err-params-clause-exact
returns-in_err-params-clause-exact c =
    let t = c.args.tokens.now in
    let name = c.in_ok-name in
    let named = name_there t is_class_name c.args.from name.next _ name.ensures.exact in
    handed_on t params_form name.next _ (search rules) c.in_err-params.ensures.exact
    (λ rest r. exact.concrete_named t c.args.from _ named (stops t (rw name.ensures.alone at r)))

pub returns-in_err-below-clause-exact : goal.returns-in_err-below-clause-exact
returns-in_err-below-clause-exact c =
    let t = c.args.tokens.now in
    let name = c.in_ok-name in
    let named = name_there t is_class_name c.args.from name.next _ name.ensures.exact in
    let params = c.in_ok-params in
    handed_on t (types_after_form sign.Less) params.next _ (search rules) c.in_err-below.ensures.exact
    (λ rest r. exact.concrete_named t c.args.from _ named (follows t (taken t (rw name.ensures.alone at params.ensures.exact)) (stops t r)))

pub returns-clause-exact : goal.returns-clause-exact
returns-clause-exact c =
    let t = c.args.tokens.now in
    let name = c.in_ok-name in
    let named = name_there t is_class_name c.args.from name.next _ name.ensures.exact in
    let params = c.in_ok-params in
    let below = c.in_ok-below in
    same_tree t
    (takes t
    (exact.concrete_named t c.args.from _ named
    (follows t (taken t (rw name.ensures.alone at params.ensures.exact)) (makes t below.next (taken t below.ensures.exact)))))
    (first_of (cc, search rules, grind arith))
