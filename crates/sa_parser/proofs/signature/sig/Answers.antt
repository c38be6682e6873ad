use Rattle.std.proofs.Common.{rules}
use Rattle.sa_parser_expr.specs.StatementForms.{name_as}
use Rattle.sa_parser_expr.specs.Tests.{is_feature}
use Rattle.sa_parser.specs.SignatureForms.{arguments_form, written_result_form}
use Rattle.sa_parser_expr.proofs.Runs.{taken, takes, handed_on, follows, stops, makes}
use Rattle.sa_parser.proofs.ExactSignatures as exact
use Rattle.sa_parser.proofs.signature.sig.Goals as goal
use Rattle.sa_parser.proofs.ExactNames.{name_there}

pub returns-in_err-name-clause-exact : goal.returns-in_err-name-clause-exact
returns-in_err-name-clause-exact c =
    let t = c.args.tokens.now in
    handed_on t (name_as is_feature) c.args.from _ (search rules) c.in_err-name.ensures.exact (λ rest r. exact.no_feature t c.args.from r)

pub returns-in_err-formals-clause-exact : goal.returns-in_err-formals-clause-exact
returns-in_err-formals-clause-exact c =
    let t = c.args.tokens.now in
    let name = c.in_ok-name in
    let named = name_there t is_feature c.args.from name.next _ name.ensures.exact in
    let callable = c.callable_at-callable in
    handed_on t (arguments_form callable.result) name.next _ (search rules) c.in_err-formals.ensures.exact
    (λ rest r. exact.behind_feature t c.args.from callable.result _ named
    (exact.callable_is t c.args.from named.stood.kind callable.result named.stood.there callable.ensures)
    (stops t (rw name.ensures.alone at r)))

pub returns-in_err-gives-clause-exact : goal.returns-in_err-gives-clause-exact
returns-in_err-gives-clause-exact c =
    let t = c.args.tokens.now in
    let name = c.in_ok-name in
    let named = name_there t is_feature c.args.from name.next _ name.ensures.exact in
    let callable = c.callable_at-callable in
    let formals = c.in_ok-formals in
    handed_on t written_result_form formals.next _ (search rules) c.in_err-gives.ensures.exact
    (λ rest r. exact.behind_feature t c.args.from callable.result _ named
    (exact.callable_is t c.args.from named.stood.kind callable.result named.stood.there callable.ensures)
    (follows t (taken t (rw name.ensures.alone at formals.ensures.exact)) (stops t r)))

pub returns-clause-exact : goal.returns-clause-exact
returns-clause-exact c =
    let t = c.args.tokens.now in
    let name = c.in_ok-name in
    let named = name_there t is_feature c.args.from name.next _ name.ensures.exact in
    let callable = c.callable_at-callable in
    let formals = c.in_ok-formals in
    let gives = c.in_ok-gives in
    takes t
    (exact.behind_feature t c.args.from callable.result _ named
    (exact.callable_is t c.args.from named.stood.kind callable.result named.stood.there callable.ensures)
    (follows t (taken t (rw name.ensures.alone at formals.ensures.exact)) (makes t gives.next (taken t gives.ensures.exact))))
