use Rattle.std.proofs.Common.{rules}
use Rattle.sa_parser_expr.specs.Readings.{Read, Refused}
use Rattle.sa_parser_expr.specs.StatementForms.{name_as}
use Rattle.sa_parser_expr.specs.Tests.{is_abstract_name}
use Rattle.sa_parser_expr.proofs.Runs.{taken, takes, handed_on, follows, stops}
use Rattle.sa_parser.specs.ClassForms.{params_form, edges_form}
use Rattle.sa_parser.proofs.ExactHeads as exact
use Rattle.sa_parser.proofs.class.abstract_head.Goals as goal
use Rattle.sa_parser.proofs.ExactNames.{name_there}

pub returns-in_err-name-clause-exact : goal.returns-in_err-name-clause-exact
returns-in_err-name-clause-exact c =
    let t = c.args.tokens.now in
    handed_on t (name_as is_abstract_name) c.args.from _ (search rules) c.in_err-name.ensures.exact
    (λ rest r. exact.no_abstract t c.args.from r)

pub returns-in_err-params-clause-exact : goal.returns-in_err-params-clause-exact
returns-in_err-params-clause-exact c =
    let t = c.args.tokens.now in
    let name = c.in_ok-name in
    let named = name_there t is_abstract_name c.args.from name.next _ name.ensures.exact in
    handed_on t params_form name.next _ (search rules) c.in_err-params.ensures.exact
    (λ rest r. exact.abstract_named t c.args.from _ named (stops t (rw name.ensures.alone at r)))

pub returns-in_err-edges-clause-exact : goal.returns-in_err-edges-clause-exact
returns-in_err-edges-clause-exact c =
    let t = c.args.tokens.now in
    let name = c.in_ok-name in
    let named = name_there t is_abstract_name c.args.from name.next _ name.ensures.exact in
    let params = c.in_ok-params in
    handed_on t edges_form params.next _ (search rules) c.in_err-edges.ensures.exact
    (λ rest r. exact.abstract_named t c.args.from _ named
    (follows t (taken t (rw name.ensures.alone at params.ensures.exact)) (exact.with_edges t _ _ params.next (Refused rest) r)))

pub returns-clause-exact : goal.returns-clause-exact
returns-clause-exact c =
    let t = c.args.tokens.now in
    let name = c.in_ok-name in
    let named = name_there t is_abstract_name c.args.from name.next _ name.ensures.exact in
    let params = c.in_ok-params in
    let edges = c.in_ok-edges in
    takes t
    (exact.abstract_named t c.args.from _ named
    (follows t (taken t (rw name.ensures.alone at params.ensures.exact))
    (exact.with_edges t _ _ params.next (Read _ _) (taken t edges.ensures.exact))))
