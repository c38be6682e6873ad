use Rattle.std.proofs.Common.{rules}
use Rattle.sa_parser_expr.proofs.Runs.{taken, handed_on, follows, stops}
use Rattle.sa_parser.specs.ConditionForms.{clauses_form}
use Rattle.sa_parser.specs.Classes.{enclosing}
use Rattle.sa_parser.specs.FeatureForms.{whole_body_form}
use Rattle.sa_parser.specs.SignatureForms.{sig_form}
use Rattle.sa_parser.proofs.ExactFeatures as exact
use Rattle.sa_parser.proofs.member.routine.Goals as goal

pub returns-in_err-sig-clause-exact : goal.returns-in_err-sig-clause-exact
returns-in_err-sig-clause-exact c =
    let t = c.args.tokens.now in
    let class = enclosing c.args.class in
    handed_on t sig_form c.args.from _ (search rules) c.in_err-sig.ensures.exact
    (λ rest r. exact.as_routine t class c.args.access (stops t r))

pub returns-in_err-clauses-clause-exact : goal.returns-in_err-clauses-clause-exact
returns-in_err-clauses-clause-exact c =
    let t = c.args.tokens.now in
    let class = enclosing c.args.class in
    let sig = c.in_ok-sig in
    handed_on t (clauses_form class.file_kind) sig.next _ (search rules) c.in_err-clauses.ensures.exact
    (λ rest r. exact.as_routine t class c.args.access (follows t (taken t sig.ensures.exact) (stops t r)))

pub returns-in_err-body-clause-exact : goal.returns-in_err-body-clause-exact
returns-in_err-body-clause-exact c =
    let t = c.args.tokens.now in
    let class = enclosing c.args.class in
    let sig = c.in_ok-sig in
    let clauses = c.in_ok-clauses in
    handed_on t whole_body_form clauses.next _ (search rules) c.in_err-body.ensures.exact
    (λ rest r. exact.as_routine t class c.args.access
    (follows t (taken t sig.ensures.exact) (follows t (taken t clauses.ensures.exact) (stops t r))))

pub returns-clause-exact : goal.returns-clause-exact
returns-clause-exact c =
    let t = c.args.tokens.now in
    let class = enclosing c.args.class in
    let sig = c.in_ok-sig in
    let clauses = c.in_ok-clauses in
    let body = c.in_ok-body in
    exact.routine t class c.args.access c.args.from sig.next clauses.next body.next _ _ _ _ sig.ensures.exact clauses.ensures.exact
    body.ensures.exact (search rules)
