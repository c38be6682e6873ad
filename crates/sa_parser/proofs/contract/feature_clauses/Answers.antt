use Rattle.std.proofs.Common.{◌≡◌, ◌≢◌, rules}
use Rattle.sa_lexer.specs.declared.word.Word.TheVariants as word
use Rattle.sa_parser_expr.specs.declared.grammar.ConditionScope.TheVariants.{Plain, PostClause}
use Rattle.sa_parser.specs.declared.file.FileKind.TheVariants.{Prelude}
use Rattle.sa_parser.specs.ConditionForms.{clause_form}
use Rattle.sa_parser_expr.proofs.Runs.{taken, takes, handed_on, stops, makes}
use Rattle.sa_parser.proofs.ExactConditions as exact
use Rattle.sa_parser.proofs.contract.feature_clauses.Goals as goal

pub returns-then-eq-clause-exact : goal.returns-then-eq-clause-exact
returns-then-eq-clause-exact c =
    let t = c.args.tokens.now in
    let prelude : c.args.file_kind ≡ Prelude = search rules in
    exact.prelude_clauses t c.args.file_kind c.args.from _ prelude (search rules)

pub returns-in_err-pre-clause-exact : goal.returns-in_err-pre-clause-exact
returns-in_err-pre-clause-exact c =
    let t = c.args.tokens.now in
    let program : c.args.file_kind ≢ Prelude = search rules in
    handed_on t (clause_form word.Pre Plain) c.args.from _ (search rules) c.in_err-pre.ensures.exact
    (λ rest r. exact.pre_refused t c.args.file_kind c.args.from program r)

pub returns-in_err-post-clause-exact : goal.returns-in_err-post-clause-exact
returns-in_err-post-clause-exact c =
    let t = c.args.tokens.now in
    let program : c.args.file_kind ≢ Prelude = search rules in
    let pre = c.in_ok-pre in
    handed_on t (clause_form word.Post PostClause) pre.next _ (search rules) c.in_err-post.ensures.exact
    (λ rest r. exact.behind_pre t c.args.file_kind c.args.from pre.next _ program pre.ensures.exact (stops t r))

pub returns-clause-exact : goal.returns-clause-exact
returns-clause-exact c =
    let t = c.args.tokens.now in
    let program : c.args.file_kind ≢ Prelude = search rules in
    let pre = c.in_ok-pre in
    let post = c.in_ok-post in
    takes t (exact.behind_pre t c.args.file_kind c.args.from pre.next _ program pre.ensures.exact
    (makes t post.next (taken t post.ensures.exact)))
