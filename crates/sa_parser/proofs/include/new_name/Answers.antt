use Rattle.std.proofs.Common.{refl, arith, rules}
use Rattle.sa_parser_expr.specs.StatementForms.{name_as}
use Rattle.sa_parser_expr.specs.Tests.{is_feature}
use Rattle.sa_parser_expr.proofs.Runs.{handed_on}
use Rattle.sa_parser.proofs.ExactIncludes as exact
use Rattle.sa_parser.proofs.include.new_name.Goals as goal
use Rattle.sa_parser.proofs.include.new_name.Goals.{in-Some-Word-Private, in-Some-Word-Readonly, in-Some-Lower, in-Some-Lower-2}
use Rattle.sa_parser.proofs.ExactNames.{name_there}

pub returns-in_default-clause-exact : goal.returns-in_default-clause-exact
returns-in_default-clause-exact c f =
    exact.no_name c.args.tokens.now f c.args.from _ (search rules) (search rules) (search rules) (search rules) refl

pub returns-in_err-name-clause-exact : goal.returns-in_err-name-clause-exact
returns-in_err-name-clause-exact c f =
    let t = c.args.tokens.now in
    let access = c.match-kind-2.access.0 in
    let mid = c.match-kind-2.access.1 in
    let begins : exact.Begins t c.args.from access mid = elim c.match-kind-2.branch [
      | in-Some-Word-Private w ↦ rw w.access-is (exact.private_word (first_of (search rules, grind arith)))
      | in-Some-Word-Readonly w ↦ rw w.access-is (exact.readonly_word (first_of (search rules, grind arith)))
      | in-Some-Lower w ↦ rw w.access-is (exact.lower_alone t c.args.from (first_of (search rules, grind arith)))
      | in-Some-Lower-2 w ↦ rw w.access-is (exact.iter_alone t c.args.from (first_of (search rules, grind arith)))
    ] in
    handed_on t (name_as is_feature) mid _ (search rules) c.in_err-name.ensures.exact
    (λ rest r. exact.behind_access t f c.args.from mid access begins (exact.no_new_name t f access mid r))

pub returns-clause-exact : goal.returns-clause-exact
returns-clause-exact c f =
    let t = c.args.tokens.now in
    let access = c.match-kind-2.access.0 in
    let mid = c.match-kind-2.access.1 in
    let begins : exact.Begins t c.args.from access mid = elim c.match-kind-2.branch [
      | in-Some-Word-Private w ↦ rw w.access-is (exact.private_word (first_of (search rules, grind arith)))
      | in-Some-Word-Readonly w ↦ rw w.access-is (exact.readonly_word (first_of (search rules, grind arith)))
      | in-Some-Lower w ↦ rw w.access-is (exact.lower_alone t c.args.from (first_of (search rules, grind arith)))
      | in-Some-Lower-2 w ↦ rw w.access-is (exact.iter_alone t c.args.from (first_of (search rules, grind arith)))
    ] in
    let name = c.in_ok-name in
    rw name.ensures.alone
    (exact.new_name t f c.args.from mid access name.name _ begins (name_there t is_feature mid name.next _ name.ensures.exact) refl)
