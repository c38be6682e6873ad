use Rattle.std.proofs.Common.{◌≡◌, true, false, [], refl, rules}
use Rattle.sa_parser_expr.specs.Positions.{kind_at}
use Rattle.sa_parser_expr.proofs.Runs.{stops}
use Rattle.sa_parser.specs.ClassForms.{class_form}
use Rattle.sa_parser.specs.Starts.{begins_class}
use Rattle.sa_parser.proofs.ExactClasses as exact
use Rattle.sa_parser.proofs.file.optional_class.Goals as goal

pub returns-then-not-begins_class-clause-exact : goal.returns-then-not-begins_class-clause-exact
returns-then-not-begins_class-clause-exact c =
    let t = c.args.tokens.now in
    let none : begins_class (kind_at t.list.now c.args.from) ≡ false = search rules in
    record { written = []; taken = exact.no_class t c.args.file_kind c.args.from none; same = refl }

pub returns-in_err-class-clause-exact : goal.returns-in_err-class-clause-exact
returns-in_err-class-clause-exact c =
    let t = c.args.tokens.now in
    let begins : begins_class (kind_at t.list.now c.args.from) ≡ true = search rules in
    exact.made_on t _ (class_form c.args.file_kind) c.args.from _ (search rules) c.in_err-class.ensures.exact
    (λ rest r. exact.class_there t c.args.file_kind c.args.from begins (stops t r))

pub returns-clause-exact : goal.returns-clause-exact
returns-clause-exact c =
    let t = c.args.tokens.now in
    let begins : begins_class (kind_at t.list.now c.args.from) ≡ true = search rules in
    exact.one_class t c.args.file_kind c.args.place c.args.from c.in_ok-class.next _ begins c.in_ok-class.ensures.exact
