use Rattle.std.proofs.Common.{◌≡◌, ◌≢◌, ◌+◌, Some, arith, rules}
use Rattle.sa_lexer.specs.declared.token.TokenKind.TheVariants as token
use Rattle.sa_lexer.specs.declared.word.Word.TheVariants as word
use Rattle.sa_ast.specs.declared.class.ClassKind.TheVariants.{Partial}
use Rattle.sa_parser_expr.specs.Positions.{kind_at}
use Rattle.sa_parser_expr.proofs.Runs.{handed_on, stops}
use Rattle.sa_parser.specs.declared.file.FileKind.TheVariants.{Prelude}
use Rattle.sa_parser.specs.Classes.{enclosing}
use Rattle.sa_parser.specs.FeatureForms.{builtin_form}
use Rattle.sa_parser.specs.SignatureForms.{sig_form}
use Rattle.sa_parser.proofs.ExactStatements.{instead}
use Rattle.sa_parser.proofs.ExactFeatures as exact
use Rattle.sa_parser.proofs.member.called.Goals as goal
use Rattle.sa_parser.proofs.member.called.Goals.{in_default-via-in-Some-Word-Stub+else-eq, in_default-via-in-Some-Word-Builtin+else-eq-2}
use Rattle.sa_parser.proofs.member.called.Goals.{in_default-via-in-Some+in-Word+in_default, in_default-via-in-Some+in_default}
use Rattle.sa_parser.proofs.member.called.Goals.{in_default-via-in_default}

pub returns-in_err-sig-in-Some-Word-Stub-clause-exact : goal.returns-in_err-sig-in-Some-Word-Stub-clause-exact
returns-in_err-sig-in-Some-Word-Stub-clause-exact c =
    let t = c.args.tokens.now in
    let there : kind_at t.list.now c.args.from ≡ Some (token.Word word.Stub) = grind arith in
    let partial : c.args.class.kind ≡ Partial = search rules in
    handed_on t sig_form (c.args.from + 1) _ (search rules) c.in_err-sig-in-Some-Word-Stub.ensures.exact
    (λ rest r. exact.stub_there t (enclosing c.args.class) c.args.access c.args.from partial there (stops t r))

pub returns-in_ok-sig-in-Some-Word-Stub-clause-exact : goal.returns-in_ok-sig-in-Some-Word-Stub-clause-exact
returns-in_ok-sig-in-Some-Word-Stub-clause-exact c =
    let t = c.args.tokens.now in
    let there : kind_at t.list.now c.args.from ≡ Some (token.Word word.Stub) = grind arith in
    let partial : c.args.class.kind ≡ Partial = search rules in
    let sig = c.in_ok-sig-in-Some-Word-Stub in
    exact.stub t (enclosing c.args.class) c.args.access c.args.from sig.next _ _ _ partial there sig.ensures.exact
    (search rules) (search rules)

pub returns-in_err-builtin-in-Some-Word-Builtin-clause-exact : goal.returns-in_err-builtin-in-Some-Word-Builtin-clause-exact
returns-in_err-builtin-in-Some-Word-Builtin-clause-exact c =
    let t = c.args.tokens.now in
    let there : kind_at t.list.now c.args.from ≡ Some (token.Word word.Builtin) = grind arith in
    let prelude : c.args.class.file_kind ≡ Prelude = search rules in
    handed_on t (builtin_form c.args.class.name.now c.args.access) (c.args.from + 1) _ (search rules)
    c.in_err-builtin-in-Some-Word-Builtin.ensures.exact
    (λ rest r. exact.builtin_there t (enclosing c.args.class) c.args.access c.args.from prelude there r)

pub returns-in_ok-builtin-in-Some-Word-Builtin-clause-exact : goal.returns-in_ok-builtin-in-Some-Word-Builtin-clause-exact
returns-in_ok-builtin-in-Some-Word-Builtin-clause-exact c =
    let t = c.args.tokens.now in
    let there : kind_at t.list.now c.args.from ≡ Some (token.Word word.Builtin) = grind arith in
    let prelude : c.args.class.file_kind ≡ Prelude = search rules in
    let builtin = c.in_ok-builtin-in-Some-Word-Builtin in
    exact.built_in t (enclosing c.args.class) c.args.access c.args.from builtin.next _ _ prelude there builtin.ensures.exact (search rules)

pub returns-in_default-clause-exact : goal.returns-in_default-clause-exact
returns-in_default-clause-exact c =
    let t = c.args.tokens.now in
    let class = enclosing c.args.class in
    instead t
    (λ v r. elim c.in_default.branch [
      | in_default-via-in-Some-Word-Stub+else-eq w ↦
          let there : kind_at t.list.now c.args.from ≡ Some (token.Word word.Stub) = grind arith in
          let other : c.args.class.kind ≢ Partial = search rules in
          exact.routine_there t class c.args.access c.args.from (λ partial e. other partial) (λ prelude e. cc) r
      | in_default-via-in-Some-Word-Builtin+else-eq-2 w ↦
          let there : kind_at t.list.now c.args.from ≡ Some (token.Word word.Builtin) = grind arith in
          let other : c.args.class.file_kind ≢ Prelude = search rules in
          exact.routine_there t class c.args.access c.args.from (λ partial e. cc) (λ prelude e. other prelude) r
      | in_default-via-in-Some+in-Word+in_default w ↦
          exact.routine_there t class c.args.access c.args.from (λ partial. search rules) (λ prelude. search rules) r
      | in_default-via-in-Some+in_default w ↦
          exact.routine_there t class c.args.access c.args.from (λ partial. search rules) (λ prelude. search rules) r
      | in_default-via-in_default w ↦
          exact.routine_there t class c.args.access c.args.from (λ partial. search rules) (λ prelude. search rules) r
    ])
    c.routine.result c.routine.ensures.exact
