use Rattle.std.proofs.Common.{◌≡◌, ◌≢◌, ◌∙◌, Some, sym, refl, arith, rules}
use Rattle.std.specs.Prelude.{codes}
use Rattle.std.proofs.lemmas.Slice.Eq.{bytes_eq-Decides}
use Rattle.sa_lexer.specs.declared.token.TokenKind.TheVariants as token
use Rattle.sa_parser_expr.specs.Positions.{kind_at, bytes_at}
use Rattle.sa_parser_expr.proofs.Runs.{refused_at}
use Rattle.sa_parser.specs.ConditionForms.{is_bool}
use Rattle.sa_parser.proofs.ExactStatements.{unnamed}
use Rattle.sa_parser.proofs.ExactConditions as exact
use Rattle.sa_parser.proofs.names.after_bool.Goals as goal
use Rattle.sa_parser.proofs.names.after_bool.Goals.{in_default-via-in_default, in_default-via-in-Some+in_default}
use Rattle.sa_parser.proofs.names.after_bool.Goals.{in_default-via-in-Some-ClassName+else-eq}

pub returns-in-Some-ClassName-clause-spelled : goal.returns-in-Some-ClassName-clause-spelled
returns-in-Some-ClassName-clause-spelled c =
    let there : kind_at c.args.tokens.now.list.now c.args.from ≡ Some token.ClassName = grind arith in
    let same : c.bytes.result.now ≡ codes "BOOL" = search rules in
    record { kind = token.ClassName; there = there; is = record { kind = refl; bytes = sym c.bytes.ensures ∙ same } }

pub returns-in-Some-ClassName-clause-exact : goal.returns-in-Some-ClassName-clause-exact
returns-in-Some-ClassName-clause-exact c =
    let t = c.args.tokens.now in
    let there : kind_at t.list.now c.args.from ≡ Some token.ClassName = grind arith in
    let same : c.bytes.result.now ≡ codes "BOOL" = search rules in
    exact.bool_named t c.args.from there (sym c.bytes.ensures ∙ same)

pub returns-in_default-clause-exact : goal.returns-in_default-clause-exact
returns-in_default-clause-exact c =
    let t = c.args.tokens.now in
    let other : kind_at t.list.now c.args.from ≡ Some token.ClassName → bytes_at t.src.now t.list.now c.args.from ≢ codes "BOOL" =
    elim c.in_default.branch [
      | in_default-via-in-Some-ClassName+else-eq w ↦ λ there same.
          let equal = (bytes_eq-Decides w.bytes.result.now w.as_slice.result.now).1 (w.bytes.ensures ∙ same ∙ sym w.as_slice.ensures) in
          let unequal = w.eq.ensures in
          let no = w.if-eq.false in
          absurd (cc)
      | in_default-via-in-Some+in_default w ↦ λ there same. search rules
      | in_default-via-in_default w ↦ λ there same. search rules
    ] in
    refused_at t c.args.from c.unexpected.result refl c.unexpected.ensures.value
    (unnamed t is_bool c.args.from (exact.shut_bool t c.args.from other))
