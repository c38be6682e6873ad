use Rattle.std.proofs.Common.{◌≡◌, ◌⊎◌, Some, None, refl, arith, rules}
use Rattle.sa_lexer.specs.declared.token.TokenKind.TheVariants as token
use Rattle.std.proofs.lemmas.Result.{IfOk-weaker}
use Rattle.sa_parser_expr.specs.Expressions as exprs
use Rattle.sa_parser_expr.proofs.SpelledExpressions.{number, character, texts}
use Rattle.sa_parser_expr.proofs.Alternatives.{alike}
use Rattle.sa_parser_expr.proofs.ExactFirsts as exact
use Rattle.sa_parser_expr.proofs.Runs.{refused_at}
use Rattle.sa_parser_expr.specs.Enclosures.{where_of}
use Rattle.sa_parser_expr.specs.Positions.{kind_at}
use Rattle.sa_parser_expr.proofs.grammar.Grammar.first.Goals as goal

pub returns-in-Some-Int-clause-spelled : goal.returns-in-Some-Int-clause-spelled
returns-in-Some-Int-clause-spelled g c = number c.args.self.now.tokens c.args.self.now.scope c.args.around c.args.from _ _ (grind arith) (search rules)

pub returns-in-Some-Char-clause-spelled : goal.returns-in-Some-Char-clause-spelled
returns-in-Some-Char-clause-spelled g c = character c.args.self.now.tokens c.args.self.now.scope c.args.around c.args.from _ _ (grind arith) (search rules)

pub returns-in_ok-text-in-Some-Text-clause-spelled : goal.returns-in_ok-text-in-Some-Text-clause-spelled
returns-in_ok-text-in-Some-Text-clause-spelled g c =
    let text = c.in_ok-text-in-Some-Text.ensures in
    texts c.args.self.now.tokens c.args.self.now.scope c.args.around c.args.from _ _ _ _ text.spelled (grind arith) (omega (arith, text.next.0)) (search rules)

pub returns-in-Some-Lower-clause-spelled : goal.returns-in-Some-Lower-clause-spelled
returns-in-Some-Lower-clause-spelled g c = IfOk-weaker c.call.result _ _ (λ read is. exprs.implied_call is) c.call.ensures.spelled

pub returns-in-Some-ClassName-clause-spelled : goal.returns-in-Some-ClassName-clause-spelled
returns-in-Some-ClassName-clause-spelled g c = c.class_call.ensures.spelled c.args.around

pub returns-in-Some-Word-clause-spelled : goal.returns-in-Some-Word-clause-spelled
returns-in-Some-Word-clause-spelled g c = c.first_word.ensures.spelled c.args.around

pub returns-in-Some-Int-clause-exact : goal.returns-in-Some-Int-clause-exact
returns-in-Some-Int-clause-exact g c =
    exact.number c.args.self.now.tokens c.args.self.now.scope (where_of c.args.around) c.args.from _ _ (grind arith) (search rules)

pub returns-in-Some-Char-clause-exact : goal.returns-in-Some-Char-clause-exact
returns-in-Some-Char-clause-exact g c =
    exact.character c.args.self.now.tokens c.args.self.now.scope (where_of c.args.around) c.args.from _ _ (grind arith) (search rules)

pub returns-in_ok-text-in-Some-Text-clause-exact : goal.returns-in_ok-text-in-Some-Text-clause-exact
returns-in_ok-text-in-Some-Text-clause-exact g c =
    exact.text c.args.self.now.tokens c.args.self.now.scope (where_of c.args.around) c.args.from _ _ _ _ (grind arith)
    (search rules) c.in_ok-text-in-Some-Text.ensures.exact

pub returns-in-Some-Lower-clause-exact : goal.returns-in-Some-Lower-clause-exact
returns-in-Some-Lower-clause-exact g c =
    let kind = c.in-Some-Lower.field-0.now in
    let there : kind_at c.args.self.now.tokens.list.now c.args.from ≡ Some kind = first_of (search rules, grind arith) in
    let names : (kind ≡ token.Lower) ⊎ (kind ≡ token.IterName) = first_of (assumption c.in-Some-Lower, search rules) in
    alike c.args.self.now.tokens c.call.result
    (λ v r. exact.implied_call c.args.self.now.tokens c.args.self.now.scope (where_of c.args.around) c.args.from kind there names r)
    c.call.ensures.exact

pub returns-in-Some-ClassName-clause-exact : goal.returns-in-Some-ClassName-clause-exact
returns-in-Some-ClassName-clause-exact g c =
    let kind = c.in-Some-ClassName.field-0.now in
    let there : kind_at c.args.self.now.tokens.list.now c.args.from ≡ Some kind = first_of (search rules, grind arith) in
    let names : (kind ≡ token.ClassName) ⊎ (kind ≡ token.AbstractName) = first_of (assumption c.in-Some-ClassName, search rules) in
    alike c.args.self.now.tokens c.class_call.result
    (λ v r. exact.named_call c.args.self.now.tokens c.args.self.now.scope (where_of c.args.around) c.args.from kind there names r)
    c.class_call.ensures.exact

pub returns-in-Some-Word-clause-exact : goal.returns-in-Some-Word-clause-exact
returns-in-Some-Word-clause-exact g c = c.first_word.ensures.exact c.args.around

pub returns-in-Some-Sign-clause-exact : goal.returns-in-Some-Sign-clause-exact
returns-in-Some-Sign-clause-exact g c = c.first_sign.ensures.exact

pub returns-in-None-clause-exact : goal.returns-in-None-clause-exact
returns-in-None-clause-exact g c =
    let end : kind_at c.args.self.now.tokens.list.now c.args.from ≡ None = first_of (search rules, grind arith) in
    refused_at c.args.self.now.tokens c.args.from c.unexpected.result refl c.unexpected.ensures.value
    (exact.end_begins_none c.args.self.now.tokens c.args.self.now.scope (where_of c.args.around) c.args.from end)
