use Rattle.std.proofs.Common.{None, refl, arith, rules, ◌≡◌, ◌≢◌, ◌+◌, Some}
use Rattle.sa_lexer.specs.declared.word.Word.TheVariants as word
use Rattle.sa_ast.specs.declared.expr.Expr.TheVariants as tree
use Rattle.sa_parser_expr.specs.Expressions as exprs
use Rattle.sa_parser_expr.proofs.SpelledExpressions.{word_alone, new_of}
use Rattle.sa_parser_expr.proofs.ExactFirsts as exact
use Rattle.sa_parser_expr.proofs.Runs.{handed_on, stops}
use Rattle.sa_lexer.specs.declared.token.TokenKind.TheVariants as token
use Rattle.sa_lexer.specs.declared.sign.Sign.TheVariants as sign
use Rattle.sa_parser_expr.specs.Positions.{kind_at}
use Rattle.sa_parser_expr.specs.Enclosures.{where_of}
use Rattle.sa_parser_expr.specs.ExpressionForms.{parenthesised_form}
use Rattle.sa_parser_expr.proofs.grammar.Grammar.new.Goals as goal

pub returns-then-not-is_sign-clause-spelled : goal.returns-then-not-is_sign-clause-spelled
returns-then-not-is_sign-clause-spelled g c = λ around. word_alone c.args.self.now.tokens c.args.self.now.scope around c.args.from word.New (tree.New None) _ c.requires.there (search rules) (exprs.new_word (record { kind = refl }))

pub returns-clause-spelled : goal.returns-clause-spelled
returns-clause-spelled g c = λ around.
    let count = c.in_ok-count.ensures in
    new_of c.args.self.now.tokens c.args.self.now.scope around c.args.from _ _ _ _ c.requires.there count.spelled (omega (arith, count.next.0)) (search rules) (search rules)

pub returns-then-not-is_sign-clause-exact : goal.returns-then-not-is_sign-clause-exact
returns-then-not-is_sign-clause-exact g c = λ around.
    let other : kind_at c.args.self.now.tokens.list.now (c.args.from + 1) ≢ Some (token.Sign sign.LeftParen) = search rules in
    exact.new_alone c.args.self.now.tokens c.args.self.now.scope (where_of around) c.args.from _ c.requires.there (search rules) other

pub returns-in_err-count-clause-exact : goal.returns-in_err-count-clause-exact
returns-in_err-count-clause-exact g c = λ around.
    let opening : kind_at c.args.self.now.tokens.list.now (c.args.from + 1) ≡ Some (token.Sign sign.LeftParen) = search rules in
    handed_on c.args.self.now.tokens (parenthesised_form c.args.self.now.scope) (c.args.from + 1) _
    (search rules) c.in_err-count.ensures.exact
    (λ rest r. exact.new_of c.args.self.now.tokens c.args.self.now.scope (where_of around) c.args.from c.requires.there opening
    (stops c.args.self.now.tokens r))

pub returns-clause-exact : goal.returns-clause-exact
returns-clause-exact g c = λ around.
    let opening : kind_at c.args.self.now.tokens.list.now (c.args.from + 1) ≡ Some (token.Sign sign.LeftParen) = search rules in
    exact.new_with c.args.self.now.tokens c.args.self.now.scope (where_of around) c.args.from _ _ _ _ c.requires.there
    (search rules) opening c.in_ok-count.ensures.exact (search rules)
