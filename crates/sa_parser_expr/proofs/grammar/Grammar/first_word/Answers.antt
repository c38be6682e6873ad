use Rattle.std.proofs.Common.{◌≡◌, inl, inr, arith, true, false, refl, rules}
use Rattle.sa_lexer.specs.declared.token.TokenKind.TheVariants as token
use Rattle.sa_lexer.specs.declared.word.Word.TheVariants as word
use Rattle.sa_ast.specs.declared.expr.Expr.TheVariants as tree
use Rattle.sa_parser_expr.specs.Expressions as exprs
use Rattle.sa_parser_expr.proofs.SpelledExpressions.{word_alone}
use Rattle.sa_parser_expr.proofs.Alternatives.{alike}
use Rattle.sa_parser_expr.proofs.ExactFirsts as exact
use Rattle.sa_parser_expr.proofs.Runs.{refused_at}
use Rattle.sa_parser_expr.specs.Enclosures.{where_of}
use Rattle.sa_parser_expr.specs.Starts.{word_begins_type}
use Rattle.sa_parser_expr.proofs.grammar.Grammar.first_word.Goals as goal
use Rattle.sa_parser_expr.proofs.grammar.Grammar.first_word.Goals.{in_default-via-in-Result+else-eq, in_default-via-in-Initial+else-eq-2, in_default-via-in_default}

pub returns-in-True-clause-spelled : goal.returns-in-True-clause-spelled
returns-in-True-clause-spelled g c = λ around. word_alone c.args.self.now.tokens c.args.self.now.scope around c.args.from word.True (tree.Bool true) _ (rw c.in-True.is at c.requires.there) (search rules) (exprs.true_word (record { kind = refl }))

pub returns-in-False-clause-spelled : goal.returns-in-False-clause-spelled
returns-in-False-clause-spelled g c = λ around. word_alone c.args.self.now.tokens c.args.self.now.scope around c.args.from word.False (tree.Bool false) _ (rw c.in-False.is at c.requires.there) (search rules) (exprs.false_word (record { kind = refl }))

pub returns-in-SelfWord-clause-spelled : goal.returns-in-SelfWord-clause-spelled
returns-in-SelfWord-clause-spelled g c = λ around. word_alone c.args.self.now.tokens c.args.self.now.scope around c.args.from word.SelfWord tree.SelfRef _ (rw c.in-SelfWord.is at c.requires.there) (search rules) (exprs.self_word (record { kind = refl }))

pub returns-in-Exception-clause-spelled : goal.returns-in-Exception-clause-spelled
returns-in-Exception-clause-spelled g c = λ around. word_alone c.args.self.now.tokens c.args.self.now.scope around c.args.from word.Exception tree.Exception _ (rw c.in-Exception.is at c.requires.there) (search rules) (exprs.exception_word (record { kind = refl }))

pub returns-in-True-clause-exact : goal.returns-in-True-clause-exact
returns-in-True-clause-exact g c = λ around.
    exact.true_word c.args.self.now.tokens c.args.self.now.scope (where_of around) c.args.from _ (rw c.in-True.is at c.requires.there)
    (search rules)

pub returns-in-False-clause-exact : goal.returns-in-False-clause-exact
returns-in-False-clause-exact g c = λ around.
    exact.false_word c.args.self.now.tokens c.args.self.now.scope (where_of around) c.args.from _ (rw c.in-False.is at c.requires.there)
    (search rules)

pub returns-in-SelfWord-clause-exact : goal.returns-in-SelfWord-clause-exact
returns-in-SelfWord-clause-exact g c = λ around.
    exact.self_word c.args.self.now.tokens c.args.self.now.scope (where_of around) c.args.from _ (rw c.in-SelfWord.is at c.requires.there)
    (search rules)

pub returns-in-Exception-clause-exact : goal.returns-in-Exception-clause-exact
returns-in-Exception-clause-exact g c = λ around.
    exact.exception_word c.args.self.now.tokens c.args.self.now.scope (where_of around) c.args.from _
    (rw c.in-Exception.is at c.requires.there) (search rules)

pub returns-in-Same-clause-exact : goal.returns-in-Same-clause-exact
returns-in-Same-clause-exact g c = λ around.
    let begins : word_begins_type c.args.word ≡ true = first_of (cc, search rules, grind arith) in
    alike c.args.self.now.tokens c.class_call.result
    (λ v r. exact.class_call c.args.self.now.tokens c.args.self.now.scope (where_of around) c.args.from
    (token.Word c.args.word) c.requires.there begins r)
    c.class_call.ensures.exact

pub returns-in-Result-clause-exact : goal.returns-in-Result-clause-exact
returns-in-Result-clause-exact g c = c.result_word.ensures.exact

pub returns-in-Initial-clause-exact : goal.returns-in-Initial-clause-exact
returns-in-Initial-clause-exact g c = c.initial.ensures.exact

pub returns-in_default-clause-exact : goal.returns-in_default-clause-exact
returns-in_default-clause-exact g c = λ around.
    refused_at c.args.self.now.tokens c.args.from c.unexpected.result refl c.unexpected.ensures.value
    (elim c.in_default.branch [
      | in_default-via-in-Result+else-eq w ↦
          exact.no_post c.args.self.now.tokens c.args.self.now.scope (where_of around) c.args.from c.args.word c.requires.there
          (search rules) (inl (search rules))
      | in_default-via-in-Initial+else-eq-2 w ↦
          exact.no_post c.args.self.now.tokens c.args.self.now.scope (where_of around) c.args.from c.args.word c.requires.there
          (search rules) (inr (search rules))
      | in_default-via-in_default w ↦
          exact.no_word c.args.self.now.tokens c.args.self.now.scope (where_of around) c.args.from c.args.word c.requires.there (record {
            no_true = search rules;
            no_false = search rules;
            no_self = search rules;
            no_exception = search rules;
            no_void = search rules;
            no_new = search rules;
            no_bind = search rules;
            no_same = search rules;
            no_rout = search rules;
            no_iter = search rules;
            no_result = search rules;
            no_initial = search rules;
          })
    ])
