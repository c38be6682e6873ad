use Rattle.std.proofs.Common.{◌≡◌, refl, arith, rules, ◌+◌}
use Rattle.std.proofs.lemmas.Result.{IfOk-weaker}
use Rattle.sa_lexer.specs.declared.sign.Sign.TheVariants as sign
use Rattle.sa_parser_expr.specs.declared.grammar.Enclosure.TheVariants as around
use Rattle.sa_parser_expr.specs.Expressions as exprs
use Rattle.sa_parser_expr.proofs.SpelledExpressions.{index_on_self}
use Rattle.sa_parser_expr.proofs.Alternatives.{alike}
use Rattle.sa_parser_expr.proofs.ExactFirsts as exact
use Rattle.sa_parser_expr.proofs.Runs.{handed_on, refused_at, stops}
use Rattle.sa_parser_expr.specs.Enclosures.{where_of}
use Rattle.sa_parser_expr.specs.ExpressionForms.{indices_form}
use Rattle.sa_parser_expr.proofs.grammar.Grammar.first_sign.Goals as goal
use Rattle.sa_parser_expr.proofs.grammar.Grammar.first_sign.Goals.{in_default-via-in-Bar+else-eq, in_default-via-in_default}

pub returns-in-LeftParen-clause-spelled : goal.returns-in-LeftParen-clause-spelled
returns-in-LeftParen-clause-spelled g c = IfOk-weaker c.parenthesised.result _ _ (λ read is. exprs.parenthesised is) c.parenthesised.ensures.spelled

pub returns-in-Hash-clause-spelled : goal.returns-in-Hash-clause-spelled
returns-in-Hash-clause-spelled g c = c.create.ensures.spelled c.args.around

pub returns-in_ok-places-in-LeftBracket-clause-spelled : goal.returns-in_ok-places-in-LeftBracket-clause-spelled
returns-in_ok-places-in-LeftBracket-clause-spelled g c =
    let places = c.in_ok-places-in-LeftBracket.ensures in
    index_on_self c.args.self.now.tokens c.args.self.now.scope c.args.around c.args.from _ _ _ (rw c.in-LeftBracket.is at c.requires.there) places.spelled (omega (arith, places.next.0)) (search rules)

pub returns-in-Bar-clause-spelled : goal.returns-in-Bar-clause-spelled
returns-in-Bar-clause-spelled g c =
    let open_around : c.args.around ≡ around.Open = search rules in
    rw open_around c.items.ensures.spelled

pub returns-in-LeftParen-clause-exact : goal.returns-in-LeftParen-clause-exact
returns-in-LeftParen-clause-exact g c =
    alike c.args.self.now.tokens c.parenthesised.result
    (λ v r. exact.parenthesised c.args.self.now.tokens c.args.self.now.scope (where_of c.args.around) c.args.from
    (rw c.in-LeftParen.is at c.requires.there) r)
    c.parenthesised.ensures.exact

pub returns-in-Hash-clause-exact : goal.returns-in-Hash-clause-exact
returns-in-Hash-clause-exact g c = c.create.ensures.exact c.args.around

pub returns-in_err-places-in-LeftBracket-clause-exact : goal.returns-in_err-places-in-LeftBracket-clause-exact
returns-in_err-places-in-LeftBracket-clause-exact g c =
    handed_on c.args.self.now.tokens (indices_form c.args.self.now.scope) (c.args.from + 1) _
    (search rules) c.in_err-places-in-LeftBracket.ensures.exact
    (λ rest r. exact.behind_bracket c.args.self.now.tokens c.args.self.now.scope (where_of c.args.around) c.args.from
    (rw c.in-LeftBracket.is at c.requires.there) (stops c.args.self.now.tokens r))

pub returns-in_ok-places-in-LeftBracket-clause-exact : goal.returns-in_ok-places-in-LeftBracket-clause-exact
returns-in_ok-places-in-LeftBracket-clause-exact g c =
    exact.index c.args.self.now.tokens c.args.self.now.scope (where_of c.args.around) c.args.from _ _ _
    (rw c.in-LeftBracket.is at c.requires.there) (search rules)
    c.in_ok-places-in-LeftBracket.ensures.exact

pub returns-in-Bar-clause-exact : goal.returns-in-Bar-clause-exact
returns-in-Bar-clause-exact g c =
    let open_around : c.args.around ≡ around.Open = search rules in
    rw open_around c.items.ensures.exact

pub returns-in_default-clause-exact : goal.returns-in_default-clause-exact
returns-in_default-clause-exact g c =
    refused_at c.args.self.now.tokens c.args.from c.unexpected.result refl c.unexpected.ensures.value
    (elim c.in_default.branch [
      | in_default-via-in-Bar+else-eq w ↦
          let bar : c.args.sign ≡ sign.Bar = search rules in
          exact.no_items c.args.self.now.tokens c.args.self.now.scope c.args.around c.args.from (rw bar at c.requires.there) (search rules)
      | in_default-via-in_default w ↦
          exact.no_sign c.args.self.now.tokens c.args.self.now.scope (where_of c.args.around) c.args.from c.args.sign c.requires.there
          (search rules) (search rules) (search rules) (search rules)
    ])
