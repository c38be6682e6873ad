use Rattle.std.proofs.lemmas.Result.{IfOk-weaker}
use Rattle.sa_parser.specs.Statements as stmts
use Rattle.std.proofs.Common.{◌≡◌, Some, arith, rules, ◌⊎◌, ap, ◌∙◌}
use Rattle.sa_lexer.specs.declared.token.TokenKind.TheVariants as token
use Rattle.sa_lexer.specs.declared.word.Word.TheVariants as word
use Rattle.sa_parser_expr.specs.Positions.{kind_at}
use Rattle.sa_parser.proofs.ExactStatements.{instead}
use Rattle.sa_parser.proofs.ExactBodies as exact
use Rattle.sa_parser.proofs.body.Stmts.stmt.Goals as goal
use Rattle.sa_parser.proofs.body.Stmts.stmt.Goals.{in_default-via-in-Some+in-Word+in_default, in_default-via-in-Some+in_default, in_default-via-in_default}

pub returns-in-Some-Word-Return-clause-spelled : goal.returns-in-Some-Word-Return-clause-spelled
returns-in-Some-Word-Return-clause-spelled g c = IfOk-weaker c.leave.result _ _ (λ read is. stmts.leave is) c.leave.ensures.spelled

pub returns-in_default-clause-spelled : goal.returns-in_default-clause-spelled
returns-in_default-clause-spelled g c = IfOk-weaker c.simple.result _ _ (λ read is. stmts.simple is) c.simple.ensures.spelled

pub returns-in-Some-Word-If-clause-exact : goal.returns-in-Some-Word-If-clause-exact
returns-in-Some-Word-If-clause-exact g c =
    let t = c.args.self.now.tokens in
    let there : kind_at t.list.now c.args.from ≡ Some (token.Word word.If) = grind arith in
    instead t (λ v r. exact.of_if t c.args.from there r) c.if_block.result c.if_block.ensures.exact

pub returns-in-Some-Word-Loop-clause-exact : goal.returns-in-Some-Word-Loop-clause-exact
returns-in-Some-Word-Loop-clause-exact g c =
    let t = c.args.self.now.tokens in
    let there : kind_at t.list.now c.args.from ≡ Some (token.Word word.Loop) = grind arith in
    instead t (λ v r. exact.of_loop t c.args.from there r) c.loop_block.result c.loop_block.ensures.exact

pub returns-in-Some-Word-Case-clause-exact : goal.returns-in-Some-Word-Case-clause-exact
returns-in-Some-Word-Case-clause-exact g c =
    let t = c.args.self.now.tokens in
    let there : kind_at t.list.now c.args.from ≡ Some (token.Word word.Case) = grind arith in
    instead t (λ v r. exact.of_case t c.args.from there r) c.case_block.result c.case_block.ensures.exact

pub returns-in-Some-Word-Typecase-clause-exact : goal.returns-in-Some-Word-Typecase-clause-exact
returns-in-Some-Word-Typecase-clause-exact g c =
    let t = c.args.self.now.tokens in
    let there : kind_at t.list.now c.args.from ≡ Some (token.Word word.Typecase) = grind arith in
    instead t (λ v r. exact.of_typecase t c.args.from there r) c.typecase_block.result c.typecase_block.ensures.exact

pub returns-in-Some-Word-Protect-clause-exact : goal.returns-in-Some-Word-Protect-clause-exact
returns-in-Some-Word-Protect-clause-exact g c =
    let t = c.args.self.now.tokens in
    let there : kind_at t.list.now c.args.from ≡ Some (token.Word word.Protect) = grind arith in
    instead t (λ v r. exact.of_protect t c.args.from there r) c.protect_block.result c.protect_block.ensures.exact

pub returns-in-Some-Word-Return-clause-exact : goal.returns-in-Some-Word-Return-clause-exact
returns-in-Some-Word-Return-clause-exact g c =
    let t = c.args.self.now.tokens in
    let kind = c.in-Some-Word-Return.field-0.now in
    let found : kind_at t.list.now c.args.from ≡ Some kind = first_of (search rules, grind arith) in
    let w = c.in-Some-Word-Return.field-0-0 in
    let words : (w ≡ word.Return) ⊎ ((w ≡ word.Yield) ⊎ ((w ≡ word.Quit) ⊎ ((w ≡ word.Raise) ⊎ (w ≡ word.Assert)))) = first_of (assumption c.in-Some-Word-Return, search rules, grind arith) in
    instead t (λ v r. exact.of_leave t w c.args.from (exact.leaves t w words) (found ∙ ap (λ of. Some of) c.in-Some-Word-Return.field-0-is) r) c.leave.result c.leave.ensures.exact

pub returns-in_default-clause-exact : goal.returns-in_default-clause-exact
returns-in_default-clause-exact g c =
    let t = c.args.self.now.tokens in
    instead t
    (λ v r. elim c.in_default.branch [
      | in_default-via-in-Some+in-Word+in_default w ↦ exact.of_simple t c.args.from (search rules) (search rules) (search rules) (search rules) (search rules) (search rules) (search rules) (search rules) (search rules) (search rules) r
      | in_default-via-in-Some+in_default w ↦ exact.of_simple t c.args.from (search rules) (search rules) (search rules) (search rules) (search rules) (search rules) (search rules) (search rules) (search rules) (search rules) r
      | in_default-via-in_default w ↦ exact.of_simple t c.args.from (search rules) (search rules) (search rules) (search rules) (search rules) (search rules) (search rules) (search rules) (search rules) (search rules) r
    ])
    c.simple.result c.simple.ensures.exact
