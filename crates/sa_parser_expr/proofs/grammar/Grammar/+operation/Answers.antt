-- What is read is spelled so: a case of the grammar at each return.
use Rattle.std.proofs.Common.{◌+◌, arith, rules}
use Rattle.std.proofs.lemmas.Result.{IfOk-weaker}
use Rattle.sa_parser_expr.specs.Enclosures.{where_of}
use Rattle.sa_parser_expr.specs.Exactly.{operators_of, operand_of}
use Rattle.sa_parser_expr.specs.Expressions as exprs
use Rattle.sa_parser_expr.proofs.ExactOperations as exact
use Rattle.sa_parser_expr.proofs.Runs.{handed_on}
use Rattle.sa_parser_expr.proofs.SpelledExpressions.{operation}
use Rattle.sa_parser_expr.proofs.grammar.Grammar.+operation.Goals as goal

pub operation-more-init : goal.operation-more-init
operation-more-init g t c = record {
  following = c.in_ok-left.ensures.next;
  spelled = exprs.operand c.in_ok-left.ensures.spelled;
  operated = exact.first_operand c.args.self.now.tokens _ _ c.in_ok-left.ensures.exact;
}

pub operation-more-preserved : goal.operation-more-preserved
operation-more-preserved g t c =
    let begun = c.more.invariant in
    let next = c.in_ok-right.ensures.next in
    let operators = operators_of c.args.precedence in
    let operator = exact.operates c.args.self.now.tokens operators c.more.next c.in-Some.op c.in-Some.ensures.exact in
    record {
      following = (omega (arith, begun.following.0, next.0), next.1);
      spelled = operation c.args.self.now.tokens c.args.self.now.scope c.args.precedence c.args.around c.args.from c.more.next _ c.in-Some.op _ _ _ begun.spelled c.in-Some.ensures.spelled c.in_ok-right.ensures.spelled (omega (arith, begun.following.0)) (omega (arith, next.0)) (first_of (cc, search rules, grind arith));
      operated = exact.next_operand c.args.self.now.tokens _ _ begun.operated operator c.in_ok-right.ensures.exact
          (first_of (cc, search rules, grind arith));
    }

pub operand-returns-in-Logical-clause-spelled : goal.operand-returns-in-Logical-clause-spelled
operand-returns-in-Logical-clause-spelled g t c = rw c.in-Logical.is (IfOk-weaker c.operation.result _ _ (λ read is. exprs.of_logical is) c.operation.ensures.spelled)

pub operand-returns-in-Comparing-clause-spelled : goal.operand-returns-in-Comparing-clause-spelled
operand-returns-in-Comparing-clause-spelled g t c = rw c.in-Comparing.is (IfOk-weaker c.operation-in-Comparing.result _ _ (λ read is. exprs.of_comparing is) c.operation-in-Comparing.ensures.spelled)

pub operand-returns-in-Adding-clause-spelled : goal.operand-returns-in-Adding-clause-spelled
operand-returns-in-Adding-clause-spelled g t c = rw c.in-Adding.is (IfOk-weaker c.operation-in-Adding.result _ _ (λ read is. exprs.of_adding is) c.operation-in-Adding.ensures.spelled)

pub operand-returns-in-Multiplying-clause-spelled : goal.operand-returns-in-Multiplying-clause-spelled
operand-returns-in-Multiplying-clause-spelled g t c = rw c.in-Multiplying.is (IfOk-weaker c.unary.result _ _ (λ read is. exprs.of_multiplying is) c.unary.ensures.spelled)

-- what is read is what the forms read: an operation continues from operand to operand

pub operation-returns-in_err-left-clause-exact : goal.operation-returns-in_err-left-clause-exact
operation-returns-in_err-left-clause-exact g t c =
    let scope = c.args.self.now.scope in
    handed_on c.args.self.now.tokens (operand_of c.args.precedence scope (where_of c.args.around)) c.args.from _ (search rules)
    c.in_err-left.ensures.exact
    (λ rest r. exact.no_first_operand c.args.self.now.tokens c.args.precedence scope (where_of c.args.around) r)

pub operation-returns-in_err-right-clause-exact : goal.operation-returns-in_err-right-clause-exact
operation-returns-in_err-right-clause-exact g t c =
    let scope = c.args.self.now.scope in
    let operators = operators_of c.args.precedence in
    let operator = exact.operates c.args.self.now.tokens operators c.more.next c.in-Some.op c.in-Some.ensures.exact in
    handed_on c.args.self.now.tokens (operand_of c.args.precedence scope (where_of c.args.around)) (c.more.next + 1) _ (search rules)
    c.in_err-right.ensures.exact
    (λ rest r. exact.no_next_operand c.args.self.now.tokens c.args.precedence scope (where_of c.args.around)
    c.more.invariant.operated operator r)

pub operation-returns-clause-exact : goal.operation-returns-clause-exact
operation-returns-clause-exact g t c =
    exact.all_operated c.args.self.now.tokens c.args.precedence c.args.self.now.scope (where_of c.args.around)
    c.more.invariant.operated (first_of (cc, search rules, grind arith))

pub operand-returns-in-Logical-clause-exact : goal.operand-returns-in-Logical-clause-exact
operand-returns-in-Logical-clause-exact g t c = rw c.in-Logical.is c.operation.ensures.exact

pub operand-returns-in-Comparing-clause-exact : goal.operand-returns-in-Comparing-clause-exact
operand-returns-in-Comparing-clause-exact g t c = rw c.in-Comparing.is c.operation-in-Comparing.ensures.exact

pub operand-returns-in-Adding-clause-exact : goal.operand-returns-in-Adding-clause-exact
operand-returns-in-Adding-clause-exact g t c = rw c.in-Adding.is c.operation-in-Adding.ensures.exact

pub operand-returns-in-Multiplying-clause-exact : goal.operand-returns-in-Multiplying-clause-exact
operand-returns-in-Multiplying-clause-exact g t c = rw c.in-Multiplying.is c.unary.ensures.exact
