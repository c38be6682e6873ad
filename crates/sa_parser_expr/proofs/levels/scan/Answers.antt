use Rattle.std.proofs.Common.{◌≡◌, reverse, sym, ap, refl, subst, ◌∙◌, arith}
use Rattle.sa_ast.specs.declared.refusal.Refusal.{Refusal}
use Rattle.sa_parser_expr.specs.Level.{level_of, IsFirstBreach}
use Rattle.sa_parser_expr.proofs.Taken.{counters_behind-none, counters_behind-step, AreTaken-none, AreTaken-more, IsFirstBreach-word, IsFirstBreach-level}
use Rattle.sa_parser_expr.proofs.levels.scan.Goals as goal

pub loop-token-init : goal.loop-token-init
loop-token-init c =
    let none : level_of (reverse c.new-levels.result.counters.items) ≡ 0 = ap level_of c.new-levels.ensures in
    record {
      counters = c.new-levels.ensures ∙ sym counters_behind-none;
      level = omega (arith, none, c.new-levels.result.sum);
      taken = AreTaken-none c.args.tokens.now;
    }

pub returns-then-is_refused-clause-refused : goal.returns-then-is_refused-clause-refused
returns-then-is_refused-clause-refused c =
    subst (λ (r : Refusal). IsFirstBreach c.args.tokens.now r × (r.pos.file ≡ c.args.file)) (sym c.at.ensures)
    (IsFirstBreach-word c.args.tokens.now c.loop-token.token-index c.token-item.result (omega arith) c.token-item.is c.args.file c.loop-token.invariant.taken (sym c.is_refused.ensures ∙ c.if-is_refused.true), refl)

pub returns-then-levels-gt-MAX_LEVEL-clause-refused : goal.returns-then-levels-gt-MAX_LEVEL-clause-refused
returns-then-levels-gt-MAX_LEVEL-clause-refused c =
    let tokens = c.args.tokens.now in
    let i = c.loop-token.token-index in
    let t = c.token-item.result in
    let counters = reverse c.step.new.self.counters.items in
    let following = counters_behind-step tokens i t (omega arith) c.token-item.is c.step_of.result (reverse c.loop-token.levels.counters.items) counters c.step_of.ensures c.in_ok-step.ensures c.loop-token.invariant.counters in
    subst (λ (r : Refusal). IsFirstBreach tokens r × (r.pos.file ≡ c.args.file)) (sym c.at-then-levels-gt-MAX_LEVEL.ensures)
    (IsFirstBreach-level tokens i t (omega arith) c.token-item.is c.args.file c.step.new.self.level counters c.loop-token.invariant.taken following c.step.new.self.sum (omega arith), refl)

pub loop-token-preserved : goal.loop-token-preserved
loop-token-preserved c =
    let tokens = c.args.tokens.now in
    let i = c.loop-token.token-index in
    let t = c.token-item.result in
    let counters = reverse c.step.new.self.counters.items in
    let following = counters_behind-step tokens i t (omega arith) c.token-item.is c.step_of.result (reverse c.loop-token.levels.counters.items) counters c.step_of.ensures c.in_ok-step.ensures c.loop-token.invariant.counters in
    record {
      counters = following;
      level = omega arith;
      taken = AreTaken-more tokens i t (omega arith) c.token-item.is c.step.new.self.level counters c.loop-token.invariant.taken (sym c.is_refused.ensures ∙ c.if-is_refused.false) following c.step.new.self.sum (omega arith);
    }
