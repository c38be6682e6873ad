use Rattle.std.proofs.Common.{◌≡◌, ℕ, ◌+◌, ◌-◌, ◌%◌, ◌<◌, [], ◌∷◌, ◌++◌, length, refl, ap, subst, ◌∙◌, arith, rules}
use Rattle.wa_exec.specs.Activations.{OnTop}
use Rattle.wa_exec.proofs.Frames.{arguments_count}
use Rattle.wa_exec.proofs.calls.CallStack.enter.Goals as goal

pub returns-clause-enters : goal.returns-clause-enters
returns-clause-enters c =
    let from = (c.args.self.now.height + (18446744073709551616 - c.args.body.params)) % 18446744073709551616 in
    let few : length c.args.self.now.callers.items < 40000 = omega arith in
    let pushed : c.push.new.self.items ≡ c.args.self.now.callers.items ++ (record { at = c.args.self.now.at; height = from }) ∷ [] = search rules in (
      few,
      record {
        callers = λ enough.
            (let below_is : from ≡ c.args.self.now.height - c.args.body.params = omega arith in
            pushed
            ∙ ap (λ (h : ℕ). c.args.self.now.callers.items ++ (record { at = c.args.self.now.at; height = h }) ∷ []) below_is);
        at = refl;
        height = refl;
        first = λ empty. search rules;
        opens = λ arguments stack below on long.
            (let enough = arguments_count c.args.self.now.region c.args.self.now.height c.args.body.params arguments stack below on long in
            let same : c.args.self.now.height ≡ from + c.args.body.params = omega arith in
            c.in_ok-open_frame.ensures.opens arguments stack below (subst (λ (h : ℕ). OnTop c.args.self.now.region h (arguments ++ stack) below) same on) long);
      },
    )
