use Rattle.std.proofs.Common.{◌≡◌, [], Err, refl, sym, ◌∙◌, rules}
use Rattle.std.specs.Prelude.{option_to_list}
use Rattle.wa_valid.specs.Operands.{stack}
use Rattle.wa_valid.proofs.Steps.{Leads-takes, IsStuck-takes, IsStuck-takes_first, not_ok}
use Rattle.wa_valid.proofs.operands.Operands.apply.Goals as goal

pub returns-in_err-pop_result : goal.returns-in_err-pop_result
returns-in_err-pop_result c =
    let off : c.from_residual.result ≡ Err c.in_err-pop_result.field-0.0 = search rules in (
      λ ok. absurd (not_ok c.from_residual.result c.in_err-pop_result.field-0.0 off ok),
      λ is. IsStuck-takes_first (option_to_list c.args.second) (option_to_list c.args.first) (option_to_list c.args.given) (stack c.args.self.now) (c.in_err-pop_result.ensures.1 (sym off ∙ is)),
    )

pub returns-in_err-pop_result-2 : goal.returns-in_err-pop_result-2
returns-in_err-pop_result-2 c =
    let off : c.from_residual-in_err-pop_result-2.result ≡ Err c.in_err-pop_result-2.field-0.0 = search rules in (
      λ ok. absurd (not_ok c.from_residual-in_err-pop_result-2.result c.in_err-pop_result-2.field-0.0 off ok),
      λ is. IsStuck-takes (option_to_list c.args.second) (option_to_list c.args.first) (option_to_list c.args.given) (stack c.args.self.now) (stack c.pop_result.new.self) (c.in_ok-pop_result.ensures.0 refl)
          (IsStuck-takes_first (option_to_list c.args.first) [] (option_to_list c.args.given) (stack c.pop_result.new.self) (c.in_err-pop_result-2.ensures.1 (sym off ∙ is))),
    )

pub returns : goal.returns
returns c = (
  λ ok. Leads-takes (option_to_list c.args.second) (option_to_list c.args.first) (option_to_list c.args.given) (stack c.args.self.now) (stack c.pop_result.new.self) (stack c.push_result.new.self) (c.in_ok-pop_result.ensures.0 refl)
      (Leads-takes (option_to_list c.args.first) [] (option_to_list c.args.given) (stack c.pop_result.new.self) (stack c.pop_result-2.new.self) (stack c.push_result.new.self) (c.in_ok-pop_result-2.ensures.0 refl) (c.push_result.ensures.0 ok)),
  λ is. IsStuck-takes (option_to_list c.args.second) (option_to_list c.args.first) (option_to_list c.args.given) (stack c.args.self.now) (stack c.pop_result.new.self) (c.in_ok-pop_result.ensures.0 refl)
      (IsStuck-takes (option_to_list c.args.first) [] (option_to_list c.args.given) (stack c.pop_result.new.self) (stack c.pop_result-2.new.self) (c.in_ok-pop_result-2.ensures.0 refl) (c.push_result.ensures.1 is)),
)
