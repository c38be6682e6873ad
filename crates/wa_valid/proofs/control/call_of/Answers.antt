use Rattle.std.proofs.Common.{◌≡◌, [], Err, refl, rules}
use Rattle.wa_valid.specs.Operands.{stack}
use Rattle.wa_valid.proofs.Steps.{Answers-takes, IsStuck-takes_first, not_ok}
use Rattle.wa_valid.proofs.control.call_of.Goals as goal

pub returns-in_err-pop_all : goal.returns-in_err-pop_all
returns-in_err-pop_all c =
    let off : c.from_residual.result ≡ Err c.in_err-pop_all.field-0.0 = search rules in
    let params = c.args.func.now.params in (
      λ ok. absurd (not_ok c.from_residual.result c.in_err-pop_all.field-0.0 off ok),
      λ is. IsStuck-takes_first params [] c.args.func.now.results (stack c.args.operands.now) (rw c.as_slice.ensures at (c.in_err-pop_all.ensures.1 (cc))),
    )

pub returns : goal.returns
returns c =
    Answers-takes c.args.func.now.params c.args.func.now.results (stack c.args.operands.now) (stack c.pop_all.new.self) (stack c.push_all.new.self) c.push_all.result (rw c.as_slice.ensures at (c.in_ok-pop_all.ensures.0 refl)) (rw c.as_slice-2.ensures at c.push_all.ensures)
