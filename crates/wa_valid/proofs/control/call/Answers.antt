use Rattle.std.proofs.Common.{ℕ, List, ap, ◌∙◌}
use Rattle.std.specs.Prelude.{slice_get}
use Rattle.wa_syntax.specs.declared.module.FuncTy.{FuncTy}
use Rattle.wa_valid.specs.Operands.{stack}
use Rattle.wa_valid.proofs.Typed.{typed-Call}
use Rattle.wa_valid.proofs.control.call.Goals as goal

pub returns : goal.returns
returns c = λ ctx same_funcs same_types.
    typed-Call ctx c.args.func c.in_ok-number.number c.in_ok-ty.ty.now (stack c.args.operands.now) (stack c.call_of.new.operands) c.call_of.result
    (ap (λ (all : List ℕ). slice_get all c.args.func) same_funcs ∙ c.in_ok-number.ensures.ok)
    (ap (λ (all : List FuncTy). slice_get all c.in_ok-number.number) same_types ∙ c.in_ok-ty.ensures.ok)
    c.call_of.ensures
