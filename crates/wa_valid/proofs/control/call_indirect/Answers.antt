use Rattle.std.proofs.Common.{◌≡◌, ℕ, ◌<◌, List, [], ◌∷◌, Err, refl, sym, ap, subst, ◌∙◌, rules}
use Rattle.std.specs.Prelude.{slice_get}
use Rattle.wa_syntax.specs.declared.module.FuncTy.{FuncTy}
use Rattle.wa_syntax.specs.declared.module.ValTy.TheVariants.{I32}
use Rattle.wa_valid.specs.Operands.{stack}
use Rattle.wa_valid.proofs.Steps.{Answers-takes_more, not_ok}
use Rattle.wa_valid.proofs.Typed.{typed-CallIndirect, operandless-CallIndirect}
use Rattle.wa_valid.proofs.control.call_indirect.Goals as goal

pub returns-in_err-pop_result : goal.returns-in_err-pop_result
returns-in_err-pop_result c = λ ctx same_tables same_types.
    let off : c.from_residual-in_err-pop_result.result ≡ Err c.in_err-pop_result.field-0.0 = search rules in (
      λ ok. absurd (not_ok c.from_residual-in_err-pop_result.result c.in_err-pop_result.field-0.0 off ok),
      λ is. operandless-CallIndirect ctx c.args.number (stack c.args.operands.now) (c.in_err-pop_result.ensures.1 (cc)),
    )

pub returns : goal.returns
returns c = λ ctx same_tables same_types.
    let table : 0 < c.args.context.now.tables = search rules in
    typed-CallIndirect ctx c.args.number c.in_ok-ty.ty.now (stack c.args.operands.now) (stack c.call_of.new.operands) c.call_of.result
    (subst (λ (n : ℕ). 0 < n) (sym same_tables) table)
    (ap (λ (all : List FuncTy). slice_get all c.args.number) same_types ∙ c.in_ok-ty.ensures.ok)
    (Answers-takes_more (I32 ∷ []) c.in_ok-ty.ty.now.params c.in_ok-ty.ty.now.results (stack c.args.operands.now) (stack c.pop_result.new.self) (stack c.call_of.new.operands) c.call_of.result (c.in_ok-pop_result.ensures.0 refl) c.call_of.ensures)
