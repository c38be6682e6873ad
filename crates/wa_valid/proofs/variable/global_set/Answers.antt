use Rattle.std.proofs.Common.{◌≡◌, List, Err, refl, ap, ◌∙◌, rules}
use Rattle.std.specs.Prelude.{slice_get}
use Rattle.wa_syntax.specs.declared.module.GlobalTy.{GlobalTy}
use Rattle.wa_valid.specs.Operands.{stack}
use Rattle.wa_valid.proofs.Steps.{not_ok}
use Rattle.wa_valid.proofs.Typed.{typed-GlobalSet, untyped-GlobalSet, constant-GlobalSet}
use Rattle.wa_valid.proofs.variable.global_set.Goals as goal

pub returns-in_err-ty : goal.returns-in_err-ty
returns-in_err-ty c = λ ctx same.
    let off : c.from_residual.result ≡ Err c.in_err-ty.field-0.0 = search rules in (
      λ ok. absurd (not_ok c.from_residual.result c.in_err-ty.field-0.0 off ok),
      λ is. untyped-GlobalSet ctx c.args.global (stack c.args.operands.now) (ap (λ (all : List GlobalTy). slice_get all c.args.global) same ∙ c.in_err-ty.ensures.err.1),
    )

pub returns-in_err-require : goal.returns-in_err-require
returns-in_err-require c = λ ctx same.
    let off : c.from_residual-in_err-require.result ≡ Err c.in_err-require.field-0.0 = search rules in (
      λ ok. absurd (not_ok c.from_residual-in_err-require.result c.in_err-require.field-0.0 off ok),
      λ is. constant-GlobalSet ctx c.args.global c.in_ok-ty.ty (stack c.args.operands.now) (ap (λ (all : List GlobalTy). slice_get all c.args.global) same ∙ c.in_ok-ty.ensures.ok) (c.in_err-require.ensures.1 (cc)),
    )

pub returns : goal.returns
returns c = λ ctx same.
    typed-GlobalSet ctx c.args.global c.in_ok-ty.ty (stack c.args.operands.now) (stack c.apply.new.self) c.apply.result (ap (λ (all : List GlobalTy). slice_get all c.args.global) same ∙ c.in_ok-ty.ensures.ok) (c.in_ok-require.ensures.0 refl) c.apply.ensures
