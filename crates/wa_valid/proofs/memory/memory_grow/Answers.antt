use Rattle.std.proofs.Common.{◌≡◌, ◌<◌, Err, rules}
use Rattle.wa_valid.specs.Operands.{stack}
use Rattle.wa_valid.proofs.Steps.{not_ok}
use Rattle.wa_valid.proofs.Typed.{typed-MemoryGrow, untyped-MemoryGrow}
use Rattle.wa_valid.proofs.memory.memory_grow.Goals as goal

pub returns-in_err-require : goal.returns-in_err-require
returns-in_err-require c = λ ctx same.
    let off : c.from_residual.result ≡ Err c.in_err-require.field-0.0 = search rules in (
      λ ok. absurd (not_ok c.from_residual.result c.in_err-require.field-0.0 off ok),
      λ is. untyped-MemoryGrow ctx (stack c.args.operands.now) (λ some. c.in_err-require.ensures.1 (cc) (search rules)),
    )

pub returns : goal.returns
returns c = λ ctx same.
    let memory : 0 < ctx.memories = rw same (search rules) in
    typed-MemoryGrow ctx (stack c.args.operands.now) (stack c.apply.new.self) c.apply.result memory c.apply.ensures
