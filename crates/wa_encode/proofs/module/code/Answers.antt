use Rattle.std.proofs.Common.{List, [], sym, subst}
use Rattle.std.proofs.lemmas.Result.{on_ok_weaker}
use Rattle.wa_syntax.specs.declared.instr.Instr.{Instr}
use Rattle.wa_syntax.specs.Formats.{◌then◌}
use Rattle.wa_syntax.specs.Binary.{locals}
use Rattle.wa_syntax.specs.BinaryInstructions.{expr, max_nesting}
use Rattle.wa_encode.specs.Spelling.{Adds}
use Rattle.wa_encode.proofs.Adding.{Adds-between, Adds-then}
use Rattle.wa_encode.proofs.Productions.{Adds-sized}
use Rattle.wa_encode.proofs.module.code.Goals as goal

pub returns : goal.returns
returns c =
    let body = subst (λ (instrs : List Instr). Adds (expr instrs) c.locals.new.out.items c.expression.new.out.items) c.as_slice.ensures (c.in_ok-expression.ensures max_nesting) in
    let content = Adds-between [] c.as_slice-2.result.now c.new-content.ensures.items (sym c.as_slice-2.ensures.value) (Adds-then c.in_ok-locals.ensures body) in
    on_ok_weaker _ (Adds-sized (locals c.args.func.now.locals then expr c.args.func.now.body) _ _ _ content) c.bytes.ensures
