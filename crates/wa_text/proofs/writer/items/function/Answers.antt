use Rattle.std.proofs.Common.{List, subst, refl}
use Rattle.std.proofs.lemmas.Result.{on_ok_weaker}
use Rattle.std.specs.Prelude.{codes}
use Rattle.wa_syntax.specs.declared.instr.Instr.{Instr}
use Rattle.wa_syntax.specs.declared.locals.LocalRun.{LocalRun}
use Rattle.std.specs.Prelude.{replicate}
use Rattle.wa_text.specs.Forms.{each}
use Rattle.wa_text.specs.Instructions.{expr, max_nesting}
use Rattle.wa_text.specs.Words.{val, word}
use Rattle.wa_text.specs.Writing.{AddsLines}
use Rattle.wa_text.proofs.Adding.{Adds-each-called, Adds-line, Adds-then}
use Rattle.wa_text.proofs.Productions.{Adds-locals}
use Rattle.wa_text.proofs.writer.items.function.Goals as goal

pub returns : goal.returns
returns c =
    let types = Adds-each-called (λ (run : LocalRun). each val (replicate run.count run.ty)) _ _ _ _ _ refl (λ old shown new k. k) c.in_ok-each.ensures in
    let head = Adds-line (word (codes "func")) _ (codes "func") _ _ _ _ (λ other same. same) c.in_ok-first.ensures (Adds-then c.in_ok-index.ensures (Adds-locals _ c.args.func.now.locals _ _ c.runs.ensures types)) c.in_ok-end_line.ensures in
    on_ok_weaker _ (λ last. Adds-then head (subst (λ (body : List Instr). AddsLines (expr body) c.end_line.new.out.items c.expression.new.out.items) c.as_slice.ensures (last max_nesting))) c.expression.ensures
