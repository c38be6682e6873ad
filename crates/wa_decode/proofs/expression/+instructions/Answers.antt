use Rattle.std.proofs.Common.{◌≡◌, ◌-◌, [], sym, ◌∙◌, arith, rules}
use Rattle.wa_syntax.specs.declared.instr.Instr.TheOpen.{Instr-F}
use Rattle.wa_syntax.specs.declared.instr.Instr.TheVariants as i
use Rattle.wa_syntax.specs.BinaryInstructions.{instr}
use Rattle.wa_syntax.specs.Formats.{each}
use Rattle.wa_decode.proofs.Arms.{arm-ok, arm-err, arms-unread}
use Rattle.wa_decode.proofs.Blocks.{opcode-any, instr-first, stopped-ok, stopped-err, stopped-none, end-stops_first, else_end-stops_first, arm-Block, arm-Loop, arm-If, if_opcode, level-ok, level-err, level-none, instr-stops, returned-up_to, end-ok, end-err, structured-err, else_end-first, arm-else, arm-no_else, mark-end, not_true}
use Rattle.wa_decode.proofs.Layers.{following-ok, following-err, none-reads}
use Rattle.wa_decode.proofs.OneInstruction.{the_end, else_end}
use Rattle.wa_decode.proofs.Reading.{pair, pair-ok, pair-err, pair-none, returned}
use Rattle.wa_decode.proofs.Sequences.{begun-more, begun-err, begun-done}
use Rattle.wa_decode.proofs.expression.+instructions.Goals as goal

pub instruction-returns-in_err-opcode-clause-reads : goal.instruction-returns-in_err-opcode-clause-reads
instruction-returns-in_err-opcode-clause-reads t c = returned _ c.from_residual.ensures.1 (arms-unread (instr-first c.args.levels) c.in_err-opcode.ensures.reads)

pub sequence-returns-in_err-instr-clause-reads : goal.sequence-returns-in_err-instr-clause-reads
sequence-returns-in_err-instr-clause-reads t c =
    returned-up_to _ c.from_residual.ensures.1 (begun-err (not_true c.stops.result c.stops.ensures.stops (search rules)) c.loop-alloc.invariant.row c.in_err-instr.ensures.reads)

pub sequence-returns-clause-reads : goal.sequence-returns-clause-reads
sequence-returns-clause-reads t c =
    let whole : c.from_vec.result ≡ c.loop-alloc.instrs.items = c.from_vec.ensures ∙ c.shrink_to_fit.ensures.items in
    rw whole (begun-done (instr-stops c.args.levels c.args.bytes.now) (search rules) c.loop-alloc.invariant.row)

pub structured-returns-then-levels-eq0-clause-reads : goal.structured-returns-then-levels-eq0-clause-reads
structured-returns-then-levels-eq0-clause-reads t c = level-none c.args.levels (search rules) c.requires.opcode.0 c.requires.opcode.1

pub structured-returns-in_err-ty-clause-reads : goal.structured-returns-in_err-ty-clause-reads
structured-returns-in_err-ty-clause-reads t c =
    let Body = each (instr (c.args.levels - 1)) in
    returned _ c.from_residual.ensures.1
    (level-err c.args.levels (omega arith) (structured-err Body c.requires.opcode.0 c.requires.opcode.1 (pair-none (pair Body (else_end Body)) c.in_err-ty.ensures.reads)))

pub structured-returns-in_err-body-clause-reads : goal.structured-returns-in_err-body-clause-reads
structured-returns-in_err-body-clause-reads t c =
    let Body = each (instr (c.args.levels - 1)) in
    returned _ c.from_residual-in_err-body.ensures.1
    (level-err c.args.levels (omega arith)
    (structured-err Body c.requires.opcode.0 c.requires.opcode.1
    (pair-err c.in_ok-ty.ensures.reads (stopped-none (else_end Body) (else_end-stops_first Body) c.in_err-body.ensures.reads))))

pub sequence-loop-alloc-preserved : goal.sequence-loop-alloc-preserved
sequence-loop-alloc-preserved t c =
    let pushed = c.in_ok-push.ensures.items in
    record {
      forward = omega (arith, c.loop-alloc.invariant.forward, c.in_ok-instr.ensures.ends.0);
      within = c.in_ok-instr.ensures.ends.1;
      row = rw pushed (begun-more (not_true c.stops.result c.stops.ensures.stops (search rules)) c.loop-alloc.invariant.row c.in_ok-instr.ensures.reads);
    }

pub instruction-returns-in-2-clause-reads : goal.instruction-returns-in-2-clause-reads
instruction-returns-in-2-clause-reads t c =
    opcode-any (instr-first c.args.levels) c.in_ok-opcode.ensures.reads c.structured.ensures.reads

pub instruction-returns-in_default-clause-reads : goal.instruction-returns-in_default-clause-reads
instruction-returns-in_default-clause-reads t c =
    opcode-any (instr-first c.args.levels) c.in_ok-opcode.ensures.reads (c.simple.ensures.reads c.args.levels)

pub structured-returns-in_err-expect-in-2-clause-reads : goal.structured-returns-in_err-expect-in-2-clause-reads
structured-returns-in_err-expect-in-2-clause-reads t c =
    let Body = each (instr (c.args.levels - 1)) in
    returned _ c.from_residual-in_err-expect-in-2.ensures.1
    (level-err c.args.levels (omega arith)
    (following-err 2 (λ u. Instr-F.Block u.0 u.1.0) (arm-Block Body) c.in-2.is
    (pair-err c.in_ok-ty.ensures.reads (stopped-err end-stops_first c.in_ok-body.ensures.reads (end-err c.in_err-expect-in-2.ensures.reads)))))

pub structured-returns-in_ok-expect-in-2-clause-reads : goal.structured-returns-in_ok-expect-in-2-clause-reads
structured-returns-in_ok-expect-in-2-clause-reads t c =
    let Body = each (instr (c.args.levels - 1)) in
    level-ok c.args.levels (Instr-F.Block c.in_ok-ty.ty c.in_ok-body.body) _ (omega arith) (i.rolls-Block c.in_ok-ty.ty c.in_ok-body.body ∙ sym c.in_ok-block_of-in-2.ensures)
    (following-ok 2 (λ u. Instr-F.Block u.0 u.1.0) (arm-Block Body) c.in-2.is
    (pair-ok c.in_ok-ty.ensures.reads (stopped-ok end-stops_first c.in_ok-body.ensures.reads (end-ok c.in_ok-expect-in-2.ensures.reads))))

pub structured-returns-in_err-expect-in-3-clause-reads : goal.structured-returns-in_err-expect-in-3-clause-reads
structured-returns-in_err-expect-in-3-clause-reads t c =
    let Body = each (instr (c.args.levels - 1)) in
    returned _ c.from_residual-in_err-expect-in-3.ensures.1
    (level-err c.args.levels (omega arith)
    (following-err 3 (λ u. Instr-F.Loop u.0 u.1.0) (arm-Loop Body) c.in-3.is
    (pair-err c.in_ok-ty.ensures.reads (stopped-err end-stops_first c.in_ok-body.ensures.reads (end-err c.in_err-expect-in-3.ensures.reads)))))

pub structured-returns-in_ok-expect-in-3-clause-reads : goal.structured-returns-in_ok-expect-in-3-clause-reads
structured-returns-in_ok-expect-in-3-clause-reads t c =
    let Body = each (instr (c.args.levels - 1)) in
    level-ok c.args.levels (Instr-F.Loop c.in_ok-ty.ty c.in_ok-body.body) _ (omega arith) (i.rolls-Loop c.in_ok-ty.ty c.in_ok-body.body ∙ sym c.in_ok-loop_of-in-3.ensures)
    (following-ok 3 (λ u. Instr-F.Loop u.0 u.1.0) (arm-Loop Body) c.in-3.is
    (pair-ok c.in_ok-ty.ensures.reads (stopped-ok end-stops_first c.in_ok-body.ensures.reads (end-ok c.in_ok-expect-in-3.ensures.reads))))

pub structured-returns-in_err-otherwise-in_default-clause-reads : goal.structured-returns-in_err-otherwise-in_default-clause-reads
structured-returns-in_err-otherwise-in_default-clause-reads t c =
    let Body = each (instr (c.args.levels - 1)) in
    returned _ c.from_residual-in_err-otherwise-in_default.ensures.1
    (level-err c.args.levels (omega arith)
    (structured-err Body c.requires.opcode.0 c.requires.opcode.1
    (pair-err c.in_ok-ty.ensures.reads (stopped-err (else_end-stops_first Body) c.in_ok-body.ensures.reads c.in_err-otherwise-in_default.ensures.reads))))

pub structured-returns-in_ok-if_of-in_default-clause-reads : goal.structured-returns-in_ok-if_of-in_default-clause-reads
structured-returns-in_ok-if_of-in_default-clause-reads t c =
    let Body = each (instr (c.args.levels - 1)) in
    let is = if_opcode c.args.opcode c.requires.opcode.0 c.requires.opcode.1 (λ e. search rules) (λ e. search rules) in
    level-ok c.args.levels (Instr-F.If c.in_ok-ty.ty (c.in_ok-body.body, c.in_ok-otherwise-in_default.otherwise)) _ (omega arith)
    (i.rolls-If c.in_ok-ty.ty (c.in_ok-body.body, c.in_ok-otherwise-in_default.otherwise) ∙ sym c.in_ok-if_of-in_default.ensures)
    (following-ok 4 (λ u. Instr-F.If u.0 u.1) (arm-If Body) is
    (pair-ok c.in_ok-ty.ensures.reads (stopped-ok (else_end-stops_first Body) c.in_ok-body.ensures.reads c.in_ok-otherwise-in_default.ensures.reads)))

pub alternative-returns-in_err-mark-clause-reads : goal.alternative-returns-in_err-mark-clause-reads
alternative-returns-in_err-mark-clause-reads t c =
    returned _ c.from_residual.ensures.1 (arms-unread (else_end-first (each (instr c.args.levels))) c.in_err-mark.ensures.reads)

pub alternative-returns-in_err-body-clause-reads : goal.alternative-returns-in_err-body-clause-reads
alternative-returns-in_err-body-clause-reads t c =
    let Body = each (instr c.args.levels) in
    returned _ c.from_residual-in_err-body.ensures.1
    (arm-err 5 (λ u. u.0) (else_end-first Body) (arm-else Body) c.in_ok-mark.ensures.reads c.if-mark-eq-ELSE.true
    (stopped-none the_end end-stops_first c.in_err-body.ensures.reads))

pub alternative-returns-in_err-end-clause-reads : goal.alternative-returns-in_err-end-clause-reads
alternative-returns-in_err-end-clause-reads t c =
    let Body = each (instr c.args.levels) in
    returned _ c.from_residual-in_err-end.ensures.1
    (arm-err 5 (λ u. u.0) (else_end-first Body) (arm-else Body) c.in_ok-mark.ensures.reads c.if-mark-eq-ELSE.true
    (stopped-err end-stops_first c.in_ok-body.ensures.reads (end-err c.in_err-end.ensures.reads)))

pub alternative-returns-in_ok-end-clause-reads : goal.alternative-returns-in_ok-end-clause-reads
alternative-returns-in_ok-end-clause-reads t c =
    let Body = each (instr c.args.levels) in
    arm-ok 5 (λ u. u.0) (else_end-first Body) (arm-else Body) c.in_ok-mark.ensures.reads c.if-mark-eq-ELSE.true
    (stopped-ok end-stops_first c.in_ok-body.ensures.reads (end-ok c.in_ok-end.ensures.reads))

pub alternative-returns-else-mark-eq-ELSE-clause-reads : goal.alternative-returns-else-mark-eq-ELSE-clause-reads
alternative-returns-else-mark-eq-ELSE-clause-reads t c =
    let Body = each (instr c.args.levels) in
    let is = mark-end c.requires.stops c.in_ok-mark.ensures.reads c.if-mark-eq-ELSE.false in
    rw c.new.ensures
    (arm-ok 11 (λ u. []) (else_end-first Body) (arm-no_else Body) c.in_ok-mark.ensures.reads is
    (none-reads c.args.bytes.now c.in_ok-mark.at c.in_ok-mark.ensures.ends.1))
