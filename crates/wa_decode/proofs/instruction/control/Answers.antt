use Rattle.wa_syntax.specs.declared.instr.Instr.TheOpen.{Instr-F}
use Rattle.wa_syntax.specs.declared.instr.Instr.TheVariants as i
use Rattle.wa_decode.proofs.Layers.{following-ok, following-err, index-err, instr-ok, instr-err, control-indexed, arm-Br, arm-BrIf, arm-Call, arm-CallIndirect}
use Rattle.wa_decode.proofs.Reading.{closed, closed-err, returned}
use Rattle.wa_decode.proofs.instruction.control.Goals as goal

pub returns-then-opcode-eq-BR_TABLE-clause-reads : goal.returns-then-opcode-eq-BR_TABLE-clause-reads
returns-then-opcode-eq-BR_TABLE-clause-reads c = λ levels. rw c.if-opcode-eq-BR_TABLE.true (c.branch_table.ensures.reads levels)

pub returns-in_err-index-clause-reads : goal.returns-in_err-index-clause-reads
returns-in_err-index-clause-reads c = λ levels.
    let r = c.requires.opcode in
    let indexed = control-indexed c.args.opcode r.0 r.1 c.if-opcode-eq-BR_TABLE.false r.2 in
    returned _ c.from_residual.ensures.1 (instr-err levels (λ Body. index-err Body indexed c.in_err-index.ensures.reads))

pub returns-in_err-end-in-17-clause-reads : goal.returns-in_err-end-in-17-clause-reads
returns-in_err-end-in-17-clause-reads c = λ levels.
    returned _ c.from_residual-in_err-end-in-17.ensures.1
    (instr-err levels (λ Body.
    following-err 17 (λ x. Instr-F.CallIndirect x) (arm-CallIndirect Body) c.in-17.is (closed-err c.in_ok-index.ensures.reads c.in_err-end-in-17.ensures.reads)))

pub returns-in_ok-end-in-17-clause-reads : goal.returns-in_ok-end-in-17-clause-reads
returns-in_ok-end-in-17-clause-reads c = λ levels.
    instr-ok levels (Instr-F.CallIndirect c.in_ok-index.index) _ (i.rolls-CallIndirect c.in_ok-index.index)
    (λ Body.
    following-ok 17 (λ x. Instr-F.CallIndirect x) (arm-CallIndirect Body) c.in-17.is (closed c.in_ok-index.ensures.reads c.in_ok-end-in-17.ensures.reads))

pub returns-in-12-clause-reads : goal.returns-in-12-clause-reads
returns-in-12-clause-reads c = λ levels.
    instr-ok levels (Instr-F.Br c.in_ok-index.index) _ (i.rolls-Br c.in_ok-index.index)
    (λ Body. following-ok 12 (λ x. Instr-F.Br x) (arm-Br Body) c.in-12.is c.in_ok-index.ensures.reads)

pub returns-in-13-clause-reads : goal.returns-in-13-clause-reads
returns-in-13-clause-reads c = λ levels.
    instr-ok levels (Instr-F.BrIf c.in_ok-index.index) _ (i.rolls-BrIf c.in_ok-index.index)
    (λ Body. following-ok 13 (λ x. Instr-F.BrIf x) (arm-BrIf Body) c.in-13.is c.in_ok-index.ensures.reads)

pub returns-in-16-clause-reads : goal.returns-in-16-clause-reads
returns-in-16-clause-reads c = λ levels.
    instr-ok levels (Instr-F.Call c.in_ok-index.index) _ (i.rolls-Call c.in_ok-index.index)
    (λ Body. following-ok 16 (λ x. Instr-F.Call x) (arm-Call Body) c.in-16.is c.in_ok-index.ensures.reads)
