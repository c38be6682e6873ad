use Rattle.wa_syntax.specs.declared.instr.Instr.TheOpen.{Instr-F}
use Rattle.wa_syntax.specs.declared.instr.Instr.TheVariants as i
use Rattle.std.proofs.Common.{rules}
use Rattle.wa_decode.proofs.Layers.{constant-none, instr-none, following-ok, following-err, instr-ok, instr-err, arm-I32Const, arm-I64Const}
use Rattle.wa_decode.proofs.Reading.{returned}
use Rattle.wa_decode.proofs.instruction.constant.Goals as goal

pub returns-in_err-bits-in-65-clause-reads : goal.returns-in_err-bits-in-65-clause-reads
returns-in_err-bits-in-65-clause-reads c = λ levels.
    returned _ c.from_residual.ensures.1
    (instr-err levels (λ Body. following-err 65 (λ x. Instr-F.I32Const x) (arm-I32Const Body) c.in-65.is c.in_err-bits-in-65.ensures.reads))

pub returns-in_ok-bits-in-65-clause-reads : goal.returns-in_ok-bits-in-65-clause-reads
returns-in_ok-bits-in-65-clause-reads c = λ levels.
    instr-ok levels (Instr-F.I32Const c.in_ok-bits-in-65.bits) _ (i.rolls-I32Const c.in_ok-bits-in-65.bits)
    (λ Body. following-ok 65 (λ x. Instr-F.I32Const x) (arm-I32Const Body) c.in-65.is c.in_ok-bits-in-65.ensures.reads)

pub returns-in_err-bits-in-66-clause-reads : goal.returns-in_err-bits-in-66-clause-reads
returns-in_err-bits-in-66-clause-reads c = λ levels.
    returned _ c.from_residual-in_err-bits-in-66.ensures.1
    (instr-err levels (λ Body. following-err 66 (λ x. Instr-F.I64Const x) (arm-I64Const Body) c.in-66.is c.in_err-bits-in-66.ensures.reads))

pub returns-in_ok-bits-in-66-clause-reads : goal.returns-in_ok-bits-in-66-clause-reads
returns-in_ok-bits-in-66-clause-reads c = λ levels.
    instr-ok levels (Instr-F.I64Const c.in_ok-bits-in-66.bits) _ (i.rolls-I64Const c.in_ok-bits-in-66.bits)
    (λ Body. following-ok 66 (λ x. Instr-F.I64Const x) (arm-I64Const Body) c.in-66.is c.in_ok-bits-in-66.ensures.reads)

pub returns-in_default-clause-reads : goal.returns-in_default-clause-reads
returns-in_default-clause-reads c = λ levels.
    let r = c.requires.opcode in
    instr-none levels (constant-none c.args.opcode (search rules) r.0 r.1 r.2 r.3 r.4 (λ e. search rules) (λ e. search rules))
