use Rattle.std.proofs.Common.{refl, arith, rules}
use Rattle.wa_syntax.specs.declared.instr.Instr.TheOpen.{Instr-F}
use Rattle.wa_syntax.specs.declared.instr.Instr.TheVariants as i
use Rattle.wa_syntax.specs.Formats.{u32}
use Rattle.wa_syntax.specs.BinaryInstructions.{IsAccess, IsOfMemory}
use Rattle.wa_decode.proofs.Layers.{following-ok, following-err, instr-ok, instr-err, instr-none, memory-none, arm-access, arm-memory, zero-ok, zero-err}
use Rattle.wa_decode.proofs.Reading.{pair-ok, pair-err, pair-none, returned}
use Rattle.wa_decode.proofs.instruction.memory.Goals.{in_default-via-then-opcode-lt63, in_default-via-else-opcode-lt63+else-opcode-lt65}
use Rattle.wa_decode.proofs.instruction.memory.Goals as goal

pub returns-in_err-align-clause-reads : goal.returns-in_err-align-clause-reads
returns-in_err-align-clause-reads c = λ levels.
    let access : IsAccess c.args.opcode = search rules in
    returned _ c.from_residual.ensures.1
    (instr-err levels (λ Body. following-err c.args.opcode (λ u. Instr-F.Memory c.args.opcode u.0 u.1) (arm-access Body c.args.opcode access) refl (pair-none u32 c.in_err-align.ensures.reads)))

pub returns-in_err-offset-clause-reads : goal.returns-in_err-offset-clause-reads
returns-in_err-offset-clause-reads c = λ levels.
    let access : IsAccess c.args.opcode = search rules in
    returned _ c.from_residual-in_err-offset.ensures.1
    (instr-err levels (λ Body.
    following-err c.args.opcode (λ u. Instr-F.Memory c.args.opcode u.0 u.1) (arm-access Body c.args.opcode access) refl (pair-err c.in_ok-align.ensures.reads c.in_err-offset.ensures.reads)))

pub returns-then-is_access-clause-reads : goal.returns-then-is_access-clause-reads
returns-then-is_access-clause-reads c = λ levels.
    let access : IsAccess c.args.opcode = search rules in
    instr-ok levels (Instr-F.Memory c.args.opcode c.in_ok-align.align c.in_ok-offset.offset) _ (i.rolls-Memory c.args.opcode c.in_ok-align.align c.in_ok-offset.offset)
    (λ Body.
    following-ok c.args.opcode (λ u. Instr-F.Memory c.args.opcode u.0 u.1) (arm-access Body c.args.opcode access) refl (pair-ok c.in_ok-align.ensures.reads c.in_ok-offset.ensures.reads))

pub returns-in_err-end-in-63-clause-reads : goal.returns-in_err-end-in-63-clause-reads
returns-in_err-end-in-63-clause-reads c = λ levels.
    let memory : IsOfMemory c.args.opcode = search rules in
    returned _ c.from_residual-in_err-end-in-63.ensures.1
    (instr-err levels (λ Body. following-err c.args.opcode (λ u. Instr-F.Plain c.args.opcode) (arm-memory Body c.args.opcode memory) refl (zero-err c.in_err-end-in-63.ensures.reads)))

pub returns-in_ok-end-in-63-clause-reads : goal.returns-in_ok-end-in-63-clause-reads
returns-in_ok-end-in-63-clause-reads c = λ levels.
    let memory : IsOfMemory c.args.opcode = search rules in
    instr-ok levels (Instr-F.Plain c.args.opcode) _ (i.rolls-Plain c.args.opcode)
    (λ Body. following-ok c.args.opcode (λ u. Instr-F.Plain c.args.opcode) (arm-memory Body c.args.opcode memory) refl (zero-ok c.in_ok-end-in-63.ensures.reads))

pub returns-in_default-clause-reads : goal.returns-in_default-clause-reads
returns-in_default-clause-reads c = λ levels.
    instr-none levels (memory-none c.args.opcode c.requires.opcode.0 (elim c.in_default.branch [ in_default-via-then-opcode-lt63 w ↦ omega arith | in_default-via-else-opcode-lt63+else-opcode-lt65 w ↦ omega arith ]) (λ access. search rules))
