use Rattle.wa_syntax.specs.declared.module.Init.TheVariants.{Const32, Const64, Global}
use Rattle.wa_decode.proofs.Arms.{arm-ok, arm-err, arms-unread}
use Rattle.wa_decode.proofs.ModuleParts.{init-first, init-const32, init-const64, init-global}
use Rattle.wa_decode.proofs.Reading.{returned}
use Rattle.wa_decode.proofs.segment.constant.Goals as goal

pub returns-in_err-opcode-clause-reads : goal.returns-in_err-opcode-clause-reads
returns-in_err-opcode-clause-reads c = returned _ c.from_residual.ensures.1 (arms-unread init-first c.in_err-opcode.ensures.reads)

pub returns-in_err-bits-in-65-clause-reads : goal.returns-in_err-bits-in-65-clause-reads
returns-in_err-bits-in-65-clause-reads c =
    returned _ c.from_residual-in_err-bits-in-65.ensures.1
    (arm-err 65 Const32 init-first init-const32 c.in_ok-opcode.ensures.reads c.in-65.is c.in_err-bits-in-65.ensures.reads)

pub returns-in_ok-bits-in-65-clause-reads : goal.returns-in_ok-bits-in-65-clause-reads
returns-in_ok-bits-in-65-clause-reads c =
    arm-ok 65 Const32 init-first init-const32 c.in_ok-opcode.ensures.reads c.in-65.is c.in_ok-bits-in-65.ensures.reads

pub returns-in_err-bits-in-66-clause-reads : goal.returns-in_err-bits-in-66-clause-reads
returns-in_err-bits-in-66-clause-reads c =
    returned _ c.from_residual-in_err-bits-in-66.ensures.1
    (arm-err 66 Const64 init-first init-const64 c.in_ok-opcode.ensures.reads c.in-66.is c.in_err-bits-in-66.ensures.reads)

pub returns-in_ok-bits-in-66-clause-reads : goal.returns-in_ok-bits-in-66-clause-reads
returns-in_ok-bits-in-66-clause-reads c =
    arm-ok 66 Const64 init-first init-const64 c.in_ok-opcode.ensures.reads c.in-66.is c.in_ok-bits-in-66.ensures.reads

pub returns-in_err-global-in-35-clause-reads : goal.returns-in_err-global-in-35-clause-reads
returns-in_err-global-in-35-clause-reads c =
    returned _ c.from_residual-in_err-global-in-35.ensures.1
    (arm-err 35 Global init-first init-global c.in_ok-opcode.ensures.reads c.in-35.is c.in_err-global-in-35.ensures.reads)

pub returns-in_ok-global-in-35-clause-reads : goal.returns-in_ok-global-in-35-clause-reads
returns-in_ok-global-in-35-clause-reads c =
    arm-ok 35 Global init-first init-global c.in_ok-opcode.ensures.reads c.in-35.is c.in_ok-global-in-35.ensures.reads
