use Rattle.std.proofs.Common.{inr}
use Rattle.wa_syntax.specs.declared.instr.Instr.TheOpen.{Instr-F}
use Rattle.wa_syntax.specs.declared.instr.Instr.TheVariants as i
use Rattle.wa_decode.proofs.Layers.{following-ok, index-err, instr-ok, instr-err, arm-LocalGet, arm-LocalSet, arm-LocalTee, arm-GlobalGet, arm-GlobalSet}
use Rattle.wa_decode.proofs.Reading.{returned}
use Rattle.wa_decode.proofs.instruction.variable.Goals as goal

pub returns-in_err-index-clause-reads : goal.returns-in_err-index-clause-reads
returns-in_err-index-clause-reads c = λ levels.
    returned _ c.from_residual.ensures.1
    (instr-err levels (λ Body. index-err Body (inr (inr (c.requires.opcode.0, c.requires.opcode.1))) c.in_err-index.ensures.reads))

pub returns-in-32-clause-reads : goal.returns-in-32-clause-reads
returns-in-32-clause-reads c = λ levels.
    instr-ok levels (Instr-F.LocalGet c.in_ok-index.index) _ (i.rolls-LocalGet c.in_ok-index.index)
    (λ Body. following-ok 32 (λ x. Instr-F.LocalGet x) (arm-LocalGet Body) c.in-32.is c.in_ok-index.ensures.reads)

pub returns-in-33-clause-reads : goal.returns-in-33-clause-reads
returns-in-33-clause-reads c = λ levels.
    instr-ok levels (Instr-F.LocalSet c.in_ok-index.index) _ (i.rolls-LocalSet c.in_ok-index.index)
    (λ Body. following-ok 33 (λ x. Instr-F.LocalSet x) (arm-LocalSet Body) c.in-33.is c.in_ok-index.ensures.reads)

pub returns-in-34-clause-reads : goal.returns-in-34-clause-reads
returns-in-34-clause-reads c = λ levels.
    instr-ok levels (Instr-F.LocalTee c.in_ok-index.index) _ (i.rolls-LocalTee c.in_ok-index.index)
    (λ Body. following-ok 34 (λ x. Instr-F.LocalTee x) (arm-LocalTee Body) c.in-34.is c.in_ok-index.ensures.reads)

pub returns-in-35-clause-reads : goal.returns-in-35-clause-reads
returns-in-35-clause-reads c = λ levels.
    instr-ok levels (Instr-F.GlobalGet c.in_ok-index.index) _ (i.rolls-GlobalGet c.in_ok-index.index)
    (λ Body. following-ok 35 (λ x. Instr-F.GlobalGet x) (arm-GlobalGet Body) c.in-35.is c.in_ok-index.ensures.reads)

pub returns-in-36-clause-reads : goal.returns-in-36-clause-reads
returns-in-36-clause-reads c = λ levels.
    instr-ok levels (Instr-F.GlobalSet c.in_ok-index.index) _ (i.rolls-GlobalSet c.in_ok-index.index)
    (λ Body. following-ok 36 (λ x. Instr-F.GlobalSet x) (arm-GlobalSet Body) c.in-36.is c.in_ok-index.ensures.reads)
