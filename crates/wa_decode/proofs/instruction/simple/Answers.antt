use Rattle.std.proofs.Common.{refl, rules}
use Rattle.wa_syntax.specs.declared.instr.Instr.TheOpen.{Instr-F}
use Rattle.wa_syntax.specs.declared.instr.Instr.TheVariants as i
use Rattle.wa_syntax.specs.BinaryInstructions.{IsBare}
use Rattle.wa_decode.proofs.Layers.{following-ok, instr-ok, arm-bare, none-reads}
use Rattle.wa_decode.proofs.instruction.simple.Goals as goal

pub returns-then-is_bare-clause-reads : goal.returns-then-is_bare-clause-reads
returns-then-is_bare-clause-reads c = λ levels.
    let bare : IsBare c.args.opcode = search rules in
    instr-ok levels (Instr-F.Plain c.args.opcode) _ (i.rolls-Plain c.args.opcode)
    (λ Body. following-ok c.args.opcode (λ u. Instr-F.Plain c.args.opcode) (arm-bare Body c.args.opcode bare) refl (none-reads c.args.bytes.now c.args.at c.requires.place))
