use Rattle.std.proofs.Common.{[], ◌∷◌, refl}
use Rattle.wa_syntax.specs.declared.instr.Instr.TheOpen.{Instr-F}
use Rattle.wa_syntax.specs.declared.instr.Instr.TheVariants as variant
use Rattle.wa_syntax.specs.declared.instr.Instr.{out-Instr}
use Rattle.wa_text.proofs.Lines.{single}
use Rattle.wa_text.proofs.NoInstruction.{plain_of, simple}
use Rattle.wa_text.proofs.reader.instruction.plain.Goals as goal

pub returns-in-Some : goal.returns-in-Some
returns-in-Some c =
    let name = c.args.name.now in
    single _ (Instr-F.Plain c.in-Some.opcode) ((name ∷ []) ∷ []) (variant.rolls-Plain c.in-Some.opcode) (λ Body. (name ∷ [], (name, c.in-Some.ensures, refl), refl))

pub returns-in-None : goal.returns-in-None
returns-in-None c = λ i h.
    let name = c.args.name.now in
    let k = plain_of (out-Instr i) name (simple i name [] h) in
    c.in-None.ensures k.0 k.1
