use Rattle.wa_text.specs.Reading.{whole}
use Rattle.wa_text.specs.Words.{u32}
use Rattle.std.proofs.Common.{[], ◌∷◌, refl}
use Rattle.wa_syntax.specs.declared.instr.Instr.TheOpen.{Instr-F}
use Rattle.wa_syntax.specs.declared.instr.Instr.TheVariants as variant
use Rattle.wa_syntax.specs.declared.instr.Instr.{out-Instr}
use Rattle.wa_text.proofs.Lines.{single}
use Rattle.wa_text.proofs.NoInstruction.{access_of, simple}
use Rattle.wa_text.proofs.Refusals.{refuses_as, returned}
use Rattle.wa_text.proofs.reader.instruction.access.Goals as goal

pub returns-in_ok-index-in-Some-2 : goal.returns-in_ok-index-in-Some-2
returns-in_ok-index-in-Some-2 c =
    let name = c.args.name.now in
    let align = c.args.align.now in
    let offset = c.args.offset.now in
    let opcode = c.in-Some.opcode in
    single _ (Instr-F.Memory opcode c.in_ok-index-in-Some.field-0 c.in_ok-index-in-Some-2.field-0) ((name ∷ align ∷ offset ∷ []) ∷ []) (variant.rolls-Memory opcode c.in_ok-index-in-Some.field-0 c.in_ok-index-in-Some-2.field-0)
    (λ Body. (name ∷ align ∷ offset ∷ [], (name ∷ [], align ∷ offset ∷ [], refl, (name, c.in-Some.ensures, refl), (align ∷ [], offset ∷ [], refl, c.in_ok-index-in-Some.ensures, c.in_ok-index-in-Some-2.ensures)), refl))

pub returns-in-None : goal.returns-in-None
returns-in-None c = λ i h.
    let name = c.args.name.now in
    let k = access_of (out-Instr i) name c.args.align.now c.args.offset.now c.requires.table (simple i name (c.args.align.now ∷ c.args.offset.now ∷ []) h) in
    c.in-None.ensures k.opcode k.named_so

pub returns-in_err-index-in-Some : goal.returns-in_err-index-in-Some
returns-in_err-index-in-Some c =
    let name = c.args.name.now in
    let align = c.args.align.now in
    let offset = c.args.offset.now in
    returned _ _ _ c.from_residual.ensures.1 (refuses_as u32 whole (name ∷ align ∷ offset ∷ []) (align ∷ []) c.in_err-index-in-Some.field-0.0 (λ i h. let k = access_of (out-Instr i) name align offset c.requires.table (simple i name (align ∷ offset ∷ []) h) in (k.alignment, k.align_is)) c.in_err-index-in-Some.ensures)

pub returns-in_err-index-in-Some-2 : goal.returns-in_err-index-in-Some-2
returns-in_err-index-in-Some-2 c =
    let name = c.args.name.now in
    let align = c.args.align.now in
    let offset = c.args.offset.now in
    returned _ _ _ c.from_residual-in_err-index-in-Some-2.ensures.1 (refuses_as u32 whole (name ∷ align ∷ offset ∷ []) (offset ∷ []) c.in_err-index-in-Some-2.field-0.0 (λ i h. let k = access_of (out-Instr i) name align offset c.requires.table (simple i name (align ∷ offset ∷ []) h) in (k.distance, k.offset_is)) c.in_err-index-in-Some-2.ensures)
