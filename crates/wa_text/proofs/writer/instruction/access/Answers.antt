use Rattle.std.proofs.Common.{Some, sym, ap, ◌∙◌}
use Rattle.std.specs.Prelude.{option_copied}
use Rattle.std.proofs.lemmas.Result.{on_ok_weaker}
use Rattle.wa_text.specs.Forms.{◌then◌}
use Rattle.wa_text.specs.Instructions.{named}
use Rattle.wa_text.specs.Mnemonics.{access_names}
use Rattle.wa_text.specs.Words.{line, u32}
use Rattle.wa_text.proofs.Adding.{Adds-never, Adds-line, Adds-then}
use Rattle.wa_text.proofs.Productions.{only_name, no_name}
use Rattle.wa_text.proofs.writer.instruction.access.Goals as goal

pub returns-in_ok-index-in-Some-2 : goal.returns-in_ok-index-in-Some-2
returns-in_ok-index-in-Some-2 c =
    on_ok_weaker _ (Adds-line (named access_names c.args.opcode) (u32 c.args.align then u32 c.args.offset) _ _ _ _ _ (only_name access_names c.args.opcode _ (sym c.access_name.ensures ∙ ap option_copied c.in-Some.is ∙ ap Some (sym c.as_bytes.ensures.value))) c.in_ok-first-in-Some.ensures (Adds-then c.in_ok-index-in-Some.ensures c.in_ok-index-in-Some-2.ensures)) c.end_line.ensures

pub returns-in-None : goal.returns-in-None
returns-in-None c =
    Adds-never (line (named access_names c.args.opcode then u32 c.args.align then u32 c.args.offset)) _ (λ other h. no_name access_names c.args.opcode (sym c.access_name.ensures ∙ ap option_copied c.in-None.is) h.1.0 h.1.3)
