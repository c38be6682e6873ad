use Rattle.std.proofs.Common.{Some, sym, ap, ◌∙◌}
use Rattle.std.specs.Prelude.{option_copied}
use Rattle.std.proofs.lemmas.Result.{on_ok_weaker}
use Rattle.wa_text.specs.Instructions.{named}
use Rattle.wa_text.specs.Mnemonics.{plain_names}
use Rattle.wa_text.specs.Words.{line}
use Rattle.wa_text.proofs.Adding.{Adds-never}
use Rattle.wa_text.proofs.Productions.{no_name, named_line}
use Rattle.wa_text.proofs.writer.instruction.plain.Goals as goal

pub returns-in-Some : goal.returns-in-Some
returns-in-Some c =
    on_ok_weaker _ (named_line plain_names c.args.opcode _ _ _ (sym c.plain_name.ensures ∙ ap option_copied c.in-Some.is ∙ ap Some (sym c.as_bytes.ensures.value))) c.word_line.ensures

pub returns-in-None : goal.returns-in-None
returns-in-None c =
    Adds-never (line (named plain_names c.args.opcode)) _ (λ other h. no_name plain_names c.args.opcode (sym c.plain_name.ensures ∙ ap option_copied c.in-None.is) h.0 h.1)
