use Rattle.wa_text.specs.Mnemonics.{plain_names}
use Rattle.wa_text.proofs.Pieces.{by_rows}
use Rattle.wa_text.proofs.Tables.{plain_named}
use Rattle.wa_text.proofs.mnemonic.plain_opcode.Goals as goal

pub returns : goal.returns
returns c = by_rows plain_names c.args.name.now c.opcode_in.result (λ opcode h. plain_named opcode c.args.name.now h) c.opcode_in.ensures
