use Rattle.wa_text.specs.Mnemonics.{access_names}
use Rattle.wa_text.proofs.Pieces.{by_rows}
use Rattle.wa_text.proofs.Tables.{access_named}
use Rattle.wa_text.proofs.mnemonic.access_opcode.Goals as goal

pub returns : goal.returns
returns c = by_rows access_names c.args.name.now c.opcode_in.result (λ opcode h. access_named opcode c.args.name.now h) c.opcode_in.ensures
