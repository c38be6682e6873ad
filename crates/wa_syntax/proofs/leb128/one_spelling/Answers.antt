use Rattle.wa_syntax.proofs.OneSpelling
use Rattle.wa_syntax.proofs.leb128.one_spelling.Goals as goal

pub returns-clause-unsigned : goal.returns-clause-unsigned
returns-clause-unsigned c = OneSpelling.unsigned

pub returns-clause-signed : goal.returns-clause-signed
returns-clause-signed c = OneSpelling.signed
