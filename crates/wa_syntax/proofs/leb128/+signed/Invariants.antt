use Rattle.wa_syntax.proofs.leb128.+signed.Given as goal

abbrev pub decreases-signed : goal.decreases-signed
decreases-signed l = l.bits
