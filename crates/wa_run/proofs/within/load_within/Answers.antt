use Rattle.std.proofs.Common.{rules, ◌≡◌, ◌∙◌, sym, subst}
use Rattle.wa_syntax.specs.ValidModule.{IsValid}
use Rattle.wa_decode.specs.declared.fault.DecodeFault.{DecodeFault}
use Rattle.wa_decode.specs.declared.fault.DecodeFault.TheVariants.{Malformed, NoMemory}
use Rattle.wa_run.proofs.within.load_within.Goals as goal

differ : (fault : DecodeFault) → fault ≡ Malformed → fault ≡ NoMemory → ⊥
differ fault one other = search rules

pub returns-in-Err-Malformed-clause-says : goal.returns-in-Err-Malformed-clause-says
returns-in-Err-Malformed-clause-says c = λ m spelled. differ c.in-Err-Malformed.field-0 c.in-Err-Malformed.field-0-is (c.in-Err-Malformed.ensures.complete m spelled)
