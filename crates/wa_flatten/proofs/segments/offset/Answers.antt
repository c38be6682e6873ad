use Rattle.std.proofs.Common.{◌≡◌, [], None, slice_get, subst, sym, rules}
use Rattle.wa_syntax.specs.declared.module.GlobalDef.{GlobalDef}
use Rattle.wa_syntax.specs.declared.module.Init.{Init}
use Rattle.wa_syntax.specs.Runs.{init_value, offset_of}
use Rattle.wa_flatten.proofs.Filled.{none-there}
use Rattle.wa_flatten.proofs.segments.offset.Goals as goal

pub returns-in-None : goal.returns-in-None
returns-in-None c =
    let globals = c.args.m.now.globals in
    let none : slice_get globals c.in-Global.at ≡ None = search rules in
    sym (subst (λ (init : Init). offset_of c.args.m.now init ≡ 0) (sym c.in-Global.is) (none-there (λ (global : GlobalDef). init_value [] global.init) globals c.in-Global.at none))
