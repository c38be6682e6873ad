use Rattle.std.proofs.Common.{◌≡◌, Err, rules}
use Rattle.wa_exec.proofs.Linking.{unlinked-unstartable}
use Rattle.wa_exec.proofs.machine.check_start.Goals as goal

pub returns-in_err-imported-clause-refused : goal.returns-in_err-imported-clause-refused
returns-in_err-imported-clause-refused c =
    let off : c.from_residual.result ≡ Err c.in_err-imported.field-0.0 = search rules in
    unlinked-unstartable c.args.v.now c.module-module.result.now c.from_residual.result c.in_err-imported.field-0.0 off c.module-module.ensures.same c.in_err-imported.ensures.unlinked
