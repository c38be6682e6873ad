use Rattle.std.proofs.Common.{◌≡◌, Err, Some, length, subst, rules}
use Rattle.wa_syntax.specs.declared.module.Module.{Module}
use Rattle.wa_syntax.specs.Runs.{main_of}
use Rattle.wa_syntax.specs.ValidModule.{IsValid}
use Rattle.wa_flatten.specs.Codes.{layout_of}
use Rattle.wa_exec.proofs.Begins.{beginning-occurs, beginning-state, linked-to}
use Rattle.wa_exec.proofs.Linking.{unlinked-unstartable}
use Rattle.wa_exec.proofs.machine.Machine.new.Goals as goal

pub returns-in_err-callees-clause-refused : goal.returns-in_err-callees-clause-refused
returns-in_err-callees-clause-refused c =
    let off : c.from_residual.result ≡ Err c.in_err-callees.field-0.0 = search rules in
    unlinked-unstartable c.args.v.now c.module-module.result.now c.from_residual.result c.in_err-callees.field-0.0 off c.module-module.ensures.same c.in_err-callees.ensures.unlinked

pub returns-clause-runs : goal.returns-clause-runs
returns-clause-runs c =
    let m = c.args.v.now in
    let same : c.module-module.result.now ≡ m = c.module-module.ensures.same in
    let long : length c.in_ok-new.field-0.bodies.items ≡ length m.funcs = search rules in
    let main_is : main_of m.exports ≡ Some c.in_ok-main.main = subst (λ (x : Module). main_of x.exports ≡ Some c.in_ok-main.main) same c.in_ok-main.ensures.main in
    let link = linked-to m c.module-module.result.now same c.in_ok-new.field-0 c.in_ok-linked.linked c.in_ok-callees.callees.items c.in_ok-callees.ensures.linked c.in_ok-main.ensures.linked c.in_ok-callees.ensures.callees c.in_ok-linked.ensures.code c.in_ok-linked.ensures.callees c.in_ok-new.ensures.laid c.in_ok-new.ensures.types long in
    record {
      link = link.0;
      state = beginning-state m (subst IsValid same c.module-module.ensures.valid) link.1 c.in_ok-state.ensures.fit c.in_ok-main.main c.in_ok-state.state main_is c.in_ok-state.ensures.begins;
    }

pub returns-clause-begins : goal.returns-clause-begins
returns-clause-begins c =
    let m = c.args.v.now in
    let main_is : main_of m.exports ≡ Some c.in_ok-main.main = subst (λ (x : Module). main_of x.exports ≡ Some c.in_ok-main.main) c.module-module.ensures.same c.in_ok-main.ensures.main in
    beginning-occurs m (layout_of c.in_ok-linked.linked.code) c.in_ok-main.main c.in_ok-state.state main_is c.in_ok-state.ensures.begins
