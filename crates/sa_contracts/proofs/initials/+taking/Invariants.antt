use Rattle.std.proofs.Common.{◌≡◌, take}
use Rattle.sa_contracts.specs.InitialValues.{replaced_exprs, replaced_arguments, declared_by_exprs, declared_by_arguments}
use Rattle.sa_contracts.proofs.initials.+taking.Given as goal

abbrev pub invariant-take_in_exprs-loop-e : goal.invariant-take_in_exprs-loop-e
invariant-take_in_exprs-loop-e l = record {
  forms : l.taken ≡ replaced_exprs (take l.e-index l.list) l.initial.declared;
  declarations : l.declared ≡ declared_by_exprs (take l.e-index l.list) l.initial.declared;
}

abbrev pub invariant-take_in_args-loop-arg : goal.invariant-take_in_args-loop-arg
invariant-take_in_args-loop-arg l = record {
  forms : l.taken ≡ replaced_arguments (take l.arg-index l.args) l.initial.declared;
  declarations : l.declared ≡ declared_by_arguments (take l.arg-index l.args) l.initial.declared;
}
