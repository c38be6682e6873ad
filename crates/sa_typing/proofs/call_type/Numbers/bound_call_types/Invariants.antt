use Rattle.std.proofs.Common.{◌≡◌, ◌++◌, drop, map}
use Rattle.sa_typing.specs.CallTypes.{call_type_of_bound}
use Rattle.sa_typing.proofs.call_type.Numbers.bound_call_types.Given as goal

abbrev pub invariant-loop-info : goal.invariant-loop-info
invariant-loop-info l =
    l.shapes.items ++ map (call_type_of_bound l.self.types.now) (drop l.info-index l.self.types.now) ≡ map (call_type_of_bound l.self.types.now) l.self.types.now
