use Rattle.std.proofs.Common.{◌≡◌, ◌++◌, drop, map}
use Rattle.sa_typing.specs.CallTypes.{signature_call_type}
use Rattle.sa_typing.proofs.call_type.Numbers.signature_call_types.Given as goal

abbrev pub invariant-loop-sig : goal.invariant-loop-sig
invariant-loop-sig l =
    l.shapes.items ++ map (signature_call_type l.self.types.now) (drop l.sig-index l.sigs) ≡ map (signature_call_type l.self.types.now) l.sigs
