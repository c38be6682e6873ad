-- What the verifier computes of a program before it checks it.
use Rattle.std.specs.Prelude.{◌≡◌, map}
use Rattle.sa_typed.specs.declared.program.TypedProgram.{TypedProgram}
use Rattle.sa_typing.specs.declared.verifier.CallTypes.{CallTypes}
use Rattle.sa_typing.specs.CallTypes.{characters_in, signature_call_type, call_type_of_bound}

-- the call types of a program
pub record AreCallTypes (core : TypedProgram) (s : CallTypes) : Type 0 where
  pub bound : s.bound.items ≡ map (call_type_of_bound core.types) core.types
  pub signatures : s.signatures.items ≡ map (signature_call_type core.types) core.sigs
  pub characters : s.characters ≡ characters_in 0 core.types
