use Rattle.std.proofs.Common.{◌≡◌, ◌++◌, map, take}
use Rattle.wa_flatten.specs.Contents.{letter}
use Rattle.wa_flatten.proofs.types.add_types.Given as goal

abbrev pub invariant-loop-ty : goal.invariant-loop-ty
invariant-loop-ty l = l.bytes.items ≡ l.fn.bytes.items ++ map letter (take l.ty-index l.types)
