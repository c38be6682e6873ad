use Rattle.std.proofs.Common.{◌≡◌, take}
use Rattle.wa_text.proofs.reader.items.in_runs.Given as goal

-- the types so far
abbrev pub invariant-loop-ty : goal.invariant-loop-ty
invariant-loop-ty l = l.locals ≡ take l.ty-index l.types
