use Rattle.std.proofs.Common.{◌+◌, ◌≤◌, length, take}
use Rattle.std.specs.Prelude.{All}
use Rattle.wa_syntax.specs.Runs.{offset_of, table_size}
use Rattle.wa_flatten.proofs.segments.elems_fit.Given as goal

abbrev pub invariant-loop-elem : goal.invariant-loop-elem
invariant-loop-elem l = All (λ elem. offset_of l.m elem.offset + length elem.funcs ≤ table_size l.m) (take l.elem-index l.m.elems)
