use Rattle.std.proofs.Common.{◌≡◌, ◌++◌, cond, drop}
use Rattle.sa_typing.specs.Types.{put_in}
use Rattle.sa_typing.proofs.types.holders.Given as goal

abbrev pub invariant-loop-upper : goal.invariant-loop-upper
invariant-loop-upper l = l.list.items ++ cond l.waits (put_in l.ty (drop l.upper-index l.above)) (drop l.upper-index l.above) ≡ put_in l.ty l.above
