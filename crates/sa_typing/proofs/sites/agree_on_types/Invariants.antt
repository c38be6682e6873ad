use Rattle.std.proofs.Common.{◌≡◌, drop}
use Rattle.sa_typing.specs.Sites.{agree_on_types, agree_with}
use Rattle.sa_typing.proofs.sites.agree_on_types.Given as goal

abbrev pub invariant-loop-call : goal.invariant-loop-call
invariant-loop-call l = agree_on_types l.sites l.calls ≡ agree_with l.known.items (drop l.call-index l.calls)
