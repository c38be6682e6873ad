use Rattle.std.proofs.Common.{◌≡◌, drop}
use Rattle.sa_typing.specs.Rows.{rows}
use Rattle.sa_typing.specs.Types.{are_valid_supertypes}
use Rattle.sa_typing.proofs.types.are_valid_supertypes.Given as goal

abbrev pub invariant-loop-upper : goal.invariant-loop-upper
invariant-loop-upper l = are_valid_supertypes (rows l.view) l.number l.list ≡ are_valid_supertypes (rows l.view) l.number (drop l.upper-index l.list)
