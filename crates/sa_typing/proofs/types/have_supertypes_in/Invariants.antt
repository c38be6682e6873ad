use Rattle.std.proofs.Common.{◌≡◌, drop}
use Rattle.sa_typing.specs.Rows.{rows}
use Rattle.sa_typing.specs.Types.{have_supertypes_in}
use Rattle.sa_typing.proofs.types.have_supertypes_in.Given as goal

abbrev pub invariant-loop-upper : goal.invariant-loop-upper
invariant-loop-upper l = have_supertypes_in (rows l.view) l.holders l.list ≡ have_supertypes_in (rows l.view) l.holders (drop l.upper-index l.list)
