use Rattle.std.proofs.Common.{◌≡◌, drop}
use Rattle.sa_ast.specs.Types.{all_bare_args}
use Rattle.sa_subtypes.specs.SubtypeTest.{climbs_in, immutable_in, tops_in}
use Rattle.sa_subtypes.specs.Bounds.{args_hold}
use Rattle.sa_subtypes.proofs.edges.SubtypeRelation.+holds.Given as goal

abbrev pub invariant-args_hold-loop-i : goal.invariant-args_hold-loop-i
invariant-args_hold-loop-i l =
    args_hold (tops_in l.self) (climbs_in l.self) (immutable_in l.self) (all_bare_args l.list) (all_bare_args l.others) l.turned ≡ args_hold (tops_in l.self) (climbs_in l.self) (immutable_in l.self) (all_bare_args (drop l.i l.list)) (all_bare_args (drop l.i l.others)) l.turned
