use Rattle.std.proofs.Common.{◌≡◌, drop}
use Rattle.std.specs.List.{list_all}
use Rattle.sa_typing.specs.Rows.{is_type, rows}
use Rattle.sa_typing.proofs.features.are_types.Given as goal

abbrev pub invariant-loop-ty : goal.invariant-loop-ty
invariant-loop-ty l = list_all (is_type (rows l.view)) l.list ≡ list_all (is_type (rows l.view)) (drop l.ty-index l.list)
