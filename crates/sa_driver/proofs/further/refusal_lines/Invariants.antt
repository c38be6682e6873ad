use Rattle.std.proofs.Common.{◌≡◌, flat_map, take}
use Rattle.std.specs.List.{All}
use Rattle.sa_driver.specs.Further.{IsFurther, refusal_line}
use Rattle.sa_driver.proofs.further.refusal_lines.Given as goal

abbrev pub invariant-loop-refusal : goal.invariant-loop-refusal
invariant-loop-refusal l =
    (l.lines.items ≡ flat_map (refusal_line l.sources) (take l.refusal-index l.refusals))
    × All (IsFurther l.sources) (take l.refusal-index l.refusals)
