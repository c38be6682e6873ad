use Rattle.std.proofs.Common.{◌≡◌, ◌-◌, drop}
use Rattle.sa_subtypes.specs.Questions.{counts_up}
use Rattle.sa_subtypes.proofs.question.counts_up.Given as goal

abbrev pub invariant-loop-i : goal.invariant-loop-i
invariant-loop-i l = counts_up 0 l.count l.nodes ≡ counts_up l.i (l.count - l.i) (drop l.i l.nodes)
