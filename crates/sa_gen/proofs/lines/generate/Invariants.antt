use Rattle.std.proofs.Common.{◌≡◌, ◌++◌}
use Rattle.sa_gen.specs.Generated.{first, links}
use Rattle.sa_gen.proofs.lines.generate.Given as goal

-- the first class's line, and one for each class after it so far
abbrev pub invariant-loop-before : goal.invariant-loop-before
invariant-loop-before l = l.text.items ≡ first ++ links l.before
