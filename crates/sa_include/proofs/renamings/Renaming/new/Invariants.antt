use Rattle.sa_include.proofs.RenamingLemmas.{HasChangesUpTo}
use Rattle.sa_include.proofs.renamings.Renaming.new.Given as goal

abbrev pub invariant-loop-place : goal.invariant-loop-place
invariant-loop-place l = HasChangesUpTo l.changes l.place l.renaming
