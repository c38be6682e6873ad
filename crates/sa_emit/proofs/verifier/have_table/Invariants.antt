use Rattle.std.proofs.Common.{◌≡◌, drop}
use Rattle.sa_emit.specs.Tables.{have_table}
use Rattle.sa_emit.proofs.verifier.have_table.Given as goal

abbrev pub invariant-loop-func : goal.invariant-loop-func
invariant-loop-func l = have_table l.funcs ≡ have_table (drop l.func-index l.funcs)
