use Rattle.std.proofs.Common.{◌≡◌, length}
use Rattle.sa_runtime.proofs.templates.functions.Given as goal

-- there is a function for each one so far
abbrev pub invariant-loop-function : goal.invariant-loop-function
invariant-loop-function l = length l.funcs ≡ l.function-index
