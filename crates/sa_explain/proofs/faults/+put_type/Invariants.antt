use denote.Text.{Utf8}
use denote.Shadow.{shadow}
use Rattle.sa_explain.proofs.faults.+put_type.Given as goal

-- the bytes before a parameter are text
abbrev pub invariant-put_parameters-loop-param : goal.invariant-put_parameters-loop-param
invariant-put_parameters-loop-param l = shadow (Utf8 l.before)
