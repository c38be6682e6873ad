use Rattle.std.proofs.Common.{◌≡◌, drop}
use Rattle.wa_syntax.specs.Runs.{main_of}
use Rattle.wa_exec.proofs.link.exported_main.Given as goal

abbrev pub invariant-loop-export : goal.invariant-loop-export
invariant-loop-export l = main_of (drop l.export-index l.exports) ≡ main_of l.exports
