use Rattle.std.proofs.Common.{◌≡◌, drop}
use Rattle.std.specs.Prelude.{IfSome}
use Rattle.sa_typing.specs.Rows.{rows}
use Rattle.sa_typing.specs.Signatures.{IsCount, well_signatures}
use Rattle.sa_typing.proofs.signatures.well_signatures.Given as goal

abbrev pub invariant-loop-number : goal.invariant-loop-number
invariant-loop-number l = record {
  known : IfSome l.last (IsCount (rows l.view));
  rest : well_signatures (rows l.view) 0 l.view.signatures.now ≡ well_signatures (rows l.view) l.number (drop l.number l.view.signatures.now);
}
