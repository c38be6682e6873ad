use Rattle.std.proofs.Common.{◌≡◌, ◌++◌, drop}
use Rattle.sa_typing.specs.Layout.{ends_from, starts_from}
use Rattle.sa_typing.specs.Rows.{rows}
use Rattle.sa_typing.proofs.layout.holding.Given as goal

abbrev pub invariant-loop-number : goal.invariant-loop-number
invariant-loop-number l = record {
  starts : l.starts.items ++ starts_from (rows l.view) l.number (drop l.number l.view.types.now) ≡ starts_from (rows l.view) 0 l.view.types.now;
  ends : l.ends.items ++ ends_from (rows l.view) (drop l.number l.view.types.now) ≡ ends_from (rows l.view) l.view.types.now;
}
