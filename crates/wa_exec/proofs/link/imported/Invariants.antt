use Rattle.std.proofs.Common.{◌≡◌, false, map, take, is_none}
use Rattle.std.specs.Prelude.{All}
use Rattle.wa_syntax.specs.Hosts.{host_of}
use Rattle.wa_exec.specs.Links.{host_called}
use Rattle.wa_exec.proofs.link.imported.Given as goal

abbrev pub invariant-loop-at : goal.invariant-loop-at
invariant-loop-at l = record {
  callees : map host_called l.callees.items ≡ map (host_of l.m) (take l.at l.m.imports);
  linked : All (λ import. is_none (host_of l.m import) ≡ false) (take l.at l.m.imports);
}
