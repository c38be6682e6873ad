use Rattle.std.proofs.Common.{◌≡◌, map, take}
use Rattle.std.specs.Prelude.{◌≢◌, AllPairs}
use Rattle.wa_valid.proofs.module.export_names.Given as goal

abbrev pub invariant-loop-export : goal.invariant-loop-export
invariant-loop-export l = record {
  keys : map (λ key. key.now) l.names.keys ≡ map (λ export. export.name) (take l.export-index l.exports);
  apart : AllPairs ◌≢◌ (map (λ export. export.name) (take l.export-index l.exports));
}
