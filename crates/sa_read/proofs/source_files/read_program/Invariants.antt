use Rattle.std.proofs.Common.{◌≡◌, ◌+◌, ◌<◌, ◌≤◌, All, length, map}
use Rattle.sa_read.specs.SourceFiles.{AreNamed, HaveTexts, most, size}
use Rattle.sa_read.specs.declared.source_files.TheConstants.{MOST_BYTES}
use Rattle.sa_read.proofs.source_files.read_program.Given as goal

abbrev pub invariant-loop-place : goal.invariant-loop-place
invariant-loop-place g l = record {
  named : AreNamed (map (λ name. name.now) l.names) l.sources l.place;
  texts : HaveTexts (g.S.ReadFiles.files l.fn.store) (map (λ name. name.now) l.names) l.sources.texts l.place;
  room : size l.sources.texts + l.room ≡ most;
  within : l.room ≤ MOST_BYTES;
  short : All (λ text. length text < 4294967295) l.sources.texts;
  few : length l.sources.texts ≤ 65536;
  files : g.S.ReadFiles.files l.store ≡ g.S.ReadFiles.files l.fn.store;
  count : g.S.ReadFiles.faults l.fn.store ≤ g.S.ReadFiles.faults l.store;
}
