use Rattle.std.proofs.Common.{◌≡◌, drop}
use Rattle.sa_structure.specs.Regions.{pieces}
use Rattle.sa_structure.specs.Stands.{pieces_stand}
use Rattle.sa_structure.proofs.verifier.+occurrence.Given as goal

abbrev pub invariant-list_stands-loop-place : goal.invariant-list_stands-loop-place
invariant-list_stands-loop-place l =
    pieces_stand l.against.body.now l.against.entries.now l.against.again.now l.seen l.following (pieces l.list)
    ≡ pieces_stand l.against.body.now l.against.entries.now l.against.again.now l.seen l.following (pieces (drop l.place l.list))
