use Rattle.std.proofs.Common.{rules, subst}
use Rattle.sa_read.specs.FileContents.{HasFile, HasLonger}
use Rattle.sa_read.proofs.ReadLemmas.{front_grows, front_ends, front_passes}
use Rattle.sa_read.proofs.read.read_pieces.Goals as goal

pub returns-then-read-eq0-clause-read : goal.returns-then-read-eq0-clause-read
returns-then-read-eq0-clause-read g c =
    let whole = front_ends (g.S.ReadFiles.files c.loop-bytes.store) c.args.name.now c.loop-bytes.bytes.items c.read_at.new.buffer c.len-place.result c.in_ok-read.read (search rules) (search rules) c.loop-bytes.invariant.front c.in_ok-read.ensures.read in
    (subst (λ files. HasFile files c.args.name.now c.loop-bytes.bytes.items) c.loop-bytes.invariant.files whole, search rules)

pub returns-then-taken-read-clause-read : goal.returns-then-taken-read-clause-read
returns-then-taken-read-clause-read g c =
    let longer = front_passes (g.S.ReadFiles.files c.loop-bytes.store) c.args.name.now c.loop-bytes.bytes.items c.read_at.new.buffer c.extend_from_slice.new.self.items c.len-place.result c.in_ok-read.read c.min-taken.result c.args.limit (search rules) (search rules) (search rules) (search rules) (search rules) c.in_ok-extend_from_slice.ensures.items c.loop-bytes.invariant.front c.in_ok-read.ensures.read in
    (subst (λ files. HasLonger files c.args.name.now c.args.limit c.extend_from_slice.new.self.items) c.loop-bytes.invariant.files longer, search rules)

pub loop-bytes-preserved : goal.loop-bytes-preserved
loop-bytes-preserved g c = record {
  front = rw c.in_ok-read.ensures.files (front_grows (g.S.ReadFiles.files c.loop-bytes.store) c.args.name.now c.loop-bytes.bytes.items c.read_at.new.buffer _ c.len-place.result c.in_ok-read.read c.min-taken.result (search rules) (search rules) (search rules) c.in_ok-extend_from_slice.ensures.items c.loop-bytes.invariant.front c.in_ok-read.ensures.read);
  within = search rules;
  room = search rules;
  files = search rules;
  count = search rules;
}
