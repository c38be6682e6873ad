use Rattle.std.proofs.Common.{◌-◌, drop, length, take, subst}
use Rattle.std.proofs.lemmas.List.{take_rest}
use Rattle.sa_trace.specs.TraceRecords.{BeginsNone}
use Rattle.sa_trace.proofs.Joined.{found-none, one-more}
use Rattle.sa_trace.proofs.trace_parser.frames_of.Goals as goal

pub loop-frame-preserved : goal.loop-frame-preserved
loop-frame-preserved c =
    let bytes = c.args.bytes.now in
    let so_far = c.loop-frame.invariant in
    let left = take (length bytes - c.loop-frame.at) (drop c.loop-frame.at bytes) in
    let more = one-more c.args.positions.now c.args.sources.now bytes c.loop-frame.at c.size-at.result left c.loop-frame.frames.items
    c.push.new.self.items c.in-Whole.frame so_far.within (take_rest bytes c.loop-frame.at) so_far.frames c.size-at.ensures
    c.in-Whole.ensures.0 c.in-Whole.ensures.1 c.in_ok-push.ensures.items
    in
    record { within = more.0; frames = more.1 }

pub returns : goal.returns
returns c =
    let bytes = c.args.bytes.now in
    let left = take (length bytes - c.loop-frame.at) (drop c.loop-frame.at bytes) in
    let none = found-none c.args.positions.now c.args.sources.now left c.first_record.result c.first_record.ensures c.in_default.not-Whole in
    record {
      within = c.loop-frame.invariant.within;
      frames = c.loop-frame.invariant.frames;
      ends = subst (BeginsNone c.args.positions.now c.args.sources.now) (take_rest bytes c.loop-frame.at) none;
    }
