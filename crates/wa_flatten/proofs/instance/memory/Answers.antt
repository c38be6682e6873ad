use Rattle.std.proofs.Common.{◌≡◌, ◌+◌, ◌<◌, ◌≤◌, ◌∙◌, length, get_or, rules}
use Rattle.std.proofs.lemmas.List.{with_items_is}
use Rattle.wa_syntax.specs.declared.module.DataSegment.{DataSegment}
use Rattle.wa_syntax.specs.Runs.{memory_size, offset_of}
use Rattle.wa_flatten.proofs.Filled.{memory-next, put_segment, room-at}
use Rattle.wa_flatten.proofs.instance.memory.Goals as goal

pub put_bytes-requires : goal.put_bytes-requires
put_bytes-requires c =
    let m = c.args.m.now in
    let at = c.loop-segment.segment-index in
    let bytes = c.as_mut_slice.result.now in
    let within : at < length m.segments = search rules in
    let is : c.segment-item.result ≡ get_or m.segments at c.segment-item.result = search rules in
    let size : length bytes ≡ memory_size m = c.as_mut_slice.ensures.len ∙ c.loop-segment.invariant.size in
    let fits : offset_of m c.segment-item.result.offset + length c.segment-item.result.bytes ≤ length bytes = room-at (λ (segment : DataSegment). offset_of m segment.offset + length segment.bytes) (memory_size m) m.segments at c.segment-item.result (length bytes) within is size c.requires.segments in
    search rules

pub loop-segment-preserved : goal.loop-segment-preserved
loop-segment-preserved c =
    let m = c.args.m.now in
    let at = c.loop-segment.segment-index in
    let bytes = c.as_mut_slice.result.now in
    let within : at < length m.segments = search rules in
    let is : c.segment-item.result ≡ get_or m.segments at c.segment-item.result = search rules in
    let long : length c.put_bytes.new.memory ≡ c.loop-segment.bytes.len = c.put_bytes.auto.memory ∙ c.as_mut_slice.ensures.len in
    let step : c.put_bytes.new.memory ≡ put_segment m bytes c.segment-item.result = search rules in
    record {
      size = c.loop-segment.invariant.size;
      contents =
          with_items_is c.loop-segment.bytes c.put_bytes.new.memory long
          ∙ memory-next m m.segments at c.segment-item.result bytes c.put_bytes.new.memory within is (c.as_mut_slice.ensures.value ∙ c.loop-segment.invariant.contents) step;
    }
