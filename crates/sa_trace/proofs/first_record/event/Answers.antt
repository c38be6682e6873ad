use Rattle.std.proofs.Common.{◌-◌, drop, length, take, arith}
use Rattle.std.proofs.lemmas.List.{take_rest}
use Rattle.sa_trace.proofs.Fronts.{event-reported}
use Rattle.sa_trace.proofs.first_record.event.Goals as goal

pub returns : goal.returns
returns c =
    let bytes = c.args.bytes.now in
    let site = c.in-Some.ensures.cases in
    let instance = c.in-Some-split_first_chunk.ensures.cases in
    event-reported c.args.positions.now c.args.sources.now bytes (take (length bytes - 1) (drop 1 bytes)) c.in-Some-of_number.kind
    c.in-Some-place.at c.in-Some.site.now c.in-Some.following.now c.in-Some-split_first_chunk.instance.now c.from_le_bytes.result
    c.from_le_bytes-2.result c.in-len1-up.len_at_least (take_rest bytes 1) c.in-Some-of_number.ensures site.0 site.1 site.2 instance.0
    (omega (arith, instance.2)) c.from_le_bytes.ensures c.from_le_bytes-2.ensures c.in-Some-place.ensures.0 c.in-Some-place.ensures.1
