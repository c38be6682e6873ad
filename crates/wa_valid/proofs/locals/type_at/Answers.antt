use Rattle.std.proofs.Common.{leb, Some, None, rules}
use Rattle.std.proofs.lemmas.List.Sorted.{IsPartitionPoint-from_clause, IsPartitionedBy-leb}
use Rattle.wa_valid.proofs.Ends.{type_at-point}
use Rattle.wa_valid.proofs.locals.type_at.Goals as goal

pub returns-in-Some : goal.returns-in-Some
returns-in-Some c =
    let parted = IsPartitionedBy-leb (λ run. run.end) c.args.ends.now c.args.at c.requires in
    let point = IsPartitionPoint-from_clause (λ run. leb run.end c.args.at) c.args.ends.now c.partition_point-run.result c.partition_point-run.ensures.partitioned parted (λ a r q k. search rules) in
    type_at-point c.args.ends.now c.args.at c.partition_point-run.result (Some c.in-Some.found.now) c.requires point c.in-Some.ensures

pub returns-in-None : goal.returns-in-None
returns-in-None c =
    let parted = IsPartitionedBy-leb (λ run. run.end) c.args.ends.now c.args.at c.requires in
    let point = IsPartitionPoint-from_clause (λ run. leb run.end c.args.at) c.args.ends.now c.partition_point-run.result c.partition_point-run.ensures.partitioned parted (λ a r q k. search rules) in
    type_at-point c.args.ends.now c.args.at c.partition_point-run.result None c.requires point c.in-None.ensures
