use Rattle.std.proofs.Common.{arith}
use Rattle.sa_include_names.proofs.Numbers.{numbers-more}
use Rattle.sa_include_names.proofs.names.ClassNumbers.new.Goals as goal

pub loop-place-preserved : goal.loop-place-preserved
loop-place-preserved c =
    numbers-more c.args.classes.now c.loop-place.place c.in_ok-word.field-0 c.index-classes-place.result c.loop-place.numbers c.add.new.self c.in_ok-add.field-0
    (omega arith) c.index-classes-place.is c.loop-place.invariant c.in_ok-word.ensures c.in_ok-add.ensures.added c.if-not-branch.false c.in_ok-add.ensures.new
