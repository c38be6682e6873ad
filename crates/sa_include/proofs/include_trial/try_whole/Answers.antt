use Rattle.sa_include.proofs.Bringing.{all_apart, class_tried}
use Rattle.sa_include.proofs.include_trial.try_whole.Goals as goal

pub loop-place-preserved : goal.loop-place-preserved
loop-place-preserved c =
    class_tried c.args.classes.now c.args.whole.now c.loop-place.place c.in_ok-class.class.now c.index-whole-place.result
    c.args.includes.now.numbers c.as_slice.result.now c.loop-place-test.true c.index-whole-place.is c.requires c.loop-place.invariant
    c.in_ok-class.ensures c.as_slice.ensures c.in_ok-try_class.ensures.apart c.in_ok-try_class.ensures.included

pub returns-clause-apart : goal.returns-clause-apart
returns-clause-apart c =
    all_apart c.args.classes.now c.args.whole.now c.loop-place.place c.loop-place-test.false c.loop-place.invariant
