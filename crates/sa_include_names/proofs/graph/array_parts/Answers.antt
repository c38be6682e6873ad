use Rattle.sa_include_names.proofs.Verdicts.{array-marks}
use Rattle.sa_include_names.proofs.graph.array_parts.Goals as goal

pub returns-in-Some : goal.returns-in-Some
returns-in-Some c =
    array-marks c.args.classes.now c.args.graph.now c.requires.graph c.args.numbers.now _ c.of.result c.in-Some.array c.in_ok-marks-in-Some.marks.items
    c.requires.numbers c.of.ensures c.in_ok-name.ensures c.in-Some.is c.in_ok-marks-in-Some.ensures
