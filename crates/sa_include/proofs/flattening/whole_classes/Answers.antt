use Rattle.std.proofs.Common.{arith, ◌+◌, ◌<◌, ◌++◌, List, [], ◌∷◌, get_or, length, take, subst, sym}
use Rattle.std.proofs.lemmas.List.{take_more}
use Rattle.std.proofs.lemmas.List.Elements.{AllZip-push}
use Rattle.sa_ast.specs.declared.class.Class.{Class}
use Rattle.sa_include.specs.Flattened.{AreFlattened, IsFlattened}
use Rattle.sa_include.proofs.flattening.whole_classes.Goals as goal

-- the next class is after the others
pub loop-class-preserved : goal.loop-class-preserved
loop-class-preserved c =
    let classes = c.args.classes.now in
    let i = c.loop-class.class-index in
    let class = c.class-item.result in
    let flat = c.in_ok-whole_class.field-0 in
    let lt : i < length classes = omega arith in
    let is = subst (λ (written : Class). IsFlattened written flat) c.class-item.is c.in_ok-whole_class.ensures in
    subst (AreFlattened (take (i + 1) classes)) (sym c.in_ok-push.ensures.ok)
    (subst (λ (written : List Class). AreFlattened written (c.loop-class.whole ++ flat ∷ [])) (sym (take_more classes i class lt))
    (AllZip-push IsFlattened (take i classes) c.loop-class.whole (get_or classes i class) flat c.loop-class.invariant is))
