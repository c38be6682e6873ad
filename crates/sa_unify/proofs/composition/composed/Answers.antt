use Rattle.std.proofs.Common.{◌+◌, ◌-◌, drop, take, length, refl}
use Rattle.std.specs.Prelude.{option_map}
use Rattle.sa_unify.proofs.Compositions.{composes-None, composes-joined, rest-of}
use Rattle.sa_unify.proofs.composition.composed.Goals as goal

pub returns-then-above-below : goal.returns-then-above-below
returns-then-above-below c =
    composes-None c.args.first.now c.args.second.now c.in-Some.one c.in-Some-term_end.two c.index-first-one.result c.index-second-0.result c.in-Class.field-0 c.in-Class.above c.in-List.below c.in-Some.ensures.following c.in-Some-term_end.ensures.following c.in-Some.ensures.within c.if-one-first.false c.in-Some-term_end.ensures.within c.if-two-eq0.false c.index-first-one.is c.in-Class.is c.index-second-0.is c.in-List.is c.if-above-below.true

pub returns : goal.returns
returns c =
    composes-joined c.args.first.now c.args.second.now c.in-Some.one c.in-Some-term_end.two c.index-first-one.result c.index-second-0.result c.in-Class.field-0 c.in-Class.above c.in-List.below c.in-Some.ensures.following c.in-Some-term_end.ensures.following c.in-Some.ensures.within c.if-one-first.false c.in-Some-term_end.ensures.within c.if-two-eq0.false c.index-first-one.is c.in-Class.is c.index-second-0.is c.in-List.is (take c.in-Some.one c.args.first.now) (take (length c.args.first.now - (c.in-Some.one + 1)) (drop (c.in-Some.one + 1) c.args.first.now)) (take (c.in-Some-term_end.two - 1) (drop 1 c.args.second.now)) (take (length c.args.second.now - c.in-Some-term_end.two) (drop c.in-Some-term_end.two c.args.second.now)) (option_map (λ v. v.items) c.in_ok-nodes.nodes) c.if-above-below.false refl (rest-of c.args.first.now (c.in-Some.one + 1)) refl (rest-of c.args.second.now c.in-Some-term_end.two) c.in_ok-nodes.ensures
