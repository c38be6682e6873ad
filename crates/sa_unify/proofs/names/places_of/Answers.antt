use Rattle.std.proofs.Common.{◌-◌, arith, ap, sym, ◌∙◌}
use Rattle.sa_unify.proofs.Numbers.{has_numbers-word}
use Rattle.sa_unify.proofs.names.places_of.Goals as goal

pub classes-preserved : goal.classes-preserved
classes-preserved c = record {
  within = omega (arith, c.classes.invariant.within);
  numbers = has_numbers-word c.classes.places c.insert.new.self c.args.classes.now (c.classes.at - 1) c.classes.at c.in_ok-word.field-0 c.index-classes-at.result c.in_ok-name.name.items (omega (arith, c.classes.invariant.within, c.classes-test.true)) c.index-classes-at.is (omega (arith, c.classes-test.true)) (c.in_ok-name.ensures.items ∙ c.as_slice.ensures ∙ ap (λ x. x.name.name) (sym c.index-classes-at.is)) c.classes.invariant.numbers c.in_ok-word.ensures c.in_ok-insert.ensures.updates;
}
