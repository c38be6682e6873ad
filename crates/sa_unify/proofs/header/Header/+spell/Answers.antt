use Rattle.sa_unify.proofs.Headers.{spelled-Rout, spelled-Iter}
use Rattle.sa_unify.proofs.header.Header.+spell.Goals as goal

pub spell-returns-in_ok-spell_result-in-Rout : goal.spell-returns-in_ok-spell_result-in-Rout
spell-returns-in_ok-spell_result-in-Rout t c =
    spelled-Rout c.args.self.now c.args.out.now.items _ _ _ c.args.ty.now c.in-Rout.args c.as_slice-in-Rout.result.now c.as_slice-in-Rout-2.result.now c.in-Rout.result c.in-Rout.field-2 c.in_ok-count-in-Rout.count c.in-Rout.is c.in_ok-push-in-Rout.ensures.items c.in_ok-count-in-Rout.ensures c.as_slice-in-Rout.ensures c.as_slice-in-Rout-2.ensures c.in_ok-spell_args-in-Rout.ensures c.in_ok-spell_result-in-Rout.ensures

pub spell-returns-in_ok-spell_result-in-Iter : goal.spell-returns-in_ok-spell_result-in-Iter
spell-returns-in_ok-spell_result-in-Iter t c =
    spelled-Iter c.args.self.now c.args.out.now.items _ _ _ c.args.ty.now c.in-Iter.args c.as_slice-in-Iter.result.now c.as_slice-in-Iter-2.result.now c.in-Iter.result c.in-Iter.field-2 c.in_ok-count-in-Iter.count c.in-Iter.is c.in_ok-push-in-Iter.ensures.items c.in_ok-count-in-Iter.ensures c.as_slice-in-Iter.ensures c.as_slice-in-Iter-2.ensures c.in_ok-spell_args-in-Iter.ensures c.in_ok-spell_result-in-Iter.ensures
