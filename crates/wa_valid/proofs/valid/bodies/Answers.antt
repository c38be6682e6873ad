use Rattle.std.proofs.Common.{List, subst, rules}
use Rattle.std.specs.Prelude.{All, IsOk}
use Rattle.std.proofs.lemmas.List.{take_all}
use Rattle.wa_syntax.specs.declared.module.Func.{Func}
use Rattle.wa_syntax.specs.Validity.{IsTypedFunction}
use Rattle.wa_valid.proofs.Elements.{All-more_item}
use Rattle.wa_valid.specs.Names.{names}
use Rattle.wa_valid.proofs.Functions.{names-first}
use Rattle.wa_valid.proofs.valid.bodies.Goals as goal

pub returns-in-Err : goal.returns-in-Err
returns-in-Err c =
    names-first (names c.args.context.now) c.args.funcs.now c.loop-at.at c.index-funcs-at.result c.in-Err.fault c.in_body.result c.loop-at-test.true c.index-funcs-at.is c.loop-at.invariant c.in-Err.ensures c.in_body.ensures

pub loop-at-preserved : goal.loop-at-preserved
loop-at-preserved c =
    let fine : IsOk c.function.result = search rules in
    All-more_item (IsTypedFunction (names c.args.context.now)) c.args.funcs.now c.loop-at.at c.index-funcs-at.result c.loop-at-test.true c.index-funcs-at.is c.loop-at.invariant (c.function.ensures.0 fine)

pub returns : goal.returns
returns c =
    subst (λ (all : List Func). All (IsTypedFunction (names c.args.context.now)) all) (take_all c.loop-at.at c.args.funcs.now c.loop-at-test.false) c.loop-at.invariant
