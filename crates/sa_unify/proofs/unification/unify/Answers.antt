use Rattle.std.proofs.Common.{subst}
use Rattle.sa_unify.specs.declared.unification.Step.TheVariants as step
use Rattle.sa_unify.specs.Terms.{IsStep}
use Rattle.sa_unify.proofs.Rounds.{end-Equal, end-Never, substitute-at, round-init, round-next}
use Rattle.sa_unify.proofs.unification.unify.Goals as goal

pub rounds-init : goal.rounds-init
rounds-init c = round-init c.args.kept.items c.args.one.items c.args.other.items

pub returns-in-Equal : goal.returns-in-Equal
returns-in-Equal c =
    end-Equal c.args.kept.items c.args.one.items c.args.other.items c.rounds.kept.items c.rounds.one.items c.rounds.other.items c.as_slice.result.now c.as_slice-in-rounds.result.now c.in_ok-next_step.field-0 c.rounds.invariant c.in_ok-next_step.ensures c.as_slice.ensures.value c.as_slice-in-rounds.ensures.value c.in-Equal.is

pub returns-in-Never : goal.returns-in-Never
returns-in-Never c =
    end-Never c.args.kept.items c.args.one.items c.args.other.items c.rounds.kept.items c.rounds.one.items c.rounds.other.items c.as_slice.result.now c.as_slice-in-rounds.result.now c.in_ok-next_step.field-0 c.rounds.invariant c.in_ok-next_step.ensures c.as_slice.ensures.value c.as_slice-in-rounds.ensures.value c.in-Never.is

pub rounds-preserved : goal.rounds-preserved
rounds-preserved c =
    let bind : IsStep c.as_slice.result.now c.as_slice-in-rounds.result.now (step.Bind c.in-Bind.number c.in-Bind.term) = subst (IsStep c.as_slice.result.now c.as_slice-in-rounds.result.now) c.in-Bind.is c.in_ok-next_step.ensures in
    round-next c.args.kept.items c.args.one.items c.args.other.items c.rounds.kept.items c.rounds.one.items c.rounds.other.items c.as_slice.result.now c.as_slice-in-rounds.result.now c.in_ok-kept-in-Bind.kept.items c.in_ok-one-in-Bind.one.items c.in_ok-other-in-Bind.other.items c.in-Bind.number c.in-Bind.term.items c.rounds.invariant c.as_slice.ensures.value c.as_slice-in-rounds.ensures.value bind
    (substitute-at c.in-Bind.number c.in_ok-kept-in-Bind.kept.items c.as_slice-in-Bind.result.now c.rounds.kept.items c.as_slice-in-Bind-2.result.now c.in-Bind.term.items c.in_ok-kept-in-Bind.ensures c.as_slice-in-Bind.ensures.value c.as_slice-in-Bind-2.ensures.value)
    (substitute-at c.in-Bind.number c.in_ok-one-in-Bind.one.items c.as_slice-in-Bind-3.result.now c.rounds.one.items c.as_slice-in-Bind-4.result.now c.in-Bind.term.items c.in_ok-one-in-Bind.ensures c.as_slice-in-Bind-3.ensures.value c.as_slice-in-Bind-4.ensures.value)
    (substitute-at c.in-Bind.number c.in_ok-other-in-Bind.other.items c.as_slice-in-Bind-5.result.now c.rounds.other.items c.as_slice-in-Bind-6.result.now c.in-Bind.term.items c.in_ok-other-in-Bind.ensures c.as_slice-in-Bind-5.ensures.value c.as_slice-in-Bind-6.ensures.value)
