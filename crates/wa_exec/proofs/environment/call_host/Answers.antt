use Rattle.std.proofs.Common.{refl, sym, ap, subst, ◌∙◌, ◌∷◌, Err, ℕ}
use Rattle.std.specs.Prelude.{◌%◌, ◌^◌}
use Rattle.wa_exec.specs.declared.halt.Halt.TheVariants as halt
use Rattle.wa_exec.specs.declared.link.HostCall.{HostCall}
use Rattle.wa_exec.specs.HostCalls.{HasCalled}
use Rattle.wa_exec.specs.Interaction.{sides}
use Rattle.wa_exec.proofs.environment.call_host.Goals as goal

pub returns-in-Put-clause-does : goal.returns-in-Put-clause-does
returns-in-Put-clause-does g c =
    let here = sides (g.I.Source.input c.args.input.now) (g.I.Source.ended c.args.input.now) (g.O.Sink.output c.args.out.now) in
    let there = sides (g.I.Source.input c.args.input.now) (g.I.Source.ended c.args.input.now) (g.O.Sink.output c.put.new.out) in
    subst (λ (call : HostCall). HasCalled c.args.calls.now c.take-word.new.self here there c.args.host.now c.put.new.host call c.put.result) (sym c.in-Put.is)
    (record {
      word = c.take-word.result;
      rest = c.take-word.ensures.rest;
      takes = λ n stack below on_top. (let taken = c.take-word.ensures.takes n stack below on_top in (sym taken.0, taken.1));
      unread = (refl, refl);
      hands = c.put.ensures.hands;
    })

pub returns-in-Stop-clause-does : goal.returns-in-Stop-clause-does
returns-in-Stop-clause-does g c =
    let here = sides (g.I.Source.input c.args.input.now) (g.I.Source.ended c.args.input.now) (g.O.Sink.output c.args.out.now) in
    subst (λ (call : HostCall). HasCalled c.args.calls.now c.take-in-Stop.new.self here here c.args.host.now c.args.host.now call (Err (halt.Stopped c.low-code.result c.low-site.result))) (sym c.in-Stop.is)
    (record {
      site = c.take.result;
      code = c.take-in-Stop.result;
      result_is = ap (λ (code : ℕ). Err (halt.Stopped code c.low-site.result)) c.low-code.ensures ∙ ap (λ (site : ℕ). Err (halt.Stopped (c.take-in-Stop.result % 2 ^ 32) site)) c.low-site.ensures;
      takes = λ a b stack below on_top.
          (let first = c.take.ensures.takes a (b ∷ stack) below on_top in
          let second = c.take-in-Stop.ensures.takes b stack below first.2 in
          (sym first.0, sym second.0));
      there_is = refl;
      left_is = refl;
    })
