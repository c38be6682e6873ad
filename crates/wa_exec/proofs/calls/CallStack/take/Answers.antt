use Rattle.std.proofs.Common.{ℕ, subst, sym, arith}
use Rattle.wa_exec.specs.Activations.{OnTop}
use Rattle.wa_exec.proofs.Frames.{on_top-taken}
use Rattle.wa_exec.proofs.calls.CallStack.take.Goals as goal

pub returns-clause-takes : goal.returns-clause-takes
returns-clause-takes c = λ word stack below on.
    let taken = on_top-taken c.args.self.now.region c.args.self.now.height c.top_word.result word stack below (omega arith) c.top_word.ensures on in
    (taken.read_is, taken.height, subst (λ (h : ℕ). OnTop c.args.self.now.region h stack below) (sym taken.height) taken.on_top)
