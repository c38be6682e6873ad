use Rattle.std.proofs.Common.{subst, sym}
use Rattle.std.proofs.lemmas.Result.{IfOk-weaker}
use Rattle.sa_lower_expr.specs.ExprContext.{IsLowered, IsResult, expr_context, env_of}
use Rattle.sa_lower_expr.specs.Typed.{Gives, IsTyped}
use Rattle.sa_lower_expr.proofs.Forms.{no-other, iter-placed}
use Rattle.sa_lower_expr.proofs.+place.Goals as goal

pub calls::lower_call-unreachable-requires : goal.calls::lower_call-unreachable-requires
calls::lower_call-unreachable-requires t c =
    no-other c.args.e.now c.requires.form c.in_default.not-Call c.in_default.not-IterCall c.in_default.not-Bind c.in_default.not-Reversed

pub calls::lower_call-returns-in_ok-args-in-IterCall : goal.calls::lower_call-returns-in_ok-args-in-IterCall
calls::lower_call-returns-in_ok-args-in-IterCall t c =
    let a = c.args.around.now in
    let typed = subst (IsTyped (env_of a) (expr_context a)) c.in-IterCall.is c.requires.typed in
    let gives = subst (λ x. Gives (env_of a) (expr_context a) x c.in_ok-recv-in-IterCall.recv.given) c.get-in-IterCall.ensures c.in_ok-recv-in-IterCall.ensures in
    IfOk-weaker c.end_site.result (IsResult (env_of a).rows c.on-invocation-in-IterCall.result.reached) (IsLowered a c.args.e.now)
    (λ p is. subst (λ x. IsLowered a x p) (sym c.in-IterCall.is)
    (iter-placed a c.in-IterCall.number _ c.in-IterCall.on c.in-IterCall.args c.in-IterCall.pos c.in_ok-recv-in-IterCall.recv.given c.reached_on-in-IterCall.result p typed gives c.reached_on-in-IterCall.ensures
    (subst (λ r. IsResult (env_of a).rows r p) c.on-invocation-in-IterCall.ensures is)))
    c.end_site.ensures
