use Rattle.std.proofs.Common.{ℕ, ◌∙◌, length, subst, sym, rules}
use Rattle.std.proofs.lemmas.Result.{err_from_is_err_and}
use Rattle.wa_syntax.specs.Binary.{customs}
use Rattle.wa_decode.specs.Reading.{Spelled}
use Rattle.wa_decode.specs.Sections.{PastCustoms}
use Rattle.wa_decode.proofs.Modules.{begins, module-found, module-spelled}
use Rattle.wa_decode.proofs.OneModule.{one-module}
use Rattle.wa_decode.proofs.module.decode.Goals as goal

pub returns-in_err-module-clause-only : goal.returns-in_err-module-clause-only
returns-in_err-module-clause-only c = λ m n h k. one-module c.args.bytes.now m n h k

pub returns-in_err-end-clause-only : goal.returns-in_err-end-clause-only
returns-in_err-end-clause-only c = λ m n h k. one-module c.args.bytes.now m n h k

pub returns-in_err-ends-clause-only : goal.returns-in_err-ends-clause-only
returns-in_err-ends-clause-only c = λ m n h k. one-module c.args.bytes.now m n h k

pub returns-clause-only : goal.returns-clause-only
returns-clause-only c = λ m n h k. one-module c.args.bytes.now m n h k

pub returns-in_err-module-clause-complete : goal.returns-in_err-module-clause-complete
returns-in_err-module-clause-complete c = λ m h.
    let failed = err_from_is_err_and c.from_residual.result c.from_residual.ensures.1 in
    let spelled = module-spelled c.args.bytes.now m h in
    rw failed.1 (failed.2 ∙ c.in_err-module.ensures.reads.complete m spelled.1 spelled.2)

pub returns-in_err-end-clause-complete : goal.returns-in_err-end-clause-complete
returns-in_err-end-clause-complete c = λ m h.
    let failed = err_from_is_err_and c.from_residual-in_err-end.result c.from_residual-in_err-end.ensures.1 in
    let spelled = module-spelled c.args.bytes.now m h in
    let same = c.in_ok-module.ensures.reads.complete m spelled.1 spelled.2 in
    rw failed.1 (failed.2 ∙ c.in_err-end.ensures.complete _ (subst (λ (n : ℕ). PastCustoms c.args.bytes.now n (length c.args.bytes.now)) (sym same.1) spelled.3))

pub returns-in_err-ends-clause-complete : goal.returns-in_err-ends-clause-complete
returns-in_err-ends-clause-complete c = λ m h.
    let spelled = module-spelled c.args.bytes.now m h in
    let same = c.in_ok-module.ensures.reads.complete m spelled.1 spelled.2 in
    let past = subst (λ (n : ℕ). PastCustoms c.args.bytes.now n (length c.args.bytes.now)) (sym same.1) spelled.3 in
    absurd (c.in_err-ends.ensures.0 (c.in_ok-end.ensures.complete _ past))

pub returns-clause-found : goal.returns-clause-found
returns-clause-found c =
    let front = begins c.starts_with.result c.args.bytes.now c.starts_with.ensures.value (search rules) in
    let past = c.in_ok-end.ensures.found in
    let rest = subst (λ (n : ℕ). Spelled customs c.args.bytes.now c.in_ok-module.at n) c.in_ok-ends.ensures past.customs in
    module-found c.args.bytes.now c.in_ok-module.module c.in_ok-module.at front c.in_ok-module.ensures.reads.found rest

pub returns-clause-complete : goal.returns-clause-complete
returns-clause-complete c = λ m h.
    let spelled = module-spelled c.args.bytes.now m h in
    (c.in_ok-module.ensures.reads.complete m spelled.1 spelled.2).0
