use Rattle.std.proofs.Common.{◌≡◌, ◌<◌, Err, refl, rules, arith}
use Rattle.wa_instr.proofs.Stacks.{top, unary_put}
use Rattle.wa_instr.proofs.numeric.unary64.Goals as goal

pub returns-in_err-word : goal.returns-in_err-word
returns-in_err-word c = λ a stack holds is_operator. let fits : c.args.height < 18446744073709551616 = omega arith in
    let first = top c.args.words.now c.args.height c.read.result a stack fits c.read.ensures holds in
    let off : c.from_residual.result ≡ Err c.in_err-word.field-0.0 = search rules in
    rw (off, ← first.read_is, ← c.in_err-word.ensures) refl

pub returns : goal.returns
returns c = λ a stack holds is_operator. let fits : c.args.height < 18446744073709551616 = omega arith in
    let first = top c.args.words.now c.args.height c.read.result a stack fits c.read.ensures holds in
    let put = unary_put c.args.words.now c.write.new.words c.args.height c.read.result a c.in_ok-word.word stack fits c.read.ensures c.write.ensures holds in
    rw (← first.read_is, ← c.in_ok-word.ensures) put
