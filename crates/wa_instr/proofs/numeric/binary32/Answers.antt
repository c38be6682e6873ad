use Rattle.std.proofs.Common.{◌≡◌, ◌<◌, Err, refl, rules, arith}
use Rattle.wa_instr.proofs.Stacks.{top, second, binary_put}
use Rattle.wa_instr.proofs.numeric.binary32.Goals as goal

pub returns-in_err-word : goal.returns-in_err-word
returns-in_err-word c = λ b a stack holds is_operator. let fits : c.args.height < 18446744073709551616 = omega arith in
    let next = second c.args.words.now c.args.height c.read.result b a stack fits c.read.ensures holds in
    let first = top c.args.words.now c.args.height c.read-2.result b _ fits c.read-2.ensures holds in
    let off : c.from_residual.result ≡ Err c.in_err-word.field-0.0 = search rules in
    rw (off, ← next.read_is, ← first.read_is, ← c.in_err-word.ensures) refl

pub returns : goal.returns
returns c = λ b a stack holds is_operator. let fits : c.args.height < 18446744073709551616 = omega arith in
    let next = second c.args.words.now c.args.height c.read.result b a stack fits c.read.ensures holds in
    let first = top c.args.words.now c.args.height c.read-2.result b _ fits c.read-2.ensures holds in
    let put = binary_put c.args.words.now c.write.new.words c.args.height c.read.result b a c.in_ok-word.word stack fits c.read.ensures c.write.ensures holds in
    rw (← next.read_is, ← first.read_is, ← c.in_ok-word.ensures) put
