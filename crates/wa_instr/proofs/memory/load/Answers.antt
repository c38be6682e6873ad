use Rattle.std.proofs.Common.{◌≡◌, ◌+◌, ◌%◌, ◌<◌, ℕ, Err, refl, ap, ◌∙◌, rules, arith}
use Rattle.wa_instr.proofs.Stacks.{top, unary_put}
use Rattle.wa_instr.proofs.memory.load.Goals as goal

pub returns-in_err-word : goal.returns-in_err-word
returns-in_err-word c = λ base stack holds a is_load. let fits : c.args.height < 18446744073709551616 = omega arith in
    let first = top c.args.words.now c.args.height c.read.result base stack fits c.read.ensures holds in
    let at_is : c.place.result ≡ base % 4294967296 + c.args.offset = c.place.ensures.at ∙ ap (λ (word : ℕ). word % 4294967296 + c.args.offset) first.read_is in
    let off : c.from_residual.result ≡ Err c.in_err-word.field-0.0 = search rules in
    rw (off, ← at_is, ← c.in_err-word.ensures a is_load) refl

pub returns : goal.returns
returns c = λ base stack holds a is_load. let fits : c.args.height < 18446744073709551616 = omega arith in
    let first = top c.args.words.now c.args.height c.read.result base stack fits c.read.ensures holds in
    let at_is : c.place.result ≡ base % 4294967296 + c.args.offset = c.place.ensures.at ∙ ap (λ (word : ℕ). word % 4294967296 + c.args.offset) first.read_is in
    let put = unary_put c.args.words.now c.write.new.words c.args.height c.read.result base c.in_ok-word.word stack fits c.read.ensures c.write.ensures holds in
    rw (← at_is, ← c.in_ok-word.ensures a is_load) put
