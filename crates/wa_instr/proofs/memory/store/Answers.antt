use Rattle.std.proofs.Common.{◌≡◌, ◌+◌, ◌%◌, ◌<◌, ℕ, ap, ◌∙◌, arith}
use Rattle.wa_instr.proofs.Stacks.{top, second}
use Rattle.wa_instr.proofs.memory.store.Goals as goal

pub returns : goal.returns
returns c = λ n base stack holds a is_store. let fits : c.args.height < 18446744073709551616 = omega arith in
    let first = top c.args.words.now c.args.height c.read-word.result n _ fits c.read-word.ensures holds in
    let next = second c.args.words.now c.args.height c.read.result n base stack fits c.read.ensures holds in
    let at_is : c.place-at.result ≡ base % 4294967296 + c.args.offset = c.place-at.ensures.at ∙ ap (λ (word : ℕ). word % 4294967296 + c.args.offset) next.read_is in
    rw (← at_is, ← first.read_is) (c.set.ensures a is_store)
