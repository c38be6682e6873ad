use Rattle.std.proofs.Common.{◌≡◌, ◌+◌, ◌-◌, ◌∷◌, ◌++◌, max, replicate, slice_range, ℕ, OnOk, rules}
use Rattle.wa_stack.specs.Frames.{top}
use Rattle.wa_exec.proofs.Frames.{arguments_are}
use Rattle.wa_exec.proofs.calls.open_frame.Goals as goal

pub returns-then-has_words-clause-opens : goal.returns-then-has_words-clause-opens
returns-then-has_words-clause-opens c = λ arguments stack below on long.
    let words = arguments_are c.args.region.now c.args.from c.args.params arguments stack below on long in
    let len_is : c.max-len.result ≡ max c.args.len c.args.params = search rules in
    let opened : OnOk c.map_err.result (c.enter_with.new.self ≡ (slice_range (top c.args.region.now) c.args.from (c.args.from + c.args.params) ++ replicate {A = ℕ} (c.max-len.result - c.args.params) 0) ∷ c.args.region.now) = search rules in
    rw (← len_is, ← words) opened
