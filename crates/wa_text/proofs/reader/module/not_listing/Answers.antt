use Rattle.std.proofs.Common.{◌≤◌, ℕ, Bool, arith}
use Rattle.std.specs.Prelude.{cond, take, ◌==◌}
use Rattle.std.specs.List.{count_by}
use Rattle.std.proofs.lemmas.List.Sums.{sum_by-take-le}
use Rattle.wa_text.proofs.reader.module.not_listing.Goals as goal

pub returns-clause-line : goal.returns-clause-line
returns-clause-line c =
    let newlines : ℕ → Bool = λ byte. byte == 10 in
    let few : count_by newlines (take c.args.at c.args.text.now) ≤ count_by newlines c.args.text.now = sum_by-take-le (λ byte. cond (byte == 10) 1 0) c.args.text.now c.args.at in
    (omega arith, omega (arith, c.line_feeds-newlines.ensures.count, few))
