use Rattle.std.proofs.Common.{◌≡◌, inl, inr, true, false, rules, ◌∙◌}
use Rattle.std.specs.Prelude.{codes, is_some}
use Rattle.wa_text.proofs.NoLines.{halts_some, line_found, not_found}
use Rattle.wa_text.proofs.reader.expression.stops.Goals as goal

pub returns-then-is_some : goal.returns-then-is_some
returns-then-is_some c =
    let some : is_some c.following_line.result ≡ true = search rules in
    let k = line_found (codes "end") c.args.text.now c.args.at c.following_line.result some c.following_line.ensures.found in
    (λ yes. (k.0, inl k.1), λ h. c.if-is_some.true)

pub returns-else-is_some : goal.returns-else-is_some
returns-else-is_some c =
    let none : is_some c.following_line.result ≡ false = search rules in
    let no_end = not_found _ c.following_line.result none c.following_line.ensures.none in
    let is : c.is_some-else-is_some.result ≡ is_some c.following_line-else-is_some.result = search rules in (
      λ yes. let some : is_some c.following_line-else-is_some.result ≡ true = cc in let k = line_found (codes "else") c.args.text.now c.args.at c.following_line-else-is_some.result some c.following_line-else-is_some.ensures.found in (k.0, inr k.1),
      λ h. is ∙ halts_some c.following_line-else-is_some.result _ c.following_line-else-is_some.ensures.none no_end h,
    )
