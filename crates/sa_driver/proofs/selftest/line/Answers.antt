use Rattle.std.proofs.Common.{◌∙◌, ◌++◌, ap}
use Rattle.std.specs.Prelude.{codes, decimal}
use Rattle.sa_driver.proofs.selftest.line.Goals as goal

pub returns : goal.returns
returns c =
    let first = c.in_ok-add_numbered.ensures ∙ ap (λ l. l ++ (codes "selftest " ++ decimal c.args.classes ++ codes ": ")) c.new-line.ensures.items in
    let second = c.in_ok-add_numbered-2.ensures ∙ ap (λ l. l ++ (decimal c.args.bytes ++ codes " bytes, status ")) first in
    c.in_ok-add_numbered-3.ensures ∙ ap (λ l. l ++ (decimal c.args.status ++ codes "\n")) second
