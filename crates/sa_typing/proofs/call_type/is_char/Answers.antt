-- CHAR has no type arguments.
use Rattle.std.proofs.Common.{ap, rules, sym, ◌≡◌, ◌∙◌, true}
use Rattle.std.specs.Prelude.{bytes_eq, codes}
use Rattle.sa_ast.specs.Types.{bare}
use Rattle.sa_ast.proofs.BareTypes.{bare-Named}
use Rattle.sa_typing.specs.CallTypes.{is_char}
use Rattle.sa_typing.proofs.Numbered.{is_char-alone}
use Rattle.sa_typing.proofs.call_type.is_char.Goals as goal

pub returns-then-eq : goal.returns-then-eq
returns-then-eq c =
    let named : bytes_eq c.in-Named.name (codes "CHAR") ≡ true = search rules in
    is_char-alone c.in-Named.name c.in-Named.given c.is_empty.result c.is_empty.ensures named
    ∙ sym (ap is_char (ap bare c.in-Named.is ∙ bare-Named c.in-Named.name c.in-Named.given c.in-Named.field-2))
