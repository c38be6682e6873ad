-- A statement that declares nothing.
use Rattle.std.proofs.Common.{List, ◌++◌, sym, ap, ◌∙◌}
use Rattle.std.proofs.lemmas.List.{append-nil}
use Rattle.sa_ast.specs.declared.pos.Pos.{Pos}
use Rattle.sa_contracts.proofs.DeclaredAt.{declared_at-other}
use Rattle.sa_contracts.proofs.body.add_words.Goals as goal

pub returns-in_default : goal.returns-in_default
returns-in_default c =
    sym (append-nil c.args.words.now)
    ∙ ap (λ (places : List Pos). c.args.words.now ++ places) (sym (declared_at-other c.args.s.now c.in_default.not-Declare))
