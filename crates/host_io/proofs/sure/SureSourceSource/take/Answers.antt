use Rattle.std.proofs.Common.{rules, ap, sym, ◌∙◌, ◌+◌, ◌∷◌, drop, Some}
use Rattle.std.proofs.lemmas.List.{drop_more}
use Rattle.host_io.specs.Input.{Input}
use Rattle.host_io.proofs.sure.SureSourceSource.take.Goals as goal

pub returns-then-self-len-clause-gives : goal.returns-then-self-len-clause-gives
returns-then-self-len-clause-gives c =
    let given = c.self.inside.given in
    let bytes = c.self.inside.bytes.items in
    let byte = c.index-byte.result.now in (
      drop (given + 1) bytes,
      ap (λ (i : Input). i.left) (sym c.self.view_is) ∙ drop_more bytes given byte (search rules) ∙ ap (λ b. b ∷ drop (given + 1) bytes) (sym c.index-byte.ensures),
      ap (λ (i : Input). Some (record { left = drop (given + 1) bytes; ends = i.ends })) c.self.view_is,
    )
