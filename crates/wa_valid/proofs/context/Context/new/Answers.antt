use Rattle.std.proofs.Common.{◌≡◌, ◌+◌, length, arith}
use Rattle.std.specs.Prelude.{filter_map}
use Rattle.wa_syntax.specs.ValidModule.{imported_table, imported_memory}
use Rattle.wa_valid.proofs.Contexts.{context-is}
use Rattle.wa_valid.proofs.context.Context.new.Goals as goal

pub returns-clause-ok : goal.returns-clause-ok
returns-clause-ok c =
    let m = c.args.m.now in
    let tables : c.in_ok-together.field-0 ≡ length (filter_map (λ import. imported_table import.kind) c.as_slice-imports.result.now) + length m.tables = omega (arith, c.in_ok-together.ensures.ok, c.imported_tables.ensures, c.len.ensures) in
    let memories : c.in_ok-together-2.field-0 ≡ length (filter_map (λ import. imported_memory import.kind) c.as_slice-imports.result.now) + length m.memories = omega (arith, c.in_ok-together-2.ensures.ok, c.imported_memories.ensures, c.len-2.ensures) in
    context-is m c.as_slice.result.now c.as_slice-imports.result.now c.as_slice-2.result.now c.as_slice-3.result.now c.in_ok-functions.field-0 c.in_ok-together.field-0 c.in_ok-together-2.field-0 c.in_ok-globals.field-0 c.as_slice.ensures c.as_slice-imports.ensures c.as_slice-2.ensures c.as_slice-3.ensures c.in_ok-functions.ensures.ok tables memories c.in_ok-globals.ensures.ok
