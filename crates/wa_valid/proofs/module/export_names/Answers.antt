use Rattle.std.proofs.Common.{◌≡◌, ℕ, false, eqb, List, Err, refl, rules}
use Rattle.std.specs.Borrow.{Bor}
use Rattle.std.specs.List.{list_any}
use Rattle.std.specs.Cmp.Lexicographic.{pointwise}
use Rattle.std.proofs.lemmas.Bool.Decides.{Decides-eqb}
use Rattle.std.proofs.lemmas.Slice.Eq.{slice_eq-Decides}
use Rattle.wa_valid.proofs.Apart.{not_new, is_new}
use Rattle.wa_valid.proofs.ExportNames.{keys-more, names_apart-more, names_apart-not}
use Rattle.wa_valid.proofs.Steps.{not_ok}
use Rattle.wa_valid.proofs.module.export_names.Goals as goal

pub returns-in_err-require : goal.returns-in_err-require
returns-in_err-require c =
    let off : c.from_residual-in_err-require.result ≡ Err c.in_err-require.field-0.0 = search rules in (
      λ ok. absurd (not_ok c.from_residual-in_err-require.result c.in_err-require.field-0.0 off ok),
      λ is. names_apart-not (λ (key : Bor (List ℕ)). key.now) (λ (a b : Bor (List ℕ)). pointwise eqb a.now b.now) (λ (a b : Bor (List ℕ)). slice_eq-Decides Decides-eqb a.now b.now (pointwise eqb a.now b.now) refl) c.loop-export.names.keys c.as_slice.result c.args.exports.now c.loop-export.export-index c.export-item.result c.loop-export-test.true c.export-item.is c.as_slice.ensures c.loop-export.invariant.keys (not_new (list_any (λ (key : Bor (List ℕ)). pointwise eqb c.as_slice.result.now key.now) c.loop-export.names.keys) c.in_ok-added.added c.in_ok-added.ensures.added (c.in_err-require.ensures.1 (cc))),
    )

pub loop-export-preserved : goal.loop-export-preserved
loop-export-preserved c =
    let none : list_any (λ (key : Bor (List ℕ)). pointwise eqb c.as_slice.result.now key.now) c.loop-export.names.keys ≡ false = is_new (list_any (λ (key : Bor (List ℕ)). pointwise eqb c.as_slice.result.now key.now) c.loop-export.names.keys) c.in_ok-added.added c.in_ok-added.ensures.added (c.in_ok-require.ensures.0 refl) in
    record {
      keys = keys-more (λ (key : Bor (List ℕ)). key.now) (λ (a b : Bor (List ℕ)). pointwise eqb a.now b.now) (λ (a b : Bor (List ℕ)). slice_eq-Decides Decides-eqb a.now b.now (pointwise eqb a.now b.now) refl) c.loop-export.names.keys c.as_slice.result c.args.exports.now c.loop-export.export-index c.export-item.result c.loop-export-test.true c.export-item.is c.as_slice.ensures c.loop-export.invariant.keys c.insert.new.self.keys none c.in_ok-added.ensures.keys;
      apart = names_apart-more (λ (key : Bor (List ℕ)). key.now) (λ (a b : Bor (List ℕ)). pointwise eqb a.now b.now) (λ (a b : Bor (List ℕ)). slice_eq-Decides Decides-eqb a.now b.now (pointwise eqb a.now b.now) refl) c.loop-export.names.keys c.as_slice.result c.args.exports.now c.loop-export.export-index c.export-item.result c.loop-export-test.true c.export-item.is c.as_slice.ensures c.loop-export.invariant.keys none c.loop-export.invariant.apart;
    }
