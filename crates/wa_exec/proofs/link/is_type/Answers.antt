use Rattle.std.proofs.Common.{◌≡◌, ap, sym, refl, ◌∙◌, ◌&&◌, Bool}
use Rattle.wa_syntax.specs.Hosts.{same_types}
use Rattle.wa_exec.proofs.Linking.{same_types-is}
use Rattle.wa_exec.proofs.link.is_type.Goals as goal

pub returns-then-eq : goal.returns-then-eq
returns-then-eq c =
    let first : c.eq.result ≡ same_types c.args.params.now c.args.ty.now.params = same_types-is _ c.args.params.now c.as_slice.result.now c.eq.result c.eq.ensures refl refl refl refl ∙ ap (same_types c.args.params.now) c.as_slice.ensures in
    let second : c.eq-then-eq.result ≡ same_types c.args.results.now c.args.ty.now.results = same_types-is _ c.args.results.now c.as_slice-then-eq.result.now c.eq-then-eq.result c.eq-then-eq.ensures refl refl refl refl ∙ ap (same_types c.args.results.now) c.as_slice-then-eq.ensures in
    second ∙ ap (λ (b : Bool). b && same_types c.args.results.now c.args.ty.now.results) (sym c.if-eq.true ∙ first)

pub returns-else-eq : goal.returns-else-eq
returns-else-eq c =
    let first : c.eq.result ≡ same_types c.args.params.now c.args.ty.now.params = same_types-is _ c.args.params.now c.as_slice.result.now c.eq.result c.eq.ensures refl refl refl refl ∙ ap (same_types c.args.params.now) c.as_slice.ensures in
    c.if-eq.false ∙ ap (λ (b : Bool). b && same_types c.args.results.now c.args.ty.now.results) (sym c.if-eq.false ∙ first)
