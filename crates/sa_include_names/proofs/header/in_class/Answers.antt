use Rattle.std.proofs.Common.{◌∙◌, ap, flat_map}
use Rattle.sa_ast.specs.declared.class.Include.{Include}
use Rattle.sa_ast.specs.declared.class.TypeParam.{TypeParam}
use Rattle.sa_include_names.specs.Headers.{misused_in, misused_option, misused_types}
use Rattle.sa_include_names.specs.Tables.{first, misused_above_in, misused_include_in, occurs_in}
use Rattle.sa_include_names.proofs.Misuses.{first_fourth}
use Rattle.sa_include_names.proofs.header.in_class.Goals as goal

pub returns-in-None-in_all_above : goal.returns-in-None-in_all_above
unfolding misused_in
returns-in-None-in_all_above c =
    let scope = c.args.scope.now in
    first_fourth _ _ _ _ c.in_bounds.result c.in_types.result c.in_all_above.result c.in_includes.result
    (c.in_bounds.ensures ∙ ap (λ ps. first (flat_map (λ (p : TypeParam). misused_option (occurs_in scope) p.bound) ps)) c.as_slice.ensures) c.in-None.is
    (c.in_types.ensures ∙ ap (λ ts. first (misused_types (occurs_in scope) ts)) c.as_slice-in-None.ensures) c.in-None-in_types.is
    (c.in_all_above.ensures ∙ ap (λ ts. first (flat_map (misused_above_in scope) ts)) c.as_slice-in-None-in_types.ensures) c.in-None-in_all_above.is
    (c.in_includes.ensures ∙ ap (λ ks. first (flat_map (λ (i : Include). misused_include_in scope i.ty) ks)) c.as_slice-in-None-in_all_above.ensures)
