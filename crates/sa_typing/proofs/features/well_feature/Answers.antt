-- A feature whose statements aren't well typed, and one whose statements are.
use Rattle.sa_typing.specs.Contexts.{env}
use Rattle.sa_typing.specs.Rows.{rows}
use Rattle.std.proofs.Common.{◌∙◌, sym}
use Rattle.sa_typing.proofs.Parts.{by-sites, not-stmts}
use Rattle.sa_typing.proofs.features.well_feature.Goals as goal

pub returns-then-not-well_stmts : goal.returns-then-not-well_stmts
returns-then-not-well_stmts c =
    not-stmts (rows c.args.view.now) c.args.feature.now (env c.env_of-scope.result) c.outside.result c.as_slice.result.now c.env_of-scope.ensures.env c.outside.ensures c.as_slice.ensures (sym c.if-not-has_well_header.false ∙ c.has_well_header.ensures) (sym c.if-not-well_stmts.true ∙ c.well_stmts.ensures)

pub returns : goal.returns
returns c =
    by-sites (rows c.args.view.now) c.args.feature.now (env c.env_of-scope.result) c.outside.result c.as_slice.result.now c.env_of-scope.ensures.env c.outside.ensures c.as_slice.ensures (sym c.if-not-has_well_header.false ∙ c.has_well_header.ensures) c.sites_agree.result c.env_of-scope.result.sites.now c.as_slice-2.result.now (sym c.if-not-well_stmts.false ∙ c.well_stmts.ensures) c.env_of-scope.ensures.sites c.as_slice-2.ensures c.sites_agree.ensures
