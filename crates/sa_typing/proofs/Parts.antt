-- The parts of a well-typed program, put together.
use Rattle.std.proofs.Common.{◌≡◌, ◌↔◌, ◌&&◌, ℕ, Bool, true, false, true≢false, List, length, Result, IfOk, subst, sym, ap, ◌∙◌}
use Rattle.std.specs.Prelude.{IsTrue}
use Rattle.std.specs.List.{list_all}
use Rattle.sa_typed.specs.declared.feature.TypedFeature.{TypedFeature}
use Rattle.sa_typed.specs.declared.feature.Site.{Site}
use Rattle.sa_typed.specs.declared.program.TypedProgram.{TypedProgram}
use Rattle.sa_typed.specs.declared.stmt.TypedStmt.{TypedStmt}
use Rattle.sa_typed.specs.Copy.{block_of}
use Rattle.sa_typing.specs.declared.context.TypingContext.{TypingContext}
use Rattle.sa_typing.specs.Contexts.{Env, outside}
use Rattle.sa_typing.specs.Sites.{agree_on_types, stmts_sites}
use Rattle.sa_typing.specs.Statements.{well_stmts}
use Rattle.sa_typing.specs.Rows.{Rows}
use Rattle.sa_typing.specs.Types.{well_base_types, well_types}
use Rattle.sa_typing.specs.Layout.{IsAcyclic}
use Rattle.sa_typing.specs.Signatures.{well_signatures}
use Rattle.sa_typing.specs.Features.{feature_env, has_well_header, well_feature, well_main, well_shared}
use Rattle.sa_typing.specs.WellTyped.{AreWellTyped, IsWellTyped, rows_of}

-- the body of a feature, in the feature's environment and in the outermost context
module _ (w : Rows) (f : TypedFeature) (scope : Env) (at : TypingContext) (body : List TypedStmt) (is_scope : scope ≡ feature_env w f) (is_at : at ≡ outside) (is_body : body ≡ f.body) (shaped : true ≡ has_well_header w f) where
  same_body : well_stmts scope at (block_of body) ≡ well_stmts (feature_env w f) outside (block_of f.body)
  same_body =
      ap (λ (s : Env). well_stmts s at (block_of body)) is_scope
      ∙ ap (λ (p : TypingContext). well_stmts (feature_env w f) p (block_of body)) is_at
      ∙ ap (λ (list : List TypedStmt). well_stmts (feature_env w f) outside (block_of list)) is_body

  -- what follows the header of the feature decides, and what follows its statements where these are well typed
  by_body : well_feature w f ≡ (well_stmts scope at (block_of body) && agree_on_types (length f.sites) (stmts_sites (feature_env w f) outside (block_of f.body)))
  by_body =
      ap (λ (b : Bool). b && (well_stmts (feature_env w f) outside (block_of f.body) && agree_on_types (length f.sites) (stmts_sites (feature_env w f) outside (block_of f.body)))) (sym shaped)
      ∙ ap (λ (b : Bool). b && agree_on_types (length f.sites) (stmts_sites (feature_env w f) outside (block_of f.body))) (sym same_body)

  pub not-stmts : false ≡ well_stmts scope at (block_of body) → false ≡ well_feature w f
  not-stmts fails =
      sym (by_body ∙ ap (λ (b : Bool). b && agree_on_types (length f.sites) (stmts_sites (feature_env w f) outside (block_of f.body))) (sym fails))

  pub by-sites : {E : Type 0} (r : Result Bool E) (sites : List Site) (again : List TypedStmt) → true ≡ well_stmts scope at (block_of body) → sites ≡ f.sites → again ≡ f.body → IfOk r (λ well. well ≡ agree_on_types (length sites) (stmts_sites scope outside (block_of again))) → IfOk r (λ well. well ≡ well_feature w f)
  by-sites r sites again goes is_sites is_again =
      subst (λ (b : Bool). IfOk r (λ well. well ≡ b))
      (ap (λ (s : Env). agree_on_types (length sites) (stmts_sites s outside (block_of again))) is_scope
      ∙ ap (λ (list : List Site). agree_on_types (length list) (stmts_sites (feature_env w f) outside (block_of again))) is_sites
      ∙ ap (λ (list : List TypedStmt). agree_on_types (length f.sites) (stmts_sites (feature_env w f) outside (block_of list))) is_again
      ∙ sym (by_body ∙ ap (λ (b : Bool). b && agree_on_types (length f.sites) (stmts_sites (feature_env w f) outside (block_of f.body))) (sym goes)))

-- one part that isn't well typed is enough
module _ (w : Rows) (main : ℕ) (r : Bool) (fails : r ≡ false) where
  pub not-given : r ≡ well_base_types w → IsTrue false ↔ AreWellTyped w main
  not-given is = (λ no. absurd (true≢false (sym no)), λ a. absurd (true≢false (sym a.given ∙ sym is ∙ fails)))

  pub not-types : r ≡ well_types w 0 w.types → IsTrue false ↔ AreWellTyped w main
  not-types is = (λ no. absurd (true≢false (sym no)), λ a. absurd (true≢false (sym a.types ∙ sym is ∙ fails)))

  pub not-flat : IsTrue r ↔ IsAcyclic w → IsTrue false ↔ AreWellTyped w main
  not-flat is = (λ no. absurd (true≢false (sym no)), λ a. absurd (true≢false (sym (is.1 a.flat) ∙ fails)))

  pub not-signatures : r ≡ well_signatures w 0 w.signatures → IsTrue false ↔ AreWellTyped w main
  not-signatures is = (λ no. absurd (true≢false (sym no)), λ a. absurd (true≢false (sym a.signatures ∙ sym is ∙ fails)))

  pub not-shareds : r ≡ list_all (well_shared w) w.shareds → IsTrue false ↔ AreWellTyped w main
  not-shareds is = (λ no. absurd (true≢false (sym no)), λ a. absurd (true≢false (sym a.shareds ∙ sym is ∙ fails)))

  pub not-features : r ≡ list_all (well_feature w) w.features → IsTrue false ↔ AreWellTyped w main
  not-features is = (λ no. absurd (true≢false (sym no)), λ a. absurd (true≢false (sym a.features ∙ sym is ∙ fails)))

-- where all others are well typed, the last one decides
pub all-but : (w : Rows) (main : ℕ) (given types flat signatures shareds features runs : Bool) → given ≡ well_base_types w → given ≡ true → types ≡ well_types w 0 w.types → types ≡ true → IsTrue flat ↔ IsAcyclic w → flat ≡ true → signatures ≡ well_signatures w 0 w.signatures → signatures ≡ true → shareds ≡ list_all (well_shared w) w.shareds → shareds ≡ true → features ≡ list_all (well_feature w) w.features → features ≡ true → runs ≡ well_main w main → IsTrue runs ↔ AreWellTyped w main
all-but w main given types flat signatures shareds features runs is-given given-is is-types types-is is-flat flat-is is-signatures signatures-is is-shareds shareds-is is-features features-is is-main =
    (λ main-is. record { given = sym is-given ∙ given-is; types = sym is-types ∙ types-is; flat = is-flat.0 flat-is; signatures = sym is-signatures ∙ signatures-is; shareds = sym is-shareds ∙ shareds-is; features = sym is-features ∙ features-is; main = sym is-main ∙ main-is }, λ a. is-main ∙ a.main)

-- a view that has the tables of a program
pub by-rows : {E : Type 0} (r : Result Bool E) (w : Rows) (core : TypedProgram) → w ≡ rows_of core → IfOk r (λ well. IsTrue well ↔ AreWellTyped w core.main) → IfOk r (λ well. IsTrue well ↔ IsWellTyped core)
by-rows r w core same found = subst (λ (v : Rows). IfOk r (λ well. IsTrue well ↔ AreWellTyped v core.main)) same found

pub ruleset rows = (by-rows)

pub ruleset parts = (not-given, not-types, not-flat, not-signatures, not-shareds, not-features, all-but)
