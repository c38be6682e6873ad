-- What the parts of a well-typed AST have, by the conditions of the AST.
use Rattle.std.proofs.Common.{◌≡◌, ℕ, zero, suc, ◌+◌, ◌<◌, inl, inr, true, false, ◌==◌, All, List, [], ◌∷◌, length, get_or}
use Rattle.std.proofs.Common.{Option, Some, None, option_and_then, is_some, refl, sym, ap, subst, ◌∙◌, true≢false, arith}
use Rattle.std.specs.Prelude.{IfSome, IsTrue, nat_le}
use Rattle.std.specs.List.{list_all}
use Rattle.std.specs.Option.{option_map_or}
use Rattle.std.proofs.lemmas.Bool.{leb-true}
use Rattle.std.proofs.lemmas.List.{length-map}
use Rattle.std.proofs.lemmas.List.Sums.{AllPass-from_list_all}
use Rattle.std.proofs.lemmas.Option.{slice_get-get_or, slice_get_cases}
use Rattle.sa_typed.specs.declared.expr.TypedExpr.{TypedExpr}
use Rattle.sa_typed.specs.declared.feature.TypedFeature.{TypedFeature}
use Rattle.sa_typed.specs.declared.program.TypedProgram.{TypedProgram}
use Rattle.sa_typed.specs.declared.program.TypedShared.{TypedShared}
use Rattle.sa_typed.specs.declared.program.TypedSignature.{TypedSignature}
use Rattle.sa_typed.specs.declared.stmt.TypedStmt.{TypedStmt}
use Rattle.sa_typed.specs.Copy.{block_of, option_expr_of}
use Rattle.sa_lower.specs.TypedParts.{HasFewVariables, HasCallType, HasWellTypedBody, HasWellTypedInitialiser}
use Rattle.sa_lower_expr.specs.Typed.{HasValue}
use Rattle.sa_lower_expr.proofs.Values.{first_of, going_has, second_of}
use Rattle.sa_typing.specs.declared.context.TypingContext.{TypingContext}
use Rattle.sa_typing.specs.declared.call_type.CallType.{CallType}
use Rattle.sa_typing.specs.declared.view.TypingView.{TypingView}
use Rattle.sa_typing.specs.Features.{feature_env, has_well_header, has_types, main_fits, shared_env, starts_well, well_feature, well_main, well_shared, within_limits}
use Rattle.sa_typing.specs.Contexts.{Env, outside}
use Rattle.sa_typing.specs.Rows.{Rows, is_abstract, rows, call_type_at}
use Rattle.sa_typing.specs.CallTypes.{signature_call_type}
use Rattle.sa_typing.specs.Signatures.{are_implementations, lower_count, rise_from, well_signature, well_signatures}
use Rattle.sa_typing.specs.Statements.{well_stmts}
use Rattle.sa_typing.specs.WellTyped.{AreWellTyped, IsWellTyped, rows_of}

module _ (w : Rows) where
  -- ---- features

  body_of : (f : TypedFeature) → well_feature w f ≡ true → HasWellTypedBody w f
  unfolding HasWellTypedBody
  body_of f well = first_of _ _ (second_of _ _ well)

  all_bodies : (list : List TypedFeature) → IsTrue (list_all (well_feature w) list) → All (HasWellTypedBody w) list
  all_bodies list well i d within = body_of (get_or list i d) (AllPass-from_list_all (well_feature w) list well i d within)

  few_of : (f : TypedFeature) → well_feature w f ≡ true → HasFewVariables f
  unfolding HasFewVariables
  few_of f well =
      leb-true (length f.vars) 200 (first_of (nat_le (length f.vars) 200) _ (first_of (within_limits f) _ (second_of (has_types w f) _ (first_of (has_well_header w f) _ well))))

  all_few : (list : List TypedFeature) → IsTrue (list_all (well_feature w) list) → All HasFewVariables list
  all_few list well i d within = few_of (get_or list i d) (AllPass-from_list_all (well_feature w) list well i d within)

  -- in an environment that is the feature's
  pub body_there : (f : TypedFeature) (scope : Env) (body : List TypedStmt)
      → scope ≡ feature_env w f → body ≡ f.body → HasWellTypedBody w f → IsTrue (well_stmts scope outside (block_of body))
  unfolding HasWellTypedBody
  body_there f scope body is_scope is_body has =
      ap (λ (s : Env). well_stmts s outside (block_of body)) is_scope
      ∙ ap (λ (list : List TypedStmt). well_stmts (feature_env w f) outside (block_of list)) is_body
      ∙ has

  -- what the program runs is one of them
  main_within : (main : ℕ) → well_main w main ≡ true → main < length w.features
  main_within main well =
      elim (slice_get_cases w.features main).1 as (λ x. main < length w.features) [
        | inl found ↦ found.1
        | inr past ↦ absurd (true≢false (sym well ∙ ap (λ (f : Option TypedFeature). option_map_or (main_fits w) f false) past.1))
      ]

  -- ---- shareds

  start_of : (class ty : ℕ) (start : Option TypedExpr)
      → starts_well w class ty (option_expr_of start) ≡ true → IfSome start (HasValue (shared_env w class) outside)
  start_of class ty None well = tt
  start_of class ty (Some e) well = going_has (shared_env w class) outside ty e well

  starts : (s : TypedShared) → well_shared w s ≡ true → HasWellTypedInitialiser w s
  unfolding HasWellTypedInitialiser
  starts s well = start_of s.class s.ty s.start (second_of _ _ (second_of _ _ well))

  all_start : (list : List TypedShared) → IsTrue (list_all (well_shared w) list) → All (HasWellTypedInitialiser w) list
  all_start list well i d within = starts (get_or list i d) (AllPass-from_list_all (well_shared w) list well i d within)

  -- in an environment that is the initialiser's
  pub start_there : (s : TypedShared) (scope : Env) (at : TypingContext) (e : TypedExpr)
      → scope ≡ shared_env w s.class → at ≡ outside → s.start ≡ Some e → HasWellTypedInitialiser w s → HasValue scope at e
  unfolding HasWellTypedInitialiser
  start_there s scope at e is_scope is_at is_start starts =
      subst (λ (f : Env). HasValue f at e) (sym is_scope)
      (subst (λ (p : TypingContext). HasValue (shared_env w s.class) p e) (sym is_at)
      (subst (λ (o : Option TypedExpr). IfSome o (HasValue (shared_env w s.class) outside)) is_start starts))

  -- ---- signatures

  shape_of : (shape : Option CallType) (s : TypedSignature) → are_implementations w shape s ≡ true → is_some shape ≡ true
  shape_of None s well = well
  shape_of (Some shape) s well = refl

  shape_there : (k : ℕ) (s : TypedSignature) → well_signature w k s ≡ true → is_some (call_type_at w.shapes k) ≡ true
  shape_there k s well =
      shape_of (call_type_at w.shapes k) s
      (second_of (rise_from None s.impls) _
      (second_of (lower_count w s.ty == length s.impls) _
      (second_of (is_abstract w s.ty) _ well)))

  abbrev IsThere : ℕ → Type 0
  IsThere k = is_some (call_type_at w.shapes k) ≡ true

  shape_from : (n : ℕ) (list : List TypedSignature) (i : ℕ) → well_signatures w n list ≡ true → i < length list → IsThere (n + i)
  shape_from n [] i well within = absurd (omega (arith, within))
  shape_from n (s ∷ more) zero well within = subst IsThere (omega arith) (shape_there n s (first_of _ _ well))
  shape_from n (s ∷ more) (suc i) well within =
      subst IsThere (omega arith) (shape_from (n + 1) more i (second_of _ _ well) (omega (arith, within)))

  all_shapes : length w.shapes ≡ length w.signatures → well_signatures w 0 w.signatures ≡ true → All HasCallType w.shapes
  unfolding HasCallType
  all_shapes long well i d within =
      subst (λ (o : Option (Option CallType)). is_some (option_and_then (λ shape. shape) o) ≡ true) (slice_get-get_or w.shapes i d within)
      (subst IsThere (omega arith) (shape_from 0 w.signatures i well (omega (arith, long, within))))

-- ---- the parts of a view of a well-typed AST

module _ (view : TypingView) (core : TypedProgram) (well : IsWellTyped core) (same : rows view ≡ rows_of core) where
  are_well : AreWellTyped (rows view) core.main
  are_well = subst (λ (w : Rows). AreWellTyped w core.main) (sym same) well

  pub bodies_there : All (HasWellTypedBody (rows view)) view.features.now
  bodies_there = all_bodies (rows view) view.features.now are_well.features

  pub few_there : All HasFewVariables view.features.now
  few_there = all_few (rows view) view.features.now are_well.features

  pub main_there : core.main < length view.features.now
  main_there = main_within (rows view) core.main are_well.main

  pub starts_there : All (HasWellTypedInitialiser (rows view)) view.shareds.now
  starts_there = all_start (rows view) view.shareds.now are_well.shareds

  as_many : length (rows view).shapes ≡ length (rows view).signatures
  as_many =
      ap (λ (w : Rows). length w.shapes) same
      ∙ length-map core.sigs (signature_call_type core.types)
      ∙ sym (ap (λ (w : Rows). length w.signatures) same)

  pub shapes_there : All HasCallType view.shapes.now
  shapes_there = all_shapes (rows view) as_many are_well.signatures

pub ruleset parts = (bodies_there, few_there, main_there, starts_there, shapes_there)
