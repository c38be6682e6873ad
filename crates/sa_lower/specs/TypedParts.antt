-- What the parts of a well-typed AST have, as lowering reads them.
use Rattle.std.specs.Prelude.{◌≤◌, IfSome, IsTrue, Option, is_some, length}
use Rattle.sa_typed.specs.declared.feature.TypedFeature.{TypedFeature}
use Rattle.sa_typed.specs.declared.program.TypedShared.{TypedShared}
use Rattle.sa_typed.specs.Copy.{block_of}
use Rattle.sa_lower_expr.specs.Typed.{HasValue}
use Rattle.sa_typing.specs.declared.call_type.CallType.{CallType}
use Rattle.sa_typing.specs.Features.{feature_env, shared_env}
use Rattle.sa_typing.specs.Contexts.{outside}
use Rattle.sa_typing.specs.Rows.{Rows}
use Rattle.sa_typing.specs.Statements.{well_stmts}

-- a signature has a call type
unfoldable pub HasCallType : Option CallType → Type 0
HasCallType shape = IsTrue (is_some shape)

-- a feature has at most as many variables as it may have
unfoldable pub HasFewVariables : TypedFeature → Type 0
HasFewVariables f = length f.vars ≤ 200

module _ (w : Rows) where
  -- the statements of a feature are well typed
  unfoldable pub HasWellTypedBody : TypedFeature → Type 0
  HasWellTypedBody f = IsTrue (well_stmts (feature_env w f) outside (block_of f.body))

  -- the initialiser of a shared, if it has one, gives a value
  unfoldable pub HasWellTypedInitialiser : TypedShared → Type 0
  HasWellTypedInitialiser s = IfSome s.start (HasValue (shared_env w s.class) outside)
