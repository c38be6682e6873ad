-- Which features and shareds are well typed, and what a program may run.
use Rattle.std.specs.Prelude.{ℕ, ◌-◌, Bool, true, false, ◌&&◌, ◌||◌, not, ◌==◌, nat_le, is_none}
use Rattle.std.specs.Prelude.{List, [], length, slice_get, count_by, Option, None}
use Rattle.std.specs.List.{list_all}
use Rattle.std.specs.Option.{option_map_or}
use Rattle.sa_ast.specs.declared.ty.Mode.{Mode}
use Rattle.sa_ast.specs.declared.ty.Mode.TheVariants as mode
use Rattle.sa_typed.specs.declared.feature.TypedFeature.{TypedFeature}
use Rattle.sa_typed.specs.declared.program.TypedShared.{TypedShared}
use Rattle.sa_typed.specs.declared.stmt.TypedStmt.{TypedStmt}
use Rattle.sa_typed.specs.Copy.{block_of, option_expr_of, stmt_of}
use Rattle.sa_typed.specs.Tree.{Expr, Stmt, Fault}
use Rattle.sa_typing.specs.Rows.{Rows, is_abstract_kind, is_reference, is_type, of_type, call_type_at}
use Rattle.sa_typing.specs.Builtins.{int_type}
use Rattle.sa_typing.specs.Contexts.{Env, outside}
use Rattle.sa_typing.specs.Expressions.{is_assignable_expr}
use Rattle.sa_typing.specs.Statements.{well_stmts}
use Rattle.sa_typing.specs.Sites.{agree_on_types, stmts_sites}

-- ---- types

abbrev pub are_types : Rows → List ℕ → Bool
are_types w = list_all (is_type w)

abbrev pub is_type_or_none : Rows → Option ℕ → Bool
is_type_or_none w ty = option_map_or (is_type w) ty true

-- a concrete class: neither an abstract nor a bound type
abbrev pub is_concrete_class : Rows → ℕ → Bool
is_concrete_class w ty = of_type w (λ t. not (is_abstract_kind t.kind) && is_none (call_type_at w.bound ty)) false ty

-- ---- features

abbrev pub feature_env : Rows → TypedFeature → Env
feature_env w f = record { rows = w; class = f.class; vars = f.vars; sites = f.sites; iter = f.iter; gives = f.result }

-- its types are types of the program, its class is a concrete one, and its parameters are variables
abbrev pub has_types : Rows → TypedFeature → Bool
has_types w f =
    is_concrete_class w f.class
    && (are_types w f.vars && (is_type_or_none w f.result && nat_le (length f.modes) (length f.vars)))

abbrev pub is_out : Mode → Bool
is_out mode.Out = true
is_out mode.Inout = true
is_out _ = false

-- no more variables and no more `out` parameters than it may have
abbrev pub within_limits : TypedFeature → Bool
within_limits f = nat_le (length f.vars) 200 && nat_le (count_by is_out f.modes) 16

abbrev pub is_stop : Stmt → Bool
is_stop (Fault kind pos) = true
is_stop _ = false

-- the last statement is a fault
abbrev pub ends_in_stop : List TypedStmt → Bool
ends_in_stop body = option_map_or (λ s. is_stop (stmt_of s)) (slice_get body (length body - 1)) false

-- execution never reaches the end of a routine with a result
abbrev pub ends_well : TypedFeature → Bool
ends_well f = f.iter || (is_none f.result || ends_in_stop f.body)

abbrev pub has_well_header : Rows → TypedFeature → Bool
has_well_header w f = has_types w f && (within_limits f && ends_well f)

-- its statements are well typed, and all calls of bound values at a site are of one type
abbrev pub well_feature : Rows → TypedFeature → Bool
well_feature w f =
    has_well_header w f
    && (well_stmts (feature_env w f) outside (block_of f.body)
    && agree_on_types (length f.sites) (stmts_sites (feature_env w f) outside (block_of f.body)))

-- ---- shareds

abbrev pub shared_env : Rows → ℕ → Env
shared_env w class = record { rows = w; class = class; vars = []; sites = []; iter = false; gives = None }

-- the initialiser, if there is one, is of the type of the shared
abbrev pub starts_well : Rows → ℕ → ℕ → Option Expr → Bool
starts_well w class ty start = option_map_or (is_assignable_expr (shared_env w class) outside ty) start true

abbrev pub well_shared : Rows → TypedShared → Bool
well_shared w s = is_type w s.ty && (is_concrete_class w s.class && starts_well w s.class s.ty (option_expr_of s.start))

-- ---- what the program runs

abbrev pub is_status : Option ℕ → Bool
is_status ty = option_map_or (λ t. t == int_type) ty true

-- a routine of a reference class without arguments, which gives an INT or nothing
abbrev pub main_fits : Rows → TypedFeature → Bool
main_fits w f = not f.iter && (length f.modes == 0 && (is_status f.result && is_reference w f.class))

abbrev pub well_main : Rows → ℕ → Bool
well_main w main = option_map_or (main_fits w) (slice_get w.features main) false
