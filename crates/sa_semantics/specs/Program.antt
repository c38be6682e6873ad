-- A typed program as the semantics sees it, and which of these a typed AST of the checker is.
use Rattle.std.specs.Prelude.{ℕ, zero, suc, ◌+◌, pos, Bool, true, false, ◌||◌, ◌==◌, nat_lt, if◌then◌else◌}
use Rattle.std.specs.Prelude.{List, [], ◌∷◌, map, length, slice_get, count_by, find, Option, is_some, unwrap_or}
use Rattle.std.specs.Option.{option_map_or}
use Rattle.sa_ast.specs.declared.class.ClassKind.{ClassKind}
use Rattle.sa_ast.specs.declared.class.ClassKind.TheVariants as kind
use Rattle.sa_ast.specs.declared.pos.Pos.{Pos}
use Rattle.sa_ast.specs.declared.ty.Mode.{Mode}
use Rattle.sa_ast.specs.Types.{BareTy, Rout, Iter, BareArgs, no_args, arg, BareResult, no_result, gives, bare, all_bare_args, option_bare}
use Rattle.sa_subst.specs.Abstract.{is_abstract_bare}
use Rattle.sa_typed.specs.declared.feature.TypedFeature.{TypedFeature}
use Rattle.sa_typed.specs.declared.feature.Site.{Site}
use Rattle.sa_typed.specs.declared.program.TypedProgram.{TypedProgram}
use Rattle.sa_typed.specs.declared.program.TypedImplementation.{TypedImplementation}
use Rattle.sa_typed.specs.declared.program.TypedShared.{TypedShared}
use Rattle.sa_typed.specs.declared.program.TypedSignature.{TypedSignature}
use Rattle.sa_typed.specs.declared.program.TypeDef.{TypeDef}
use Rattle.sa_typed.specs.Copy.{block_of, option_expr_of}
use Rattle.sa_typed.specs.Tree.{Expr, Stmts}
use Rattle.sa_semantics.specs.Value.{Value, Void, Int, Truth, Char, Imm, fields_of, bool_type, int_type, char_type}

-- A type. A bound type has the kind of a reference class and no attributes.
pub record TypeRow : Type 0 where
  pub kind : ClassKind
  -- the indices of the attributes' types
  pub attrs : List ℕ
  -- the index of the elements' type, where the class reads or writes elements
  pub elem : Option ℕ
  -- its other supertypes
  pub above : List ℕ
  -- of a bound type: which arguments are of abstract types, and whether the result is
  pub wide_args : List Bool
  pub wide : Bool

pub record Feature : Type 0 where
  pub iter : Bool
  -- the modes of the arguments, which are the first variables
  pub modes : List Mode
  -- the indices of the variables' types
  pub vars : List ℕ
  pub sites : List Site
  pub body : Stmts
  pub pos : Pos

-- A signature of an abstract type.
pub record Signature : Type 0 where
  pub impls : List TypedImplementation
  -- which arguments are of abstract types, and whether the result is
  pub wide_args : List Bool
  pub wide : Bool

pub record SharedRow : Type 0 where
  pub ty : ℕ
  -- the index of the class that has it
  pub class : ℕ
  pub start : Option Expr

pub record Program : Type 0 where
  pub types : List TypeRow
  pub features : List Feature
  pub signatures : List Signature
  pub shareds : List SharedRow
  pub main : ℕ
  -- the positions of the line feeds in each text
  pub newlines : List (List ℕ)
  -- whether faults can be caught, as the language has it
  pub faults_raise : Bool

-- ---- the program that a typed AST is

abbrev pub is_wide_result : BareResult → Bool
is_wide_result no_result = false
is_wide_result (gives ty) = is_abstract_bare ty

abbrev pub wide_list : BareArgs → List Bool
wide_list no_args = []
wide_list (arg mode ty more) = is_abstract_bare ty ∷ wide_list more

abbrev pub wide_arguments_of : BareTy → List Bool
wide_arguments_of (Rout args _) = wide_list args
wide_arguments_of (Iter args _) = wide_list args
wide_arguments_of _ = []

abbrev pub has_wide_result : BareTy → Bool
has_wide_result (Rout args result) = is_wide_result result
has_wide_result (Iter args result) = is_wide_result result
has_wide_result _ = false

abbrev pub type_row : TypeDef → TypeRow
type_row t = record {
  kind = t.kind;
  attrs = t.attrs;
  elem = t.elem;
  above = t.above;
  wide_args = wide_arguments_of (bare t.ty);
  wide = has_wide_result (bare t.ty);
}

abbrev pub feature_of : TypedFeature → Feature
feature_of f = record { iter = f.iter; modes = f.modes; vars = f.vars; sites = f.sites; body = block_of f.body; pos = f.pos }

abbrev pub signature_of : TypedSignature → Signature
signature_of s =
    record { impls = s.impls; wide_args = wide_list (all_bare_args s.sig.args); wide = is_wide_result (option_bare s.sig.result) }

abbrev pub shared_row : TypedShared → SharedRow
shared_row s = record { ty = s.ty; class = s.class; start = option_expr_of s.start }

abbrev pub program_of : TypedProgram → Program
program_of core = record {
  types = map type_row core.types;
  features = map feature_of core.features;
  signatures = map signature_of core.sigs;
  shareds = map shared_row core.shareds;
  main = core.main;
  newlines = core.newlines;
  faults_raise = true;
}

-- where no fault can be caught
abbrev pub before : Program → Program
before p = record p { faults_raise = false }

-- ---- types by their indices

abbrev pub is_abstract_kind : ClassKind → Bool
is_abstract_kind kind.Abstract = true
is_abstract_kind _ = false

abbrev pub is_immutable_kind : ClassKind → Bool
is_immutable_kind kind.Immutable = true
is_immutable_kind _ = false

-- what a function gives of the type at an index, or else a default
abbrev pub of_type : {A : Type 0} → Program → (TypeRow → A) → A → ℕ → A
of_type p see other ty = option_map_or see (slice_get p.types ty) other

abbrev pub is_abstract : Program → ℕ → Bool
is_abstract p = of_type p (λ t. is_abstract_kind t.kind) false

abbrev pub is_immutable : Program → ℕ → Bool
is_immutable p = of_type p (λ t. is_immutable_kind t.kind) false

-- the first type is the second one or a supertype of it
abbrev pub is_supertype : Program → ℕ → ℕ → Bool
is_supertype p ty other = ty == other || is_some (find (λ above. above == ty) (of_type p (λ t. t.above) [] other))

-- ---- the void value of a type

-- No immutable class reaches itself by attributes of immutable classes, so that the number of types is depth enough.
abbrev pub void_in : Program → ℕ → ℕ → Value
void_in p zero ty = Void
void_in p (suc depth) ty =
    if ty == bool_type then Truth false
    else (if ty == int_type then Int (pos 0)
    else (if ty == char_type then Char 0
    else (if is_immutable p ty then Imm ty (fields_of (map (void_in p depth) (of_type p (λ t. t.attrs) [] ty))) else Void)))

abbrev pub void_of : Program → ℕ → Value
void_of p = void_in p (length p.types)

-- ---- lines

-- the line of a position: one more than the line feeds before it in its text
abbrev pub line_at : Program → Pos → ℕ
line_at p at = 1 + count_by (λ feed. nat_lt feed at.at) (unwrap_or (slice_get p.newlines at.file) [])
