-- Well-typed states: the values of a type, and when objects, instances, continuations, activations and whole states are well typed.
use Rattle.std.specs.Prelude.{◌≡◌, ◌⊎◌, ℕ, ◌++◌, Bool, true, false, not, IsTrue, ◌&&◌, ◌==◌, if◌then◌else◌}
use Rattle.std.specs.Prelude.{List, [], ◌∷◌, map, length, slice_get, Option, Some, None, is_some}
use Rattle.sa_typed.specs.declared.feature.TypedCallee.{TypedCallee}
use Rattle.sa_typed.specs.declared.feature.TypedCallee.TheVariants as called
use Rattle.sa_typed.specs.declared.feature.TypedFeature.{TypedFeature}
use Rattle.sa_typed.specs.declared.feature.Site.{Site}
use Rattle.sa_typed.specs.declared.feature.Target.{Target}
use Rattle.sa_typed.specs.declared.feature.Target.TheVariants as target
use Rattle.sa_typed.specs.declared.program.TypedSignature.{TypedSignature}
use Rattle.sa_typed.specs.Copy.{block_of}
use Rattle.sa_typed.specs.Tree.{Stmt, Loop, Stmts}
use Rattle.sa_typing.specs.declared.expr_type.ParamType.{ParamType}
use Rattle.sa_typing.specs.declared.context.TypingContext.{TypingContext}
use Rattle.sa_typing.specs.declared.call_type.CallType.{CallType}
use Rattle.sa_typing.specs.Rows.{Rows, element_of, has_objects, is_supertype, is_strict_supertype, is_immutable, of_type, call_type_at}
use Rattle.sa_typing.specs.Builtins.{bool_type, char_type, int_type, str_type}
use Rattle.sa_typing.specs.Features.{feature_env, is_stop, shared_env}
use Rattle.sa_typing.specs.ExprType.{agree}
use Rattle.sa_typing.specs.Passing.{is_value_mode}
use Rattle.sa_typing.specs.Contexts.{Env, in_loop, is_inner, outside}
use Rattle.sa_typing.specs.Signatures.{param_conforms, result_conforms}
use Rattle.sa_typing.specs.Sites.{stmt_sites, stmts_sites}
use Rattle.sa_typing.specs.Statements.{well_stmt, well_stmts}
use Rattle.sa_typing.specs.Targets.{is_target_iter, target_arity, target_parameter, target_result}
use Rattle.sa_semantics.specs.Value.{Value, Fields, Void, Int, Truth, Char, Text, Ref, Imm, Bound, Boxed, no_fields, field}
use Rattle.sa_semantics.specs.State.{Binding, Object, Continuation, Finished, Then, InLoop, SiteInstances, Empty, Entry, Instance, Activation, State}
use Rattle.sa_semantics.specs.State.{Completion, Done, Quitting, Yielding, Returning}

-- ---- each element of a list

abbrev pub Each : {A : Type 0} → (A → Type 0) → List A → Type 0
Each P [] = Unit {0}
Each P (a ∷ more) = P a × Each P more

-- ---- the heap typing: of each object what never changes, its type, and what it calls where it is a bound value

pub record ObjectType : Type 0 where
  pub ty : ℕ
  pub binding : Option Binding

abbrev pub object_type_of : Object → ObjectType
object_type_of o = record { ty = o.ty; binding = o.binding }

abbrev pub heap_typing : State → List ObjectType
heap_typing s = map object_type_of s.objects

-- objects are added, and none is lost
pub record HeapExtends (old new : List ObjectType) : Type 0 where
  pub more : List ObjectType
  pub is : new ≡ old ++ more

-- ---- continuations that end in a fault

-- the last statement is a fault, where this one comes before the continuation
abbrev pub EndsBy : Stmt → Continuation → Type 0
EndsBy a Finished = IsTrue (is_stop a)
EndsBy a (Then b rest) = EndsBy b rest
EndsBy a (InLoop loop body inner rest) = EndsBy (Loop loop body) rest

abbrev pub EndsInStop : Continuation → Type 0
EndsInStop Finished = ⊥
EndsInStop (Then a rest) = EndsBy a rest
EndsInStop (InLoop loop body inner rest) = EndsBy (Loop loop body) rest

-- ---- what runs

-- What runs: a feature or an initialiser, its number where it is a feature, and of which type the bound values are that a site calls.
pub record CodeEnv : Type 0 where
  pub frame : Env
  pub number : Option ℕ
  pub bound_at : ℕ → Option ℕ

-- the type that a list has first at a site
abbrev pub first_at : List (ℕ × ℕ) → ℕ → Option ℕ
first_at [] site = None
first_at (s ∷ more) site = if s.0 == site then Some s.1 else first_at more site

module _ (w : Rows) where
  -- the types of a type's attributes
  abbrev pub attributes : ℕ → List ℕ
  attributes ty = of_type w (λ t. t.attrs) [] ty

  -- an immutable class whose values are written out: none of BOOL, INT and CHAR
  abbrev pub is_written : ℕ → Bool
  is_written ty = is_immutable w ty && (not (ty == bool_type) && (not (ty == int_type) && not (ty == char_type)))

  -- ---- parameters

  -- what a target takes, where it is one of the class
  pub record Takes (class : ℕ) (t : Target) (params : List ParamType) : Type 0 where
    pub arity : target_arity w class t ≡ Some (length params)
    pub each : (place : ℕ) → target_parameter w class t place ≡ slice_get params place

  -- parameters take what those of a signature or of a bound type take, and give what they give
  abbrev pub Conform : List ParamType → List ParamType → Type 0
  Conform [] [] = Unit {0}
  Conform [] (own ∷ others) = ⊥
  Conform (p ∷ params) [] = ⊥
  Conform (p ∷ params) (own ∷ others) = IsTrue (param_conforms w p (Some own)) × Conform params others

  -- ---- values

  module _ (objects : List ObjectType) where
    abbrev mutual
      -- the value is of the type
      pub HasType : Value → ℕ → Type 0
      HasType Void ty = is_immutable w ty ≡ false
      HasType (Int z) ty = ty ≡ int_type
      HasType (Truth b) ty = ty ≡ bool_type
      HasType (Char byte) ty = ty ≡ char_type
      HasType (Text bytes) ty = IsTrue (is_supertype w ty str_type)
      HasType (Ref number) ty =
          (own : ℕ) × (slice_get objects number ≡ Some (record { ty = own; binding = None }))
          × IsTrue (has_objects w own) × IsTrue (is_supertype w ty own)
      HasType (Imm own fields) ty = (own ≡ ty) × IsTrue (is_written own) × AreOf fields (attributes own)
      HasType (Bound number) ty =
          (own : ℕ) × (b : Binding) × (slice_get objects number ≡ Some (record { ty = own; binding = Some b }))
          × IsTrue (is_some (call_type_at w.bound own)) × IsTrue (is_supertype w ty own)
      HasType (Boxed v) ty = (own : ℕ) × HasType v own × IsTrue (is_immutable w own) × IsTrue (is_strict_supertype w ty own)

      pub AreOf : Fields → List ℕ → Type 0
      AreOf no_fields [] = Unit {0}
      AreOf no_fields (ty ∷ types) = ⊥
      AreOf (field v more) [] = ⊥
      AreOf (field v more) (ty ∷ types) = HasType v ty × AreOf more types

    -- values of these types, one by one
    abbrev pub HaveTypes : List Value → List ℕ → Type 0
    HaveTypes [] [] = Unit {0}
    HaveTypes [] (ty ∷ types) = ⊥
    HaveTypes (v ∷ values) [] = ⊥
    HaveTypes (v ∷ values) (ty ∷ types) = HasType v ty × HaveTypes values types

    -- a value of the type, where there is a type
    abbrev pub HasTypeIf : Option ℕ → Value → Type 0
    HasTypeIf None v = Unit {0}
    HasTypeIf (Some ty) v = HasType v ty

    -- ---- bound values

    -- The arguments of what a bound value calls, by its parameters. An open one takes what the next parameter of the bound type takes, and
    -- gives what that gives; at each other there is a value that is stored.
    abbrev pub AreBound : List ParamType → List Bool → List Value → List ParamType → Type 0
    AreBound [] [] [] [] = Unit {0}
    AreBound (own ∷ others) (true ∷ more) kept (p ∷ params) = IsTrue (param_conforms w p (Some own)) × AreBound others more kept params
    AreBound (own ∷ others) (false ∷ more) (v ∷ kept) params =
        IsTrue (is_value_mode own.mode) × HasType v own.ty × AreBound others more kept params
    AreBound _ _ _ _ = ⊥

    -- a bound value of a type calls this, with this receiver and these stored values
    pub record IsBoundTo (ty : ℕ) (b : Binding) (receiver : Value) (kept : List Value) : Type 0 where
      pub shape : CallType
      pub is : call_type_at w.bound ty ≡ Some shape
      pub of_class : HasType receiver b.class
      pub own : List ParamType
      pub takes : Takes b.class b.target own
      pub arguments : AreBound own b.is_open kept shape.params
      pub iter : IsTrue (agree (is_target_iter w b.target) shape.iter)
      pub gives : IsTrue (result_conforms w shape.result (target_result w b.class b.target))

    -- ---- objects

    abbrev pub BoundWell : ℕ → Binding → List Value → Type 0
    BoundWell ty b [] = ⊥
    BoundWell ty b (receiver ∷ kept) = IsBoundTo ty b receiver kept

    abbrev pub FieldsWell : ℕ → Option Binding → List Value → Type 0
    FieldsWell ty None fields = IsTrue (has_objects w ty) × HaveTypes fields (attributes ty)
    FieldsWell ty (Some b) fields = BoundWell ty b fields

    abbrev pub ObjectWell : Object → Type 0
    ObjectWell o = FieldsWell o.ty o.binding o.fields × Each (HasTypeIf (element_of w o.ty)) o.elements

  -- ---- bodies

  abbrev pub local_of : ℕ → TypedFeature → CodeEnv
  local_of k f = record {
    frame = feature_env w f;
    number = Some k;
    bound_at = first_at (stmts_sites (feature_env w f) outside (block_of f.body));
  }

  abbrev pub shared_local : ℕ → CodeEnv
  shared_local class = record { frame = shared_env w class; number = None; bound_at = λ site. None }

  -- a feature of the program, or an initialiser
  abbrev pub IsLocal : CodeEnv → Type 0
  IsLocal l =
      ((k : ℕ) × (f : TypedFeature) × (slice_get w.features k ≡ Some f) × (l ≡ local_of k f)) ⊎ ((class : ℕ) × (l ≡ shared_local class))

  -- ---- continuations

  module _ (l : CodeEnv) where
    -- each bound value that is called at a site is of the type that is known there
    abbrev pub AreBoundTypes : List (ℕ × ℕ) → Type 0
    AreBoundTypes = Each (λ s. l.bound_at s.0 ≡ Some s.1)

    pub record StmtWell (at : TypingContext) (a : Stmt) : Type 0 where
      pub is : IsTrue (well_stmt l.frame at a)
      pub sites : AreBoundTypes (stmt_sites l.frame at a)

    pub record StmtsWell (at : TypingContext) (list : Stmts) : Type 0 where
      pub are : IsTrue (well_stmts l.frame at list)
      pub sites : AreBoundTypes (stmts_sites l.frame at list)

    abbrev pub ContinuationWell : TypingContext → Continuation → Type 0
    ContinuationWell at Finished = Unit {0}
    ContinuationWell at (Then a rest) = StmtWell at a × ContinuationWell at rest
    ContinuationWell at (InLoop loop body inner rest) =
        IsTrue (is_inner loop at) × StmtsWell (in_loop loop at) body × ContinuationWell (in_loop loop at) inner × ContinuationWell at rest

  -- ---- instances

  module _ (objects : List ObjectType) where
    -- A call of this resolves to a target of a class, which takes these parameters. The bound value that is called is of a type that is
    -- known.
    abbrev pub IsCallee : TypedCallee → Option ℕ → ℕ → Target → List ParamType → Option ℕ → Type 0
    IsCallee (called.Static t of) bound class target own through = (t ≡ target) × (of ≡ class)
    IsCallee (called.Dispatch n) bound class target own through =
        (s : TypedSignature) × (shape : CallType) × (slice_get w.signatures n ≡ Some s) × (call_type_at w.shapes n ≡ Some shape)
        × Conform shape.params own × IsTrue (result_conforms w shape.result (target_result w class target))
    IsCallee called.Bound bound class target own through =
        (object : ℕ) × (ty : ℕ) × (b : Binding) × (through ≡ Some object)
        × (slice_get objects object ≡ Some (record { ty = ty; binding = Some b })) × (b.target ≡ target) × (b.class ≡ class)
        × ((upper : ℕ) → bound ≡ Some upper → IsTrue (is_supertype w upper ty))

    -- an instance of this feature at a site of what runs
    pub record InstanceWell (l : CodeEnv) (site : ℕ) (i : Instance) (f : TypedFeature) : Type 0 where
      pub is : slice_get w.features i.feature ≡ Some f
      pub iter : IsTrue f.iter
      pub self : HasType objects i.self f.class
      pub variables : HaveTypes objects i.variables f.vars
      pub left : ContinuationWell (local_of i.feature f) outside i.left
      pub called : Site
      pub at : slice_get l.frame.sites site ≡ Some called
      pub own : List ParamType
      pub takes : Takes f.class (target.Feature i.feature) own
      pub reached : IsCallee called.called (l.bound_at site) f.class (target.Feature i.feature) own i.through

    abbrev pub SitesWell : CodeEnv → SiteInstances → Type 0
    SitesWell l Empty = Unit {0}
    SitesWell l (Entry site i inside others) =
        ((f : TypedFeature) × InstanceWell l site i f × SitesWell (local_of i.feature f) inside) × SitesWell l others

    -- ---- activations

    -- in a branch of a protect there is an exception of its type
    abbrev pub ExceptionWell : Option ℕ → Option Value → Type 0
    ExceptionWell None exception = Unit {0}
    ExceptionWell (Some ty) None = ⊥
    ExceptionWell (Some ty) (Some v) = HasType objects v ty

    pub record ActivationWell (l : CodeEnv) (at : TypingContext) (a : Activation) : Type 0 where
      pub feature : a.feature ≡ l.number
      pub self : HasType objects a.self l.frame.class
      pub variables : HaveTypes objects a.variables l.frame.vars
      pub sites : SitesWell l a.sites
      pub exception : ExceptionWell at.branch a.exception

  -- ---- states

  pub record StateWell (l : CodeEnv) (at : TypingContext) (s : State) : Type 0 where
    pub objects : Each (ObjectWell (heap_typing s)) s.objects
    pub shareds : HaveTypes (heap_typing s) s.shareds (map (λ shared. shared.ty) w.shareds)
    pub here : ActivationWell (heap_typing s) l at s.here

  -- ---- how statements complete

  module _ (objects : List ObjectType) (l : CodeEnv) (at : TypingContext) where
    -- a value that is returned is of the type of the result
    abbrev pub GivesBack : Value → Type 0
    GivesBack v = HasTypeIf objects l.frame.gives v

    abbrev pub CompletionWell : Completion → Type 0
    CompletionWell Done = Unit {0}
    CompletionWell Quitting = IsTrue l.frame.iter × (at.protected ≡ false)
    CompletionWell (Yielding v r) = IsTrue l.frame.iter × (at.protected ≡ false) × GivesBack v × ContinuationWell l at r
    CompletionWell (Returning v) = (l.frame.iter ≡ false) × GivesBack v
