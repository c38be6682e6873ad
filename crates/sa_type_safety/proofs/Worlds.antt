-- What is well typed stays so while objects are added, and while an object is replaced by another of the same kind.
use Rattle.std.proofs.Common.{◌≡◌, ℕ, zero, suc, Bool, true, false, List, [], ◌∷◌, ◌++◌, map, set, Option, Some, None, slice_get, refl, sym, ap, subst, ◌∙◌}
use Rattle.std.proofs.lemmas.Option.{same_Some, none-some}
use Rattle.sa_typed.specs.declared.feature.TypedCallee.{TypedCallee}
use Rattle.sa_typed.specs.declared.feature.TypedCallee.TheVariants as called
use Rattle.sa_typed.specs.declared.feature.Target.{Target}
use Rattle.sa_typing.specs.declared.expr_type.ParamType.{ParamType}
use Rattle.sa_typing.specs.declared.context.TypingContext.{TypingContext}
use Rattle.sa_typing.specs.Rows.{Rows, element_of}
use Rattle.sa_semantics.specs.Value.{Value, Fields, Void, Int, Truth, Char, Text, Ref, Imm, Bound, Boxed, no_fields, field}
use Rattle.sa_semantics.specs.State.{Binding, Object, SiteInstances, Empty, Entry, Instance, Activation}
use Rattle.sa_type_safety.specs.Typing.{Each, ObjectType, object_type_of, HeapExtends, CodeEnv, local_of, HasType, AreOf, HaveTypes, HasTypeIf, AreBound, IsBoundTo, FieldsWell, ObjectWell, IsCallee, InstanceWell, SitesWell, ExceptionWell, ActivationWell}

-- ---- lists

pub get_append : {A : Type 0} (a b : List A) (i : ℕ) (x : A) → slice_get a i ≡ Some x → slice_get (a ++ b) i ≡ Some x
get_append [] b i x e = absurd (none-some x e)
get_append (y ∷ a) b zero x e = e
get_append (y ∷ a) b (suc i) x e = get_append a b i x e

pub known_later : {old new : List ObjectType} → HeapExtends old new → (i : ℕ) (k : ObjectType) → slice_get old i ≡ Some k → slice_get new i ≡ Some k
known_later {old} e i k is = subst (λ ks. slice_get ks i ≡ Some k) (sym e.is) (get_append old e.more i k is)

pub each_that : {A : Type 0} {P Q : A → Type 0} (list : List A) → ((a : A) → P a → Q a) → Each P list → Each Q list
each_that [] f h = tt
each_that (a ∷ more) f h = (f a h.0, each_that more f h.1)

pub each_append : {A : Type 0} (P : A → Type 0) (a b : List A) → Each P a → Each P b → Each P (a ++ b)
each_append P [] b h k = k
each_append P (x ∷ a) b h k = (h.0, each_append P a b h.1 k)

pub each_split : {A : Type 0} (P : A → Type 0) (a b : List A) → Each P (a ++ b) → Each P a × Each P b
each_split P [] b h = (tt, h)
each_split P (x ∷ a) b h = let rest = each_split P a b h.1 in ((h.0, rest.0), rest.1)

pub each_get : {A : Type 0} (P : A → Type 0) (list : List A) (i : ℕ) (a : A) → slice_get list i ≡ Some a → Each P list → P a
each_get P [] i a e h = absurd (none-some a e)
each_get P (b ∷ more) zero a e h = subst P (same_Some b a e) h.0
each_get P (b ∷ more) (suc i) a e h = each_get P more i a e h.1

pub each_set : {A : Type 0} (P : A → Type 0) (list : List A) (i : ℕ) (a : A) → P a → Each P list → Each P (set list i a)
each_set P [] i a p h = tt
each_set P (b ∷ more) zero a p h = (p, h.1)
each_set P (b ∷ more) (suc i) a p h = (h.0, each_set P more i a p h.1)

pub map_append_one : (objects : List Object) (o : Object) → map object_type_of (objects ++ o ∷ []) ≡ map object_type_of objects ++ object_type_of o ∷ []
map_append_one [] o = refl
map_append_one (a ∷ more) o = ap (λ ks. object_type_of a ∷ ks) (map_append_one more o)

pub get_known : (objects : List Object) (i : ℕ) (o : Object) → slice_get objects i ≡ Some o → slice_get (map object_type_of objects) i ≡ Some (object_type_of o)
get_known [] i o e = absurd (none-some o e)
get_known (a ∷ more) zero o e = ap (λ x. Some (object_type_of x)) (same_Some a o e)
get_known (a ∷ more) (suc i) o e = get_known more i o e

-- there is an object where the heap typing has one
pub get_object : (objects : List Object) (i : ℕ) (k : ObjectType) → slice_get (map object_type_of objects) i ≡ Some k → (o : Object) × (slice_get objects i ≡ Some o) × (object_type_of o ≡ k)
get_object [] i k e = absurd (none-some k e)
get_object (a ∷ more) zero k e = (a, refl, same_Some (object_type_of a) k e)
get_object (a ∷ more) (suc i) k e = get_object more i k e

pub set_known : (objects : List Object) (i : ℕ) (old new : Object) → slice_get objects i ≡ Some old → object_type_of new ≡ object_type_of old → map object_type_of (set objects i new) ≡ map object_type_of objects
set_known [] i old new e same = refl
set_known (a ∷ more) zero old new e same = ap (λ k. k ∷ map object_type_of more) (same ∙ ap object_type_of (sym (same_Some a old e)))
set_known (a ∷ more) (suc i) old new e same = ap (λ ks. object_type_of a ∷ ks) (set_known more i old new e same)

-- ---- values

module _ (w : Rows) {old new : List ObjectType} (e : HeapExtends old new) where
  mutual
    pub type_later : (v : Value) (ty : ℕ) → HasType w old v ty → HasType w new v ty
    type_later Void ty h = h
    type_later (Int z) ty h = h
    type_later (Truth b) ty h = h
    type_later (Char byte) ty h = h
    type_later (Text bytes) ty h = h
    type_later (Ref number) ty h = (h.0, known_later e number _ h.1, h.2, h.3)
    type_later (Imm own fields) ty h = (h.0, h.1, fields_later fields _ h.2)
    type_later (Bound number) ty h = (h.0, h.1, known_later e number _ h.2, h.3, h.4)
    type_later (Boxed v) ty h = (h.0, type_later v h.0 h.1, h.2, h.3)

    fields_later : (fields : Fields) (types : List ℕ) → AreOf w old fields types → AreOf w new fields types
    fields_later no_fields [] h = h
    fields_later no_fields (ty ∷ types) h = h
    fields_later (field v more) [] h = h
    fields_later (field v more) (ty ∷ types) h = (type_later v ty h.0, fields_later more types h.1)

  pub types_later : (values : List Value) (types : List ℕ) → HaveTypes w old values types → HaveTypes w new values types
  types_later [] [] h = h
  types_later [] (ty ∷ types) h = h
  types_later (v ∷ values) [] h = h
  types_later (v ∷ values) (ty ∷ types) h = (type_later v ty h.0, types_later values types h.1)

  pub type_if_later : (ty : Option ℕ) (v : Value) → HasTypeIf w old ty v → HasTypeIf w new ty v
  type_if_later None v h = h
  type_if_later (Some ty) v h = type_later v ty h

  -- ---- objects

  bound_later : (own : List ParamType) (free : List Bool) (kept : List Value) (params : List ParamType) → AreBound w old own free kept params → AreBound w new own free kept params
  bound_later [] [] [] [] h = h
  bound_later (p ∷ own) (true ∷ free) kept (q ∷ params) h = (h.0, bound_later own free kept params h.1)
  bound_later (p ∷ own) (false ∷ free) (v ∷ kept) params h = (h.0, type_later v _ h.1, bound_later own free kept params h.2)
  bound_later [] [] [] (q ∷ params) h = h
  bound_later [] [] (v ∷ kept) params h = h
  bound_later [] (b ∷ free) kept params h = h
  bound_later (p ∷ own) [] kept params h = h
  bound_later (p ∷ own) (true ∷ free) kept [] h = h
  bound_later (p ∷ own) (false ∷ free) [] params h = h

  pub bound_to_later : {ty : ℕ} {b : Binding} {receiver : Value} {kept : List Value} → IsBoundTo w old ty b receiver kept → IsBoundTo w new ty b receiver kept
  bound_to_later h = record {
    shape = h.shape;
    is = h.is;
    of_class = type_later _ _ h.of_class;
    own = h.own;
    takes = h.takes;
    arguments = bound_later _ _ _ _ h.arguments;
    iter = h.iter;
    gives = h.gives;
  }

  fields_well_later : (ty : ℕ) (b : Option Binding) (fields : List Value) → FieldsWell w old ty b fields → FieldsWell w new ty b fields
  fields_well_later ty None fields h = (h.0, types_later fields _ h.1)
  fields_well_later ty (Some b) [] h = h
  fields_well_later ty (Some b) (receiver ∷ kept) h = bound_to_later h

  pub object_later : (o : Object) → ObjectWell w old o → ObjectWell w new o
  object_later o h = (fields_well_later o.ty o.binding o.fields h.0, each_that o.elements (type_if_later (element_of w o.ty)) h.1)

  -- ---- instances and activations

  pub reached_later : (c : TypedCallee) (bound : Option ℕ) (class : ℕ) (target : Target) (own : List ParamType) (through : Option ℕ) → IsCallee w old c bound class target own through → IsCallee w new c bound class target own through
  reached_later (called.Static t of) bound class target own through h = h
  reached_later (called.Dispatch n) bound class target own through h = h
  reached_later called.Bound bound class target own through h = (h.0, h.1, h.2, h.3, known_later e h.0 _ h.4, h.5, h.6, h.7)

  abbrev pub instance_later : {l : CodeEnv} {site : ℕ} {i : Instance} {f : _} → InstanceWell w old l site i f → InstanceWell w new l site i f
  instance_later h = record {
    is = h.is;
    iter = h.iter;
    self = type_later _ _ h.self;
    variables = types_later _ _ h.variables;
    left = h.left;
    called = h.called;
    at = h.at;
    own = h.own;
    takes = h.takes;
    reached = reached_later _ _ _ _ _ _ h.reached;
  }

  pub sites_later : (l : CodeEnv) (sites : SiteInstances) → SitesWell w old l sites → SitesWell w new l sites
  sites_later l Empty h = h
  sites_later l (Entry site i inside others) h =
      ((h.0.0, instance_later h.0.1, sites_later (local_of w i.feature h.0.0) inside h.0.2), sites_later l others h.1)

  pub exception_later : (ty : Option ℕ) (exception : Option Value) → ExceptionWell w old ty exception → ExceptionWell w new ty exception
  exception_later None exception h = h
  exception_later (Some ty) None h = h
  exception_later (Some ty) (Some v) h = type_later v ty h

  pub activation_later : {l : CodeEnv} {at : TypingContext} {a : Activation} → ActivationWell w old l at a → ActivationWell w new l at a
  activation_later h = record {
    feature = h.feature;
    self = type_later _ _ h.self;
    variables = types_later _ _ h.variables;
    sites = sites_later _ _ h.sites;
    exception = exception_later _ _ h.exception;
  }
