-- What a call resolves to, what it passes and copies out, and the run of a routine.
use Rattle.std.specs.Prelude.{ℕ, ◌+◌, Bool, true, false, ◌&&◌, ◌==◌, if◌then◌else◌, List, [], ◌∷◌, map, length}
use Rattle.std.specs.Prelude.{drop, slice_get, find, filter_map, Option, Some, None, option_map, option_and_then}
use Rattle.std.specs.Option.{option_map_or}
use Rattle.sa_ast.specs.declared.fault_kind.FaultKind.TheVariants as fault_kind
use Rattle.sa_ast.specs.declared.pos.Pos.{Pos}
use Rattle.sa_ast.specs.declared.ty.Mode.{Mode}
use Rattle.sa_ast.specs.declared.ty.Mode.TheVariants as mode
use Rattle.sa_typed.specs.declared.feature.TypedCallee.{TypedCallee}
use Rattle.sa_typed.specs.declared.feature.TypedCallee.TheVariants as called
use Rattle.sa_typed.specs.declared.feature.Target.{Target}
use Rattle.sa_typed.specs.declared.feature.Target.TheVariants as target
use Rattle.sa_typed.specs.declared.program.TypedImplementation.{TypedImplementation}
use Rattle.sa_prelude.specs.declared.feature.BuiltinFeature.{BuiltinFeature}
use Rattle.sa_prelude.specs.declared.feature.BuiltinFeature.TheVariants.{SysObEq, ArefAset}
use Rattle.sa_semantics.specs.Sequence.{resolve, ◌>>=◌, ◌>>◌, pure, look, change, stop, or_stuck, at_index, with_index, stuck}
use Rattle.sa_semantics.specs.Value.{Value, Void, Int, Truth, Char, Text, Imm, Ref, Bound, Boxed, fields_of, field_list}
use Rattle.sa_semantics.specs.Value.{bool_type, int_type, char_type, str_type, unboxed_type, is_nothing, as_bound, unboxed}
use Rattle.sa_semantics.specs.Program.{Program, Feature, of_type, is_abstract, void_of}
use Rattle.sa_semantics.specs.State.{Object, Continuation, all_of, Empty, Activation, AbruptCause, Broke, Raised, Completion, Done, Returning}
use Rattle.sa_semantics.specs.Steps.{Eval, turn, charge, object_size, object_at, set_object, fault, write, enter, leave, checked_depth}
use Rattle.sa_semantics.specs.Builtin.{builtin_call}

-- ---- dynamic types and boxing

-- the index of the type that a value has; a void has none
abbrev pub type_of : List Object → Value → Option ℕ
type_of objects Void = None
type_of objects (Int z) = Some int_type
type_of objects (Truth b) = Some bool_type
type_of objects (Char byte) = Some char_type
type_of objects (Text bytes) = Some str_type
type_of objects (Ref object) = option_and_then (λ o. Some o.ty) (slice_get objects object)
type_of objects (Imm ty _) = Some ty
type_of objects (Bound object) = option_and_then (λ o. Some o.ty) (slice_get objects object)
type_of objects (Boxed v) = type_of objects v

abbrev pub dynamic_type : Value → Eval (Option ℕ)
dynamic_type v = look (λ s. type_of s.objects v)

abbrev pub box_value : Pos → ℕ → Value → Eval Value
box_value at attributes v = charge at (object_size attributes 0) >> pure (Boxed v)

-- a value where an abstract type is wanted: one of an immutable class is boxed
abbrev pub boxed : Program → Pos → Value → Eval Value
boxed p at (Int z) = box_value at 1 (Int z)
boxed p at (Truth b) = box_value at 1 (Truth b)
boxed p at (Char byte) = box_value at 1 (Char byte)
boxed p at (Imm ty fields) = box_value at (length (of_type p (λ t. t.attrs) [] ty)) (Imm ty fields)
boxed p at v = pure v

-- the value is one of this immutable class, and isn't boxed
abbrev pub is_unboxed : ℕ → Value → Bool
is_unboxed ty v = option_map_or (λ own. own == ty) (unboxed_type v) false

-- a value of this immutable class, boxed
abbrev pub boxed_from : Program → Pos → ℕ → Value → Eval Value
boxed_from p at ty v = if is_unboxed ty v then boxed p at v else stuck

abbrev pub boxed_if : Program → Pos → Bool → Value → Eval Value
boxed_if p at wide v = if wide then boxed p at v else pure v

-- the arguments that are given, each boxed where an abstract type is wanted
abbrev pub boxed_where : Program → Pos → List Bool → List (Option Value) → Eval (List (Option Value))
boxed_where p at (wide ∷ more) (Some v ∷ rest) = do
  w ← boxed_if p at wide v
  ws ← boxed_where p at more rest
  pure (Some w ∷ ws)
boxed_where p at (wide ∷ more) (None ∷ rest) = do
  ws ← boxed_where p at more rest
  pure (None ∷ ws)
boxed_where p at _ rest = pure rest

-- ---- the arguments and the results of a call

-- What a call resolves to: a target of a type, with its self, and the bound value through which it is called.
pub record ResolvedCall : Type 0 where
  pub target : Target
  pub class : Option ℕ
  pub self : Value
  pub through : Option ℕ

-- What is passed: by the callee's arguments the values that are given, and the caller's variables that get a value back. What comes back is
-- returned through a signature or a bound type first: `wide_back` says which arguments have abstract types there, and `wide` whether the
-- result has one.
pub record PassedArgs : Type 0 where
  pub given : List (Option Value)
  pub back : List (Option ℕ)
  pub wide_back : List Bool
  pub wide : Bool

-- the first list at the open arguments, in order, and the second at the others, where they are as many
abbrev pub interleave : {A : Type 0} → List Bool → List A → List A → Option (List A)
interleave (true ∷ more) (a ∷ first) second = option_map (λ rest. a ∷ rest) (interleave more first second)
interleave (false ∷ more) first (a ∷ second) = option_map (λ rest. a ∷ rest) (interleave more first second)
interleave [] [] [] = Some []
interleave _ first second = None

-- whether there is a type and it is abstract
abbrev pub is_wide : Program → Option ℕ → Bool
is_wide p ty = option_map_or (is_abstract p) ty false

abbrev pub wide_builtin : Program → Option ℕ → BuiltinFeature → List Bool
wide_builtin p class SysObEq = true ∷ true ∷ []
wide_builtin p class ArefAset = false ∷ is_wide p (option_and_then (λ ty. of_type p (λ t. t.elem) None ty) class) ∷ []
wide_builtin p class _ = []

-- which arguments of a target have abstract types
abbrev pub wide_arguments : Program → Option ℕ → Target → List Bool
wide_arguments p class (target.Feature k) = option_map_or (λ f. map (is_abstract p) f.vars) (slice_get p.features k) []
wide_arguments p class (target.Builtin b) = wide_builtin p class b
wide_arguments p class (target.Set a) = is_wide p (option_and_then (λ ty. of_type p (λ t. slice_get t.attrs a) None ty) class) ∷ []
wide_arguments p class (target.SetShared k) = option_map_or (λ s. is_abstract p s.ty) (slice_get p.shareds k) false ∷ []
wide_arguments p class _ = []

abbrev pub is_once : Mode → Bool
is_once mode.Once = true
is_once _ = false

-- at each index, whether both lists have true
abbrev pub both_of : List Bool → List Bool → List Bool
both_of (a ∷ more) (b ∷ rest) = (a && b) ∷ both_of more rest
both_of _ _ = []

-- which `once` arguments of a target have abstract types
abbrev pub wide_once : Program → Target → List Bool
wide_once p (target.Feature k) = option_map_or (λ f. both_of (map is_once f.modes) (map (is_abstract p) f.vars)) (slice_get p.features k) []
wide_once p _ = []

module _ (p : Program) (at : Pos) where
  abbrev pub dispatch_to : List TypedImplementation → Value → Option ℕ → Eval ResolvedCall
  dispatch_to impls v ty = do
    class ← or_stuck ty
    impl ← or_stuck (find (λ i. i.ty == class) impls)
    pure (record { target = impl.target; class = Some class; self = unboxed v; through = None })

  -- the implementation of a signature by the receiver's class
  abbrev pub dispatch : ℕ → Value → Eval ResolvedCall
  dispatch k v = if is_nothing v then fault p fault_kind.Void at else (do
    signature ← at_index p.signatures k
    ty ← dynamic_type v
    dispatch_to signature.impls v ty)

  abbrev pub bound_to : ℕ → Eval ResolvedCall
  bound_to object = do
    o ← object_at object
    b ← or_stuck o.binding
    receiver ← at_index o.fields 0
    pure (record { target = b.target; class = Some b.class; self = receiver; through = Some object })

  abbrev pub callee : TypedCallee → Value → Eval ResolvedCall
  callee (called.Static target class) v = pure (record { target = target; class = Some class; self = v; through = None })
  callee (called.Dispatch k) v = dispatch k v
  callee called.Bound v = if is_nothing v then fault p fault_kind.Void at else (or_stuck (as_bound v) >>= bound_to)

  -- the arguments as the callee takes them, the `once` ones boxed first
  abbrev pub boxed_for : ResolvedCall → List (Option Value) → Eval (List (Option Value))
  boxed_for c given = boxed_where p at (wide_once p c.target) given >>= boxed_where p at (wide_arguments p c.class c.target)

  -- A dispatched call and the call of a bound value box the arguments. The values that a bound value stores come between them.
  abbrev pub pass_args : TypedCallee → ResolvedCall → List (Option Value) → List (Option ℕ) → Eval PassedArgs
  pass_args (called.Static target class) c given back =
      pure (record { given = given; back = back; wide_back = map (λ var. false) back; wide = false })
  pass_args (called.Dispatch k) c given back = do
    signature ← at_index p.signatures k
    values ← boxed_for c given
    pure (record { given = values; back = back; wide_back = signature.wide_args; wide = signature.wide })
  pass_args called.Bound c given back = do
    object ← or_stuck c.through
    o ← object_at object
    b ← or_stuck o.binding
    t ← at_index p.types o.ty
    all ← or_stuck (interleave b.is_open given (map Some (drop 1 o.fields)))
    values ← boxed_for c all
    backs ← or_stuck (interleave b.is_open back (map (λ v. None) (drop 1 o.fields)))
    wide ← or_stuck (interleave b.is_open t.wide_args (map (λ v. false) (drop 1 o.fields)))
    pure (record { given = values; back = backs; wide_back = wide; wide = t.wide })

  -- ---- what is copied out

  -- the callee's variables, with those that are copied out boxed as a signature or a bound type wants them
  abbrev pub boxed_back : List (Option ℕ) → List Bool → List Value → Eval (List Value)
  boxed_back (Some var ∷ back) (wide ∷ more) (v ∷ rest) = do
    w ← boxed_if p at wide v
    ws ← boxed_back back more rest
    pure (w ∷ ws)
  boxed_back (None ∷ back) (wide ∷ more) (v ∷ rest) = do
    ws ← boxed_back back more rest
    pure (v ∷ ws)
  boxed_back (None ∷ back) (wide ∷ more) [] = boxed_back back more []
  boxed_back [] [] rest = pure rest
  boxed_back _ _ _ = stuck

  abbrev pub copy_out : ℕ → Value → Eval (Unit {0})
  copy_out var v = do
    feature ← look (λ s. s.here.feature)
    k ← or_stuck feature
    f ← at_index p.features k
    ty ← at_index f.vars var
    w ← boxed_if p at (is_abstract p ty) v
    write var w

  -- from the callee's arguments into the caller's variables, in order
  abbrev pub copy_back : List (Option ℕ) → List Value → Eval (Unit {0})
  copy_back (Some var ∷ more) (v ∷ rest) = copy_out var v >> copy_back more rest
  copy_back (None ∷ more) (v ∷ rest) = copy_back more rest
  copy_back (None ∷ more) [] = copy_back more []
  copy_back (Some var ∷ more) [] = stuck
  copy_back [] _ = pure tt

  -- The result and the callee's variables, at the caller. First all are returned through the signature or the bound type, and then the
  -- copies are assigned to the caller's variables.
  abbrev pub copy_results : PassedArgs → Value × List Value → Eval Value
  copy_results h r = do
    v ← boxed_if p at h.wide r.0
    values ← boxed_back h.back h.wide_back r.1
    copy_back h.back values
    pure v

-- ---- attributes and shareds

module _ (p : Program) (at : Pos) where
  abbrev pub attribute : ℕ → Value → Eval Value
  attribute a (Imm ty fields) = at_index (field_list fields) a
  attribute a (Ref number) = object_at number >>= (λ o. at_index o.fields a)
  attribute a Void = fault p fault_kind.Void at
  attribute a _ = stuck

  -- Of an immutable value the result is a changed copy.
  abbrev pub set_attribute : ℕ → Value → Value → Eval Value
  set_attribute a v (Imm ty fields) = do
    changed ← with_index (field_list fields) a v
    charge at (object_size (length changed) 0)
    pure (Imm ty (fields_of changed))
  set_attribute a v (Ref number) = do
    o ← object_at number
    changed ← with_index o.fields a v
    set_object number (record o { fields = changed })
    pure Void
  set_attribute a v Void = fault p fault_kind.Void at
  set_attribute a v _ = stuck

abbrev pub shared : ℕ → Eval Value
shared k = look (λ s. s.shareds) >>= (λ shareds. at_index shareds k)

abbrev pub set_shared : ℕ → Value → Eval (Unit {0})
set_shared k v = do
  shareds ← look (λ s. s.shareds)
  changed ← with_index shareds k v
  change (λ s. record s { shareds = changed })

-- ---- the run of a routine

abbrev pub only_given : List (Option Value) → List Value
only_given = filter_map (λ v. v)

-- the one element of a list that has one
abbrev pub single : {A : Type 0} → List A → Option A
single (a ∷ []) = Some a
single _ = None

-- A callee's variables at its entry, where it is given what its arguments want by their modes: `out` ones get no value.
abbrev pub fill_arguments : List Mode → List Value → List (Option Value) → Option (List Value)
fill_arguments (mode.Out ∷ modes) (v ∷ variables) (None ∷ given) = option_map (λ rest. v ∷ rest) (fill_arguments modes variables given)
fill_arguments (mode.Out ∷ modes) (v ∷ variables) (Some w ∷ given) = None
fill_arguments (_ ∷ modes) (v ∷ variables) (Some w ∷ given) = option_map (λ rest. w ∷ rest) (fill_arguments modes variables given)
fill_arguments [] variables [] = Some variables
fill_arguments _ _ _ = None

abbrev pub void_variables : Program → Feature → List Value
void_variables p f = map (void_of p) f.vars

-- the end of a routine's body: its result and its variables
abbrev pub after_return : ℕ → Activation → Completion → Eval (Value × List Value)
after_return k caller (Returning v) = do
  variables ← look (λ s. s.here.variables)
  leave k caller
  pure (v, variables)
after_return k caller Done = do
  variables ← look (λ s. s.here.variables)
  leave k caller
  pure (Void, variables)
after_return k caller _ = stuck

abbrev pub after_raise : {A : Type 0} → ℕ → Activation → AbruptCause → Eval A
after_raise k caller (Raised exception kind at) = leave k caller >> stop (Raised exception kind at)
after_raise k caller Broke = stuck
after_raise k caller cause = stop cause

-- What a turn begins is run by `go`, which has a turn less.
module _ (p : Program) (go : Continuation → Eval Completion) (at : Pos) where
  abbrev pub enter_routine : ℕ → Feature → Value → List (Option Value) → Activation → Eval (Value × List Value)
  enter_routine k f self given caller = do
    variables ← or_stuck (fill_arguments f.modes (void_variables p f) given)
    checked_depth at caller
    enter k (record { feature = Some k; self = self; variables = variables; sites = Empty; exception = None; depth = caller.depth + 1 })
    resolve (go (all_of f.body)) (after_return k caller) (after_raise k caller)

  abbrev pub routine : ℕ → Value → List (Option Value) → Eval (Value × List Value)
  routine k self given = do
    f ← at_index p.features k
    caller ← look (λ s. s.here)
    if f.iter then stuck else turn (enter_routine k f self given caller)

  abbrev pub with_no_variables : Eval Value → Eval (Value × List Value)
  with_no_variables f = f >>= (λ v. pure (v, []))

  -- the result of a target, and its variables where it is a routine
  abbrev pub reached : Target → Option ℕ → Value → List (Option Value) → Eval (Value × List Value)
  reached (target.Feature k) class self given = routine k self given
  reached (target.Builtin b) class self given = with_no_variables (builtin_call p class at self (only_given given) b)
  reached (target.Get a) class self [] = with_no_variables (attribute p at a self)
  reached (target.Set a) class self given = with_no_variables (or_stuck (single (only_given given)) >>= (λ v. set_attribute p at a v self))
  reached (target.GetShared k) class self [] = with_no_variables (shared k)
  reached (target.SetShared k) class self given = with_no_variables (or_stuck (single (only_given given)) >>= set_shared k >> pure Void)
  reached _ class self given = stuck

  abbrev pub call : TypedCallee → Value → List (Option Value) → List (Option ℕ) → Eval Value
  call called v given back = do
    c ← callee p at called v
    h ← pass_args p at called c given back
    r ← reached c.target c.class c.self h.given
    copy_results p at h r
