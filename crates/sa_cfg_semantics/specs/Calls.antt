-- What a call resolves to, what it passes and copies out, the run of a body, and what a bound value stores.
use Rattle.std.specs.Prelude.{ℕ, ◌+◌, ◌-◌, Bool, true, false, not, ◌&&◌, ◌==◌, nat_le, if◌then◌else◌, List, [], ◌∷◌}
use Rattle.std.specs.Prelude.{◌++◌, map, length, drop, replicate, filter_map, Option, Some, None, is_some, option_map}
use Rattle.std.specs.Option.{option_map_or}
use Rattle.sa_ast.specs.declared.fault_kind.FaultKind.TheVariants as fault_kind
use Rattle.sa_ast.specs.declared.ty.Mode.{Mode}
use Rattle.sa_ast.specs.declared.ty.Mode.TheVariants as mode
use Rattle.sa_typed.specs.declared.feature.Target.{Target}
use Rattle.sa_typed.specs.declared.feature.Target.TheVariants as target
use Rattle.sa_dispatch.specs.Implementations.{implementation_of}
use Rattle.sa_cfg.specs.declared.body.CfgBody.{CfgBody}
use Rattle.sa_cfg.specs.declared.body.BodyParam.{BodyParam}
use Rattle.sa_cfg.specs.declared.call.CallTarget.{CallTarget}
use Rattle.sa_cfg.specs.declared.call.CallTarget.TheVariants.{Body, Builtin, Get, Set, GetShared, SetShared, Dispatch, Bound}
use Rattle.sa_cfg.specs.declared.call.CallOperation.{CallOperation}
use Rattle.sa_cfg.specs.declared.call.CallOperand.{CallOperand}
use Rattle.sa_cfg.specs.declared.program.BoundLayout.{BoundLayout}
use Rattle.sa_cfg.specs.declared.program.CfgProgram.{CfgProgram}
use Rattle.sa_prelude.specs.declared.feature.BuiltinFeature.{BuiltinFeature}
use Rattle.sa_prelude.specs.declared.feature.BuiltinFeature.TheVariants.{OutPut, OutPutInt, OutPutChar, ArefAset}
use Rattle.sa_semantics.specs.Value as value
use Rattle.sa_semantics.specs.Value.{Value, Void, is_nothing, as_bound, unboxed}
use Rattle.sa_semantics.specs.Program.{is_immutable, void_of}
use Rattle.sa_semantics.specs.Sequence.{◌>>=◌, ◌>>◌, pure, stop, or_stuck, at_index, look, stuck}
use Rattle.sa_semantics.specs.State.{Object}
use Rattle.sa_semantics.specs.Steps.{object_at, charge, object_size, add_object}
use Rattle.sa_semantics.specs.Builtin.{builtin_call}
use Rattle.sa_semantics.specs.Calls.{dynamic_type, is_unboxed, interleave, only_given, single}
use Rattle.sa_semantics.specs.Calls.{fill_arguments, attribute, set_attribute, shared, set_shared}
use Rattle.sa_semantics.specs.Instances.{set_anew}
use Rattle.sa_cfg_semantics.specs.Frames.{Activation, BodyResult, Returned, Raised, CallerFault, Transfer, Onward, Faulted}
use Rattle.sa_cfg_semantics.specs.Counting.{Eval, turn, types_of, nowhere, lift, if_abstract, read, put, put_result, this, enter, leave}
use Rattle.sa_cfg_semantics.specs.Faults.{raised}

-- ---- what a call passes

-- An operand that is passed: its mode (one that a bound value stores has none), its value, and the variable that gets one back.
pub record PassedOperand : Type 0 where
  pub mode : Option Mode
  pub value : Option Value
  pub back : Option ℕ

-- the value that goes in
abbrev pub value_as : Mode → Option ℕ → Eval (Option Value)
value_as mode.Out var = pure None
value_as _ None = pure None
value_as _ (Some var) = read var >>= (λ v. pure (Some v))

-- the variable that gets a value back
abbrev pub back_as : Mode → Option ℕ → Option ℕ
back_as mode.Out var = var
back_as mode.Inout var = var
back_as _ var = None

abbrev pub pass_operand : CallOperand → Eval PassedOperand
pass_operand a = value_as a.mode a.var >>= (λ v. pure (record { mode = Some a.mode; value = v; back = back_as a.mode a.var }))

abbrev pub pass_operands : List CallOperand → Eval (List PassedOperand)
pass_operands [] = pure []
pass_operands (a ∷ more) = do
  first ← pass_operand a
  rest ← pass_operands more
  pure (first ∷ rest)

abbrev pub values_of : List PassedOperand → List (Option Value)
values_of = map (λ a. a.value)

-- from the callee's arguments into variables, in order
abbrev pub copy_back : List PassedOperand → List Value → Eval (Unit {0})
copy_back [] variables = pure tt
copy_back (a ∷ more) (v ∷ rest) = put a.back v >> copy_back more rest
copy_back (a ∷ more) [] = if is_some a.back then stuck else copy_back more []

-- ---- the modes of a callee

abbrev pub same_mode : Mode → Mode → Bool
same_mode mode.In mode.In = true
same_mode mode.Out mode.Out = true
same_mode mode.Inout mode.Inout = true
same_mode mode.Once mode.Once = true
same_mode _ _ = false

abbrev pub is_saved_mode : Mode → Bool
is_saved_mode mode.In = true
is_saved_mode mode.Once = true
is_saved_mode _ = false

-- A bound value stores values of `in` and `once` arguments.
abbrev pub fits : Option Mode → Mode → Bool
fits None formal = is_saved_mode formal
fits (Some m) formal = same_mode m formal

abbrev pub all_fit : List PassedOperand → List BodyParam → Bool
all_fit (a ∷ more) (f ∷ rest) = fits a.mode f.mode && all_fit more rest
all_fit [] [] = true
all_fit _ _ = false

-- ---- bound values

-- what the call of a bound value calls: the body at that index, or what the target says
abbrev pub target_of : CallTarget → Option Target
target_of (Body k) = Some (target.Feature k)
target_of (Builtin f) = Some (target.Builtin f)
target_of (Get a) = Some (target.Get a)
target_of (Set a) = Some (target.Set a)
target_of (GetShared k) = Some (target.GetShared k)
target_of (SetShared k) = Some (target.SetShared k)
target_of _ = None

abbrev pub callee_of : Target → CallTarget
callee_of (target.Feature k) = Body k
callee_of (target.Builtin f) = Builtin f
callee_of (target.Get a) = Get a
callee_of (target.Set a) = Set a
callee_of (target.GetShared k) = GetShared k
callee_of (target.SetShared k) = SetShared k

abbrev pub saved_operand : Value → PassedOperand
saved_operand v = record { mode = None; value = Some v; back = None }

-- The values that the bound value of a call stores come between those that are given, and nothing is copied out into them.
abbrev pub with_saved_operands : Option ℕ → List PassedOperand → Eval (List PassedOperand)
with_saved_operands None given = pure given
with_saved_operands (Some object) given = do
  o ← lift (object_at object)
  b ← or_stuck o.binding
  or_stuck (interleave b.is_open given (map saved_operand (drop 1 o.fields)))

-- ---- what a call resolves to

pub record ResolvedTarget : Type 0 where
  pub callee : CallTarget
  pub class : ℕ
  pub self : Value
  -- the bound value through which it is called
  pub through : Option ℕ

module _ (p : CfgProgram) (rows : List (List ℕ)) where
  abbrev pub implementation : ℕ → Value → Eval ResolvedTarget
  implementation k v = do
    dynamic ← lift (dynamic_type v)
    ty ← or_stuck dynamic
    row ← or_stuck (implementation_of rows k ty)
    body ← at_index p.targets row
    pure (record { callee = Body body; class = ty; self = v; through = None })

  abbrev pub dispatch : ℕ → Value → Eval ResolvedTarget
  dispatch k v = if is_nothing v then stop (Faulted fault_kind.Void) else if_abstract v (implementation k v)

  abbrev pub bound_to : ℕ → Eval ResolvedTarget
  bound_to object = do
    o ← lift (object_at object)
    b ← or_stuck o.binding
    receiver ← at_index o.fields 0
    pure (record { callee = callee_of b.target; class = b.class; self = receiver; through = Some object })

  abbrev pub resolve_target : CallTarget → ℕ → Value → Eval ResolvedTarget
  resolve_target (Dispatch k) class v = dispatch k v
  resolve_target Bound class v = if is_nothing v then stop (Faulted fault_kind.Void) else (or_stuck (as_bound v) >>= bound_to)
  resolve_target callee class v = pure (record { callee = callee; class = class; self = v; through = None })

-- ---- the variables of a body

-- the number of variables, temporaries included
abbrev pub width : CfgBody → ℕ
width b = if nat_le b.variable_count b.temporaries then b.temporaries else b.variable_count

abbrev pub modes_of : CfgBody → List Mode
modes_of b = map (λ f. f.mode) b.formals

abbrev pub void_formals : CfgProgram → CfgBody → List Value
void_formals p b = map (λ f. void_of (types_of p) f.ty) b.formals

-- Each variable after the arguments is set before it is read.
abbrev pub with_others : CfgBody → List Value → List Value
with_others b arguments = arguments ++ replicate (width b - length b.formals) Void

-- at the entry, where what is passed is what the arguments want by their modes
abbrev pub first_variables : CfgProgram → CfgBody → List PassedOperand → Eval (List Value)
first_variables p b given =
    if all_fit given b.formals
    then or_stuck (option_map (with_others b) (fill_arguments (modes_of b) (void_formals p b) (values_of given)))
    else stuck

-- At a resumption the arguments that aren't `once` are set anew, and `out` ones are void.
abbrev pub variables_anew : CfgProgram → CfgBody → List PassedOperand → List Value → Eval (List Value)
variables_anew p b given variables =
    if all_fit given b.formals then or_stuck (set_anew (modes_of b) (void_formals p b) variables (values_of given)) else stuck

abbrev pub no_frames : CfgBody → List (Option ℕ)
no_frames b = replicate b.sites None

-- ---- the run of a body

abbrev pub checked_depth : Activation → Eval (Unit {0})
checked_depth caller = if nat_le 10000 caller.depth then stop (Faulted fault_kind.TooDeep) else pure tt

-- whether a built-in feature gives a value
abbrev pub gives_value : BuiltinFeature → Bool
gives_value OutPut = false
gives_value OutPutInt = false
gives_value OutPutChar = false
gives_value ArefAset = false
gives_value _ = true

-- a value of the class with this type: one of an immutable class is unboxed, and one of another may be void
abbrev pub is_of : CfgProgram → ℕ → Value → Option ℕ → Bool
is_of p class v dynamic =
    if is_immutable (types_of p) class then is_unboxed class v else not (class == 0) && option_map_or (λ ty. ty == class) dynamic true

-- a step on a receiver, which is stuck where the receiver isn't of the class
abbrev pub if_of : {A : Type 0} → CfgProgram → ℕ → Value → Eval A → Eval A
if_of p class v f = lift (dynamic_type v) >>= (λ dynamic. if is_of p class v dynamic then f else stuck)

-- `go` runs a body, from a block and an index in it on.
module _ (p : CfgProgram) (go : ℕ → ℕ → Eval BodyResult) where
  -- the result of the body, and its variables
  abbrev pub run_body : ℕ → Activation → Eval (BodyResult × List Value)
  run_body block a = do
    caller ← this
    enter a
    ending ← go block 0
    variables ← look (λ s. s.here.variables)
    leave a.body caller
    pure (ending, variables)

  abbrev pub routine : ℕ → CfgBody → Value → List Value → ℕ → Activation
  routine k b self variables depth =
      record { body = k; self = self; variables = variables; sites = no_frames b; frame = None; station = None; depth = depth }

  -- An adapter takes neither a turn nor depth.
  abbrev pub call_in : Activation → ℕ → CfgBody → Value → List Value → Eval (BodyResult × List Value)
  call_in caller k b self variables =
      if is_some b.feature then turn (checked_depth caller >> run_body 0 (routine k b self variables (caller.depth + 1)))
      else run_body 0 (routine k b self variables caller.depth)

  abbrev pub call_body : ℕ → Value → List PassedOperand → Eval (BodyResult × List Value)
  call_body k self given = do
    b ← at_index p.bodies k
    caller ← this
    variables ← first_variables p b given
    if b.iter then stuck else call_in caller k b self variables

  -- the value of a step as the result of a body, where the callee gives one
  abbrev pub simply : Bool → Eval Value → Eval (BodyResult × List Value)
  simply gives f = f >>= (λ v. pure (Returned (if gives then Some v else None), []))

  abbrev pub run_builtin : ℕ → Value → List PassedOperand → BuiltinFeature → Eval (BodyResult × List Value)
  run_builtin class self given f =
      if_of p class self
      (simply (gives_value f) (lift (builtin_call (types_of p) (Some class) nowhere self (only_given (values_of given)) f)))

  abbrev pub run_target : CallTarget → ℕ → Value → List PassedOperand → Eval (BodyResult × List Value)
  run_target (Body k) class self given = call_body k self given
  run_target (Builtin f) class self given = run_builtin class self given f
  run_target (Get a) class self [] = if_of p class self (simply true (lift (attribute (types_of p) nowhere a self)))
  run_target (Set a) class self given = do
    v ← or_stuck (single (only_given (values_of given)))
    if_of p class self (simply (is_immutable (types_of p) class) (lift (set_attribute (types_of p) nowhere a v self)))
  run_target (GetShared k) class self [] = simply true (lift (shared k))
  run_target (SetShared k) class self given = do
    v ← or_stuck (single (only_given (values_of given)))
    simply false (lift (set_shared k v) >> pure Void)
  run_target _ class self given = stuck

  -- ---- calls

  abbrev pub after_call : CallOperation → List PassedOperand → BodyResult × List Value → Eval Transfer
  after_call plan given (Returned v, variables) = put_result plan.value v >> copy_back given variables >> pure Onward
  after_call plan given (Raised v place kind, variables) = raised plan.fail.raised v place kind
  after_call plan given (CallerFault kind, variables) = stop (Faulted kind)
  after_call plan given _ = stuck

  abbrev pub call : List (List ℕ) → CallOperation → Eval Transfer
  call rows plan = do
    v ← read plan.recv
    given ← pass_operands plan.args
    r ← resolve_target p rows plan.callee plan.class v
    all ← with_saved_operands r.through given
    ended ← run_target r.callee r.class r.self all
    after_call plan all ended

-- ---- binds

abbrev pub variable_of : CallOperand → Option ℕ
variable_of a = a.var

abbrev pub read_all : List ℕ → Eval (List Value)
read_all [] = pure []
read_all (var ∷ more) = do
  v ← read var
  vs ← read_all more
  pure (v ∷ vs)

-- The class is the one whose feature is called. The receiver is stored as that class has it.
abbrev pub bound_object : BoundLayout → Target → ℕ → Value → List Value → Object
bound_object e t class receiver saved_operand = record {
  ty = e.ty;
  fields = unboxed receiver ∷ saved_operand;
  elements = [];
  binding = Some (record { target = t; class = class; is_open = e.open });
}

module _ (p : CfgProgram) (rows : List (List ℕ)) where
  -- For a signature the receiver chooses what the bound value calls. No bind is of the call of a bound value.
  abbrev pub resolve_bound : CallTarget → ℕ → Value → Eval ResolvedTarget
  resolve_bound Bound class v = stuck
  resolve_bound callee class v = resolve_target p rows callee class v

  -- The layout says what is stored and called.
  abbrev pub bind : CallOperation → ℕ → Eval Transfer
  bind plan entry = do
    v ← read plan.recv
    saved_operand ← read_all (filter_map variable_of plan.args)
    e ← at_index p.binds entry
    r ← resolve_bound e.callee e.class v
    t ← or_stuck (target_of r.callee)
    lift (charge nowhere (object_size (1 + length saved_operand) 0))
    number ← lift (add_object (bound_object e t r.class v saved_operand))
    put plan.value (value.Bound number)
    pure Onward
