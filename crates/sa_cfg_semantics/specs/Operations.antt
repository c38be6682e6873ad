-- Operations: what each does.
use Rattle.std.specs.Prelude.{ℕ, Bool, false, ◌&&◌, ◌||◌, ◌==◌, if◌then◌else◌, List, length, set, find, Option, is_some}
use Rattle.std.specs.Option.{option_map_or}
use Rattle.sa_ast.specs.declared.fault_kind.FaultKind.TheVariants as fault_kind
use Rattle.sa_ast.specs.Faults.{fault_number}
use Rattle.sa_cfg.specs.declared.operation.Constant.{Constant}
use Rattle.sa_cfg.specs.declared.operation.Constant.TheVariants as const
use Rattle.sa_cfg.specs.declared.operation.CfgOperation.{CfgOperation}
use Rattle.sa_cfg.specs.declared.operation.CfgOperation.TheVariants.{Const, Move, SelfRef, IsVoid, Turn, New, NewArray, SetElement, Box}
use Rattle.sa_cfg.specs.declared.operation.CfgOperation.TheVariants.{BoxFor, Unbox, TypeIs, CheckNotVoid, InitShared, Call, Bind}
use Rattle.sa_cfg.specs.declared.operation.CfgOperation.TheVariants.{HasInstance, Start, Resume, HasFrame, Enter, Release, SetException}
use Rattle.sa_cfg.specs.declared.program.CfgProgram.{CfgProgram}
use Rattle.sa_semantics.specs.Value.{Value, Int, Truth, Char, Text, Boxed, is_void, is_nothing, as_int, as_object, unboxed}
use Rattle.sa_semantics.specs.Program.{void_of}
use Rattle.sa_semantics.specs.Sequence.{◌>>=◌, ◌>>◌, pure, stop, or_stuck, at_index, stuck}
use Rattle.sa_semantics.specs.Steps.{object_at, set_object}
use Rattle.sa_semantics.specs.Builtin.{new_array, index_of, is_index}
use Rattle.sa_semantics.specs.Calls.{dynamic_type, boxed_from, boxed_if, is_unboxed, set_shared}
use Rattle.sa_semantics.specs.Evaluation.{new_object}
use Rattle.sa_semantics.specs.Statements.{takes}
use Rattle.sa_cfg_semantics.specs.Frames.{BodyResult, Transfer, Onward, Faulted}
use Rattle.sa_cfg_semantics.specs.Counting.{Eval, turn, types_of, nowhere, lift, if_abstract, read, write, write_number, this}
use Rattle.sa_cfg_semantics.specs.Faults.{is_adapter, guard}
use Rattle.sa_cfg_semantics.specs.Calls.{call, bind}
use Rattle.sa_cfg_semantics.specs.Instances.{instance_at, release_all, start, resume, enter_iter}

-- the value is assigned to a variable, and the next operation follows
abbrev pub give : ℕ → Eval Value → Eval Transfer
give to f = f >>= write to >> pure Onward

-- what a function gives of a variable's value is assigned to a variable
abbrev pub give_of : ℕ → ℕ → (Value → Value) → Eval Transfer
give_of to from see = give to (read from >>= (λ v. pure (see v)))

-- the value is a boxed one of the immutable class
abbrev pub is_boxed_of : ℕ → Value → Bool
is_boxed_of ty (Boxed v) = is_unboxed ty v
is_boxed_of ty v = false

module _ (p : CfgProgram) where
  abbrev pub constant : Constant → Eval Value
  constant (const.Void ty) = pure (void_of (types_of p) ty)
  constant (const.Int z) = pure (Int z)
  constant (const.Bool b) = pure (Truth b)
  constant (const.Char byte) = pure (Char byte)
  constant (const.Text text) = at_index p.texts text >>= (λ bytes. pure (Text bytes))

  abbrev pub array : ℕ → ℕ → Eval Value
  array ty count = do
    v ← read count
    n ← or_stuck (as_int v)
    lift (new_array (types_of p) ty nowhere n)

  -- a step that makes an object of the type: no class has the index 0
  abbrev pub if_class : ℕ → Eval Value → Eval Value
  if_class ty f = if ty == 0 then stuck else f

  abbrev pub has_type : ℕ → Value → Eval Value
  has_type ty v = if_abstract v (lift (dynamic_type v) >>= (λ dynamic. pure (Truth (takes (types_of p) ty dynamic))))

  -- the running body is an adapter
  abbrev pub this_is_adapter : Eval Bool
  this_is_adapter = this >>= (λ here. pure (is_adapter p here.body))

  -- A value of the immutable class, boxed. In an adapter it may be boxed already, as a bound value stores it.
  abbrev pub box_operand : ℕ → Value → Eval Value
  box_operand ty v = do
    made ← this_is_adapter
    if made && is_boxed_of ty v then pure v else lift (boxed_from (types_of p) nowhere ty v)

  -- A boxed value of the immutable class, unboxed. In an adapter it may be unboxed already, as a bound value stores it.
  abbrev pub unbox_operand : ℕ → Value → Eval Value
  unbox_operand ty v = do
    made ← this_is_adapter
    if is_boxed_of ty v || made && is_unboxed ty v then pure (unboxed v) else stuck

  -- what a bind stores of a value: it is boxed where the class of the receiver is one of the types
  abbrev pub bound_as : Value → List ℕ → Option ℕ → Eval Value
  bound_as v types dynamic =
      lift (boxed_if (types_of p) nowhere (option_map_or (λ class. is_some (find (λ ty. ty == class) types)) dynamic false) v)

  abbrev pub bound_for : ℕ → ℕ → ℕ → List ℕ → Eval Value
  bound_for from ty recv types = do
    v ← read from
    receiver ← read recv
    if is_unboxed ty v then if_abstract receiver (lift (dynamic_type receiver) >>= bound_as v types) else stuck

-- an element of an array of the type is set
abbrev pub set_element : ℕ → ℕ → ℕ → ℕ → Eval (Unit {0})
set_element array ty at value = do
  a ← read array
  i ← read at
  v ← read value
  number ← or_stuck (as_object a)
  place ← or_stuck (as_int i)
  o ← lift (object_at number)
  if o.ty == ty && is_index place (length o.elements)
      then lift (set_object number (record o { elements = set o.elements (index_of place) v }))
      else stuck

abbrev pub check_not_void : Value → Eval Transfer
check_not_void v = if is_nothing v then stop (Faulted fault_kind.Void) else if_abstract v (pure Onward)

-- `go` runs a body, from a block and an index in it on.
module _ (p : CfgProgram) (rows : List (List ℕ)) (go : ℕ → ℕ → Eval BodyResult) where
  abbrev pub step : CfgOperation → Eval Transfer
  step (Const to value) = give to (constant p value)
  step (Move to from) = give to (read from)
  step (SelfRef to) = give to (this >>= (λ here. pure here.self))
  step (IsVoid to from) = give_of to from (λ v. Truth (is_void v))
  step Turn = turn (pure Onward)
  step (New to ty fail) = guard p fail (give to (if_class p ty (lift (new_object (types_of p) nowhere ty))))
  step (NewArray to ty count fail) = guard p fail (give to (if_class p ty (array p ty count)))
  step (SetElement array ty at value) = set_element array ty at value >> pure Onward
  step (Box to from ty fail) = guard p fail (give to (read from >>= box_operand p ty))
  step (BoxFor to from ty recv types fail) = guard p fail (give to (bound_for p from ty recv types))
  step (Unbox to from ty) = give to (read from >>= unbox_operand p ty)
  step (TypeIs to from ty) = give to (read from >>= has_type p ty)
  step (CheckNotVoid from fail) = guard p fail (read from >>= check_not_void)
  step (InitShared shared from) = read from >>= (λ v. lift (set_shared shared v)) >> pure Onward
  step (Call plan) = guard p plan.fail (call p go rows plan)
  step (Bind plan entry) = guard p plan.fail (bind p rows plan entry)
  step (HasInstance to site) = give to (instance_at site >>= (λ entry. pure (Truth (is_some entry))))
  step (Start site plan quit) = guard p plan.fail (start p go rows site plan quit)
  step (Resume site plan quit) = guard p plan.fail (resume p go site plan quit)
  step (HasFrame to) = give to (this >>= (λ here. pure (Truth (is_some here.frame))))
  step (Enter body recv args value quit) = enter_iter p go body recv args value quit
  step (Release sites) = release_all p sites >> pure Onward
  step (SetException value place to) = do
    v ← read value
    write to.value v
    write_number to.place place
    write_number to.kind (fault_number fault_kind.Uncaught)
    pure Onward
