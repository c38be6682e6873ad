-- The built-in features are alike to themselves at each level.
use Rattle.std.proofs.Common.{ℕ, ◌++◌, ◌∷◌, List, [], ℤ, Option}
use Rattle.std.specs.Prelude.{◌+ℤ◌, ◌-ℤ◌, ◌*ℤ◌, neg_ℤ, int_div, int_rem}
use Rattle.std.specs.Fmt.{signed_decimal}
use Rattle.sa_ast.specs.declared.fault_kind.FaultKind.TheVariants as fault_kind
use Rattle.sa_ast.specs.declared.pos.Pos.{Pos}
use Rattle.sa_prelude.specs.declared.feature.BuiltinFeature.{BuiltinFeature}
use Rattle.sa_prelude.specs.declared.feature.BuiltinFeature.TheVariants.{BoolIsEq, BoolNot, IntPlus, IntMinus, IntTimes, IntNegate, IntDiv, IntMod, IntIsEq, IntIsLt, IntBand, IntBor, IntBxor, IntStr, IntChar, CharIsEq, CharIsLt, CharInt, CharStr, StrSize, StrAget, StrCat, StrSubstring, StrOf, OutPut, OutPutInt, OutPutChar, InGetByte, SysObEq, ArefAsize, ArefAget, ArefAset, ArrayCreate}
use Rattle.sa_semantics.specs.Sequence.{◌>>=◌, or_stuck}
use Rattle.sa_semantics.specs.Value.{Value, is_zero}
use Rattle.sa_semantics.specs.Program.{Program}
use Rattle.sa_semantics.specs.Steps.{Eval}
use Rattle.sa_semantics.specs.Builtin.{elements_of, new_array, whole, divide, long_text, byte_at, part, text_of, element_at, set_element, unless_void, builtin, builtin_call}
use Rattle.sa_semantics.proofs.Alike.{Steady, alike_then, alike_before, alike_if, steady_pure, steady_or_stuck, steady_stuck}
use Rattle.sa_semantics.proofs.SteadySteps.{steady_spend, steady_charge, steady_add_object, steady_object_at, steady_set_object, steady_fault, steady_new_text, steady_put_byte, steady_put_bytes, steady_put_text, steady_get_byte}

steady_elements_of : {level : ℕ} (v : Value) → Steady level (elements_of v)
steady_elements_of v = alike_if _ (steady_pure _) (alike_then (steady_or_stuck _) (λ number. alike_then (steady_object_at number) (λ o. steady_pure _)))

pub steady_new_array : {level : ℕ} (p : Program) (ty : ℕ) (at : Pos) (count : ℤ) → Steady level (new_array p ty at count)
steady_new_array p ty at count =
    alike_if _ (steady_fault Value p fault_kind.Index at) (alike_then (steady_or_stuck _) (λ t. alike_before (steady_charge at _) (alike_then (steady_add_object _) (λ number. steady_pure _))))

steady_with : {level : ℕ} {A B : Type 0} (o : Option A) {f : A → Eval B} → ((a : A) → Steady level (f a)) → Steady level (or_stuck o >>= f)
steady_with o e = alike_then (steady_or_stuck o) e

steady_with_both : {level : ℕ} {A B : Type 0} (o q : Option A) {f : A → A → Eval B} → ((a b : A) → Steady level (f a b)) → Steady level (or_stuck o >>= (λ a. or_stuck q >>= f a))
steady_with_both o q e = alike_then (steady_or_stuck o) (λ a. alike_then (steady_or_stuck q) (e a))

module _ (p : Program) (class : Option ℕ) (at : Pos) (self : Value) (arguments : List Value) where
  steady_whole : {level : ℕ} (z : ℤ) → Steady level (whole p class at self arguments z)
  steady_whole z = alike_if _ (steady_pure _) (steady_fault Value p fault_kind.Overflow at)

  steady_divided : {level : ℕ} (f : ℤ → ℤ → ℤ) (a b : ℤ) → Steady level (divide p class at self arguments f a b)
  steady_divided f a b = alike_if (is_zero b) (steady_fault Value p fault_kind.DivisionByZero at) (steady_whole (f a b))

  steady_long_text : {level : ℕ} (bytes : List ℕ) → Steady level (long_text p class at self arguments bytes)
  steady_long_text bytes = alike_before (steady_spend _) (steady_new_text at bytes)

  steady_byte_at : {level : ℕ} (bytes : List ℕ) (i : ℤ) → Steady level (byte_at p class at self arguments bytes i)
  steady_byte_at bytes i = alike_if _ (alike_then (steady_or_stuck _) (λ byte. steady_pure _)) (steady_fault Value p fault_kind.Index at)

  steady_part : {level : ℕ} (bytes : List ℕ) (i n : ℤ) → Steady level (part p class at self arguments bytes i n)
  steady_part bytes i n = alike_if _ (steady_long_text _) (steady_fault Value p fault_kind.Index at)

  steady_text_of : {level : ℕ} (elements : List Value) (n : ℤ) → Steady level (text_of p class at self arguments elements n)
  steady_text_of elements n = alike_if _ (alike_then (steady_or_stuck _) steady_long_text) (steady_fault Value p fault_kind.Index at)

  steady_element_at : {level : ℕ} (i : ℤ) → Steady level (element_at p class at self arguments i)
  steady_element_at i = alike_then (steady_or_stuck _) (λ number. alike_then (steady_object_at number) (λ o. alike_if _ (steady_or_stuck _) (steady_fault Value p fault_kind.Index at)))

  steady_set_element : {level : ℕ} (i : ℤ) (v : Value) → Steady level (set_element p class at self arguments i v)
  steady_set_element i v =
      alike_then (steady_or_stuck _) (λ number. alike_then (steady_object_at number) (λ o. alike_if _ (alike_before (steady_set_object number _) (steady_pure _)) (steady_fault Value p fault_kind.Index at)))

  steady_unless_void : {level : ℕ} (f : Eval Value) → Steady level f → Steady level (unless_void p class at self arguments f)
  steady_unless_void f e = alike_if _ (steady_fault Value p fault_kind.Void at) e

  steady_builtin : {level : ℕ} (b : BuiltinFeature) → Steady level (builtin p class at self arguments b)
  steady_builtin BoolIsEq = steady_with_both _ _ (λ a b. steady_pure _)
  steady_builtin BoolNot = steady_with _ (λ a. steady_pure _)
  steady_builtin IntPlus = steady_with_both _ _ (λ a b. steady_whole (a +ℤ b))
  steady_builtin IntMinus = steady_with_both _ _ (λ a b. steady_whole (a -ℤ b))
  steady_builtin IntTimes = steady_with_both _ _ (λ a b. steady_whole (a *ℤ b))
  steady_builtin IntNegate = steady_with _ (λ a. steady_whole (neg_ℤ a))
  steady_builtin IntDiv = steady_with_both _ _ (steady_divided int_div)
  steady_builtin IntMod = steady_with_both _ _ (steady_divided int_rem)
  steady_builtin IntIsEq = steady_with_both _ _ (λ a b. steady_pure _)
  steady_builtin IntIsLt = steady_with_both _ _ (λ a b. steady_pure _)
  steady_builtin IntBand = steady_with_both _ _ (λ a b. steady_pure _)
  steady_builtin IntBor = steady_with_both _ _ (λ a b. steady_pure _)
  steady_builtin IntBxor = steady_with_both _ _ (λ a b. steady_pure _)
  steady_builtin IntStr = steady_with _ (λ a. steady_new_text at (signed_decimal a))
  steady_builtin IntChar = steady_with _ (λ a. alike_if _ (steady_pure _) (steady_fault Value p fault_kind.Overflow at))
  steady_builtin CharIsEq = steady_with_both _ _ (λ a b. steady_pure _)
  steady_builtin CharIsLt = steady_with_both _ _ (λ a b. steady_pure _)
  steady_builtin CharInt = steady_with _ (λ a. steady_pure _)
  steady_builtin CharStr = steady_with _ (λ a. steady_new_text at (a ∷ []))
  steady_builtin StrSize = steady_with _ (λ a. steady_pure _)
  steady_builtin StrAget = steady_with _ (λ a. alike_then (steady_or_stuck _) (steady_byte_at a))
  steady_builtin StrCat = steady_with_both _ _ (λ a b. steady_long_text (a ++ b))
  steady_builtin StrSubstring = alike_then (steady_or_stuck _) (λ a. alike_then (steady_or_stuck _) (λ i. alike_then (steady_or_stuck _) (λ n. steady_part a i n)))
  steady_builtin StrOf = alike_then (steady_or_stuck _) (λ a. alike_then (steady_or_stuck _) (λ n. alike_then (steady_elements_of a) (λ elements. steady_text_of elements n)))
  steady_builtin OutPut = alike_before (alike_then (steady_or_stuck _) (steady_put_text 0)) (steady_pure _)
  steady_builtin OutPutInt = alike_before (alike_then (steady_or_stuck _) (λ a. steady_put_bytes _)) (steady_pure _)
  steady_builtin OutPutChar = alike_before (alike_then (steady_or_stuck _) steady_put_byte) (steady_pure _)
  steady_builtin InGetByte = alike_then steady_get_byte (λ z. steady_pure _)
  steady_builtin SysObEq = alike_then (steady_or_stuck _) (λ a. alike_then (steady_or_stuck _) (λ b. steady_pure _))
  steady_builtin ArefAsize = alike_then (steady_elements_of self) (λ elements. steady_pure _)
  steady_builtin ArefAget = alike_then (steady_or_stuck _) (λ i. steady_unless_void _ (steady_element_at i))
  steady_builtin ArefAset = alike_then (steady_or_stuck _) (λ i. alike_then (steady_or_stuck _) (λ v. steady_unless_void _ (steady_set_element i v)))
  steady_builtin ArrayCreate = alike_then (steady_or_stuck _) (λ ty. alike_then (steady_or_stuck _) (λ count. steady_new_array p ty at count))

  pub steady_builtin_call : {level : ℕ} (b : BuiltinFeature) → Steady level (builtin_call p class at self arguments b)
  steady_builtin_call b = alike_if _ (steady_builtin b) steady_stuck
