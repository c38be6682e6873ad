-- The built-in features agree.
use Rattle.std.proofs.Common.{ℕ, ◌++◌, ◌∷◌, List, [], ℤ, Option, map, ap}
use Rattle.std.specs.Prelude.{◌+ℤ◌, ◌-ℤ◌, ◌*ℤ◌, neg_ℤ, int_div, int_rem, replicate}
use Rattle.std.specs.Fmt.{signed_decimal}
use Rattle.std.specs.Option.{option_map_or}
use Rattle.sa_ast.specs.declared.fault_kind.FaultKind.TheVariants as fault_kind
use Rattle.sa_ast.specs.declared.pos.Pos.{Pos}
use Rattle.sa_prelude.specs.declared.feature.BuiltinFeature.{BuiltinFeature}
use Rattle.sa_prelude.specs.declared.feature.BuiltinFeature.TheVariants.{BoolIsEq, BoolNot, IntPlus, IntMinus, IntTimes, IntNegate, IntDiv, IntMod, IntIsEq, IntIsLt, IntBand, IntBor, IntBxor, IntStr, IntChar, CharIsEq, CharIsLt, CharInt, CharStr, StrSize, StrAget, StrCat, StrSubstring, StrOf, OutPut, OutPutInt, OutPutChar, InGetByte, SysObEq, ArefAsize, ArefAget, ArefAset, ArrayCreate}
use Rattle.sa_semantics.specs.Sequence.{◌>>=◌, or_stuck}
use Rattle.sa_semantics.specs.Value.{Value, Void, is_zero}
use Rattle.sa_semantics.specs.Program.{Program, before}
use Rattle.sa_semantics.specs.Steps.{Eval, plain}
use Rattle.sa_semantics.specs.Builtin.{index_of, elements_of, new_array, whole, divide, long_text, byte_at, part, text_of, element_at, set_element, unless_void, builtin, builtin_call}
use Rattle.sa_semantics.proofs.Agree.{Agree, agree_then, agree_before, agree_if, agree_pure, agree_or_stuck, agree_stuck}
use Rattle.sa_semantics.proofs.AgreeSteps.{same_void, agree_spend, agree_charge, agree_add_same, agree_object_at, agree_set_object, agree_fault, agree_new_text, agree_put_byte, agree_put_bytes, agree_put_text, agree_get_byte}

agree_elements_of : {feature : Option ℕ} (v : Value) → Agree feature (elements_of v) (elements_of v)
agree_elements_of v = agree_if _ (agree_pure _) (agree_then (agree_or_stuck _) (λ number. agree_then (agree_object_at number) (λ o. agree_pure _)))

pub agree_new_array : {feature : Option ℕ} (p : Program) (ty : ℕ) (at : Pos) (count : ℤ) → Agree feature (new_array p ty at count) (new_array (before p) ty at count)
agree_new_array p ty at count =
    agree_if _ (agree_fault Value p fault_kind.Index at) (agree_then (agree_or_stuck _) (λ t. agree_before (agree_charge at _)
    (agree_then (agree_add_same _ _ (ap (λ voids. plain ty (map voids t.attrs) (replicate (index_of count) (option_map_or voids t.elem Void))) (same_void p))) (λ number. agree_pure _))))

agree_with : {feature : Option ℕ} {A B : Type 0} (o : Option A) {f g : A → Eval B} → ((a : A) → Agree feature (f a) (g a)) → Agree feature (or_stuck o >>= f) (or_stuck o >>= g)
agree_with o e = agree_then (agree_or_stuck o) e

agree_with_both : {feature : Option ℕ} {A B : Type 0} (o q : Option A) {f g : A → A → Eval B} → ((a b : A) → Agree feature (f a b) (g a b)) → Agree feature (or_stuck o >>= (λ a. or_stuck q >>= f a)) (or_stuck o >>= (λ a. or_stuck q >>= g a))
agree_with_both o q e = agree_then (agree_or_stuck o) (λ a. agree_then (agree_or_stuck q) (e a))

module _ (p : Program) (class : Option ℕ) (at : Pos) (self : Value) (arguments : List Value) where
  agree_whole : {feature : Option ℕ} (z : ℤ) → Agree feature (whole p class at self arguments z) (whole (before p) class at self arguments z)
  agree_whole z = agree_if _ (agree_pure _) (agree_fault Value p fault_kind.Overflow at)

  agree_divided : {feature : Option ℕ} (f : ℤ → ℤ → ℤ) (a b : ℤ) → Agree feature (divide p class at self arguments f a b) (divide (before p) class at self arguments f a b)
  agree_divided f a b = agree_if (is_zero b) (agree_fault Value p fault_kind.DivisionByZero at) (agree_whole (f a b))

  agree_long_text : {feature : Option ℕ} (bytes : List ℕ) → Agree feature (long_text p class at self arguments bytes) (long_text (before p) class at self arguments bytes)
  agree_long_text bytes = agree_before (agree_spend _) (agree_new_text at bytes)

  agree_byte_at : {feature : Option ℕ} (bytes : List ℕ) (i : ℤ) → Agree feature (byte_at p class at self arguments bytes i) (byte_at (before p) class at self arguments bytes i)
  agree_byte_at bytes i = agree_if _ (agree_then (agree_or_stuck _) (λ byte. agree_pure _)) (agree_fault Value p fault_kind.Index at)

  agree_part : {feature : Option ℕ} (bytes : List ℕ) (i n : ℤ) → Agree feature (part p class at self arguments bytes i n) (part (before p) class at self arguments bytes i n)
  agree_part bytes i n = agree_if _ (agree_long_text _) (agree_fault Value p fault_kind.Index at)

  agree_text_of : {feature : Option ℕ} (elements : List Value) (n : ℤ) → Agree feature (text_of p class at self arguments elements n) (text_of (before p) class at self arguments elements n)
  agree_text_of elements n = agree_if _ (agree_then (agree_or_stuck _) agree_long_text) (agree_fault Value p fault_kind.Index at)

  agree_element_at : {feature : Option ℕ} (i : ℤ) → Agree feature (element_at p class at self arguments i) (element_at (before p) class at self arguments i)
  agree_element_at i = agree_then (agree_or_stuck _) (λ number. agree_then (agree_object_at number) (λ o. agree_if _ (agree_or_stuck _) (agree_fault Value p fault_kind.Index at)))

  agree_set_element : {feature : Option ℕ} (i : ℤ) (v : Value) → Agree feature (set_element p class at self arguments i v) (set_element (before p) class at self arguments i v)
  agree_set_element i v =
      agree_then (agree_or_stuck _) (λ number. agree_then (agree_object_at number) (λ o. agree_if _ (agree_before (agree_set_object number _) (agree_pure _)) (agree_fault Value p fault_kind.Index at)))

  agree_unless_void : {feature : Option ℕ} (f g : Eval Value) → Agree feature f g → Agree feature (unless_void p class at self arguments f) (unless_void (before p) class at self arguments g)
  agree_unless_void f g e = agree_if _ (agree_fault Value p fault_kind.Void at) e

  agree_builtin : {feature : Option ℕ} (b : BuiltinFeature) → Agree feature (builtin p class at self arguments b) (builtin (before p) class at self arguments b)
  agree_builtin BoolIsEq = agree_with_both _ _ (λ a b. agree_pure _)
  agree_builtin BoolNot = agree_with _ (λ a. agree_pure _)
  agree_builtin IntPlus = agree_with_both _ _ (λ a b. agree_whole (a +ℤ b))
  agree_builtin IntMinus = agree_with_both _ _ (λ a b. agree_whole (a -ℤ b))
  agree_builtin IntTimes = agree_with_both _ _ (λ a b. agree_whole (a *ℤ b))
  agree_builtin IntNegate = agree_with _ (λ a. agree_whole (neg_ℤ a))
  agree_builtin IntDiv = agree_with_both _ _ (agree_divided int_div)
  agree_builtin IntMod = agree_with_both _ _ (agree_divided int_rem)
  agree_builtin IntIsEq = agree_with_both _ _ (λ a b. agree_pure _)
  agree_builtin IntIsLt = agree_with_both _ _ (λ a b. agree_pure _)
  agree_builtin IntBand = agree_with_both _ _ (λ a b. agree_pure _)
  agree_builtin IntBor = agree_with_both _ _ (λ a b. agree_pure _)
  agree_builtin IntBxor = agree_with_both _ _ (λ a b. agree_pure _)
  agree_builtin IntStr = agree_with _ (λ a. agree_new_text at (signed_decimal a))
  agree_builtin IntChar = agree_with _ (λ a. agree_if _ (agree_pure _) (agree_fault Value p fault_kind.Overflow at))
  agree_builtin CharIsEq = agree_with_both _ _ (λ a b. agree_pure _)
  agree_builtin CharIsLt = agree_with_both _ _ (λ a b. agree_pure _)
  agree_builtin CharInt = agree_with _ (λ a. agree_pure _)
  agree_builtin CharStr = agree_with _ (λ a. agree_new_text at (a ∷ []))
  agree_builtin StrSize = agree_with _ (λ a. agree_pure _)
  agree_builtin StrAget = agree_with _ (λ a. agree_then (agree_or_stuck _) (agree_byte_at a))
  agree_builtin StrCat = agree_with_both _ _ (λ a b. agree_long_text (a ++ b))
  agree_builtin StrSubstring = agree_then (agree_or_stuck _) (λ a. agree_then (agree_or_stuck _) (λ i. agree_then (agree_or_stuck _) (λ n. agree_part a i n)))
  agree_builtin StrOf = agree_then (agree_or_stuck _) (λ a. agree_then (agree_or_stuck _) (λ n. agree_then (agree_elements_of a) (λ elements. agree_text_of elements n)))
  agree_builtin OutPut = agree_before (agree_then (agree_or_stuck _) (agree_put_text 0)) (agree_pure _)
  agree_builtin OutPutInt = agree_before (agree_then (agree_or_stuck _) (λ a. agree_put_bytes _)) (agree_pure _)
  agree_builtin OutPutChar = agree_before (agree_then (agree_or_stuck _) agree_put_byte) (agree_pure _)
  agree_builtin InGetByte = agree_then agree_get_byte (λ z. agree_pure _)
  agree_builtin SysObEq = agree_then (agree_or_stuck _) (λ a. agree_then (agree_or_stuck _) (λ b. agree_pure _))
  agree_builtin ArefAsize = agree_then (agree_elements_of self) (λ elements. agree_pure _)
  agree_builtin ArefAget = agree_then (agree_or_stuck _) (λ i. agree_unless_void _ _ (agree_element_at i))
  agree_builtin ArefAset = agree_then (agree_or_stuck _) (λ i. agree_then (agree_or_stuck _) (λ v. agree_unless_void _ _ (agree_set_element i v)))
  agree_builtin ArrayCreate = agree_then (agree_or_stuck _) (λ ty. agree_then (agree_or_stuck _) (λ count. agree_new_array p ty at count))

  pub agree_builtin_call : {feature : Option ℕ} (b : BuiltinFeature) → Agree feature (builtin_call p class at self arguments b) (builtin_call (before p) class at self arguments b)
  agree_builtin_call b = agree_if _ (agree_builtin b) agree_stuck
