-- The steps of the state agree: with faults that raise objects, and where no fault can be caught.
use Rattle.std.proofs.Common.{◌≡◌, ℕ, zero, suc, Bool, true, false, ◌&&◌, if◌then◌else◌, List, [], ◌∷◌, map, length, Option, Some, None, refl, sym, ap, subst}
use Rattle.std.specs.Prelude.{pos, ◌==◌, nat_le}
use Rattle.sa_ast.specs.declared.fault_kind.FaultKind.{FaultKind}
use Rattle.sa_ast.specs.declared.pos.Pos.{Pos}
use Rattle.sa_semantics.specs.Value.{Value, Void, Int, Truth, Char, Imm, fields_of, bool_type, int_type, char_type}
use Rattle.sa_semantics.specs.Program.{Program, before, of_type, is_immutable, void_in, void_of}
use Rattle.sa_semantics.specs.Sequence.{resolve, stop, Abrupt}
use Rattle.sa_semantics.specs.State.{Object, Activation, State, Failed}
use Rattle.sa_semantics.specs.Steps.{spend, charge, add_object, object_at, object_size, set_object, fault, fault_object, raise_new, can_be_caught, new_text, put_byte, put_bytes, put_text, got, get_byte, read, write, checked_depth, checked_live}
use Rattle.sa_semantics.proofs.Agree.{Fits, parted, both_failed, Meet, give, halt, AgreeIn, agree, Agree, agree_then, agree_before, agree_if, agree_turn, agree_pure, agree_stop, agree_look, agree_change, agree_or_stuck, agree_with_place}

-- ---- void values, which don't depend on the faults

same_void_in : (p : Program) (depth : ℕ) → void_in (before p) depth ≡ void_in p depth
same_void_in p zero = refl
same_void_in p (suc depth) =
    ap (λ below ty. if ty == bool_type then Truth false else (if ty == int_type then Int (pos 0) else (if ty == char_type then Char 0 else (if is_immutable p ty then Imm ty (fields_of (map below (of_type p (λ t. t.attrs) [] ty))) else Void)))) (same_void_in p depth)

pub same_void : (p : Program) → void_of (before p) ≡ void_of p
same_void p = same_void_in p (length p.types)

-- ---- steps

pub agree_spend : {feature : Option ℕ} (n : ℕ) → Agree feature (spend n) (spend n)
agree_spend zero = agree_pure tt
agree_spend (suc n) = agree_turn (agree_spend n)

pub agree_charge : {feature : Option ℕ} (at : Pos) (size : ℕ) → Agree feature (charge at size) (charge at size)
agree_charge at size = agree_then (agree_look _) (λ room. agree_if _ (agree_change _ (λ s e. e)) (agree_stop _))

pub agree_add_object : {feature : Option ℕ} (o : Object) → Agree feature (add_object o) (add_object o)
agree_add_object o = agree (λ s e. give _ _ tt e)

pub agree_add_same : {feature : Option ℕ} (o q : Object) → q ≡ o → Agree feature (add_object o) (add_object q)
agree_add_same {feature} o q e = subst (λ x. Agree feature (add_object o) (add_object x)) (sym e) (agree_add_object o)

pub agree_object_at : {feature : Option ℕ} (number : ℕ) → Agree feature (object_at number) (object_at number)
agree_object_at number = agree_then (agree_look _) (λ objects. agree_or_stuck _)

pub agree_set_object : {feature : Option ℕ} (number : ℕ) (o : Object) → Agree feature (set_object number o) (set_object number o)
agree_set_object number o = agree_change _ (λ s e. e)

-- Here the two part, where the fault raises an object.
meet_fault : {feature : Option ℕ} {A : Type 0} {P : A → Type 0} (b : Bool) (o : Object) (kind : FaultKind) (at : Pos) (s : State) → Fits feature s.here → Meet feature A P ((if b then raise_new o kind at else stop (Failed kind at)) s) (Abrupt (Failed kind at) s)
unfolding resolve
meet_fault true o kind at s e = halt _ _ _ _ (parted _ kind at _ s e refl)
meet_fault false o kind at s e = halt _ _ _ _ (both_failed kind at s)

pub agree_fault : {feature : Option ℕ} (A : Type 0) {P : A → Type 0} (p : Program) (kind : FaultKind) (at : Pos) → AgreeIn feature feature A P (fault p kind at) (fault (before p) kind at)
unfolding resolve
agree_fault A p kind at = agree (λ s e. meet_fault (p.faults_raise && can_be_caught kind && nat_le (object_size 2 0) s.room) (fault_object p kind at) kind at s e)

pub agree_new_text : {feature : Option ℕ} (at : Pos) (bytes : List ℕ) → Agree feature (new_text at bytes) (new_text at bytes)
agree_new_text at bytes = agree_before (agree_charge at _) (agree_pure _)

pub agree_put_byte : {feature : Option ℕ} (byte : ℕ) → Agree feature (put_byte byte) (put_byte byte)
agree_put_byte byte = agree_change _ (λ s e. e)

pub agree_put_bytes : {feature : Option ℕ} (bytes : List ℕ) → Agree feature (put_bytes bytes) (put_bytes bytes)
agree_put_bytes [] = agree_pure tt
agree_put_bytes (byte ∷ more) = agree_before (agree_put_byte byte) (agree_put_bytes more)

pub agree_put_text : {feature : Option ℕ} (paid : ℕ) (bytes : List ℕ) → Agree feature (put_text paid bytes) (put_text paid bytes)
agree_put_text paid [] = agree_pure tt
agree_put_text zero (byte ∷ more) = agree_turn (agree_before (agree_put_byte byte) (agree_put_text 7 more))
agree_put_text (suc paid) (byte ∷ more) = agree_before (agree_put_byte byte) (agree_put_text paid more)

agree_got : {feature : Option ℕ} (bytes : List ℕ) (ends : Option ℕ) → Agree feature (got bytes ends) (got bytes ends)
agree_got (byte ∷ more) ends = agree_before (agree_change _ (λ s e. e)) (agree_pure _)
agree_got [] None = agree_pure _
agree_got [] (Some zero) = agree_stop _
agree_got [] (Some (suc ends)) = agree_before (agree_change _ (λ s e. e)) (agree_pure _)

pub agree_get_byte : {feature : Option ℕ} → Agree feature get_byte get_byte
agree_get_byte = agree_then (agree_look _) (λ input. agree_got _ _)

pub agree_read : {feature : Option ℕ} (var : ℕ) → Agree feature (read var) (read var)
agree_read var = agree_then (agree_look _) (λ variables. agree_or_stuck _)

pub agree_write : {feature : Option ℕ} (var : ℕ) (v : Value) → Agree feature (write var v) (write var v)
agree_write var v = agree_then (agree_look _) (λ variables. agree_then (agree_with_place _ _ _) (λ changed. agree_change _ (λ s e. e)))

pub agree_checked_depth : {feature : Option ℕ} (at : Pos) (caller : Activation) → Agree feature (checked_depth at caller) (checked_depth at caller)
agree_checked_depth at caller = agree_if _ (agree_stop _) (agree_pure tt)

pub agree_checked_live : {feature : Option ℕ} (at : Pos) → Agree feature (checked_live at) (checked_live at)
agree_checked_live at = agree_then (agree_look _) (λ live. agree_if _ (agree_stop _) (agree_pure tt))
