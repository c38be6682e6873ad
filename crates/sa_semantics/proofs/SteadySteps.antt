-- The steps of the state are alike to themselves at each level.
use Rattle.std.proofs.Common.{ℕ, zero, suc, List, [], ◌∷◌, Option, Some, None, refl}
use Rattle.sa_ast.specs.declared.fault_kind.FaultKind.{FaultKind}
use Rattle.sa_ast.specs.declared.pos.Pos.{Pos}
use Rattle.sa_semantics.specs.Value.{Value}
use Rattle.sa_semantics.specs.Program.{Program}
use Rattle.sa_semantics.specs.State.{Object, Activation}
use Rattle.sa_semantics.specs.Steps.{spend, charge, add_object, object_at, set_object, fault, new_text, put_byte, put_bytes, put_text, got, get_byte, read, write, enter, leave, checked_depth, checked_live}
use Rattle.sa_semantics.proofs.Alike.{Steady, moves, puts, alike_then, alike_before, alike_if, turns_alone, steady_pure, steady_stop, steady_look, steady_change, steady_or_stuck, steady_with_place}

pub steady_spend : {level : ℕ} (n : ℕ) → Steady level (spend n)
steady_spend zero = steady_pure tt
steady_spend (suc n) = turns_alone (steady_spend n)

pub steady_charge : {level : ℕ} (at : Pos) (size : ℕ) → Steady level (charge at size)
steady_charge at size = alike_then (steady_look _ (λ d s. refl)) (λ room. alike_if _ (steady_change _ (λ d s. refl) (λ s. refl) (λ s. refl)) (steady_stop _))

pub steady_add_object : {level : ℕ} (o : Object) → Steady level (add_object o)
steady_add_object o = moves _ _ (λ d s. refl) (λ d s. refl) (λ s. refl) (λ s. refl)

pub steady_object_at : {level : ℕ} (number : ℕ) → Steady level (object_at number)
steady_object_at number = alike_then (steady_look _ (λ d s. refl)) (λ objects. steady_or_stuck _)

pub steady_set_object : {level : ℕ} (number : ℕ) (o : Object) → Steady level (set_object number o)
steady_set_object number o = steady_change _ (λ d s. refl) (λ s. refl) (λ s. refl)

pub steady_fault : {level : ℕ} (A : Type 0) (p : Program) (kind : FaultKind) (at : Pos) → Steady level (fault {A = A} p kind at)
steady_fault A p kind at =
    alike_then (steady_look _ (λ d s. refl)) (λ room. alike_if _
    (alike_before (steady_change _ (λ d s. refl) (λ s. refl) (λ s. refl)) (alike_then (steady_add_object _) (λ number. steady_stop _)))
    (steady_stop _))

pub steady_new_text : {level : ℕ} (at : Pos) (bytes : List ℕ) → Steady level (new_text at bytes)
steady_new_text at bytes = alike_before (steady_charge at _) (steady_pure _)

pub steady_put_byte : {level : ℕ} (byte : ℕ) → Steady level (put_byte byte)
steady_put_byte byte = puts (λ s. byte ∷ []) _ (λ d s. refl) (λ s. refl) (λ s. refl)

pub steady_put_bytes : {level : ℕ} (bytes : List ℕ) → Steady level (put_bytes bytes)
steady_put_bytes [] = steady_pure tt
steady_put_bytes (byte ∷ more) = alike_before (steady_put_byte byte) (steady_put_bytes more)

pub steady_put_text : {level : ℕ} (paid : ℕ) (bytes : List ℕ) → Steady level (put_text paid bytes)
steady_put_text paid [] = steady_pure tt
steady_put_text zero (byte ∷ more) = turns_alone (alike_before (steady_put_byte byte) (steady_put_text 7 more))
steady_put_text (suc paid) (byte ∷ more) = alike_before (steady_put_byte byte) (steady_put_text paid more)

steady_got : {level : ℕ} (bytes : List ℕ) (ends : Option ℕ) → Steady level (got bytes ends)
steady_got (byte ∷ more) ends = alike_before (steady_change _ (λ d s. refl) (λ s. refl) (λ s. refl)) (steady_pure _)
steady_got [] None = steady_pure _
steady_got [] (Some zero) = steady_stop _
steady_got [] (Some (suc ends)) = alike_before (steady_change _ (λ d s. refl) (λ s. refl) (λ s. refl)) (steady_pure _)

pub steady_get_byte : {level : ℕ} → Steady level get_byte
steady_get_byte = alike_then (steady_look _ (λ d s. refl)) (λ input. steady_got _ _)

pub steady_read : {level : ℕ} (var : ℕ) → Steady level (read var)
steady_read var = alike_then (steady_look _ (λ d s. refl)) (λ variables. steady_or_stuck _)

pub steady_write : {level : ℕ} (var : ℕ) (v : Value) → Steady level (write var v)
steady_write var v = alike_then (steady_look _ (λ d s. refl)) (λ variables. alike_then (steady_with_place _ _ _) (λ changed. steady_change _ (λ d s. refl) (λ s. refl) (λ s. refl)))

pub steady_enter : {level : ℕ} (feature : ℕ) (a : Activation) → Steady level (enter feature a)
steady_enter feature a = steady_change _ (λ d s. refl) (λ s. refl) (λ s. refl)

pub steady_leave : {level : ℕ} (feature : ℕ) (a : Activation) → Steady level (leave feature a)
steady_leave feature a = steady_change _ (λ d s. refl) (λ s. refl) (λ s. refl)

pub steady_checked_depth : {level : ℕ} (at : Pos) (caller : Activation) → Steady level (checked_depth at caller)
steady_checked_depth at caller = alike_if _ (steady_stop _) (steady_pure tt)

pub steady_checked_live : {level : ℕ} (at : Pos) → Steady level (checked_live at)
steady_checked_live at = alike_then (steady_look _ (λ d s. refl)) (λ live. alike_if _ (steady_stop _) (steady_pure tt))
