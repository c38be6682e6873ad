-- What the opcodes of loads and stores say.
use Rattle.std.proofs.Common.{◌≡◌, ℕ, Bool, true, false, Option, Some, None, refl, sym, subst}
use Rattle.std.specs.Prelude.{◌==◌, if◌then◌else◌}
use Rattle.std.proofs.lemmas.Bool.{eqb-true}
use Rattle.std.proofs.lemmas.Option.{none-some}
use Rattle.wa_syntax.specs.declared.opcode.TheConstants.{I32_STORE, I64_STORE, I32_STORE8, I32_STORE16, I64_STORE8, I64_STORE16, I64_STORE32}
use Rattle.wa_syntax.specs.Instructions.{Access, load_of, store_of}

-- either branch of a test, as it is taken
pub chosen : {A C : Type 0} (b : Bool) (x y : Option A) (a : A) → (if b then x else y) ≡ Some a → (b ≡ true → x ≡ Some a → C) → (y ≡ Some a → C) → C
chosen true x y a e f g = f refl e
chosen false x y a e f g = g e

-- ---- loads and stores

at : (op code : ℕ) → load_of code ≡ None → (op == code) ≡ true → load_of op ≡ None
at op code e b = subst (λ (o : ℕ). load_of o ≡ None) (sym (eqb-true op code b)) e

-- no opcode is that of a load and of a store
pub store-no_load : (op : ℕ) (a : Access) → store_of op ≡ Some a → load_of op ≡ None
store-no_load op a e =
    chosen (op == I32_STORE) _ _ a e (λ b x. at op I32_STORE refl b) (λ e.
    chosen (op == I64_STORE) _ _ a e (λ b x. at op I64_STORE refl b) (λ e.
    chosen (op == I32_STORE8) _ _ a e (λ b x. at op I32_STORE8 refl b) (λ e.
    chosen (op == I32_STORE16) _ _ a e (λ b x. at op I32_STORE16 refl b) (λ e.
    chosen (op == I64_STORE8) _ _ a e (λ b x. at op I64_STORE8 refl b) (λ e.
    chosen (op == I64_STORE16) _ _ a e (λ b x. at op I64_STORE16 refl b) (λ e.
    chosen (op == I64_STORE32) _ _ a e (λ b x. at op I64_STORE32 refl b) (λ e.
    absurd (none-some a e))))))))
