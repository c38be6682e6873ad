-- What the body of a function says of the function, and which function of several a fault names.
use Rattle.std.proofs.Common.{◌≡◌, ℕ, ◌<◌, ◌≤◌, List, [], ◌∷◌, ◌++◌, length, take, get_or, refl, sym, ap, subst, ◌∙◌, arith}
use Rattle.std.specs.Prelude.{Option, Some, None, Result, Ok, Err, MatchResult, All, reverse, slice_get, option_to_list}
use Rattle.std.proofs.lemmas.Option.{same_Some, none-some, slice_get-get_or, slice_get_within, get_or_from_slice_get}
use Rattle.wa_syntax.specs.declared.module.ValTy.{ValTy}
use Rattle.wa_syntax.specs.declared.module.FuncTy.{FuncTy}
use Rattle.wa_syntax.specs.declared.module.Func.{Func}
use Rattle.wa_syntax.specs.declared.module.Module.{Module}
use Rattle.wa_syntax.specs.ValidModule.{IsValid, IsValidOutside, context_of}
use Rattle.wa_syntax.specs.declared.instr.Instr.{Instr}
use Rattle.wa_syntax.specs.Instructions.{sequence}
use Rattle.wa_syntax.specs.Validity as validity
use Rattle.wa_syntax.specs.Validity.{AreTyped, IsTypedFunction}
use Rattle.wa_valid.specs.declared.context.Context.{Context}
use Rattle.wa_valid.specs.declared.fault.Fault.{Fault}
use Rattle.wa_valid.specs.declared.fault.ValidFault.{ValidFault}
use Rattle.wa_valid.specs.Names.{names}
use Rattle.wa_valid.specs.Rules.{Says}
use Rattle.wa_valid.specs.Verdict.{IsFirstIllTyped, NamesFirst, IsInBody, IsRefused}

first_of : (types : List ValTy) → length types ≤ 1 → option_to_list (slice_get types 0) ≡ types
first_of [] few = refl
first_of (t ∷ []) few = refl
first_of (t ∷ u ∷ types) few = absurd (omega arith)

reverse_of : (types : List ValTy) → length types ≤ 1 → types ≡ reverse types
reverse_of [] few = refl
reverse_of (t ∷ []) few = refl
reverse_of (t ∷ u ∷ types) few = absurd (omega arith)

-- the names in the body of a function outside its blocks
abbrev pub in_body : validity.Context → FuncTy → List ValTy → List ValTy → validity.Context
in_body c ty declared wanted = record c { locals = ty.params ++ declared; labels = wanted ∷ []; results = ty.results }

pub function-says : (c : Context) (func : Func) (ty : FuncTy) (declared : List ValTy) (result : Option ValTy) (body : List Instr) (r : Result (Unit {0}) Fault) → declared ≡ func.locals → slice_get c.types.now func.ty ≡ Some ty → length ty.results ≤ 1 → result ≡ slice_get ty.results 0 → body ≡ func.body → Says (AreTyped (in_body (names c) ty declared (option_to_list result)) (sequence body) [] (option_to_list result)) r → Says (IsTypedFunction (names c) func) r
function-says c func ty declared result body r same there few is same_body h =
    let wanted : option_to_list result ≡ ty.results = ap option_to_list is ∙ first_of ty.results few in
    let h1 = subst (λ (ds : List ValTy). Says (AreTyped (in_body (names c) ty ds (option_to_list result)) (sequence body) [] (option_to_list result)) r) same h in
    let h2 = subst (λ (bs : List Instr). Says (AreTyped (in_body (names c) ty func.locals (option_to_list result)) (sequence bs) [] (option_to_list result)) r) same_body h1 in
    let h3 = subst (λ (w : List ValTy). Says (AreTyped (in_body (names c) ty func.locals w) (sequence func.body) [] w) r) wanted h2 in
    let h4 = subst (λ (w : List ValTy). Says (AreTyped (in_body (names c) ty func.locals ty.results) (sequence func.body) [] w) r) (reverse_of ty.results few) h3 in (
      λ ok. (ty, there, h4.0 ok),
      λ is typed. h4.1 is (subst (λ (u : FuncTy). AreTyped (in_body (names c) u func.locals u.results) (sequence func.body) [] (reverse u.results)) (same_Some typed.0 ty (sym typed.1 ∙ there)) typed.2),
    )

pub names-first : (c : validity.Context) (funcs : List Func) (at : ℕ) (func : Func) (fault : Fault) (found : ValidFault) → at < length funcs → func ≡ get_or funcs at func → All (IsTypedFunction c) (take at funcs) → Says {T = Unit {0}} (IsTypedFunction c func) (Err fault) → IsInBody fault at found → NamesFirst c funcs found
names-first c funcs at func Fault.Invalid (ValidFault.Invalid None) within is front says named = none-some at named
names-first c funcs at func Fault.Invalid (ValidFault.Invalid (Some k)) within is front says named =
    subst (λ (n : ℕ). IsFirstIllTyped c funcs n) (sym (same_Some k at named)) (record {
      front = front;
      func = func;
      there = slice_get-get_or funcs at func within ∙ ap Some (sym is);
      ill_typed = says.1 refl;
    })
names-first c funcs at func Fault.Invalid ValidFault.NoMemory within is front says named = tt
names-first c funcs at func Fault.NoMemory found within is front says named =
    subst (λ (f : ValidFault). NamesFirst c funcs f) (sym named) tt

pub few_of : (types : List FuncTy) (n : ℕ) (ty : FuncTy) → All (λ (u : FuncTy). length u.results ≤ 1) types → slice_get types n ≡ Some ty → length ty.results ≤ 1
few_of types n ty all there =
    subst (λ (u : FuncTy). length u.results ≤ 1) (get_or_from_slice_get types n ty ty there) (all n ty (slice_get_within types n ty there))

refused-by : (m : Module) (fault : ValidFault) → IsValidOutside m (context_of m) → NamesFirst (context_of m) m.funcs fault → IsRefused m fault
refused-by m (ValidFault.Invalid None) outside named = absurd named
refused-by m (ValidFault.Invalid (Some at)) outside named = (outside, named)
refused-by m ValidFault.NoMemory outside named = tt

-- what the bodies say of a module whose other rules hold
pub bodies-say : (m : Module) (c : Context) (funcs : List Func) (r : Result (Unit {0}) ValidFault) → names c ≡ context_of m → funcs ≡ m.funcs → IsValidOutside m (names c) → MatchResult r (λ _. All (IsTypedFunction (names c)) funcs) (NamesFirst (names c) funcs) → MatchResult r (λ _. IsValid m) (IsRefused m)
bodies-say m c funcs (Ok x) same funcs_are outside h = record {
  outside = subst (λ (all : validity.Context). IsValidOutside m all) same outside;
  bodies = subst (λ (all : validity.Context). All (IsTypedFunction all) m.funcs) same (subst (λ (fs : List Func). All (IsTypedFunction (names c)) fs) funcs_are h);
}
bodies-say m c funcs (Err fault) same funcs_are outside h =
    refused-by m fault (subst (λ (all : validity.Context). IsValidOutside m all) same outside) (subst (λ (all : validity.Context). NamesFirst all m.funcs fault) same (subst (λ (fs : List Func). NamesFirst (names c) fs fault) funcs_are h))
