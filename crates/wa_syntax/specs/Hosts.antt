-- The functions of the host that a module may import: `env.put`, `env.get` and `env.stop`.
use Rattle.std.specs.Prelude.{ℕ, zero, suc, ◌-◌, ◌%◌, ◌^◌, Bool, true, false, ◌&&◌, nat_lt, if◌then◌else◌}
use Rattle.std.specs.Prelude.{List, [], ◌∷◌, ◌++◌, length, slice_get, Option, Some, None, codes, bytes_eq}
use Rattle.wa_syntax.specs.declared.module.ValTy.{ValTy}
use Rattle.wa_syntax.specs.declared.module.ValTy.TheVariants.{I32, I64}
use Rattle.wa_syntax.specs.declared.module.FuncTy.{FuncTy}
use Rattle.wa_syntax.specs.declared.module.Func.{Func}
use Rattle.wa_syntax.specs.declared.module.ImportKind.{ImportKind}
use Rattle.wa_syntax.specs.declared.module.Import.{Import}
use Rattle.wa_syntax.specs.declared.module.Module.{Module}
use Rattle.wa_syntax.specs.Machine.{Input, Stopped, InFault, Eval, ◌>>=◌, leave, push, pop, as_i32, change}

-- ---- types, compared by content

-- the types are equal
abbrev pub same_type : ValTy → ValTy → Bool
same_type I32 I32 = true
same_type I32 I64 = false
same_type I64 I32 = false
same_type I64 I64 = true

-- the lists of types are equal
abbrev pub same_types : List ValTy → List ValTy → Bool
same_types [] [] = true
same_types [] (u ∷ us) = false
same_types (t ∷ ts) [] = false
same_types (t ∷ ts) (u ∷ us) = same_type t u && same_types ts us

-- there is a type of a function, and it is this one
abbrev pub is_type : FuncTy → Option FuncTy → Bool
is_type wanted None = false
is_type wanted (Some ty) = same_types wanted.params ty.params && same_types wanted.results ty.results

-- ---- the functions

-- writes a byte, reads one, stops the run
pub data HostFunction : Type 0 where
  Put Get Stop : HostFunction

-- the type of a function from these arguments to these results
abbrev pub from_to : List ValTy → List ValTy → FuncTy
from_to params results = record { params = params; results = results }

-- the host's function of this name, where it has this type
abbrev pub host_named : List ℕ → Option FuncTy → Option HostFunction
host_named name ty =
    if bytes_eq name (codes "put") && is_type (from_to (I32 ∷ []) []) ty then Some Put else
    if bytes_eq name (codes "get") && is_type (from_to [] (I32 ∷ [])) ty then Some Get else
    if bytes_eq name (codes "stop") && is_type (from_to (I32 ∷ I32 ∷ []) []) ty then Some Stop else
    None

-- the host's function that an import asks for, if it asks for one
abbrev pub host_of : Module → Import → Option HostFunction
host_of m import = of import.kind
  where
    of : ImportKind → Option HostFunction
    of (ImportKind.Func ty) = if bytes_eq import.module (codes "env") then host_named import.name (slice_get m.types ty) else None
    of (ImportKind.Table limits) = None
    of (ImportKind.Memory limits) = None
    of (ImportKind.Global ty) = None

-- the type of the function of this index, where all imports are functions
abbrev pub type_of : Module → ℕ → Option FuncTy
type_of m func =
    if nat_lt func (length m.imports) then imported (slice_get m.imports func) else own (slice_get m.funcs (func - length m.imports))
  where
    of_kind : ImportKind → Option FuncTy
    of_kind (ImportKind.Func ty) = slice_get m.types ty
    of_kind (ImportKind.Table limits) = None
    of_kind (ImportKind.Memory limits) = None
    of_kind (ImportKind.Global ty) = None

    imported : Option Import → Option FuncTy
    imported None = None
    imported (Some import) = of_kind import.kind

    own : Option Func → Option FuncTy
    own None = None
    own (Some f) = slice_get m.types f.ty

-- the function of this index is of this type
abbrev pub has_type : Module → ℕ → Option FuncTy → Bool
has_type m func None = false
has_type m func (Some ty) = is_type ty (type_of m func)

-- ---- what they do

-- the lowest 8 bits are put out
abbrev pub put : ℕ → Eval (Unit {0})
put n = change (λ s. record s { output = s.output ++ n % 2 ^ 8 ∷ [] })

-- the next byte of the input, or -1 at its end
abbrev pub take_input : Input → Eval (Unit {0})
take_input input = from input.bytes input.ends
  where
    from : List ℕ → Option ℕ → Eval (Unit {0})
    from (b ∷ bytes) ends = λ s. push b (record s { input = record { bytes = bytes; ends = ends } })
    from [] None = push (2 ^ 32 - 1)
    from [] (Some (suc n)) = λ s. push (2 ^ 32 - 1) (record s { input = record { bytes = []; ends = Some n } })
    from [] (Some zero) = leave InFault

-- calls a function of the host, which makes no activation
abbrev pub call_host : HostFunction → Eval (Unit {0})
call_host Put = pop >>= put
call_host Get = λ s. take_input s.input s
call_host Stop = do
  site ← pop
  code ← pop
  leave (Stopped (as_i32 code) (as_i32 site))
