-- Which modules are valid (sections 3.2 and 3.4 of the WebAssembly Core Specification 1.0, in its integer part).
use Rattle.std.specs.Prelude.{ℕ, ◌<◌, ◌≤◌, ◌^◌, ◌-◌, ◌+◌, ◌≡◌, ◌≢◌, IsFalse, List, [], ◌++◌, length}
use Rattle.std.specs.Prelude.{map, filter_map, slice_get, All, AllPairs, Option, Some, None, IfSome}
use Rattle.wa_syntax.specs.declared.module.ValTy.{ValTy}
use Rattle.wa_syntax.specs.declared.module.ValTy.TheVariants.{I32, I64}
use Rattle.wa_syntax.specs.declared.module.Limits.{Limits}
use Rattle.wa_syntax.specs.declared.module.GlobalTy.{GlobalTy}
use Rattle.wa_syntax.specs.declared.module.Init.{Init}
use Rattle.wa_syntax.specs.declared.module.ImportKind.{ImportKind}
use Rattle.wa_syntax.specs.declared.module.ExportKind.{ExportKind}
use Rattle.wa_syntax.specs.declared.module.ElemSegment.{ElemSegment}
use Rattle.wa_syntax.specs.declared.module.DataSegment.{DataSegment}
use Rattle.wa_syntax.specs.declared.module.Module.{Module}
use Rattle.wa_syntax.specs.Validity.{Context, HasFunction, IsTypedFunction}

-- ---- what is imported

-- the index of an imported function's type
abbrev pub imported_function : ImportKind → Option ℕ
imported_function (ImportKind.Func ty) = Some ty
imported_function (ImportKind.Table limits) = None
imported_function (ImportKind.Memory limits) = None
imported_function (ImportKind.Global ty) = None

-- the limits of an imported table
abbrev pub imported_table : ImportKind → Option Limits
imported_table (ImportKind.Func ty) = None
imported_table (ImportKind.Table limits) = Some limits
imported_table (ImportKind.Memory limits) = None
imported_table (ImportKind.Global ty) = None

-- the limits of an imported memory
abbrev pub imported_memory : ImportKind → Option Limits
imported_memory (ImportKind.Func ty) = None
imported_memory (ImportKind.Table limits) = None
imported_memory (ImportKind.Memory limits) = Some limits
imported_memory (ImportKind.Global ty) = None

-- the type of an imported global
abbrev pub imported_global : ImportKind → Option GlobalTy
imported_global (ImportKind.Func ty) = None
imported_global (ImportKind.Table limits) = None
imported_global (ImportKind.Memory limits) = None
imported_global (ImportKind.Global ty) = Some ty

-- the imports of one kind, in order
abbrev pub imported : {A : Type 0} → (ImportKind → Option A) → Module → List A
imported kind m = filter_map (λ import. kind import.kind) m.imports

-- what the bodies of a module may name, the imported things first. A body adds its locals, labels and results (3.4.10)
abbrev pub context_of : Module → Context
context_of m = record {
  types = m.types;
  funcs = imported imported_function m ++ map (λ func. func.ty) m.funcs;
  tables = length (imported imported_table m) + length m.tables;
  memories = length (imported imported_memory m) + length m.memories;
  globals = imported imported_global m ++ map (λ global. global.ty) m.globals;
  locals = [];
  labels = [];
  results = [];
}

-- ---- types (3.2)

-- both limits are in the range, and the greatest isn't below the least (3.2.1)
abbrev pub AreLimits : ℕ → Limits → Type 0
AreLimits range limits = (limits.min ≤ range) × IfSome limits.max (λ max. (limits.min ≤ max) × (max ≤ range))

-- a table (3.2.4)
abbrev pub IsTable : Limits → Type 0
IsTable = AreLimits (2 ^ 32 - 1)

-- a memory has at most 65,536 pages (3.2.5)
abbrev pub IsMemory : Limits → Type 0
IsMemory = AreLimits 65536

-- an import's type is valid (3.2.7)
abbrev pub IsImport : Context → ImportKind → Type 0
IsImport c (ImportKind.Func ty) = ty < length c.types
IsImport c (ImportKind.Table limits) = IsTable limits
IsImport c (ImportKind.Memory limits) = IsMemory limits
IsImport c (ImportKind.Global ty) = Unit {0}

-- ---- the parts of a module (3.4)

-- a constant expression of this type reads a constant global of these, if any (3.3.7)
abbrev pub IsConstant : List GlobalTy → ValTy → Init → Type 0
IsConstant globals ty (Init.Const32 n) = ty ≡ I32
IsConstant globals ty (Init.Const64 n) = ty ≡ I64
IsConstant globals ty (Init.Global x) = (g : GlobalTy) × (slice_get globals x ≡ Some g) × IsFalse g.mutable × (g.val ≡ ty)

-- an element segment (3.4.5)
abbrev pub IsElem : Context → ElemSegment → Type 0
IsElem c elem = (elem.table < c.tables) × IsConstant c.globals I32 elem.offset × All (λ func. func < length c.funcs) elem.funcs

-- a data segment (3.4.6)
abbrev pub IsSegment : Context → DataSegment → Type 0
IsSegment c segment = (segment.memory < c.memories) × IsConstant c.globals I32 segment.offset

-- a start function takes nothing and gives nothing (3.4.7)
abbrev pub IsStart : Context → ℕ → Type 0
IsStart c func = HasFunction c func (record { params = []; results = [] })

-- what is exported is there (3.4.8)
abbrev pub IsExport : Context → ExportKind → Type 0
IsExport c (ExportKind.Func func) = func < length c.funcs
IsExport c (ExportKind.Table table) = table < c.tables
IsExport c (ExportKind.Memory memory) = memory < c.memories
IsExport c (ExportKind.Global global) = global < length c.globals

-- ---- modules (3.4.10)

-- the rules of a module outside the bodies of its functions
pub record IsValidOutside (m : Module) (c : Context) : Type 0 where
  pub types : All (λ ty. length ty.results ≤ 1) m.types
  pub imports : All (λ import. IsImport c import.kind) m.imports
  pub funcs : All (λ func. func.ty < length m.types) m.funcs
  pub tables : All IsTable m.tables
  pub memories : All IsMemory m.memories
  pub globals : All (λ global. IsConstant (imported imported_global m) global.ty.val global.init) m.globals
  pub exports : All (λ export. IsExport c export.kind) m.exports
  pub names : AllPairs ◌≢◌ (map (λ export. export.name) m.exports)
  pub start : IfSome m.start (IsStart c)
  pub elems : All (IsElem c) m.elems
  pub segments : All (IsSegment c) m.segments
  pub one_table : c.tables ≤ 1
  pub one_memory : c.memories ≤ 1

-- a module is valid: these rules hold, and each body is well typed
pub record IsValid (m : Module) : Type 0 where
  pub outside : IsValidOutside m (context_of m)
  pub bodies : All (IsTypedFunction (context_of m)) m.funcs
