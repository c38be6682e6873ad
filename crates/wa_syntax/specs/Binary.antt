-- The binary format of types and modules (sections 5.3 and 5.5 of the WebAssembly Core Specification 1.0) in its integer
-- part: which bytes spell which module.
use Rattle.std.specs.Prelude.{◌≡◌, ℕ, ◌≤◌, ◌⊎◌, Bool, true, false, List, [], ◌∷◌, length, map, Option, None, Some}
use Rattle.wa_syntax.specs.declared.locals.LocalRun.{LocalRun}
use Rattle.wa_syntax.specs.declared.module.ElemSegment.{ElemSegment}
use Rattle.wa_syntax.specs.declared.module.Export.{Export}
use Rattle.wa_syntax.specs.declared.module.ExportKind.{ExportKind}
use Rattle.wa_syntax.specs.declared.module.ExportKind.TheVariants as exported
use Rattle.wa_syntax.specs.declared.module.Func.{Func}
use Rattle.wa_syntax.specs.declared.module.FuncTy.{FuncTy}
use Rattle.wa_syntax.specs.declared.module.GlobalDef.{GlobalDef}
use Rattle.wa_syntax.specs.declared.module.GlobalTy.{GlobalTy}
use Rattle.wa_syntax.specs.declared.module.Import.{Import}
use Rattle.wa_syntax.specs.declared.module.ImportKind.{ImportKind}
use Rattle.wa_syntax.specs.declared.module.ImportKind.TheVariants as imported
use Rattle.wa_syntax.specs.declared.module.Limits.{Limits}
use Rattle.wa_syntax.specs.declared.module.Module.{Module}
use Rattle.wa_syntax.specs.declared.module.DataSegment.{DataSegment}
use Rattle.wa_syntax.specs.declared.module.ValTy.{ValTy}
use Rattle.wa_syntax.specs.BinaryInstructions.{valtype, expr, init}
use Rattle.wa_syntax.specs.Formats.{Format, ◌then◌, exactly, each, vec, byte, name, sized, u32}
use Rattle.wa_syntax.specs.Locals.{types_of_runs}

-- ---- types (5.3)

-- the type of a function (5.3.3)
abbrev pub functype : FuncTy → Format
functype t = byte 0x60 then vec valtype t.params then vec valtype t.results

-- least and greatest sizes (5.3.4)
abbrev pub limits_of : ℕ → Option ℕ → Format
limits_of min None = byte 0x00 then u32 min
limits_of min (Some max) = byte 0x01 then u32 min then u32 max

abbrev pub limits : Limits → Format
limits l = limits_of l.min l.max

-- the type of a memory (5.3.5)
abbrev pub memtype : Limits → Format
memtype = limits

-- the type of a table, whose elements are functions (5.3.6)
abbrev pub tabletype : Limits → Format
tabletype l = byte 0x70 then limits l

-- whether a global may be changed (5.3.7)
abbrev pub mut : Bool → Format
mut false = byte 0x00
mut true = byte 0x01

-- the type of a global (5.3.7)
abbrev pub globaltype : GlobalTy → Format
globaltype t = valtype t.val then mut t.mutable

-- ---- sections (5.5.2)

-- a section: its id, and its sized content
abbrev pub section : ℕ → Format → Format
section id B = byte id then sized B

-- the section of a vector, which may be omitted where it is empty
abbrev pub vecsec : {V : Type 0} → ℕ → (V → Format) → List V → Format
vecsec id B vs bytes = ((vs ≡ []) × (bytes ≡ [])) ⊎ section id (vec B vs) bytes

-- a custom section: a name, and any bytes (5.5.3)
abbrev pub custom : List ℕ × List ℕ → Format
custom c = section 0 (name c.0 then exactly c.1)

-- any such sections
abbrev pub customs : Format
customs bytes = (cs : List (List ℕ × List ℕ)) × each custom cs bytes

-- what is imported (5.5.5)
abbrev pub importdesc : ImportKind → Format
importdesc (imported.Func x) = byte 0x00 then u32 x
importdesc (imported.Table t) = byte 0x01 then tabletype t
importdesc (imported.Memory t) = byte 0x02 then memtype t
importdesc (imported.Global t) = byte 0x03 then globaltype t

-- an import (5.5.5)
abbrev pub import : Import → Format
import i = name i.module then name i.name then importdesc i.kind

-- a global and its initial value (5.5.9)
abbrev pub global : GlobalDef → Format
global g = globaltype g.ty then init g.init

-- what is exported (5.5.10)
abbrev pub exportdesc : ExportKind → Format
exportdesc (exported.Func x) = byte 0x00 then u32 x
exportdesc (exported.Table x) = byte 0x01 then u32 x
exportdesc (exported.Memory x) = byte 0x02 then u32 x
exportdesc (exported.Global x) = byte 0x03 then u32 x

-- an export (5.5.10)
abbrev pub export : Export → Format
export e = name e.name then exportdesc e.kind

-- the section of the start function, if there is one (5.5.11)
abbrev pub startsec : Option ℕ → Format
startsec None = exactly []
startsec (Some x) = section 8 (u32 x)

-- a segment of a table (5.5.12)
abbrev pub elem : ElemSegment → Format
elem e = u32 e.table then init e.offset then vec u32 e.funcs

-- a run: consecutive locals of one type (5.5.13)
abbrev pub run : LocalRun → Format
run r = u32 r.count then valtype r.ty

-- the locals of a function, which are at most a million (5.5.13)
abbrev pub locals : List ValTy → Format
locals types bytes =
    (length types ≤ 1_000_000) × (runs : List LocalRun) × (types_of_runs runs ≡ types) × vec run runs bytes

-- a function without its type: its locals and its body, sized (5.5.13)
abbrev pub code : Func → Format
code f = sized (locals f.locals then expr f.body)

-- a segment of a memory (5.5.14)
abbrev pub segment : DataSegment → Format
segment s = u32 s.memory then init s.offset then vec byte s.bytes

-- ---- modules (5.5.15)

-- the bytes that a module begins with: "\0asm", and the version of the format
abbrev pub magic : Format
magic = exactly (0x00 ∷ 0x61 ∷ 0x73 ∷ 0x6d ∷ [])

abbrev pub version : Format
version = exactly (0x01 ∷ 0x00 ∷ 0x00 ∷ 0x00 ∷ [])

-- the bytes spell the module: sections in this order, and custom sections anywhere between them
abbrev pub SpellsModule : List ℕ → Module → Type 0
SpellsModule bytes m = (
    magic then version
    then customs then vecsec 1 functype m.types
    then customs then vecsec 2 import m.imports
    then customs then vecsec 3 u32 (map (λ f. f.ty) m.funcs)
    then customs then vecsec 4 tabletype m.tables
    then customs then vecsec 5 memtype m.memories
    then customs then vecsec 6 global m.globals
    then customs then vecsec 7 export m.exports
    then customs then startsec m.start
    then customs then vecsec 9 elem m.elems
    then customs then vecsec 10 code m.funcs
    then customs then vecsec 11 segment m.segments
    then customs) bytes
