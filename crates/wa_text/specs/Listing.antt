-- The listing of a module: an item on each line, and the parts of the module in the order of its fields.
use Rattle.std.specs.Prelude.{◌≡◌, ℕ, ◌≤◌, List, length, codes, Option, None, Some}
use Rattle.wa_syntax.specs.declared.module.ElemSegment.{ElemSegment}
use Rattle.wa_syntax.specs.declared.module.Export.{Export}
use Rattle.wa_syntax.specs.declared.module.ExportKind.{ExportKind}
use Rattle.wa_syntax.specs.declared.module.ExportKind.TheVariants as exported
use Rattle.wa_syntax.specs.declared.module.Func.{Func}
use Rattle.wa_syntax.specs.declared.module.FuncTy.{FuncTy}
use Rattle.wa_syntax.specs.declared.module.GlobalDef.{GlobalDef}
use Rattle.wa_syntax.specs.declared.module.GlobalTy.{GlobalTy}
use Rattle.wa_syntax.specs.declared.module.Import.{Import}
use Rattle.wa_syntax.specs.declared.module.ImportKind.{ImportKind}
use Rattle.wa_syntax.specs.declared.module.ImportKind.TheVariants as imported
use Rattle.wa_syntax.specs.declared.module.Init.{Init}
use Rattle.wa_syntax.specs.declared.module.Init.TheVariants.{Const32, Const64, Global}
use Rattle.wa_syntax.specs.declared.module.Limits.{Limits}
use Rattle.wa_syntax.specs.declared.module.Module.{Module}
use Rattle.wa_syntax.specs.declared.module.DataSegment.{DataSegment}
use Rattle.wa_syntax.specs.declared.module.ValTy.{ValTy}
use Rattle.wa_text.specs.Forms.{Form, ◌then◌, each, nothing}
use Rattle.wa_text.specs.Instructions.{expr}
use Rattle.wa_text.specs.Words.{Word, Line, AreLines, line, text_of, word, u32, u64, bytes, name, val, mut}

-- ---- types

abbrev pub functype : FuncTy → Form Word
functype t = word (codes "type") then each val t.params then word (codes "->") then each val t.results

-- the minimum, or the minimum and the maximum
abbrev pub limits_of : ℕ → Option ℕ → Form Word
limits_of min None = u32 min
limits_of min (Some max) = u32 min then u32 max

abbrev pub limits : Limits → Form Word
limits l = limits_of l.min l.max

abbrev pub globaltype : GlobalTy → Form Word
globaltype t = val t.val then mut t.mutable

-- ---- the parts of a module

abbrev pub importdesc : ImportKind → Form Word
importdesc (imported.Func x) = word (codes "func") then u32 x
importdesc (imported.Table t) = word (codes "table") then limits t
importdesc (imported.Memory t) = word (codes "memory") then limits t
importdesc (imported.Global t) = word (codes "global") then globaltype t

abbrev pub import : Import → Form Word
import i = word (codes "import") then name i.module then name i.name then importdesc i.kind

-- the type of each local, of which there are at most a million
abbrev pub locals : List ValTy → Form Word
locals types words = (length types ≤ 1_000_000) × each val types words

-- a function: its type and its locals on a line, and its body
abbrev pub func : Func → Form Line
func f = line (word (codes "func") then u32 f.ty then locals f.locals) then expr f.body

abbrev pub table : Limits → Form Word
table t = word (codes "table") then limits t

abbrev pub memory : Limits → Form Word
memory t = word (codes "memory") then limits t

-- an initial value or an offset
abbrev pub init : Init → Form Word
init (Const32 n) = word (codes "i32") then u32 n
init (Const64 n) = word (codes "i64") then u64 n
init (Global x) = word (codes "get") then u32 x

abbrev pub global : GlobalDef → Form Word
global g = word (codes "global") then globaltype g.ty then init g.init

abbrev pub exportdesc : ExportKind → Form Word
exportdesc (exported.Func x) = word (codes "func") then u32 x
exportdesc (exported.Table x) = word (codes "table") then u32 x
exportdesc (exported.Memory x) = word (codes "memory") then u32 x
exportdesc (exported.Global x) = word (codes "global") then u32 x

abbrev pub export : Export → Form Word
export e = word (codes "export") then name e.name then exportdesc e.kind

-- the start function, if there is one
abbrev pub start : Option ℕ → Form Line
start None = nothing
start (Some x) = line (word (codes "start") then u32 x)

abbrev pub elem : ElemSegment → Form Word
elem e = word (codes "elem") then u32 e.table then init e.offset then each u32 e.funcs

abbrev pub segment : DataSegment → Form Word
segment s = word (codes "data") then u32 s.memory then init s.offset then bytes s.bytes

-- ---- modules

-- values, each on a line
abbrev pub each_line : {V : Type 0} → (V → Form Word) → List V → Form Line
each_line F = each (λ v. line (F v))

abbrev pub module_lines : Module → Form Line
module_lines m =
    each_line functype m.types
    then each_line import m.imports
    then each func m.funcs
    then each_line table m.tables
    then each_line memory m.memories
    then each_line global m.globals
    then each_line export m.exports
    then start m.start
    then each_line elem m.elems
    then each_line segment m.segments

-- the text is the listing of the module
abbrev pub IsListing : List ℕ → Module → Type 0
IsListing text m = (lines : List Line) × module_lines m lines × AreLines lines × (text ≡ text_of lines)
