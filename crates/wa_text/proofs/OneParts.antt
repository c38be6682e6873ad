-- No lines are those of two modules: the parts of a module are in one order, each known by its first word.
use Rattle.std.proofs.Common.{◌≡◌, ℕ, suc, ◌≤◌, List, [], ◌∷◌, ◌++◌, Option, None, Some, refl, sym, ap, subst, ◌∙◌, arith, append_assoc}
use Rattle.std.specs.Prelude.{codes}
use Rattle.wa_syntax.specs.declared.module.ElemSegment.{ElemSegment}
use Rattle.wa_syntax.specs.declared.module.Export.{Export}
use Rattle.wa_syntax.specs.declared.module.Func.{Func}
use Rattle.wa_syntax.specs.declared.module.FuncTy.{FuncTy}
use Rattle.wa_syntax.specs.declared.module.GlobalDef.{GlobalDef}
use Rattle.wa_syntax.specs.declared.module.Import.{Import}
use Rattle.wa_syntax.specs.declared.module.Limits.{Limits}
use Rattle.wa_syntax.specs.declared.module.Module.{Module}
use Rattle.wa_syntax.specs.declared.module.DataSegment.{DataSegment}
use Rattle.wa_text.specs.Forms.{Form, ◌then◌, each, nothing}
use Rattle.wa_text.specs.Listing as listing
use Rattle.wa_text.specs.Listing.{module_lines}
use Rattle.wa_text.specs.Words.{Word, Line, line, word, u32}
use Rattle.wa_text.proofs.OneInstruction.{one-func}
use Rattle.wa_text.proofs.OneItem.{IsOne, IsWhole, any, begun, pair, one-pair, whole, one-each, one-line, whole-following, one-limits, one-functype, one-import, one-global, one-export, one-elem, one-segment, one-start}
use Rattle.wa_text.proofs.Rows.{code_in}

-- ---- the order of the parts

unfoldable pub rank_table : List (ℕ × Word)
rank_table =
    (1, codes "type") ∷ (2, codes "import") ∷ (3, codes "func") ∷ (4, codes "table") ∷ (5, codes "memory") ∷ (6, codes "global") ∷ (7, codes "export")
    ∷ (8, codes "start") ∷ (9, codes "elem") ∷ (10, codes "data") ∷ []

unfoldable pub or_none : Option ℕ → ℕ
or_none (Some n) = n
or_none None = 11

-- the number of the part that lines begin with, and 11 where they begin with none
unfoldable pub rank : List Line → ℕ
rank [] = 11
rank ([] ∷ more) = 11
rank ((first ∷ rest) ∷ more) = or_none (code_in rank_table first)

-- lines of a part with this index or a later one
abbrev pub From : ℕ → Form Line
From k s = k ≤ rank s

-- values whose lines begin a part with this index
pub record IsPart {V : Type 0} (k : ℕ) (F : V → Form Line) : Type 0 where
  pub one : IsOne any F
  pub begins : (v : V) (s x : List Line) → F v s → rank (s ++ x) ≡ k

rank_first : (w : Word) (rest : Line) (k : ℕ) (s x : List Line) → s ≡ (w ∷ rest) ∷ [] → or_none (code_in rank_table w) ≡ k → rank (s ++ x) ≡ k
unfolding rank
rank_first w rest k s x lines is = ap rank (ap (λ (front : List Line). front ++ x) lines) ∙ is

-- values of a part and of nothing else, where they are before later parts
pub record Keeps {V : Type 0} (k : ℕ) (F : V → Form Line) : Type 0 where
  pub keeps : (v : V) (s x : List Line) → F v s → From k x → From k (s ++ x)

keeps_each : {V : Type 0} {F : V → Form Line} (j k : ℕ) → j ≤ k → IsPart k F → Keeps j (each F)
keeps_each {V} {F} j k least part = record { keeps = go }
  where
    go : (vs : List V) (s x : List Line) → each F vs s → From j x → From j (s ++ x)
    go [] s x h follows = subst (From j) (ap (λ (front : List Line). front ++ x) (sym h)) follows
    go (v ∷ vs) s x h follows =
        let lines : s ++ x ≡ h.0 ++ (h.1 ++ x) = ap (λ (front : List Line). front ++ x) h.2 ∙ append_assoc h.0 h.1 x in
        omega (arith, ap rank lines, part.begins v h.0 (h.1 ++ x) h.3)

keeps_pair : {U V : Type 0} {A : U → Form Line} {B : V → Form Line} {j : ℕ} → Keeps j A → Keeps j B → Keeps j (pair A B)
keeps_pair {j = j} a b = record {
  keeps = λ v s x h follows.
      let lines : h.0 ++ (h.1 ++ x) ≡ s ++ x = sym (append_assoc h.0 h.1 x) ∙ ap (λ (front : List Line). front ++ x) (sym h.2) in
      subst (From j) lines (a.keeps v.0 h.0 (h.1 ++ x) h.3 (b.keeps v.1 h.1 x h.4 follows));
}

-- the values of a part, up to later parts
one_part : {V : Type 0} {F : V → Form Line} (k : ℕ) → IsPart k F → IsOne (From (suc k)) (each F)
one_part k part = one-each part.one (λ v s x h later. omega (arith, part.begins v s x h, later))

-- ---- the parts

lines_part : {V : Type 0} {F : V → Form Word} (k : ℕ) (w : Word) → or_none (code_in rank_table w) ≡ k → ((v : V) (s : List Word) → F v s → (rest : List Word) × (s ≡ w ∷ rest)) → IsWhole F → IsPart k (λ v. line (F v))
lines_part k w is starts whole_F = record {
  one = one-line whole_F;
  begins = λ v s x h.
      let first = starts v h.0 h.1 in
      rank_first w first.0 k s x (h.2 ∙ ap (λ (words : Line). words ∷ []) first.1) is;
}

pub types_part : IsPart 1 (λ (t : FuncTy). line (listing.functype t))
unfolding or_none rank_table code_in
types_part = lines_part 1 (codes "type") refl (λ v s h. begun s h) one-functype

pub imports_part : IsPart 2 (λ (i : Import). line (listing.import i))
unfolding or_none rank_table code_in
imports_part = lines_part 2 (codes "import") refl (λ v s h. begun s h) one-import

pub funcs_part : IsPart 3 listing.func
unfolding or_none rank_table code_in
funcs_part = record {
  one = one-func;
  begins = λ v s x h.
      let lines : h.0 ++ (h.1 ++ x) ≡ s ++ x = sym (append_assoc h.0 h.1 x) ∙ ap (λ (front : List Line). front ++ x) (sym h.2) in
      let first = begun h.3.0 h.3.1 in
      ap rank (sym lines) ∙ rank_first (codes "func") first.0 3 h.0 (h.1 ++ x) (h.3.2 ∙ ap (λ (words : Line). words ∷ []) first.1) refl;
}

pub tables_part : IsPart 4 (λ (l : Limits). line (listing.table l))
unfolding or_none rank_table code_in
tables_part = lines_part 4 (codes "table") refl (λ v s h. begun s h) (whole-following (codes "table") one-limits)

pub memories_part : IsPart 5 (λ (l : Limits). line (listing.memory l))
unfolding or_none rank_table code_in
memories_part = lines_part 5 (codes "memory") refl (λ v s h. begun s h) (whole-following (codes "memory") one-limits)

pub globals_part : IsPart 6 (λ (g : GlobalDef). line (listing.global g))
unfolding or_none rank_table code_in
globals_part = lines_part 6 (codes "global") refl (λ v s h. begun s h) one-global

pub exports_part : IsPart 7 (λ (e : Export). line (listing.export e))
unfolding or_none rank_table code_in
exports_part = lines_part 7 (codes "export") refl (λ v s h. begun s h) one-export

pub elems_part : IsPart 9 (λ (e : ElemSegment). line (listing.elem e))
unfolding or_none rank_table code_in
elems_part = lines_part 9 (codes "elem") refl (λ v s h. begun s h) one-elem

pub segments_part : IsPart 10 (λ (x : DataSegment). line (listing.segment x))
unfolding or_none rank_table code_in
segments_part = lines_part 10 (codes "data") refl (λ v s h. begun s h) one-segment

pub start_rank : (x : ℕ) (s more : List Line) → line (word (codes "start") then u32 x) s → rank (s ++ more) ≡ 8
unfolding or_none rank_table code_in
start_rank x s more h =
    let first = begun h.0 h.1 in
    rank_first (codes "start") first.0 8 s more (h.2 ∙ ap (λ (words : Line). words ∷ []) first.1) refl

-- the line of the start function, or none
one_start : IsOne (From 9) listing.start
one_start = record { one = go }
  where
    go : (v w : Option ℕ) (a b x y : List Line) → listing.start v a → listing.start w b → From 9 x → From 9 y → a ++ x ≡ b ++ y → (a ≡ b) × (v ≡ w)
    go None None a b x y h k follows goes same = (h ∙ sym k, refl)
    go None (Some n) a b x y h k follows goes same =
        let rest : x ≡ b ++ y = ap (λ (front : List Line). front ++ x) (sym h) ∙ same in
        absurd (omega (arith, ap rank rest, start_rank n b y k, follows))
    go (Some m) None a b x y h k follows goes same =
        let rest : y ≡ a ++ x = ap (λ (front : List Line). front ++ y) (sym k) ∙ sym same in
        absurd (omega (arith, ap rank rest, start_rank m a x h, goes))
    go (Some m) (Some n) a b x y h k follows goes same =
        let both = (one-line one-start).one m n a b x y h k tt tt same in
        (both.0, ap (λ (z : ℕ). Some z) both.1)

keeps_start : (j : ℕ) → j ≤ 8 → Keeps j listing.start
keeps_start j least = record { keeps = go }
  where
    go : (v : Option ℕ) (s x : List Line) → listing.start v s → From j x → From j (s ++ x)
    go None s x h follows = subst (From j) (ap (λ (front : List Line). front ++ x) (sym h)) follows
    go (Some n) s x h follows = omega (arith, start_rank n s x h)

-- a part and those after it
abbrev pub ElemsOn : Type 0
ElemsOn = List ElemSegment × List DataSegment

abbrev pub StartOn : Type 0
StartOn = Option ℕ × ElemsOn

abbrev pub ExportsOn : Type 0
ExportsOn = List Export × StartOn

abbrev pub GlobalsOn : Type 0
GlobalsOn = List GlobalDef × ExportsOn

abbrev pub MemoriesOn : Type 0
MemoriesOn = List Limits × GlobalsOn

abbrev pub TablesOn : Type 0
TablesOn = List Limits × MemoriesOn

abbrev pub FuncsOn : Type 0
FuncsOn = List Func × TablesOn

abbrev pub ImportsOn : Type 0
ImportsOn = List Import × FuncsOn

abbrev pub TypesOn : Type 0
TypesOn = List FuncTy × ImportsOn

abbrev pub from_segments : List DataSegment → Form Line
from_segments = listing.each_line listing.segment

abbrev pub from_elems : ElemsOn → Form Line
from_elems = pair (listing.each_line listing.elem) from_segments

abbrev pub from_start : StartOn → Form Line
from_start = pair listing.start from_elems

abbrev pub from_exports : ExportsOn → Form Line
from_exports = pair (listing.each_line listing.export) from_start

abbrev pub from_globals : GlobalsOn → Form Line
from_globals = pair (listing.each_line listing.global) from_exports

abbrev pub from_memories : MemoriesOn → Form Line
from_memories = pair (listing.each_line listing.memory) from_globals

abbrev pub from_tables : TablesOn → Form Line
from_tables = pair (listing.each_line listing.table) from_memories

abbrev pub from_funcs : FuncsOn → Form Line
from_funcs = pair (each listing.func) from_tables

abbrev pub from_imports : ImportsOn → Form Line
from_imports = pair (listing.each_line listing.import) from_funcs

abbrev pub from_types : TypesOn → Form Line
from_types = pair (listing.each_line listing.functype) from_imports

pub keeps_segments : (j : ℕ) → j ≤ 10 → Keeps j from_segments
keeps_segments j least = keeps_each j 10 least segments_part

pub keeps_elems : (j : ℕ) → j ≤ 9 → Keeps j from_elems
keeps_elems j least = keeps_pair (keeps_each j 9 least elems_part) (keeps_segments j (omega arith))

pub keeps_from_start : (j : ℕ) → j ≤ 8 → Keeps j from_start
keeps_from_start j least = keeps_pair (keeps_start j least) (keeps_elems j (omega arith))

pub keeps_exports : (j : ℕ) → j ≤ 7 → Keeps j from_exports
keeps_exports j least = keeps_pair (keeps_each j 7 least exports_part) (keeps_from_start j (omega arith))

pub keeps_globals : (j : ℕ) → j ≤ 6 → Keeps j from_globals
keeps_globals j least = keeps_pair (keeps_each j 6 least globals_part) (keeps_exports j (omega arith))

pub keeps_memories : (j : ℕ) → j ≤ 5 → Keeps j from_memories
keeps_memories j least = keeps_pair (keeps_each j 5 least memories_part) (keeps_globals j (omega arith))

pub keeps_tables : (j : ℕ) → j ≤ 4 → Keeps j from_tables
keeps_tables j least = keeps_pair (keeps_each j 4 least tables_part) (keeps_memories j (omega arith))

pub keeps_funcs : (j : ℕ) → j ≤ 3 → Keeps j from_funcs
keeps_funcs j least = keeps_pair (keeps_each j 3 least funcs_part) (keeps_tables j (omega arith))

pub keeps_imports : (j : ℕ) → j ≤ 2 → Keeps j from_imports
keeps_imports j least = keeps_pair (keeps_each j 2 least imports_part) (keeps_funcs j (omega arith))

-- after the last part nothing follows
pub at_end : (j : ℕ) (x : List Line) → j ≤ 11 → x ≡ [] → From j x
unfolding rank
at_end j x least ends = subst (From j) (sym ends) least

one_segments : IsOne nothing from_segments
one_segments = one-each segments_part.one (λ v s x h ends. omega (arith, segments_part.begins v s x h, at_end 11 (s ++ x) (omega arith) ends))

one_elems : IsOne nothing from_elems
one_elems = one-pair (one_part 9 elems_part) one_segments (λ v s x h ends. (keeps_segments 10 (omega arith)).keeps v s x h (at_end 10 x (omega arith) ends))

one_from_start : IsOne nothing from_start
one_from_start = one-pair one_start one_elems (λ v s x h ends. (keeps_elems 9 (omega arith)).keeps v s x h (at_end 9 x (omega arith) ends))

one_exports : IsOne nothing from_exports
one_exports = one-pair (one_part 7 exports_part) one_from_start (λ v s x h ends. (keeps_from_start 8 (omega arith)).keeps v s x h (at_end 8 x (omega arith) ends))

one_globals : IsOne nothing from_globals
one_globals = one-pair (one_part 6 globals_part) one_exports (λ v s x h ends. (keeps_exports 7 (omega arith)).keeps v s x h (at_end 7 x (omega arith) ends))

one_memories : IsOne nothing from_memories
one_memories = one-pair (one_part 5 memories_part) one_globals (λ v s x h ends. (keeps_globals 6 (omega arith)).keeps v s x h (at_end 6 x (omega arith) ends))

one_tables : IsOne nothing from_tables
one_tables = one-pair (one_part 4 tables_part) one_memories (λ v s x h ends. (keeps_memories 5 (omega arith)).keeps v s x h (at_end 5 x (omega arith) ends))

one_funcs : IsOne nothing from_funcs
one_funcs = one-pair (one_part 3 funcs_part) one_tables (λ v s x h ends. (keeps_tables 4 (omega arith)).keeps v s x h (at_end 4 x (omega arith) ends))

one_imports : IsOne nothing from_imports
one_imports = one-pair (one_part 2 imports_part) one_funcs (λ v s x h ends. (keeps_funcs 3 (omega arith)).keeps v s x h (at_end 3 x (omega arith) ends))

one_types : IsOne nothing from_types
one_types = one-pair (one_part 1 types_part) one_imports (λ v s x h ends. (keeps_imports 2 (omega arith)).keeps v s x h (at_end 2 x (omega arith) ends))

-- ---- the whole

abbrev pub parts_of : Module → TypesOn
parts_of m = (m.types, (m.imports, (m.funcs, (m.tables, (m.memories, (m.globals, (m.exports, (m.start, (m.elems, m.segments)))))))))

abbrev of_parts : TypesOn → Module
of_parts p = record {
  types = p.0;
  imports = p.1.0;
  funcs = p.1.1.0;
  tables = p.1.1.1.0;
  memories = p.1.1.1.1.0;
  globals = p.1.1.1.1.1.0;
  exports = p.1.1.1.1.1.1.0;
  start = p.1.1.1.1.1.1.1.0;
  elems = p.1.1.1.1.1.1.1.1.0;
  segments = p.1.1.1.1.1.1.1.1.1;
}

-- no lines are those of two modules
pub one-module_lines : (m n : Module) (s : List Line) → module_lines m s → module_lines n s → m ≡ n
one-module_lines m n s h k = ap of_parts ((whole one_types).one (parts_of m) (parts_of n) s h k)
