-- Which lines are those of no module: the parts of a module, one after another.
use Rattle.std.proofs.Common.{◌≡◌, ◌≢◌, ℕ, suc, ◌≤◌, List, [], ◌∷◌, ◌++◌, take, Option, None, Some, refl, sym, ap, subst, ◌∙◌, append_assoc, arith}
use Rattle.std.proofs.lemmas.List.{append-nil}
use Rattle.std.specs.Prelude.{IfNone, codes}
use Rattle.wa_syntax.specs.declared.module.DataSegment.{DataSegment}
use Rattle.wa_syntax.specs.declared.module.ElemSegment.{ElemSegment}
use Rattle.wa_syntax.specs.declared.module.Export.{Export}
use Rattle.wa_syntax.specs.declared.module.Func.{Func}
use Rattle.wa_syntax.specs.declared.module.FuncTy.{FuncTy}
use Rattle.wa_syntax.specs.declared.module.GlobalDef.{GlobalDef}
use Rattle.wa_syntax.specs.declared.module.Import.{Import}
use Rattle.wa_syntax.specs.declared.module.Limits.{Limits}
use Rattle.wa_syntax.specs.declared.module.ValTy.{ValTy}
use Rattle.wa_text.specs.declared.reader.items.FunctionHead.{FunctionHead}
use Rattle.wa_text.specs.Forms.{Form, ◌then◌, each, nothing}
use Rattle.wa_text.specs.Instructions.{expr}
use Rattle.wa_text.specs.Listing as listing
use Rattle.wa_text.specs.Listing.{module_lines}
use Rattle.wa_text.specs.Reading.{Refused, Spelled, anything, begins_otherwise, begins_with, rows_at}
use Rattle.wa_text.specs.Words.{Word, Line, line, u32, word}
use Rattle.wa_text.proofs.OneInstruction.{one-func}
use Rattle.wa_text.proofs.OneItem.{IsOne, any, begun, one-each, one-head, one-line, one-start, pair}
use Rattle.wa_text.proofs.OneParts.{From, IsPart, Keeps, at_end, elems_part, exports_part, from_elems, from_exports, from_funcs, from_globals, from_imports, from_memories, from_segments, from_start, from_tables, from_types, funcs_part, globals_part, imports_part, keeps_elems, keeps_exports, keeps_from_start, keeps_funcs, keeps_globals, keeps_imports, keeps_memories, keeps_segments, keeps_tables, memories_part, or_none, parts_of, rank, rank_table, segments_part, start_rank, tables_part, types_part}
use Rattle.wa_text.proofs.Refusals.{begins_otherwise-local, begins_with-local, cut_one, none_first, refused_as, refused_behind, refused_each, refused_front, refused_here, refused_past}
use Rattle.wa_text.proofs.Rows.{code_in}

-- ---- a part, by its first word

-- lines that begin with the word of a part
rank_begins : (w : Word) (k : ℕ) → or_none (code_in rank_table w) ≡ k → (lines : List Line) → begins_with w lines → rank lines ≡ k
unfolding rank
rank_begins w k is lines h = ap rank h.2 ∙ is

-- those of later parts don't
later : (w : Word) (k : ℕ) → or_none (code_in rank_table w) ≡ k → (lines : List Line) → From (suc k) lines → begins_otherwise w lines
later w k is lines from h = omega (arith, rank_begins w k is lines h, from)

pub line_begins : {w : Word} {G : Form Word} (s x : List Line) → line (word w then G) s → begins_with w (s ++ x)
line_begins s x h = let words = begun h.0 h.1 in (words.0, x, ap (λ (l : List Line). l ++ x) (h.2 ∙ ap (λ (row : Line). row ∷ []) words.1))

pub func_begins : (f : Func) (s x : List Line) → listing.func f s → begins_with (codes "func") (s ++ x)
func_begins f s x h =
    let words = begun h.3.0 h.3.1 in
    (words.0, h.1 ++ x, ap (λ (l : List Line). l ++ x) (h.2 ∙ ap (λ (l : List Line). l ++ h.1) (h.3.2 ∙ ap (λ (row : Line). row ∷ []) words.1)))

-- values of a part, and those of later parts after them
pass_part : {V U : Type 0} {F : V → Form Line} {B : U → Form Line} {text : List ℕ} {from mid at : ℕ} (k : ℕ) (w : Word) → or_none (code_in rank_table w) ≡ k → IsPart k F → ((v : V) (s x : List Line) → F v s → begins_with w (s ++ x)) → Keeps (suc k) B → suc k ≤ 11 → (vs : List V) → Spelled (each F vs) text from mid → begins_otherwise w (rows_at text mid) → Refused B nothing text mid at → Refused (pair (each F) B) nothing text from at
pass_part k w is part starts keeps most vs h stops r =
    refused_behind vs (one-each part.one (λ v s x g other. other (starts v s x g))) (begins_otherwise-local w) h stops (λ u s x g ends. later w k is (s ++ x) (keeps.keeps u s x g (at_end (suc k) x most ends))) r

fail_part : {V U : Type 0} {A : V → Form Line} {B : U → Form Line} {text : List ℕ} {from at : ℕ} (k : ℕ) (w : Word) → or_none (code_in rank_table w) ≡ k → Keeps (suc k) B → suc k ≤ 11 → Refused A (begins_otherwise w) text from at → Refused (pair A B) nothing text from at
fail_part k w is keeps most r = refused_front (λ u s x g ends. later w k is (s ++ x) (keeps.keeps u s x g (at_end (suc k) x most ends))) r

-- ---- the parts

pub pass_types : (vs : List FuncTy) {text : List ℕ} {from mid at : ℕ} → Spelled (each (λ (v : FuncTy). line (listing.functype v)) vs) text from mid → begins_otherwise (codes "type") (rows_at text mid) → Refused from_imports nothing text mid at → Refused from_types nothing text from at
unfolding or_none rank_table code_in
pass_types vs h stops r = pass_part 1 (codes "type") refl types_part (λ v s x h. line_begins s x h) (keeps_imports 2 (omega arith)) (omega arith) vs h stops r

pub fail_types : {text : List ℕ} {from at : ℕ} → Refused (each (λ (v : FuncTy). line (listing.functype v))) (begins_otherwise (codes "type")) text from at → Refused from_types nothing text from at
unfolding or_none rank_table code_in
fail_types r = fail_part 1 (codes "type") refl (keeps_imports 2 (omega arith)) (omega arith) r

pub pass_imports : (vs : List Import) {text : List ℕ} {from mid at : ℕ} → Spelled (each (λ (v : Import). line (listing.import v)) vs) text from mid → begins_otherwise (codes "import") (rows_at text mid) → Refused from_funcs nothing text mid at → Refused from_imports nothing text from at
unfolding or_none rank_table code_in
pass_imports vs h stops r = pass_part 2 (codes "import") refl imports_part (λ v s x h. line_begins s x h) (keeps_funcs 3 (omega arith)) (omega arith) vs h stops r

pub fail_imports : {text : List ℕ} {from at : ℕ} → Refused (each (λ (v : Import). line (listing.import v))) (begins_otherwise (codes "import")) text from at → Refused from_imports nothing text from at
unfolding or_none rank_table code_in
fail_imports r = fail_part 2 (codes "import") refl (keeps_funcs 3 (omega arith)) (omega arith) r

pub pass_funcs : (vs : List Func) {text : List ℕ} {from mid at : ℕ} → Spelled (each listing.func vs) text from mid → begins_otherwise (codes "func") (rows_at text mid) → Refused from_tables nothing text mid at → Refused from_funcs nothing text from at
unfolding or_none rank_table code_in
pass_funcs vs h stops r = pass_part 3 (codes "func") refl funcs_part func_begins (keeps_tables 4 (omega arith)) (omega arith) vs h stops r

pub fail_funcs : {text : List ℕ} {from at : ℕ} → Refused (each listing.func) (begins_otherwise (codes "func")) text from at → Refused from_funcs nothing text from at
unfolding or_none rank_table code_in
fail_funcs r = fail_part 3 (codes "func") refl (keeps_tables 4 (omega arith)) (omega arith) r

pub pass_tables : (vs : List Limits) {text : List ℕ} {from mid at : ℕ} → Spelled (each (λ (v : Limits). line (listing.table v)) vs) text from mid → begins_otherwise (codes "table") (rows_at text mid) → Refused from_memories nothing text mid at → Refused from_tables nothing text from at
unfolding or_none rank_table code_in
pass_tables vs h stops r = pass_part 4 (codes "table") refl tables_part (λ v s x h. line_begins s x h) (keeps_memories 5 (omega arith)) (omega arith) vs h stops r

pub fail_tables : {text : List ℕ} {from at : ℕ} → Refused (each (λ (v : Limits). line (listing.table v))) (begins_otherwise (codes "table")) text from at → Refused from_tables nothing text from at
unfolding or_none rank_table code_in
fail_tables r = fail_part 4 (codes "table") refl (keeps_memories 5 (omega arith)) (omega arith) r

pub pass_memories : (vs : List Limits) {text : List ℕ} {from mid at : ℕ} → Spelled (each (λ (v : Limits). line (listing.memory v)) vs) text from mid → begins_otherwise (codes "memory") (rows_at text mid) → Refused from_globals nothing text mid at → Refused from_memories nothing text from at
unfolding or_none rank_table code_in
pass_memories vs h stops r = pass_part 5 (codes "memory") refl memories_part (λ v s x h. line_begins s x h) (keeps_globals 6 (omega arith)) (omega arith) vs h stops r

pub fail_memories : {text : List ℕ} {from at : ℕ} → Refused (each (λ (v : Limits). line (listing.memory v))) (begins_otherwise (codes "memory")) text from at → Refused from_memories nothing text from at
unfolding or_none rank_table code_in
fail_memories r = fail_part 5 (codes "memory") refl (keeps_globals 6 (omega arith)) (omega arith) r

pub pass_globals : (vs : List GlobalDef) {text : List ℕ} {from mid at : ℕ} → Spelled (each (λ (v : GlobalDef). line (listing.global v)) vs) text from mid → begins_otherwise (codes "global") (rows_at text mid) → Refused from_exports nothing text mid at → Refused from_globals nothing text from at
unfolding or_none rank_table code_in
pass_globals vs h stops r = pass_part 6 (codes "global") refl globals_part (λ v s x h. line_begins s x h) (keeps_exports 7 (omega arith)) (omega arith) vs h stops r

pub fail_globals : {text : List ℕ} {from at : ℕ} → Refused (each (λ (v : GlobalDef). line (listing.global v))) (begins_otherwise (codes "global")) text from at → Refused from_globals nothing text from at
unfolding or_none rank_table code_in
fail_globals r = fail_part 6 (codes "global") refl (keeps_exports 7 (omega arith)) (omega arith) r

pub pass_exports : (vs : List Export) {text : List ℕ} {from mid at : ℕ} → Spelled (each (λ (v : Export). line (listing.export v)) vs) text from mid → begins_otherwise (codes "export") (rows_at text mid) → Refused from_start nothing text mid at → Refused from_exports nothing text from at
unfolding or_none rank_table code_in
pass_exports vs h stops r = pass_part 7 (codes "export") refl exports_part (λ v s x h. line_begins s x h) (keeps_from_start 8 (omega arith)) (omega arith) vs h stops r

pub fail_exports : {text : List ℕ} {from at : ℕ} → Refused (each (λ (v : Export). line (listing.export v))) (begins_otherwise (codes "export")) text from at → Refused from_exports nothing text from at
unfolding or_none rank_table code_in
fail_exports r = fail_part 7 (codes "export") refl (keeps_from_start 8 (omega arith)) (omega arith) r

pub pass_elems : (vs : List ElemSegment) {text : List ℕ} {from mid at : ℕ} → Spelled (each (λ (v : ElemSegment). line (listing.elem v)) vs) text from mid → begins_otherwise (codes "elem") (rows_at text mid) → Refused from_segments nothing text mid at → Refused from_elems nothing text from at
unfolding or_none rank_table code_in
pass_elems vs h stops r = pass_part 9 (codes "elem") refl elems_part (λ v s x h. line_begins s x h) (keeps_segments 10 (omega arith)) (omega arith) vs h stops r

pub fail_elems : {text : List ℕ} {from at : ℕ} → Refused (each (λ (v : ElemSegment). line (listing.elem v))) (begins_otherwise (codes "elem")) text from at → Refused from_elems nothing text from at
unfolding or_none rank_table code_in
fail_elems r = fail_part 9 (codes "elem") refl (keeps_segments 10 (omega arith)) (omega arith) r

-- the start function, where there is one, and where there is none
one_start : IsOne (begins_otherwise (codes "start")) listing.start
one_start = record { one = go }
  where
    go : (v w : Option ℕ) (a b x y : List Line) → listing.start v a → listing.start w b → begins_otherwise (codes "start") x → begins_otherwise (codes "start") y → a ++ x ≡ b ++ y → (a ≡ b) × (v ≡ w)
    go None None a b x y h k follows goes same = (h ∙ sym k, refl)
    go None (Some n) a b x y h k follows goes same =
        let rest : b ++ y ≡ x = sym same ∙ ap (λ (front : List Line). front ++ x) h in
        absurd (follows (subst (begins_with (codes "start")) rest (line_begins b y k)))
    go (Some m) None a b x y h k follows goes same =
        let rest : a ++ x ≡ y = same ∙ ap (λ (front : List Line). front ++ y) k in
        absurd (goes (subst (begins_with (codes "start")) rest (line_begins a x h)))
    go (Some m) (Some n) a b x y h k follows goes same =
        let both = (one-line one-start).one m n a b x y h k tt tt same in
        (both.0, ap (λ (z : ℕ). Some z) both.1)

pass_none : {text : List ℕ} {from mid at : ℕ} → Spelled (listing.start None) text from mid → begins_otherwise (codes "start") (rows_at text mid) → Refused from_elems nothing text mid at → Refused from_start nothing text from at
unfolding or_none rank_table code_in
pass_none h stops r =
    refused_behind None one_start (begins_otherwise-local (codes "start")) h stops (λ u s x g ends. later (codes "start") 8 refl (s ++ x) ((keeps_elems 9 (omega arith)).keeps u s x g (at_end 9 x (omega arith) ends))) r

pass_some : (n : ℕ) {text : List ℕ} {from mid at : ℕ} → Spelled (listing.start (Some n)) text from mid → Refused from_elems nothing text mid at → Refused from_start nothing text from at
pass_some n {text} {from} {mid} {at} h r = refused_past (Some n) h cut r
  where
    cut : (w : Option ℕ) (v : List ElemSegment × List DataSegment) (a b x rest : List Line) → listing.start w a → from_elems v b → nothing x → take 1 rest ≡ take 1 (rows_at text mid) → a ++ (b ++ x) ≡ h.lines ++ rest → a ≡ h.lines
    cut None v a b x rest is_a is_b ends begins whole =
        let elems = (keeps_elems 9 (omega arith)).keeps v b x is_b (at_end 9 x (omega arith) ends) in
        let rows_are : b ++ x ≡ h.lines ++ rest = ap (λ (front : List Line). front ++ (b ++ x)) (sym is_a) ∙ whole in
        absurd (omega (arith, ap rank rows_are, start_rank n h.lines rest h.spelling, elems))
    cut (Some m) v a b x rest is_a is_b ends begins whole = ((one-line one-start).one m n a h.lines (b ++ x) rest is_a h.spelling tt tt whole).0

pub pass_start : (v : Option ℕ) {text : List ℕ} {from mid at : ℕ} → Spelled (listing.start v) text from mid → IfNone v (begins_otherwise (codes "start") (rows_at text mid)) → Refused from_elems nothing text mid at → Refused from_start nothing text from at
pass_start None h stops r = pass_none h stops r
pass_start (Some n) h stops r = pass_some n h r

pub fail_start : {text : List ℕ} {from at : ℕ} → Refused listing.start (begins_otherwise (codes "start")) text from at → Refused from_start nothing text from at
unfolding or_none rank_table code_in
fail_start r = fail_part 8 (codes "start") refl (keeps_elems 9 (omega arith)) (omega arith) r

-- a line of the start function is refused, where one begins
pub refused_start : {text : List ℕ} {from at : ℕ} → begins_with (codes "start") (rows_at text from) → Refused (λ (n : ℕ). line (word (codes "start") then u32 n)) anything text from at → Refused listing.start (begins_otherwise (codes "start")) text from at
refused_start {text} {from} here r = refused_as to r
  where
    to : (v : Option ℕ) (lines : List Line) → take 1 lines ≡ take 1 (rows_at text from) → (listing.start v then begins_otherwise (codes "start")) lines → (n : ℕ) × ((line (word (codes "start") then u32 n)) then anything) lines
    to None lines same h =
        let rest : lines ≡ h.1 = h.2 ∙ ap (λ (front : List Line). front ++ h.1) h.3 in
        absurd (h.4 (subst (begins_with (codes "start")) rest (begins_with-local (codes "start") (rows_at text from) lines (sym same) here)))
    to (Some n) lines same h = (n, (h.0, h.1, h.2, h.3, tt))

-- ---- functions

-- the first line of a function
abbrev head : ℕ × List ValTy → Form Line
head p = line (word (codes "func") then u32 p.0 then listing.locals p.1)

pub refused_head : {text : List ℕ} {from at : ℕ} → Refused (λ (f : FunctionHead). line (word (codes "func") then u32 f.ty then listing.locals f.locals)) anything text from at → Refused listing.func anything text from at
refused_head r = refused_as (λ f lines same h.
    (record { ty = f.ty; locals = f.locals }, (h.3.0, h.3.1 ++ h.1, h.2 ∙ ap (λ (l : List Line). l ++ h.1) h.3.2 ∙ append_assoc h.3.0 h.3.1 h.1, h.3.3, tt))) r

pub refused_code : (ty : ℕ) (locals : List ValTy) {text : List ℕ} {from mid at : ℕ} → Spelled (line (word (codes "func") then u32 ty then listing.locals locals)) text from mid → Refused expr anything text mid at → Refused listing.func anything text from at
refused_code ty locals {text} {from} {mid} {at} h r = refused_as (λ f lines same g. (((f.ty, f.locals), f.body), g)) both
  where
    both : Refused (pair head expr) anything text from at
    both = refused_behind {A = head} {J = any} (ty, locals) (one-line one-head) (λ lines other same any_lines. tt) h tt (λ body s x g follows. tt) r

-- ---- the last part

pub none_begins : (w : Word) (lines : List Line) → lines ≡ [] → begins_otherwise w lines
none_begins w lines none h = let no : [] ≡ (w ∷ h.0) ∷ h.1 = sym none ∙ h.2 in cc

pub fail_segments : {text : List ℕ} {from at : ℕ} → Refused (each (λ (v : DataSegment). line (listing.segment v))) (begins_otherwise (codes "data")) text from at → Refused from_segments nothing text from at
fail_segments r = refused_as (λ v lines same h. (v, (h.0, h.1, h.2, h.3, none_begins (codes "data") h.1 h.4))) r

-- lines after the last part
pub pass_segments : (vs : List DataSegment) {text : List ℕ} {from at : ℕ} → Spelled (each (λ (v : DataSegment). line (listing.segment v)) vs) text from at → begins_otherwise (codes "data") (rows_at text at) → rows_at text at ≢ [] → Refused from_segments nothing text from at
pass_segments vs {text} {from} {at} h stops some = refused_as (λ v lines same g. ((v, tt), (g.0, g.1, g.2, (g.0, [], sym (append-nil g.0), g.3, refl), g.4))) both
  where
    nothing_here : (lines : List Line) → take 1 lines ≡ take 1 (rows_at text at) → (nothing then nothing) lines → rows_at text at ≡ []
    nothing_here lines same g = none_first lines (rows_at text at) (g.2 ∙ ap (λ (front : List Line). front ++ g.1) g.3 ∙ g.4) same

    both : Refused (pair (each (λ (v : DataSegment). line (listing.segment v))) (λ (u : Unit {0}). nothing)) nothing text from at
    both = refused_behind {B = λ (u : Unit {0}). nothing} vs (one-each segments_part.one (λ v s x g other. other (line_begins s x g))) (begins_otherwise-local (codes "data")) h stops
        (λ u s x n ends. none_begins (codes "data") (s ++ x) (ap (λ (front : List Line). front ++ x) n ∙ ends))
        (refused_here (λ u lines same g. some (nothing_here lines same g)))

-- ---- the whole

pub refused_module : {text : List ℕ} {from at : ℕ} → Refused from_types nothing text from at → Refused module_lines nothing text from at
refused_module r = refused_as (λ m lines same h. (parts_of m, h)) r

-- a function more is refused
pub refused_funcs : (fs : List Func) {text : List ℕ} {from mid at : ℕ} → Spelled (each listing.func fs) text from mid → begins_with (codes "func") (rows_at text mid) → Refused listing.func anything text mid at → Refused (each listing.func) (begins_otherwise (codes "func")) text from at
refused_funcs fs h here r = refused_each fs (cut_one one-func) (λ f s x g other. other (func_begins f s x g)) (begins_otherwise-local (codes "func")) (λ other. other here) h r
