-- Which words denote no instruction.
use Rattle.std.proofs.Common.{◌≡◌, ◌≢◌, ℕ, ◌≤◌, List, [], ◌∷◌, ◌++◌, length, Option, Some, refl, sym, ap, subst, ◌∙◌, arith, length-append}
use Rattle.std.proofs.lemmas.List.{same_from_push}
use Rattle.std.specs.Prelude.{MatchResult, Result, Ok, Err, codes, decimal}
use Rattle.wa_syntax.specs.declared.instr.Instr.{Instr, out-Instr}
use Rattle.wa_syntax.specs.declared.instr.Instr.TheOpen.{Instr-F}
use Rattle.wa_syntax.specs.declared.module.ValTy.{ValTy}
use Rattle.wa_text.specs.declared.fault.LineFault.{LineFault}
use Rattle.wa_text.specs.declared.fault.LineFault.TheVariants as line_fault
use Rattle.wa_text.specs.declared.reader.instruction.BlockKind.{BlockKind}
use Rattle.wa_text.specs.declared.reader.instruction.BlockKind.TheVariants as kind
use Rattle.wa_text.specs.declared.reader.instruction.FirstLine.{FirstLine}
use Rattle.wa_text.specs.declared.reader.instruction.FirstLine.TheVariants as first
use Rattle.wa_text.specs.Forms.{Form, ◌then◌, each}
use Rattle.wa_text.specs.Instructions.{block_result, instr, instr_over, named}
use Rattle.wa_text.specs.Mnemonics.{access_names, name_in, plain_names}
use Rattle.wa_text.specs.Reading.{Reads, first_line, kind_word, whole, with_index}
use Rattle.wa_text.specs.Words.{Word, Line, line, u32, u64, word}
use Rattle.wa_text.proofs.NoWords.{behind_word, first_of, none_of, not_behind, not_none, not_two, u32_one, u64_one}
use Rattle.wa_text.proofs.OneInstruction.{Begins, access_kinds, kind_of, layer_begins, number, or_table, is_some, plain_kinds, row_holds, same_kind, special}
use Rattle.wa_text.proofs.OneItem.{differ}
use Rattle.wa_text.proofs.OneModule.{filled_instr}
use Rattle.wa_text.proofs.Rows.{code_in}

-- the words of an instruction of one line
abbrev pub Simple : Instr-F Instr → Word → Line → Type 0
Simple (Instr-F.Plain op) name rest = (name_in plain_names op ≡ Some name) × (rest ≡ [])
Simple (Instr-F.Memory op align offset) name rest = (name_in access_names op ≡ Some name) × (u32 align then u32 offset) rest
Simple (Instr-F.Block t body) name rest = ⊥
Simple (Instr-F.Loop t body) name rest = ⊥
Simple (Instr-F.If t branches) name rest = ⊥
Simple (Instr-F.BrTable targets) name rest = (name ≡ codes "br_table") × (each u32 targets.0 then u32 targets.1) rest
Simple (Instr-F.I64Const n) name rest = (name ≡ codes "i64.const") × u64 n rest
Simple (Instr-F.Br l) name rest = (name ≡ codes "br") × u32 l rest
Simple (Instr-F.BrIf l) name rest = (name ≡ codes "br_if") × u32 l rest
Simple (Instr-F.Call x) name rest = (name ≡ codes "call") × u32 x rest
Simple (Instr-F.CallIndirect x) name rest = (name ≡ codes "call_indirect") × u32 x rest
Simple (Instr-F.LocalGet x) name rest = (name ≡ codes "local.get") × u32 x rest
Simple (Instr-F.LocalSet x) name rest = (name ≡ codes "local.set") × u32 x rest
Simple (Instr-F.LocalTee x) name rest = (name ≡ codes "local.tee") × u32 x rest
Simple (Instr-F.GlobalGet x) name rest = (name ≡ codes "global.get") × u32 x rest
Simple (Instr-F.GlobalSet x) name rest = (name ≡ codes "global.set") × u32 x rest
Simple (Instr-F.I32Const n) name rest = (name ≡ codes "i32.const") × u32 n rest

one_row : (F : Form Word) (words : Line) → line F (words ∷ []) → F words
one_row F words h = let same : h.0 ≡ words = cc in subst F same h.1

simple_of : (layer : Instr-F Instr) (name : Word) (rest : Line) → instr_over (λ body lines. ⊥) layer ((name ∷ rest) ∷ []) → Simple layer name rest
simple_of (Instr-F.Plain op) name rest h =
    let k = one_row (named plain_names op) (name ∷ rest) h in
    let rows : name ∷ rest ≡ k.0 ∷ [] = k.2 in
    let head : k.0 ≡ name = cc in
    (k.1 ∙ ap (λ (w : Word). Some w) head, cc)
simple_of (Instr-F.Memory op align offset) name rest h =
    let k = one_row (named access_names op then u32 align then u32 offset) (name ∷ rest) h in
    let rows : name ∷ rest ≡ k.3.0 ∷ k.1 = k.2 ∙ ap (λ (front : Line). front ++ k.1) k.3.2 in
    let head : k.3.0 ≡ name = cc in
    let tail : k.1 ≡ rest = cc in
    (k.3.1 ∙ ap (λ (w : Word). Some w) head, subst (u32 align then u32 offset) tail k.4)
simple_of (Instr-F.Block t body) name rest h = h.4.3
simple_of (Instr-F.Loop t body) name rest h = h.4.3
simple_of (Instr-F.If t branches) name rest h = h.4.3
simple_of (Instr-F.BrTable targets) name rest h = behind_word name rest (one_row (word (codes "br_table") then each u32 targets.0 then u32 targets.1) (name ∷ rest) h)
simple_of (Instr-F.I64Const n) name rest h = behind_word name rest (one_row (word (codes "i64.const") then u64 n) (name ∷ rest) h)
simple_of (Instr-F.Br l) name rest h = behind_word name rest (one_row (word (codes "br") then u32 l) (name ∷ rest) h)
simple_of (Instr-F.BrIf l) name rest h = behind_word name rest (one_row (word (codes "br_if") then u32 l) (name ∷ rest) h)
simple_of (Instr-F.Call x) name rest h = behind_word name rest (one_row (word (codes "call") then u32 x) (name ∷ rest) h)
simple_of (Instr-F.CallIndirect x) name rest h = behind_word name rest (one_row (word (codes "call_indirect") then u32 x) (name ∷ rest) h)
simple_of (Instr-F.LocalGet x) name rest h = behind_word name rest (one_row (word (codes "local.get") then u32 x) (name ∷ rest) h)
simple_of (Instr-F.LocalSet x) name rest h = behind_word name rest (one_row (word (codes "local.set") then u32 x) (name ∷ rest) h)
simple_of (Instr-F.LocalTee x) name rest h = behind_word name rest (one_row (word (codes "local.tee") then u32 x) (name ∷ rest) h)
simple_of (Instr-F.GlobalGet x) name rest h = behind_word name rest (one_row (word (codes "global.get") then u32 x) (name ∷ rest) h)
simple_of (Instr-F.GlobalSet x) name rest h = behind_word name rest (one_row (word (codes "global.set") then u32 x) (name ∷ rest) h)
simple_of (Instr-F.I32Const n) name rest h = behind_word name rest (one_row (word (codes "i32.const") then u32 n) (name ∷ rest) h)

pub simple : (i : Instr) (name : Word) (rest : Line) → whole i (name ∷ rest) → Simple (out-Instr i) name rest
unfolding instr
simple i name rest h = simple_of (out-Instr i) name rest (h 0)

labels_length : (ls : List ℕ) (l : ℕ) (s : Line) → (each u32 ls then u32 l) s → 1 ≤ length s
labels_length ls l s h = omega (arith, ap length h.2, length-append h.0 h.1, ap length h.4.1)

-- an access has no other name
not_access : (op : ℕ) → name_in access_names op ≡ Some (codes "br_table") → ⊥
unfolding kind_of or_table special is_some code_in
not_access op h =
    let kinds : 7 ≡ 1 = row_holds (λ o w. kind_of w ≡ 1) access_names op (codes "br_table") access_kinds h in
    omega (arith, kinds)

-- one word
pub plain_of : (layer : Instr-F Instr) (name : Word) → Simple layer name [] → (op : ℕ) × (name_in plain_names op ≡ Some name)
plain_of (Instr-F.Plain op) name h = (op, h.0)
plain_of (Instr-F.Memory op align offset) name h = absurd (none_of u32_one align h.1)
plain_of (Instr-F.Block t body) name h = absurd h
plain_of (Instr-F.Loop t body) name h = absurd h
plain_of (Instr-F.If t branches) name h = absurd h
plain_of (Instr-F.BrTable targets) name h = absurd (omega (arith, labels_length targets.0 targets.1 [] h.1))
plain_of (Instr-F.I64Const n) name h = absurd (not_none u64_one n h.1)
plain_of (Instr-F.Br l) name h = absurd (not_none u32_one l h.1)
plain_of (Instr-F.BrIf l) name h = absurd (not_none u32_one l h.1)
plain_of (Instr-F.Call x) name h = absurd (not_none u32_one x h.1)
plain_of (Instr-F.CallIndirect x) name h = absurd (not_none u32_one x h.1)
plain_of (Instr-F.LocalGet x) name h = absurd (not_none u32_one x h.1)
plain_of (Instr-F.LocalSet x) name h = absurd (not_none u32_one x h.1)
plain_of (Instr-F.LocalTee x) name h = absurd (not_none u32_one x h.1)
plain_of (Instr-F.GlobalGet x) name h = absurd (not_none u32_one x h.1)
plain_of (Instr-F.GlobalSet x) name h = absurd (not_none u32_one x h.1)
plain_of (Instr-F.I32Const n) name h = absurd (not_none u32_one n h.1)

-- a word and a number of 64 bits
pub constant_of : (layer : Instr-F Instr) (value : Word) → Simple layer (codes "i64.const") (value ∷ []) → (n : ℕ) × u64 n (value ∷ [])
constant_of (Instr-F.Plain op) value h = let no : ⊥ = cc in absurd no
constant_of (Instr-F.Memory op align offset) value h = absurd (not_none u32_one offset (first_of u32_one align value [] h.1).1)
constant_of (Instr-F.Block t body) value h = absurd h
constant_of (Instr-F.Loop t body) value h = absurd h
constant_of (Instr-F.If t branches) value h = absurd h
constant_of (Instr-F.BrTable targets) value h = absurd (differ (codes "i64.const") (codes "br_table") refl h.0)
constant_of (Instr-F.I64Const n) value h = (n, h.1)
constant_of (Instr-F.Br l) value h = absurd (differ (codes "i64.const") (codes "br") refl h.0)
constant_of (Instr-F.BrIf l) value h = absurd (differ (codes "i64.const") (codes "br_if") refl h.0)
constant_of (Instr-F.Call x) value h = absurd (differ (codes "i64.const") (codes "call") refl h.0)
constant_of (Instr-F.CallIndirect x) value h = absurd (differ (codes "i64.const") (codes "call_indirect") refl h.0)
constant_of (Instr-F.LocalGet x) value h = absurd (differ (codes "i64.const") (codes "local.get") refl h.0)
constant_of (Instr-F.LocalSet x) value h = absurd (differ (codes "i64.const") (codes "local.set") refl h.0)
constant_of (Instr-F.LocalTee x) value h = absurd (differ (codes "i64.const") (codes "local.tee") refl h.0)
constant_of (Instr-F.GlobalGet x) value h = absurd (differ (codes "i64.const") (codes "global.get") refl h.0)
constant_of (Instr-F.GlobalSet x) value h = absurd (differ (codes "i64.const") (codes "global.set") refl h.0)
constant_of (Instr-F.I32Const n) value h = absurd (differ (codes "i64.const") (codes "i32.const") refl h.0)

-- another word and a number
pub index_of : (layer : Instr-F Instr) (name value : Word) → name ≢ codes "br_table" → name ≢ codes "i64.const" → Simple layer name (value ∷ []) → (n : ℕ) × u32 n (value ∷ [])
index_of (Instr-F.Plain op) name value table constant h = let no : ⊥ = cc in absurd no
index_of (Instr-F.Memory op align offset) name value table constant h = absurd (not_none u32_one offset (first_of u32_one align value [] h.1).1)
index_of (Instr-F.Block t body) name value table constant h = absurd h
index_of (Instr-F.Loop t body) name value table constant h = absurd h
index_of (Instr-F.If t branches) name value table constant h = absurd h
index_of (Instr-F.BrTable targets) name value table constant h = absurd (table h.0)
index_of (Instr-F.I64Const n) name value table constant h = absurd (constant h.0)
index_of (Instr-F.Br l) name value table constant h = (l, h.1)
index_of (Instr-F.BrIf l) name value table constant h = (l, h.1)
index_of (Instr-F.Call x) name value table constant h = (x, h.1)
index_of (Instr-F.CallIndirect x) name value table constant h = (x, h.1)
index_of (Instr-F.LocalGet x) name value table constant h = (x, h.1)
index_of (Instr-F.LocalSet x) name value table constant h = (x, h.1)
index_of (Instr-F.LocalTee x) name value table constant h = (x, h.1)
index_of (Instr-F.GlobalGet x) name value table constant h = (x, h.1)
index_of (Instr-F.GlobalSet x) name value table constant h = (x, h.1)
index_of (Instr-F.I32Const n) name value table constant h = (n, h.1)

-- the word of no instruction with an index
pub no_index : (layer : Instr-F Instr) (name value : Word) → name ≢ codes "br_table" → name ≢ codes "i64.const" → name ≢ codes "br" → name ≢ codes "br_if" → name ≢ codes "call" → name ≢ codes "call_indirect" → name ≢ codes "local.get" → name ≢ codes "local.set" → name ≢ codes "local.tee" → name ≢ codes "global.get" → name ≢ codes "global.set" → name ≢ codes "i32.const" → Simple layer name (value ∷ []) → ⊥
no_index (Instr-F.Plain op) name value table constant not_Br not_BrIf not_Call not_CallIndirect not_LocalGet not_LocalSet not_LocalTee not_GlobalGet not_GlobalSet not_I32Const h = cc
no_index (Instr-F.Memory op align offset) name value table constant not_Br not_BrIf not_Call not_CallIndirect not_LocalGet not_LocalSet not_LocalTee not_GlobalGet not_GlobalSet not_I32Const h = not_none u32_one offset (first_of u32_one align value [] h.1).1
no_index (Instr-F.Block t body) name value table constant not_Br not_BrIf not_Call not_CallIndirect not_LocalGet not_LocalSet not_LocalTee not_GlobalGet not_GlobalSet not_I32Const h = h
no_index (Instr-F.Loop t body) name value table constant not_Br not_BrIf not_Call not_CallIndirect not_LocalGet not_LocalSet not_LocalTee not_GlobalGet not_GlobalSet not_I32Const h = h
no_index (Instr-F.If t branches) name value table constant not_Br not_BrIf not_Call not_CallIndirect not_LocalGet not_LocalSet not_LocalTee not_GlobalGet not_GlobalSet not_I32Const h = h
no_index (Instr-F.BrTable targets) name value table constant not_Br not_BrIf not_Call not_CallIndirect not_LocalGet not_LocalSet not_LocalTee not_GlobalGet not_GlobalSet not_I32Const h = table h.0
no_index (Instr-F.I64Const n) name value table constant not_Br not_BrIf not_Call not_CallIndirect not_LocalGet not_LocalSet not_LocalTee not_GlobalGet not_GlobalSet not_I32Const h = constant h.0
no_index (Instr-F.Br l) name value table constant not_Br not_BrIf not_Call not_CallIndirect not_LocalGet not_LocalSet not_LocalTee not_GlobalGet not_GlobalSet not_I32Const h = not_Br h.0
no_index (Instr-F.BrIf l) name value table constant not_Br not_BrIf not_Call not_CallIndirect not_LocalGet not_LocalSet not_LocalTee not_GlobalGet not_GlobalSet not_I32Const h = not_BrIf h.0
no_index (Instr-F.Call x) name value table constant not_Br not_BrIf not_Call not_CallIndirect not_LocalGet not_LocalSet not_LocalTee not_GlobalGet not_GlobalSet not_I32Const h = not_Call h.0
no_index (Instr-F.CallIndirect x) name value table constant not_Br not_BrIf not_Call not_CallIndirect not_LocalGet not_LocalSet not_LocalTee not_GlobalGet not_GlobalSet not_I32Const h = not_CallIndirect h.0
no_index (Instr-F.LocalGet x) name value table constant not_Br not_BrIf not_Call not_CallIndirect not_LocalGet not_LocalSet not_LocalTee not_GlobalGet not_GlobalSet not_I32Const h = not_LocalGet h.0
no_index (Instr-F.LocalSet x) name value table constant not_Br not_BrIf not_Call not_CallIndirect not_LocalGet not_LocalSet not_LocalTee not_GlobalGet not_GlobalSet not_I32Const h = not_LocalSet h.0
no_index (Instr-F.LocalTee x) name value table constant not_Br not_BrIf not_Call not_CallIndirect not_LocalGet not_LocalSet not_LocalTee not_GlobalGet not_GlobalSet not_I32Const h = not_LocalTee h.0
no_index (Instr-F.GlobalGet x) name value table constant not_Br not_BrIf not_Call not_CallIndirect not_LocalGet not_LocalSet not_LocalTee not_GlobalGet not_GlobalSet not_I32Const h = not_GlobalGet h.0
no_index (Instr-F.GlobalSet x) name value table constant not_Br not_BrIf not_Call not_CallIndirect not_LocalGet not_LocalSet not_LocalTee not_GlobalGet not_GlobalSet not_I32Const h = not_GlobalSet h.0
no_index (Instr-F.I32Const n) name value table constant not_Br not_BrIf not_Call not_CallIndirect not_LocalGet not_LocalSet not_LocalTee not_GlobalGet not_GlobalSet not_I32Const h = not_I32Const h.0

-- an index by the word that it is read of
pub indexed_by : (i : Instr) (name value : Word) (n : ℕ) → u32 n (value ∷ []) → whole i (name ∷ value ∷ []) → with_index i name n
indexed_by i name value n is h = λ words k. let same : value ∷ [] ≡ words = is.1 ∙ sym k.1 in subst (λ (s : Line). whole i (name ∷ s)) same h

pub by_index : (i : Instr) (name : Word) (n : ℕ) → u32 n (decimal n ∷ []) → with_index i name n → whole i (name ∷ decimal n ∷ [])
by_index i name n is h = h (decimal n ∷ []) is

-- a word and two numbers
pub record IsAccess (name align offset : Word) : Type 0 where
  pub opcode : ℕ
  pub alignment : ℕ
  pub distance : ℕ
  pub named_so : name_in access_names opcode ≡ Some name
  pub align_is : u32 alignment (align ∷ [])
  pub offset_is : u32 distance (offset ∷ [])

pub access_of : (layer : Instr-F Instr) (name align offset : Word) → name ≢ codes "br_table" → Simple layer name (align ∷ offset ∷ []) → IsAccess name align offset
access_of (Instr-F.Plain op) name align offset table h = let no : ⊥ = cc in absurd no
access_of (Instr-F.Memory op a o) name align offset table h =
    let both = first_of u32_one a align (offset ∷ []) h.1 in
    record { opcode = op; alignment = a; distance = o; named_so = h.0; align_is = both.0; offset_is = both.1 }
access_of (Instr-F.Block t body) name align offset table h = absurd h
access_of (Instr-F.Loop t body) name align offset table h = absurd h
access_of (Instr-F.If t branches) name align offset table h = absurd h
access_of (Instr-F.BrTable targets) name align offset table h = absurd (table h.0)
access_of (Instr-F.I64Const n) name align offset table h = absurd (not_two u64_one n align offset [] h.1)
access_of (Instr-F.Br l) name align offset table h = absurd (not_two u32_one l align offset [] h.1)
access_of (Instr-F.BrIf l) name align offset table h = absurd (not_two u32_one l align offset [] h.1)
access_of (Instr-F.Call x) name align offset table h = absurd (not_two u32_one x align offset [] h.1)
access_of (Instr-F.CallIndirect x) name align offset table h = absurd (not_two u32_one x align offset [] h.1)
access_of (Instr-F.LocalGet x) name align offset table h = absurd (not_two u32_one x align offset [] h.1)
access_of (Instr-F.LocalSet x) name align offset table h = absurd (not_two u32_one x align offset [] h.1)
access_of (Instr-F.LocalTee x) name align offset table h = absurd (not_two u32_one x align offset [] h.1)
access_of (Instr-F.GlobalGet x) name align offset table h = absurd (not_two u32_one x align offset [] h.1)
access_of (Instr-F.GlobalSet x) name align offset table h = absurd (not_two u32_one x align offset [] h.1)
access_of (Instr-F.I32Const n) name align offset table h = absurd (not_two u32_one n align offset [] h.1)

-- labels, and the default after them
pub labels_of : (layer : Instr-F Instr) (labels : Line) (default : Word) → Simple layer (codes "br_table") (labels ++ default ∷ []) → (ls : List ℕ) × (l : ℕ) × each u32 ls labels × u32 l (default ∷ [])
labels_of (Instr-F.Plain op) labels default h = absurd (omega (arith, ap length h.1, length-append labels (default ∷ [])))
labels_of (Instr-F.Memory op align offset) labels default h = absurd (not_access op h.0)
labels_of (Instr-F.Block t body) labels default h = absurd h
labels_of (Instr-F.Loop t body) labels default h = absurd h
labels_of (Instr-F.If t branches) labels default h = absurd h
labels_of (Instr-F.BrTable targets) labels default h =
    let rows : labels ++ default ∷ [] ≡ h.1.0 ++ decimal targets.1 ∷ [] = h.1.2 ∙ ap (λ (back : Line). h.1.0 ++ back) h.1.4.1 in
    let both = same_from_push labels h.1.0 default (decimal targets.1) rows in
    (targets.0, targets.1, subst (each u32 targets.0) (sym both.0) h.1.3, (h.1.4.0, ap (λ (w : Word). w ∷ []) both.1))
labels_of (Instr-F.I64Const n) labels default h = absurd (differ (codes "br_table") (codes "i64.const") refl h.0)
labels_of (Instr-F.Br l) labels default h = absurd (differ (codes "br_table") (codes "br") refl h.0)
labels_of (Instr-F.BrIf l) labels default h = absurd (differ (codes "br_table") (codes "br_if") refl h.0)
labels_of (Instr-F.Call x) labels default h = absurd (differ (codes "br_table") (codes "call") refl h.0)
labels_of (Instr-F.CallIndirect x) labels default h = absurd (differ (codes "br_table") (codes "call_indirect") refl h.0)
labels_of (Instr-F.LocalGet x) labels default h = absurd (differ (codes "br_table") (codes "local.get") refl h.0)
labels_of (Instr-F.LocalSet x) labels default h = absurd (differ (codes "br_table") (codes "local.set") refl h.0)
labels_of (Instr-F.LocalTee x) labels default h = absurd (differ (codes "br_table") (codes "local.tee") refl h.0)
labels_of (Instr-F.GlobalGet x) labels default h = absurd (differ (codes "br_table") (codes "global.get") refl h.0)
labels_of (Instr-F.GlobalSet x) labels default h = absurd (differ (codes "br_table") (codes "global.set") refl h.0)
labels_of (Instr-F.I32Const n) labels default h = absurd (differ (codes "br_table") (codes "i32.const") refl h.0)

-- more words are those of a table of labels
pub simple_length : (layer : Instr-F Instr) (name : Word) (rest : Line) → name ≢ codes "br_table" → Simple layer name rest → length rest ≤ 2
simple_length (Instr-F.Plain op) name rest table h = omega (arith, ap length h.1)
simple_length (Instr-F.Memory op align offset) name rest table h = omega (arith, ap length h.1.2, length-append h.1.0 h.1.1, ap length h.1.3.1, ap length h.1.4.1)
simple_length (Instr-F.Block t body) name rest table h = absurd h
simple_length (Instr-F.Loop t body) name rest table h = absurd h
simple_length (Instr-F.If t branches) name rest table h = absurd h
simple_length (Instr-F.BrTable targets) name rest table h = absurd (table h.0)
simple_length (Instr-F.I64Const n) name rest table h = omega (arith, ap length h.1.1)
simple_length (Instr-F.Br l) name rest table h = omega (arith, ap length h.1.1)
simple_length (Instr-F.BrIf l) name rest table h = omega (arith, ap length h.1.1)
simple_length (Instr-F.Call x) name rest table h = omega (arith, ap length h.1.1)
simple_length (Instr-F.CallIndirect x) name rest table h = omega (arith, ap length h.1.1)
simple_length (Instr-F.LocalGet x) name rest table h = omega (arith, ap length h.1.1)
simple_length (Instr-F.LocalSet x) name rest table h = omega (arith, ap length h.1.1)
simple_length (Instr-F.LocalTee x) name rest table h = omega (arith, ap length h.1.1)
simple_length (Instr-F.GlobalGet x) name rest table h = omega (arith, ap length h.1.1)
simple_length (Instr-F.GlobalSet x) name rest table h = omega (arith, ap length h.1.1)
simple_length (Instr-F.I32Const n) name rest table h = omega (arith, ap length h.1.1)

-- ---- the first line of an instruction

-- an instruction that holds others is more than a line
structured_apart : (Body : List Instr → Form Line) → ((body : List Instr) (s : List Line) → Body body s → ⊥) → (layer : Instr-F Instr) (s : List Line) → 2 ≤ number layer → number layer ≤ 4 → instr_over Body layer s → ⊥
structured_apart Body none (Instr-F.Block t body) s least most h = none body h.4.0 h.4.3
structured_apart Body none (Instr-F.Loop t body) s least most h = none body h.4.0 h.4.3
structured_apart Body none (Instr-F.If t branches) s least most h = none branches.0 h.4.0 h.4.3
structured_apart Body none (Instr-F.Plain op) s least most h = omega arith
structured_apart Body none (Instr-F.Memory op align offset) s least most h = omega arith
structured_apart Body none (Instr-F.BrTable targets) s least most h = omega arith
structured_apart Body none (Instr-F.I64Const n) s least most h = omega arith
structured_apart Body none (Instr-F.Br l) s least most h = omega arith
structured_apart Body none (Instr-F.BrIf l) s least most h = omega arith
structured_apart Body none (Instr-F.Call x) s least most h = omega arith
structured_apart Body none (Instr-F.CallIndirect x) s least most h = omega arith
structured_apart Body none (Instr-F.LocalGet x) s least most h = omega arith
structured_apart Body none (Instr-F.LocalSet x) s least most h = omega arith
structured_apart Body none (Instr-F.LocalTee x) s least most h = omega arith
structured_apart Body none (Instr-F.GlobalGet x) s least most h = omega arith
structured_apart Body none (Instr-F.GlobalSet x) s least most h = omega arith
structured_apart Body none (Instr-F.I32Const n) s least most h = omega arith

kind_number : BlockKind → ℕ
kind_number kind.Block = 2
kind_number kind.Loop = 3
kind_number kind.If = 4

kind_words : (k : BlockKind) → kind_of (kind_word k) ≡ kind_number k
unfolding kind_of or_table special is_some code_in kind_number
kind_words kind.Block = refl
kind_words kind.Loop = refl
kind_words kind.If = refl

kind_range : (k : BlockKind) → (2 ≤ kind_number k) × (kind_number k ≤ 4)
unfolding kind_number
kind_range kind.Block = (omega arith, omega arith)
kind_range kind.Loop = (omega arith, omega arith)
kind_range kind.If = (omega arith, omega arith)

-- the number of an instruction whose lines begin with such a word
pub kind_layer : (k : BlockKind) (Body : List Instr → Form Line) (layer : Instr-F Instr) (s x more : List Line) (rest : Line) → instr_over Body layer s → s ++ x ≡ (kind_word k ∷ rest) ∷ more → (2 ≤ number layer) × (number layer ≤ 4)
kind_layer k Body layer s x more rest h is =
    let begins = layer_begins Body layer s h in
    let front : Begins (number layer) (s ++ x) = record { first = begins.first; rest = begins.rest; more = begins.more ++ x; lines = ap (λ (l : List Line). l ++ x) begins.lines; is = begins.is } in
    let word : Begins (kind_number k) (s ++ x) = record { first = kind_word k; rest = rest; more = more; lines = is; is = kind_words k } in
    let same = same_kind (s ++ x) front word in
    let range = kind_range k in
    (omega (arith, same, range.0), omega (arith, same, range.1))

-- where no block may be open
pub no_levels : (k : BlockKind) (i : Instr) (s x more : List Line) (rest : Line) → instr 0 i s → s ++ x ≡ (kind_word k ∷ rest) ∷ more → ⊥
unfolding instr
no_levels k i s x more rest h is =
    let range = kind_layer k (λ body lines. ⊥) (out-Instr i) s x more rest h is in
    structured_apart (λ body lines. ⊥) (λ body lines no. no) (out-Instr i) s range.0 range.1 h

pub begin_of : (k : BlockKind) (rest : Line) (f : FirstLine) → first_line f (kind_word k ∷ rest) → (t : Option ValTy) × block_result t rest
begin_of k rest (first.Whole i) h = absurd (no_levels k i ((kind_word k ∷ rest) ∷ []) [] [] rest (h 0) refl)
begin_of k rest (first.Begin other t) h = (t, (behind_word (kind_word k) rest h).1)

pub simple_first : (name : Word) (rest : Line) (f : FirstLine) → ((k : BlockKind) → name ≢ kind_word k) → first_line f (name ∷ rest) → (i : Instr) × whole i (name ∷ rest)
simple_first name rest (first.Whole i) other h = (i, h)
simple_first name rest (first.Begin k t) other h = absurd (other k (behind_word name rest h).0)

pub no_first : (f : FirstLine) → first_line f [] → ⊥
no_first (first.Whole i) h = ((filled_instr 0 i).filled ([] ∷ []) (h 0)).0
no_first (first.Begin k t) h = not_behind h

pub begin_refused : (words rest : Line) (name : Word) (k : BlockKind) → words ≡ name ∷ rest → name ≡ kind_word k → (f : FirstLine) → first_line f words → (t : Option ValTy) × block_result t rest
begin_refused words rest name k is kind f h = begin_of k rest f (subst (first_line f) (is ∙ ap (λ (w : Word). w ∷ rest) kind) h)

pub simple_refused : (words rest : Line) (name : Word) → words ≡ name ∷ rest → ((k : BlockKind) → name ≢ kind_word k) → (f : FirstLine) → first_line f words → (i : Instr) × whole i (name ∷ rest)
simple_refused words rest name is other f h = simple_first name rest f other (subst (first_line f) is h)

pub none_refused : (words : Line) → words ≡ [] → (f : FirstLine) → first_line f words → ⊥
none_refused words none f h = no_first f (subst (first_line f) none h)

-- what an index makes of a word
pub reads_index : (name value : Word) (n : ℕ) (r : Result Instr LineFault) → u32 n (value ∷ []) → MatchResult r (λ i. with_index i name n) (λ fault. (i : Instr) → with_index i name n → ⊥) → Reads whole (name ∷ value ∷ []) r
reads_index name value n (Ok i) is h = h (value ∷ []) is
reads_index name value n (Err line_fault.Wrong) is h = λ i k. h i (indexed_by i name value n is k)
reads_index name value n (Err line_fault.NoMemory) is h = tt

-- no plain instruction has the name of a table of labels
not_plain : (op : ℕ) → name_in plain_names op ≡ Some (codes "br_table") → ⊥
unfolding kind_of or_table special is_some code_in
not_plain op h =
    let kinds : 7 ≡ 0 = row_holds (λ o w. kind_of w ≡ 0) plain_names op (codes "br_table") plain_kinds h in
    omega (arith, kinds)

pub no_labels : (layer : Instr-F Instr) → Simple layer (codes "br_table") [] → ⊥
no_labels (Instr-F.Plain op) h = not_plain op h.0
no_labels (Instr-F.Memory op align offset) h = none_of u32_one align h.1
no_labels (Instr-F.Block t body) h = h
no_labels (Instr-F.Loop t body) h = h
no_labels (Instr-F.If t branches) h = h
no_labels (Instr-F.BrTable targets) h = omega (arith, labels_length targets.0 targets.1 [] h.1)
no_labels (Instr-F.I64Const n) h = not_none u64_one n h.1
no_labels (Instr-F.Br l) h = not_none u32_one l h.1
no_labels (Instr-F.BrIf l) h = not_none u32_one l h.1
no_labels (Instr-F.Call x) h = not_none u32_one x h.1
no_labels (Instr-F.CallIndirect x) h = not_none u32_one x h.1
no_labels (Instr-F.LocalGet x) h = not_none u32_one x h.1
no_labels (Instr-F.LocalSet x) h = not_none u32_one x h.1
no_labels (Instr-F.LocalTee x) h = not_none u32_one x h.1
no_labels (Instr-F.GlobalGet x) h = not_none u32_one x h.1
no_labels (Instr-F.GlobalSet x) h = not_none u32_one x h.1
no_labels (Instr-F.I32Const n) h = not_none u32_one n h.1

-- a known name, and the words after it
pub whole_as : (i : Instr) (name other : Word) (rest : Line) → name ≡ other → whole i (name ∷ rest) → Simple (out-Instr i) other rest
whole_as i name other rest is h = simple i other rest (subst (λ (w : Word). whole i (w ∷ rest)) is h)
