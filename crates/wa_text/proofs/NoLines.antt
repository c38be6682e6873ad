-- Which lines are those of no instructions.
use Rattle.std.proofs.Common.{◌≡◌, ◌≢◌, ℕ, zero, suc, ◌≤◌, inl, inr, true, false, List, [], ◌∷◌, ◌++◌, Option, None, Some, refl, sym, ap, subst, ◌∙◌, append_assoc, arith}
use Rattle.std.specs.Prelude.{IfNone, IfSome, codes, is_some as is_some_option}
use Rattle.wa_syntax.specs.declared.instr.Instr.{Instr, out-Instr}
use Rattle.wa_syntax.specs.declared.instr.Instr.TheOpen.{Instr-F}
use Rattle.wa_syntax.specs.declared.instr.Instr.TheVariants as variant
use Rattle.wa_syntax.specs.declared.instr.Instr.TheViews.{roll-Instr, roll-out-Instr}
use Rattle.wa_syntax.specs.declared.module.ValTy.{ValTy}
use Rattle.wa_text.specs.declared.reader.instruction.BlockKind.{BlockKind}
use Rattle.wa_text.specs.declared.reader.instruction.BlockKind.TheVariants as kind
use Rattle.wa_text.specs.declared.reader.instruction.FirstLine.{FirstLine}
use Rattle.wa_text.specs.declared.reader.instruction.FirstLine.TheVariants as first
use Rattle.wa_text.specs.Forms.{Form, ◌then◌, each, exactly}
use Rattle.wa_text.specs.Instructions.{block_result, else_end, end, expr, instr, instr_over, max_nesting}
use Rattle.wa_text.specs.Reading.{Refused, Spelled, anything, begins_not, following_first, first_line, halts, kind_word, rows_at}
use Rattle.wa_text.specs.Words.{Word, Line, line, word}
use Rattle.wa_text.proofs.Lines.{by_layer}
use Rattle.wa_text.proofs.NoInstruction.{kind_layer, no_levels}
use Rattle.wa_text.proofs.OneInstruction.{Stops, instr-goes_on, is_some, kind_of, number, one-instr, or_table, special, the_end}
use Rattle.wa_text.proofs.OneItem.{IsOne, begun, differ, one-block_result, one-each, pair, whole}
use Rattle.wa_text.proofs.Refusals.{IsLocal, all_of, refused_as, refused_behind, refused_behind_line, refused_here, same_first}
use Rattle.wa_text.proofs.Rows.{code_in}

-- ---- where instructions stop

pub halts_end : (s x : List Line) → end s → halts (s ++ x)
halts_end s x h = (x, inl (ap (λ (l : List Line). l ++ x) (h.2 ∙ ap (λ (w : Line). w ∷ []) h.1)))

pub halts_else_end : (Body : List Instr → Form Line) (branch : List Instr) (s x : List Line) → else_end Body branch s → halts (s ++ x)
halts_else_end Body [] s x h = halts_end s x h
halts_else_end Body (i ∷ is) s x h =
    (h.1 ++ x, inr (ap (λ (l : List Line). l ++ x) (h.2 ∙ ap (λ (front : List Line). front ++ h.1) (h.3.2 ∙ ap (λ (w : Line). w ∷ []) h.3.1))))

pub halts-local : IsLocal halts
halts-local lines other same (more, inl is) = let k = same_first (codes "end" ∷ []) more lines other is same in (k.0, inl k.1)
halts-local lines other same (more, inr is) = let k = same_first (codes "else" ∷ []) more lines other is same in (k.0, inr k.1)

pub halts_not : (lines : List Line) → begins_not (codes "end" ∷ []) lines → begins_not (codes "else" ∷ []) lines → halts lines → ⊥
halts_not lines no_end no_else (more, inl is) = no_end more is
halts_not lines no_end no_else (more, inr is) = no_else more is

-- a line that was found
pub line_found : (w : Word) (text : List ℕ) (at : ℕ) (o : Option ℕ) → is_some_option o ≡ true → IfSome o (λ to. Spelled (line (word w)) text at to) → (more : List Line) × (rows_at text at ≡ (w ∷ []) ∷ more)
line_found w text at None some h = let no : ⊥ = cc in absurd no
line_found w text at (Some to) some h = (rows_at text to, h.rows_are ∙ ap (λ (l : List Line). l ++ rows_at text to) (h.spelling.2 ∙ ap (λ (l : Line). l ∷ []) h.spelling.1))

pub not_found : (P : Type 0) (o : Option ℕ) → is_some_option o ≡ false → IfNone o P → P
not_found P None none h = h
not_found P (Some to) none h = let no : ⊥ = cc in absurd no

-- instructions stop at the one line, where not at the other
pub halts_some : (o : Option ℕ) (lines : List Line) → IfNone o (begins_not (codes "else" ∷ []) lines) → begins_not (codes "end" ∷ []) lines → halts lines → is_some_option o ≡ true
halts_some None lines no_else no_end h = absurd (halts_not lines no_end no_else h)
halts_some (Some to) lines no_else no_end h = refl

halts_stops : (s : List Line) → halts s → Stops s
unfolding kind_of or_table special is_some code_in
halts_stops s (more, inl is) = (17, omega arith, record { first = codes "end"; rest = []; more = more; lines = is; is = refl })
halts_stops s (more, inr is) = (18, omega arith, record { first = codes "else"; rest = []; more = more; lines = is; is = refl })

pub instr_never : (levels : ℕ) (i : Instr) (s x : List Line) → instr levels i s → halts (s ++ x) → ⊥
instr_never levels i s x h stops = instr-goes_on levels i s x h (halts_stops (s ++ x) stops)

pub one_sequence : (levels : ℕ) → IsOne halts (each (instr levels))
one_sequence levels = one-each (one-instr levels) (instr_never levels)

-- ---- the first line of an instruction

-- lines begin with the first line of an instruction
record FirstRow (s : List Line) : Type 0 where
  words : Line
  more : List Line
  lines : s ≡ words ∷ more
  begins : FirstLine
  form : first_line begins words

row_of : (i : Instr) (layer : Instr-F Instr) (Body : List Instr → Form Line) (s : List Line) → out-Instr i ≡ layer → instr_over Body layer s → FirstRow s
row_of i (Instr-F.Plain op) Body s is h = record { words = h.0; more = []; lines = h.2; begins = first.Whole i; form = by_layer i (Instr-F.Plain op) (h.0 ∷ []) is (λ other. (h.0, h.1, refl)) }
row_of i (Instr-F.Memory op align offset) Body s is h = record { words = h.0; more = []; lines = h.2; begins = first.Whole i; form = by_layer i (Instr-F.Memory op align offset) (h.0 ∷ []) is (λ other. (h.0, h.1, refl)) }
row_of i (Instr-F.BrTable targets) Body s is h = record { words = h.0; more = []; lines = h.2; begins = first.Whole i; form = by_layer i (Instr-F.BrTable targets) (h.0 ∷ []) is (λ other. (h.0, h.1, refl)) }
row_of i (Instr-F.I64Const n) Body s is h = record { words = h.0; more = []; lines = h.2; begins = first.Whole i; form = by_layer i (Instr-F.I64Const n) (h.0 ∷ []) is (λ other. (h.0, h.1, refl)) }
row_of i (Instr-F.Br l) Body s is h = record { words = h.0; more = []; lines = h.2; begins = first.Whole i; form = by_layer i (Instr-F.Br l) (h.0 ∷ []) is (λ other. (h.0, h.1, refl)) }
row_of i (Instr-F.BrIf l) Body s is h = record { words = h.0; more = []; lines = h.2; begins = first.Whole i; form = by_layer i (Instr-F.BrIf l) (h.0 ∷ []) is (λ other. (h.0, h.1, refl)) }
row_of i (Instr-F.Call x) Body s is h = record { words = h.0; more = []; lines = h.2; begins = first.Whole i; form = by_layer i (Instr-F.Call x) (h.0 ∷ []) is (λ other. (h.0, h.1, refl)) }
row_of i (Instr-F.CallIndirect x) Body s is h = record { words = h.0; more = []; lines = h.2; begins = first.Whole i; form = by_layer i (Instr-F.CallIndirect x) (h.0 ∷ []) is (λ other. (h.0, h.1, refl)) }
row_of i (Instr-F.LocalGet x) Body s is h = record { words = h.0; more = []; lines = h.2; begins = first.Whole i; form = by_layer i (Instr-F.LocalGet x) (h.0 ∷ []) is (λ other. (h.0, h.1, refl)) }
row_of i (Instr-F.LocalSet x) Body s is h = record { words = h.0; more = []; lines = h.2; begins = first.Whole i; form = by_layer i (Instr-F.LocalSet x) (h.0 ∷ []) is (λ other. (h.0, h.1, refl)) }
row_of i (Instr-F.LocalTee x) Body s is h = record { words = h.0; more = []; lines = h.2; begins = first.Whole i; form = by_layer i (Instr-F.LocalTee x) (h.0 ∷ []) is (λ other. (h.0, h.1, refl)) }
row_of i (Instr-F.GlobalGet x) Body s is h = record { words = h.0; more = []; lines = h.2; begins = first.Whole i; form = by_layer i (Instr-F.GlobalGet x) (h.0 ∷ []) is (λ other. (h.0, h.1, refl)) }
row_of i (Instr-F.GlobalSet x) Body s is h = record { words = h.0; more = []; lines = h.2; begins = first.Whole i; form = by_layer i (Instr-F.GlobalSet x) (h.0 ∷ []) is (λ other. (h.0, h.1, refl)) }
row_of i (Instr-F.I32Const n) Body s is h = record { words = h.0; more = []; lines = h.2; begins = first.Whole i; form = by_layer i (Instr-F.I32Const n) (h.0 ∷ []) is (λ other. (h.0, h.1, refl)) }
row_of i (Instr-F.Block t body) Body s is h = record { words = h.3.0; more = h.1; lines = h.2 ∙ ap (λ (front : List Line). front ++ h.1) h.3.2; begins = first.Begin kind.Block t; form = h.3.1 }
row_of i (Instr-F.Loop t body) Body s is h = record { words = h.3.0; more = h.1; lines = h.2 ∙ ap (λ (front : List Line). front ++ h.1) h.3.2; begins = first.Begin kind.Loop t; form = h.3.1 }
row_of i (Instr-F.If t branches) Body s is h = record { words = h.3.0; more = h.1; lines = h.2 ∙ ap (λ (front : List Line). front ++ h.1) h.3.2; begins = first.Begin kind.If t; form = h.3.1 }

first_row : (levels : ℕ) (i : Instr) (s : List Line) → instr levels i s → FirstRow s
unfolding instr
first_row zero i s h = row_of i (out-Instr i) (λ body lines. ⊥) s refl h
first_row (suc levels) i s h = row_of i (out-Instr i) (each (instr levels)) s refl h

pub refused_first : (levels : ℕ) {text : List ℕ} {from at : ℕ} → Refused (λ (f : FirstLine). line (first_line f)) anything text from at → Refused (instr levels) anything text from at
refused_first levels r = refused_as (λ i lines same h.
    let row = first_row levels i h.0 h.3 in
    (row.begins, (row.words ∷ [], row.more ++ h.1, h.2 ∙ ap (λ (front : List Line). front ++ h.1) row.lines, (row.words, row.form, refl), tt))) r

-- a line by its words
pub line_of : {F : Form Word} {text : List ℕ} {from to : ℕ} (h : Spelled (line F) text from to) → Spelled (exactly (h.spelling.0 ∷ [])) text from to
line_of h = record { lines = h.lines; spelling = h.spelling.2; are = h.are; is = h.is; rows_are = h.rows_are }

pub refused_nested : (k : BlockKind) (t : Option ValTy) {text : List ℕ} {from mid : ℕ} → Spelled (line (first_line (first.Begin k t))) text from mid → Refused (instr 0) anything text from from
refused_nested k t {text} {from} {mid} h = refused_here (λ i lines same g.
    let own = begun h.spelling.0 h.spelling.1 in
    let here : rows_at text from ≡ (kind_word k ∷ own.0) ∷ rows_at text mid = h.rows_are ∙ ap (λ (l : List Line). l ++ rows_at text mid) (h.spelling.2 ∙ ap (λ (w : Line). w ∷ []) own.1) in
    let row = same_first (kind_word k ∷ own.0) (rows_at text mid) (rows_at text from) lines here (sym same) in
    no_levels k i g.0 g.1 row.0 own.0 g.3 (sym g.2 ∙ row.1))

-- lines of an instruction that holds others
record Structured (Body : List Instr → Form Line) (i : Instr) (s : List Line) : Type 0 where
  kind : BlockKind
  ty : Option ValTy
  words : Line
  more : List Line
  lines : s ≡ words ∷ more
  begins : (word (kind_word kind) then block_result ty) words
  held : following_first kind ty Body i more

by_roll : (i : Instr) (layer : Instr-F Instr) (v : Instr) → out-Instr i ≡ layer → roll-Instr layer ≡ v → i ≡ v
by_roll i layer v is rolls = sym (roll-out-Instr i) ∙ ap roll-Instr is ∙ rolls

structured_of : (Body : List Instr → Form Line) (i : Instr) (layer : Instr-F Instr) (s : List Line) → out-Instr i ≡ layer → 2 ≤ number layer → number layer ≤ 4 → instr_over Body layer s → Structured Body i s
structured_of Body i (Instr-F.Block t body) s is least most h = record { kind = kind.Block; ty = t; words = h.3.0; more = h.1; lines = h.2 ∙ ap (λ (front : List Line). front ++ h.1) h.3.2; begins = h.3.1; held = (body, by_roll i (Instr-F.Block t body) (variant.Block t body) is (variant.rolls-Block t body), h.4) }
structured_of Body i (Instr-F.Loop t body) s is least most h = record { kind = kind.Loop; ty = t; words = h.3.0; more = h.1; lines = h.2 ∙ ap (λ (front : List Line). front ++ h.1) h.3.2; begins = h.3.1; held = (body, by_roll i (Instr-F.Loop t body) (variant.Loop t body) is (variant.rolls-Loop t body), h.4) }
structured_of Body i (Instr-F.If t branches) s is least most h = record { kind = kind.If; ty = t; words = h.3.0; more = h.1; lines = h.2 ∙ ap (λ (front : List Line). front ++ h.1) h.3.2; begins = h.3.1; held = (branches.0, branches.1, by_roll i (Instr-F.If t branches) (variant.If t branches) is (variant.rolls-If t branches), h.4) }
structured_of Body i (Instr-F.Plain op) s is least most h = absurd (omega arith)
structured_of Body i (Instr-F.Memory op align offset) s is least most h = absurd (omega arith)
structured_of Body i (Instr-F.BrTable targets) s is least most h = absurd (omega arith)
structured_of Body i (Instr-F.I64Const n) s is least most h = absurd (omega arith)
structured_of Body i (Instr-F.Br l) s is least most h = absurd (omega arith)
structured_of Body i (Instr-F.BrIf l) s is least most h = absurd (omega arith)
structured_of Body i (Instr-F.Call x) s is least most h = absurd (omega arith)
structured_of Body i (Instr-F.CallIndirect x) s is least most h = absurd (omega arith)
structured_of Body i (Instr-F.LocalGet x) s is least most h = absurd (omega arith)
structured_of Body i (Instr-F.LocalSet x) s is least most h = absurd (omega arith)
structured_of Body i (Instr-F.LocalTee x) s is least most h = absurd (omega arith)
structured_of Body i (Instr-F.GlobalGet x) s is least most h = absurd (omega arith)
structured_of Body i (Instr-F.GlobalSet x) s is least most h = absurd (omega arith)
structured_of Body i (Instr-F.I32Const n) s is least most h = absurd (omega arith)

same_kind_word : (k l : BlockKind) → kind_word k ≡ kind_word l → k ≡ l
same_kind_word kind.Block kind.Block is = refl
same_kind_word kind.Block kind.Loop is = absurd (differ (codes "block") (codes "loop") refl is)
same_kind_word kind.Block kind.If is = absurd (differ (codes "block") (codes "if") refl is)
same_kind_word kind.Loop kind.Block is = absurd (differ (codes "loop") (codes "block") refl is)
same_kind_word kind.Loop kind.Loop is = refl
same_kind_word kind.Loop kind.If is = absurd (differ (codes "loop") (codes "if") refl is)
same_kind_word kind.If kind.Block is = absurd (differ (codes "if") (codes "block") refl is)
same_kind_word kind.If kind.Loop is = absurd (differ (codes "if") (codes "loop") refl is)
same_kind_word kind.If kind.If is = refl

same_begin : (k l : BlockKind) (t u : Option ValTy) (words : Line) → (word (kind_word k) then block_result t) words → (word (kind_word l) then block_result u) words → (k ≡ l) × (t ≡ u)
same_begin k l t u words h g =
    let a = begun words h in
    let b = begun words g in
    let rows : kind_word k ∷ a.0 ≡ kind_word l ∷ b.0 = sym a.1 ∙ b.1 in
    let heads : kind_word k ≡ kind_word l = cc in
    let tails : h.1 ≡ g.1 = cc in
    (same_kind_word k l heads, (whole one-block_result).one t u g.1 (subst (block_result t) tails h.4) g.4)

begun_with : (k : BlockKind) (t : Option ValTy) (n : ℕ) (i : Instr) (words : Line) (more : List Line) → (word (kind_word k) then block_result t) words → (instr (suc n) i then anything) (words ∷ more) → (following_first k t (each (instr n)) i then anything) more
unfolding instr
begun_with k t n i words more form h =
    let own = begun words form in
    let range = kind_layer k (each (instr n)) (out-Instr i) h.0 h.1 more own.0 h.3 (sym h.2 ∙ ap (λ (w : Line). w ∷ more) own.1) in
    let held = structured_of (each (instr n)) i (out-Instr i) h.0 refl range.0 range.1 h.3 in
    let rows : words ∷ more ≡ held.words ∷ (held.more ++ h.1) = h.2 ∙ ap (λ (front : List Line). front ++ h.1) held.lines in
    let heads : held.words ≡ words = cc in
    let tails : more ≡ held.more ++ h.1 = cc in
    let same = same_begin held.kind k held.ty t words (subst (word (kind_word held.kind) then block_result held.ty) heads held.begins) form in
    (held.more, h.1, tails, subst (λ (u : Option ValTy). following_first k u (each (instr n)) i held.more) same.1 (subst (λ (l : BlockKind). following_first l held.ty (each (instr n)) i held.more) same.0 held.held), tt)

pub refused_begun : (k : BlockKind) (t : Option ValTy) (levels n : ℕ) {text : List ℕ} {from mid at : ℕ} → levels ≡ suc n → Spelled (line (first_line (first.Begin k t))) text from mid → Refused (following_first k t (each (instr n))) anything text mid at → Refused (instr levels) anything text from at
refused_begun k t levels n {text} {from} {mid} {at} is h r =
    subst (λ (m : ℕ). Refused (instr m) anything text from at) (sym is)
    (refused_behind_line h.spelling.0 (line_of h) (λ i more g. (i, begun_with k t n i h.spelling.0 more h.spelling.1 g)) r)

-- ---- what an instruction holds

body_of : (k : BlockKind) (t : Option ValTy) (Body : List Instr → Form Line) (i : Instr) (s x : List Line) → following_first k t Body i s → (body : List Instr) × (Body body then halts) (s ++ x)
body_of kind.Block t Body i s x (body, is, g) = (body, (g.0, g.1 ++ x, ap (λ (l : List Line). l ++ x) g.2 ∙ append_assoc g.0 g.1 x, g.3, halts_end g.1 x g.4))
body_of kind.Loop t Body i s x (body, is, g) = (body, (g.0, g.1 ++ x, ap (λ (l : List Line). l ++ x) g.2 ∙ append_assoc g.0 g.1 x, g.3, halts_end g.1 x g.4))
body_of kind.If t Body i s x (body, branch, is, g) = (body, (g.0, g.1 ++ x, ap (λ (l : List Line). l ++ x) g.2 ∙ append_assoc g.0 g.1 x, g.3, halts_else_end Body branch g.1 x g.4))

pub refused_held : (k : BlockKind) (t : Option ValTy) (n : ℕ) {text : List ℕ} {from at : ℕ} → Refused (each (instr n)) halts text from at → Refused (following_first k t (each (instr n))) anything text from at
refused_held k t n r = refused_as (λ i lines same h.
    let body = body_of k t (each (instr n)) i h.0 h.1 h.3 in
    (body.0, subst (each (instr n) body.0 then halts) (sym h.2) body.1)) r

-- no `end` comes after instructions
pub refused_end : (n : ℕ) (body : List Instr) {text : List ℕ} {from mid : ℕ} → Spelled (each (instr n) body) text from mid → halts (rows_at text mid) → begins_not (codes "end" ∷ []) (rows_at text mid) → Refused (pair (each (instr n)) the_end) anything text from mid
refused_end n body {text} {from} {mid} h stops none =
    refused_behind body (one_sequence n) halts-local h stops (λ u s x e follows. halts_end s x e)
    (refused_here (λ u lines same g.
    let row : lines ≡ (codes "end" ∷ []) ∷ g.1 = g.2 ∙ ap (λ (front : List Line). front ++ g.1) (g.3.2 ∙ ap (λ (w : Line). w ∷ []) g.3.1) in
    let first = same_first (codes "end" ∷ []) g.1 lines (rows_at text mid) row same in
    none first.0 first.1))

pub refused_Block : (k : BlockKind) (t : Option ValTy) (n : ℕ) {text : List ℕ} {from at : ℕ} → k ≡ kind.Block → Refused (pair (each (instr n)) the_end) anything text from at → Refused (following_first k t (each (instr n))) anything text from at
refused_Block k t n {text} {from} {at} is r =
    subst (λ (b : BlockKind). Refused (following_first b t (each (instr n))) anything text from at) (sym is) held
  where
    held : Refused (following_first kind.Block t (each (instr n))) anything text from at
    held = refused_as (λ i lines same h. ((h.3.0, tt), (h.0, h.1, h.2, h.3.2, tt))) r

pub refused_Loop : (k : BlockKind) (t : Option ValTy) (n : ℕ) {text : List ℕ} {from at : ℕ} → k ≡ kind.Loop → Refused (pair (each (instr n)) the_end) anything text from at → Refused (following_first k t (each (instr n))) anything text from at
refused_Loop k t n {text} {from} {at} is r =
    subst (λ (b : BlockKind). Refused (following_first b t (each (instr n))) anything text from at) (sym is) held
  where
    held : Refused (following_first kind.Loop t (each (instr n))) anything text from at
    held = refused_as (λ i lines same h. ((h.3.0, tt), (h.0, h.1, h.2, h.3.2, tt))) r

pub refused_If : (k : BlockKind) (t : Option ValTy) (n : ℕ) (body : List Instr) {text : List ℕ} {from mid at : ℕ} → k ≡ kind.If → Spelled (each (instr n) body) text from mid → halts (rows_at text mid) → Refused (else_end (each (instr n))) anything text mid at → Refused (following_first k t (each (instr n))) anything text from at
refused_If k t n body {text} {from} {mid} {at} is h stops r =
    subst (λ (b : BlockKind). Refused (following_first b t (each (instr n))) anything text from at) (sym is) held
  where
    both : Refused (pair (each (instr n)) (else_end (each (instr n)))) anything text from at
    both = refused_behind body (one_sequence n) halts-local h stops (λ branch s x e follows. halts_else_end (each (instr n)) branch s x e) r

    held : Refused (following_first kind.If t (each (instr n))) anything text from at
    held = refused_as (λ i lines same h. ((h.3.0, h.3.1), (h.0, h.1, h.2, h.3.3, tt))) both

-- ---- a branch after its `else`

pub refused_else_end : (n : ℕ) {text : List ℕ} {from : ℕ} → begins_not (codes "end" ∷ []) (rows_at text from) → begins_not (codes "else" ∷ []) (rows_at text from) → Refused (else_end (each (instr n))) anything text from from
refused_else_end n {text} {from} no_end no_else = refused_here (λ branch lines same h.
    halts_not (rows_at text from) no_end no_else
    (halts-local lines (rows_at text from) same (subst halts (sym h.2) (halts_else_end (each (instr n)) branch h.0 h.1 h.3))))

-- a branch that holds instructions
abbrev Branch : Type 0
Branch = (body : List Instr) × (body ≢ [])

after_else : (Body : List Instr → Form Line) (branch : List Instr) (more : List Line) → (else_end Body branch then anything) ((codes "else" ∷ []) ∷ more) → (b : Branch) × ((Body b.0 then end) then anything) more
after_else Body [] more h =
    let rows : (codes "else" ∷ []) ∷ more ≡ (codes "end" ∷ []) ∷ h.1 = h.2 ∙ ap (λ (front : List Line). front ++ h.1) (h.3.2 ∙ ap (λ (w : Line). w ∷ []) h.3.1) in
    let words : codes "else" ≡ codes "end" = cc in
    absurd (differ (codes "else") (codes "end") refl words)
after_else Body (i ∷ is) more h =
    let g = h.3 in
    let rows : (codes "else" ∷ []) ∷ more ≡ (codes "else" ∷ []) ∷ (g.1 ++ h.1) =
    h.2 ∙ ap (λ (front : List Line). front ++ h.1) (g.2 ∙ ap (λ (front : List Line). front ++ g.1) (g.3.2 ∙ ap (λ (w : Line). w ∷ []) g.3.1)) in
    let tails : more ≡ g.1 ++ h.1 = cc in
    ((i ∷ is, λ none. let no : ⊥ = cc in no), (g.1, h.1, tails, g.4, tt))

else_line : {text : List ℕ} {from mid : ℕ} → Spelled (line (word (codes "else"))) text from mid → Spelled (exactly ((codes "else" ∷ []) ∷ [])) text from mid
else_line h = record { lines = h.lines; spelling = h.spelling.2 ∙ ap (λ (w : Line). w ∷ []) h.spelling.1; are = h.are; is = h.is; rows_are = h.rows_are }

pub refused_branch : (n : ℕ) {text : List ℕ} {from mid at : ℕ} → Spelled (line (word (codes "else"))) text from mid → Refused (each (instr n)) halts text mid at → Refused (else_end (each (instr n))) anything text from at
refused_branch n h r = refused_behind_line (codes "else" ∷ []) (else_line h) (λ branch more g.
    let k = after_else (each (instr n)) branch more g in
    let e = k.1 in
    (k.0.0, (e.3.0, e.3.1 ++ e.1, e.2 ∙ ap (λ (l : List Line). l ++ e.1) e.3.2 ∙ append_assoc e.3.0 e.3.1 e.1, e.3.3, halts_end e.3.1 e.1 e.3.4))) r

pub refused_last : (n : ℕ) {text : List ℕ} {from mid at : ℕ} → Spelled (line (word (codes "else"))) text from mid → Refused (pair (each (instr n)) the_end) anything text mid at → Refused (else_end (each (instr n))) anything text from at
refused_last n h r = refused_behind_line (codes "else" ∷ []) (else_line h) (λ branch more g.
    let k = after_else (each (instr n)) branch more g in
    ((k.0.0, tt), k.1)) r

-- no instruction is where instructions stop
never_more : (n : ℕ) (body : List Instr) (s x : List Line) → body ≢ [] → (each (instr n) body then end) s → halts (s ++ x) → ⊥
never_more n [] s x some h stops = some refl
never_more n (i ∷ is) s x some h stops =
    let k = h.3 in
    let rows : s ++ x ≡ k.0 ++ ((k.1 ++ h.1) ++ x) = ap (λ (l : List Line). l ++ x) (h.2 ∙ ap (λ (l : List Line). l ++ h.1) k.2 ∙ append_assoc k.0 k.1 h.1) ∙ append_assoc k.0 (k.1 ++ h.1) x in
    instr_never n i k.0 ((k.1 ++ h.1) ++ x) k.3 (subst halts rows stops)

pub refused_empty : (n : ℕ) (branch : List Instr) {text : List ℕ} {from mid at : ℕ} → branch ≡ [] → Spelled (line (word (codes "else"))) text from mid → Spelled (each (instr n) branch) text mid at → halts (rows_at text at) → Refused (else_end (each (instr n))) anything text from at
refused_empty n branch {text} {from} {mid} {at} none h k stops =
    refused_behind_line {B = λ (b : Branch). each (instr n) b.0 then end} (codes "else" ∷ []) (else_line h) (λ other more g. after_else (each (instr n)) other more g)
    (record {
      front = k.lines;
      passed = all_of k;
      never = λ b more same g.
          let empty : k.lines ≡ [] = subst (λ (is : List Instr). each (instr n) is k.lines) none k.spelling in
          let here : more ≡ g.0 ++ g.1 = ap (λ (l : List Line). l ++ more) (sym empty) ∙ g.2 in
          never_more n b.0 g.0 g.1 b.1 g.3 (subst halts here (halts-local (rows_at text at) more (sym same) stops));
    })

-- ---- the body of a function

pub refused_body : {text : List ℕ} {from at : ℕ} → Refused (each (instr max_nesting)) halts text from at → Refused expr anything text from at
refused_body r = refused_as (λ body lines same h.
    (body, (h.3.0, h.3.1 ++ h.1, h.2 ∙ ap (λ (l : List Line). l ++ h.1) h.3.2 ∙ append_assoc h.3.0 h.3.1 h.1, h.3.3, halts_end h.3.1 h.1 h.3.4))) r

pub refused_expr : {text : List ℕ} {from at : ℕ} → Refused (pair (each (instr max_nesting)) the_end) anything text from at → Refused expr anything text from at
refused_expr r = refused_as (λ body lines same h. ((body, tt), h)) r
