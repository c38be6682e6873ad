-- No lines are those of two instructions or of two functions, and no instruction begins with an `end` or an `else`.
use Rattle.std.proofs.Common.{◌≡◌, ℕ, zero, suc, ◌≤◌, Bool, true, false, List, [], ◌∷◌, ◌++◌, Option, None, Some, refl, sym, ap, subst, ◌∙◌, arith}
use Rattle.std.proofs.lemmas.Bool.{eqb-true}
use Rattle.std.specs.Prelude.{codes, cond, ◌==◌}
use Rattle.std.specs.List.{AllByRecursion}
use Rattle.wa_syntax.specs.declared.instr.Instr.{Instr, out-Instr}
use Rattle.wa_syntax.specs.declared.instr.Instr.TheOpen.{Instr-F}
use Rattle.wa_syntax.specs.declared.instr.Instr.TheViews.{roll-Instr, roll-out-Instr}
use Rattle.wa_syntax.specs.declared.module.Func.{Func}
use Rattle.wa_syntax.specs.declared.module.ValTy.{ValTy}
use Rattle.wa_text.specs.Forms.{Form, ◌then◌, each, nothing}
use Rattle.wa_text.specs.Instructions.{begin, else_end, end, expr, indexed, instr, instr_over, max_nesting, named}
use Rattle.wa_text.specs.Listing as listing
use Rattle.wa_text.specs.Mnemonics.{access_names, name_in, plain_names}
use Rattle.wa_text.specs.Words.{Word, Line, line, word, u32}
use Rattle.wa_text.proofs.Rows.{code_in, each_passes, has_number, has_number-is}
use Rattle.wa_text.proofs.OneItem.{IsOne, IsWhole, any, pair, one-pair, one-as, one-single, whole, one-each, one-line, whole-following, one-u32, one-u64, one-block_result, one-head, one-labels}

-- ---- names of opcodes

-- what holds of each row holds of the one that an opcode has
first_or_later : (P : ℕ → Word → Type 0) (row : ℕ × Word) (rest : Option Word) (op : ℕ) (w : Word) (b : Bool) → (row.0 == op) ≡ b → P row.0 row.1 → (rest ≡ Some w → P op w) → cond b (Some row.1) rest ≡ Some w → P op w
first_or_later P row rest op w true same first later found =
    let word : row.1 ≡ w = cc in
    subst (λ (v : Word). P op v) word (subst (λ (n : ℕ). P n row.1) (eqb-true row.0 op same) first)
first_or_later P row rest op w false other first later found = later found

pub row_holds : (P : ℕ → Word → Type 0) (rows : List (ℕ × Word)) (op : ℕ) (w : Word) → AllByRecursion (λ (row : ℕ × Word). P row.0 row.1) rows → name_in rows op ≡ Some w → P op w
row_holds P [] op w h is = let no : ⊥ = cc in absurd no
row_holds P (row ∷ rows) op w h is =
    first_or_later P row (name_in rows op) op w (row.0 == op) refl h.0 (λ found. row_holds P rows op w h.1 found) is

-- each row is the only one of its name
plain_once : AllByRecursion (λ (row : ℕ × Word). code_in plain_names row.1 ≡ Some row.0) plain_names
unfolding code_in
plain_once = each_passes (λ row. has_number (code_in plain_names row.1) row.0) (λ row. code_in plain_names row.1 ≡ Some row.0) (λ row h. has_number-is (code_in plain_names row.1) row.0 h) plain_names refl

access_once : AllByRecursion (λ (row : ℕ × Word). code_in access_names row.1 ≡ Some row.0) access_names
unfolding code_in
access_once = each_passes (λ row. has_number (code_in access_names row.1) row.0) (λ row. code_in access_names row.1 ≡ Some row.0) (λ row h. has_number-is (code_in access_names row.1) row.0 h) access_names refl

whole_named : (names : List (ℕ × Word)) → AllByRecursion (λ (row : ℕ × Word). code_in names row.1 ≡ Some row.0) names → IsWhole (named names)
whole_named names once = record {
  one = λ v w s h k.
      let first = row_holds (λ op name. code_in names name ≡ Some op) names v h.0 once h.1 in
      let second = row_holds (λ op name. code_in names name ≡ Some op) names w k.0 once k.1 in
      let rows : h.0 ∷ [] ≡ k.0 ∷ [] = sym h.2 ∙ k.2 in
      let words : h.0 ≡ k.0 = cc in
      let codes_are : Some v ≡ Some w = sym first ∙ ap (code_in names) words ∙ second in
      cc;
}

-- ---- the kind of an instruction, by its first word

unfoldable pub special : List (ℕ × Word)
special =
    (2, codes "block") ∷ (3, codes "loop") ∷ (4, codes "if") ∷ (5, codes "br") ∷ (6, codes "br_if") ∷ (7, codes "br_table") ∷ (8, codes "call")
    ∷ (9, codes "call_indirect") ∷ (10, codes "local.get") ∷ (11, codes "local.set") ∷ (12, codes "local.tee") ∷ (13, codes "global.get")
    ∷ (14, codes "global.set") ∷ (15, codes "i32.const") ∷ (16, codes "i64.const") ∷ (17, codes "end") ∷ (18, codes "else") ∷ []

unfoldable pub is_some : Option ℕ → Bool
is_some None = false
is_some (Some n) = true

unfoldable pub or_table : Option ℕ → Bool → ℕ
or_table (Some n) plain = n
or_table None true = 0
or_table None false = 1

unfoldable pub kind_of : Word → ℕ
kind_of w = or_table (code_in special w) (is_some (code_in plain_names w))

pub plain_kinds : AllByRecursion (λ (row : ℕ × Word). kind_of row.1 ≡ 0) plain_names
unfolding kind_of or_table special is_some code_in
plain_kinds = each_passes (λ row. kind_of row.1 == 0) (λ row. kind_of row.1 ≡ 0) (λ row h. eqb-true (kind_of row.1) 0 h) plain_names refl

pub access_kinds : AllByRecursion (λ (row : ℕ × Word). kind_of row.1 ≡ 1) access_names
unfolding kind_of or_table special is_some code_in
access_kinds = each_passes (λ row. kind_of row.1 == 1) (λ row. kind_of row.1 ≡ 1) (λ row h. eqb-true (kind_of row.1) 1 h) access_names refl

abbrev pub number : Instr-F Instr → ℕ
number (Instr-F.Plain op) = 0
number (Instr-F.Memory op align offset) = 1
number (Instr-F.Block t body) = 2
number (Instr-F.Loop t body) = 3
number (Instr-F.If t branches) = 4
number (Instr-F.Br l) = 5
number (Instr-F.BrIf l) = 6
number (Instr-F.BrTable targets) = 7
number (Instr-F.Call x) = 8
number (Instr-F.CallIndirect x) = 9
number (Instr-F.LocalGet x) = 10
number (Instr-F.LocalSet x) = 11
number (Instr-F.LocalTee x) = 12
number (Instr-F.GlobalGet x) = 13
number (Instr-F.GlobalSet x) = 14
number (Instr-F.I32Const n) = 15
number (Instr-F.I64Const n) = 16

-- the lines begin with a line of such a first word
pub record Begins (kind : ℕ) (s : List Line) : Type 0 where
  pub first : Word
  pub rest : Line
  pub more : List Line
  pub lines : s ≡ (first ∷ rest) ∷ more
  pub is : kind_of first ≡ kind

begins_line : {w : Word} {F : Form Word} {kind : ℕ} (s : List Line) → line (word w then F) s → kind_of w ≡ kind → Begins kind s
begins_line {w} s h is = record {
  first = w;
  rest = h.1.1;
  more = [];
  lines = h.2 ∙ ap (λ (words : Line). words ∷ []) (h.1.2 ∙ ap (λ (front : List Word). front ++ h.1.1) h.1.3);
  is = is;
}

pub begins_front : {kind : ℕ} (s x : List Line) → Begins kind s → Begins kind (s ++ x)
begins_front s x h = record { first = h.first; rest = h.rest; more = h.more ++ x; lines = ap (λ (front : List Line). front ++ x) h.lines; is = h.is }

pub begins_then : {kind : ℕ} (s front back : List Line) → s ≡ front ++ back → Begins kind front → Begins kind s
begins_then {kind} s front back is h = subst (Begins kind) (sym is) (begins_front front back h)

pub same_kind : {m n : ℕ} (s : List Line) → Begins m s → Begins n s → m ≡ n
same_kind s h k =
    let rows : (h.first ∷ h.rest) ∷ h.more ≡ (k.first ∷ k.rest) ∷ k.more = sym h.lines ∙ k.lines in
    let words : h.first ≡ k.first = cc in
    sym h.is ∙ ap kind_of words ∙ k.is

begins_name : (names : List (ℕ × Word)) (kind op : ℕ) (s : List Line) (w : Word) (rest : Line) → AllByRecursion (λ (row : ℕ × Word). kind_of row.1 ≡ kind) names → name_in names op ≡ Some w → s ≡ (w ∷ rest) ∷ [] → Begins kind s
begins_name names kind op s w rest kinds named_so lines =
    record { first = w; rest = rest; more = []; lines = lines; is = row_holds (λ o v. kind_of v ≡ kind) names op w kinds named_so }

pub end_begins : (s : List Line) → end s → Begins 17 s
unfolding kind_of or_table special is_some code_in
end_begins s h = record { first = codes "end"; rest = []; more = []; lines = h.2 ∙ ap (λ (words : Line). words ∷ []) h.1; is = refl }

pub else_begins : (s : List Line) → line (word (codes "else")) s → Begins 18 s
unfolding kind_of or_table special is_some code_in
else_begins s h = record { first = codes "else"; rest = []; more = []; lines = h.2 ∙ ap (λ (words : Line). words ∷ []) h.1; is = refl }

pub layer_begins : (Body : List Instr → Form Line) (layer : Instr-F Instr) (s : List Line) → instr_over Body layer s → Begins (number layer) s
unfolding kind_of or_table special is_some code_in
layer_begins Body (Instr-F.Plain op) s h = begins_name plain_names 0 op s h.1.0 [] plain_kinds h.1.1 (h.2 ∙ ap (λ (words : Line). words ∷ []) h.1.2)
layer_begins Body (Instr-F.Memory op align offset) s h =
    begins_name access_names 1 op s h.1.3.0 h.1.1 access_kinds h.1.3.1 (h.2 ∙ ap (λ (words : Line). words ∷ []) (h.1.2 ∙ ap (λ (front : List Word). front ++ h.1.1) h.1.3.2))
layer_begins Body (Instr-F.Block t body) s h = begins_then s h.0 h.1 h.2 (begins_line h.0 h.3 refl)
layer_begins Body (Instr-F.Loop t body) s h = begins_then s h.0 h.1 h.2 (begins_line h.0 h.3 refl)
layer_begins Body (Instr-F.If t branches) s h = begins_then s h.0 h.1 h.2 (begins_line h.0 h.3 refl)
layer_begins Body (Instr-F.Br l) s h = begins_line s h refl
layer_begins Body (Instr-F.BrIf l) s h = begins_line s h refl
layer_begins Body (Instr-F.BrTable targets) s h = begins_line s h refl
layer_begins Body (Instr-F.Call x) s h = begins_line s h refl
layer_begins Body (Instr-F.CallIndirect x) s h = begins_line s h refl
layer_begins Body (Instr-F.LocalGet x) s h = begins_line s h refl
layer_begins Body (Instr-F.LocalSet x) s h = begins_line s h refl
layer_begins Body (Instr-F.LocalTee x) s h = begins_line s h refl
layer_begins Body (Instr-F.GlobalGet x) s h = begins_line s h refl
layer_begins Body (Instr-F.GlobalSet x) s h = begins_line s h refl
layer_begins Body (Instr-F.I32Const n) s h = begins_line s h refl
layer_begins Body (Instr-F.I64Const n) s h = begins_line s h refl

number_below : (layer : Instr-F Instr) → number layer ≤ 16
number_below (Instr-F.Plain op) = omega arith
number_below (Instr-F.Memory op align offset) = omega arith
number_below (Instr-F.Block t body) = omega arith
number_below (Instr-F.Loop t body) = omega arith
number_below (Instr-F.If t branches) = omega arith
number_below (Instr-F.Br l) = omega arith
number_below (Instr-F.BrIf l) = omega arith
number_below (Instr-F.BrTable targets) = omega arith
number_below (Instr-F.Call x) = omega arith
number_below (Instr-F.CallIndirect x) = omega arith
number_below (Instr-F.LocalGet x) = omega arith
number_below (Instr-F.LocalSet x) = omega arith
number_below (Instr-F.LocalTee x) = omega arith
number_below (Instr-F.GlobalGet x) = omega arith
number_below (Instr-F.GlobalSet x) = omega arith
number_below (Instr-F.I32Const n) = omega arith
number_below (Instr-F.I64Const n) = omega arith

-- ---- instructions

-- lines that begin with an `end` or an `else`
abbrev pub Stops : Form Line
Stops s = (kind : ℕ) × (17 ≤ kind) × Begins kind s

-- no value begins so
pub record GoesOn {V : Type 0} (F : V → Form Line) : Type 0 where
  pub never : (v : V) (s x : List Line) → F v s → Stops (s ++ x) → ⊥

-- an `end` alone
abbrev pub the_end : Unit {0} → Form Line
the_end u = end

pub one_the_end : IsOne any the_end
one_the_end = one-single any (λ u s h. (h.0, h.2)) (record { one = λ v w s h k. refl })

end_stops : (u : Unit {0}) (s x : List Line) → the_end u s → any x → Stops (s ++ x)
end_stops u s x h follows = (17, omega arith, begins_front s x (end_begins s h))

-- what a block holds, and its end
one_body : {Body : List Instr → Form Line} → IsOne Stops Body → IsOne any (λ (body : List Instr). Body body then end)
one_body {Body} one_Body = one-as {P = pair Body the_end} (λ (body : List Instr). (body, tt)) (λ v w same. ap (λ (p : List Instr × Unit {0}). p.0) same) (λ v s h. h) (one-pair one_Body one_the_end end_stops)

one_else_end : {Body : List Instr → Form Line} → IsOne Stops Body → (v w : List Instr) (a b x y : List Line) → else_end Body v a → else_end Body w b → any x → any y → a ++ x ≡ b ++ y → (a ≡ b) × (v ≡ w)
one_else_end one_Body [] [] a b x y h k follows goes same = ((one_the_end.one tt tt a b x y h k tt tt same).0, refl)
one_else_end one_Body [] (j ∷ js) a b x y h k follows goes same =
    let kinds : 17 ≡ 18 = same_kind (b ++ y) (subst (Begins 17) same (begins_front a x (end_begins a h))) (begins_front b y (begins_then b k.0 k.1 k.2 (else_begins k.0 k.3))) in
    absurd (omega (arith, kinds))
one_else_end one_Body (i ∷ is) [] a b x y h k follows goes same =
    let kinds : 18 ≡ 17 = same_kind (b ++ y) (subst (Begins 18) same (begins_front a x (begins_then a h.0 h.1 h.2 (else_begins h.0 h.3)))) (begins_front b y (end_begins b k)) in
    absurd (omega (arith, kinds))
one_else_end {Body} one_Body (i ∷ is) (j ∷ js) a b x y h k follows goes same =
    let both = (one-pair one_else (one_body one_Body) (λ v s z g after. tt)).one (tt, (i ∷ is)) (tt, (j ∷ js)) a b x y h k tt tt same in
    (both.0, ap (λ (p : Unit {0} × List Instr). p.1) both.1)
  where
    one_else : IsOne any (λ (u : Unit {0}). line (word (codes "else")))
    one_else = one-single any (λ u s h. (h.0, h.2)) (record { one = λ v w s h k. refl })

else_end_stops : (Body : List Instr → Form Line) (v : List Instr) (s x : List Line) → else_end Body v s → any x → Stops (s ++ x)
else_end_stops Body [] s x h follows = end_stops tt s x h tt
else_end_stops Body (i ∷ is) s x h follows = (18, omega arith, begins_front s x (begins_then s h.0 h.1 h.2 (else_begins h.0 h.3)))

one_begin : (w : Word) → IsOne any (begin w)
one_begin w = one-line (whole-following w one-block_result)

one_indexed : (w : Word) → IsOne any (indexed w)
one_indexed w = one-line (whole-following w (one-u32 nothing))

one_access : IsWhole (λ (p : ℕ × (ℕ × ℕ)). named access_names p.0 then u32 p.1.0 then u32 p.1.1)
one_access = whole (one-pair (one-single any (λ v s h. (h.0, h.2)) (whole_named access_names access_once)) (one-pair (one-u32 any) (one-u32 nothing) (λ v s x h ends. tt)) (λ v s x h ends. tt))

one_layer : {Body : List Instr → Form Line} → IsOne Stops Body → (layer other : Instr-F Instr) (a b x y : List Line) → instr_over Body layer a → instr_over Body other b → a ++ x ≡ b ++ y → (a ≡ b) × (layer ≡ other)
one_layer one_Body (Instr-F.Plain v) (Instr-F.Plain w) a b x y h k same =
    let both = (one-line (whole_named plain_names plain_once)).one v w a b x y h k tt tt same in
    (both.0, ap (λ (n : ℕ). Instr-F.Plain n) both.1)
one_layer one_Body (Instr-F.Memory o v z) (Instr-F.Memory p w u) a b x y h k same =
    let both = (one-line one_access).one (o, (v, z)) (p, (w, u)) a b x y h k tt tt same in
    (both.0, ap (λ (q : ℕ × (ℕ × ℕ)). Instr-F.Memory q.0 q.1.0 q.1.1) both.1)
one_layer one_Body (Instr-F.Block t v) (Instr-F.Block u w) a b x y h k same =
    let both = (one-pair (one_begin (codes "block")) (one_body one_Body) (λ z s more g follows. tt)).one (t, v) (u, w) a b x y h k tt tt same in
    (both.0, ap (λ (p : Option ValTy × List Instr). Instr-F.Block p.0 p.1) both.1)
one_layer one_Body (Instr-F.Loop t v) (Instr-F.Loop u w) a b x y h k same =
    let both = (one-pair (one_begin (codes "loop")) (one_body one_Body) (λ z s more g follows. tt)).one (t, v) (u, w) a b x y h k tt tt same in
    (both.0, ap (λ (p : Option ValTy × List Instr). Instr-F.Loop p.0 p.1) both.1)
one_layer {Body} one_Body (Instr-F.If t v) (Instr-F.If u w) a b x y h k same =
    let both = (one-pair (one_begin (codes "if")) (one-pair one_Body (record { one = one_else_end one_Body }) (else_end_stops Body)) (λ q s more g follows. tt)).one (t, v) (u, w) a b x y h k tt tt same in
    (both.0, ap (λ (p : Option ValTy × (List Instr × List Instr)). Instr-F.If p.0 p.1) both.1)
one_layer one_Body (Instr-F.Br v) (Instr-F.Br w) a b x y h k same =
    let both = (one_indexed (codes "br")).one v w a b x y h k tt tt same in (both.0, ap (λ (n : ℕ). Instr-F.Br n) both.1)
one_layer one_Body (Instr-F.BrIf v) (Instr-F.BrIf w) a b x y h k same =
    let both = (one_indexed (codes "br_if")).one v w a b x y h k tt tt same in (both.0, ap (λ (n : ℕ). Instr-F.BrIf n) both.1)
one_layer one_Body (Instr-F.BrTable v) (Instr-F.BrTable w) a b x y h k same =
    let both = (one-line one-labels).one v w a b x y h k tt tt same in (both.0, ap (λ (targets : List ℕ × ℕ). Instr-F.BrTable targets) both.1)
one_layer one_Body (Instr-F.Call v) (Instr-F.Call w) a b x y h k same =
    let both = (one_indexed (codes "call")).one v w a b x y h k tt tt same in (both.0, ap (λ (n : ℕ). Instr-F.Call n) both.1)
one_layer one_Body (Instr-F.CallIndirect v) (Instr-F.CallIndirect w) a b x y h k same =
    let both = (one_indexed (codes "call_indirect")).one v w a b x y h k tt tt same in (both.0, ap (λ (n : ℕ). Instr-F.CallIndirect n) both.1)
one_layer one_Body (Instr-F.LocalGet v) (Instr-F.LocalGet w) a b x y h k same =
    let both = (one_indexed (codes "local.get")).one v w a b x y h k tt tt same in (both.0, ap (λ (n : ℕ). Instr-F.LocalGet n) both.1)
one_layer one_Body (Instr-F.LocalSet v) (Instr-F.LocalSet w) a b x y h k same =
    let both = (one_indexed (codes "local.set")).one v w a b x y h k tt tt same in (both.0, ap (λ (n : ℕ). Instr-F.LocalSet n) both.1)
one_layer one_Body (Instr-F.LocalTee v) (Instr-F.LocalTee w) a b x y h k same =
    let both = (one_indexed (codes "local.tee")).one v w a b x y h k tt tt same in (both.0, ap (λ (n : ℕ). Instr-F.LocalTee n) both.1)
one_layer one_Body (Instr-F.GlobalGet v) (Instr-F.GlobalGet w) a b x y h k same =
    let both = (one_indexed (codes "global.get")).one v w a b x y h k tt tt same in (both.0, ap (λ (n : ℕ). Instr-F.GlobalGet n) both.1)
one_layer one_Body (Instr-F.GlobalSet v) (Instr-F.GlobalSet w) a b x y h k same =
    let both = (one_indexed (codes "global.set")).one v w a b x y h k tt tt same in (both.0, ap (λ (n : ℕ). Instr-F.GlobalSet n) both.1)
one_layer one_Body (Instr-F.I32Const v) (Instr-F.I32Const w) a b x y h k same =
    let both = (one_indexed (codes "i32.const")).one v w a b x y h k tt tt same in (both.0, ap (λ (n : ℕ). Instr-F.I32Const n) both.1)
one_layer one_Body (Instr-F.I64Const v) (Instr-F.I64Const w) a b x y h k same =
    let both = (one-line (whole-following (codes "i64.const") (one-u64 nothing))).one v w a b x y h k tt tt same in (both.0, ap (λ (n : ℕ). Instr-F.I64Const n) both.1)
one_layer {Body} one_Body layer other a b x y h k same =
    let kinds : number layer ≡ number other = same_kind (b ++ y) (subst (Begins (number layer)) same (begins_front a x (layer_begins Body layer a h))) (begins_front b y (layer_begins Body other b k)) in
    absurd (omega (arith, kinds))

layer_goes_on : (Body : List Instr → Form Line) (layer : Instr-F Instr) (s x : List Line) → instr_over Body layer s → Stops (s ++ x) → ⊥
layer_goes_on Body layer s x h stops =
    let kinds : number layer ≡ stops.0 = same_kind (s ++ x) (begins_front s x (layer_begins Body layer s h)) stops.2 in
    omega (arith, kinds, stops.1, number_below layer)

pub instr-goes_on : (levels : ℕ) (i : Instr) (s x : List Line) → instr levels i s → Stops (s ++ x) → ⊥
unfolding instr
instr-goes_on zero i s x h stops = layer_goes_on (λ body lines. ⊥) (out-Instr i) s x h stops
instr-goes_on (suc levels) i s x h stops = layer_goes_on (each (instr levels)) (out-Instr i) s x h stops

pub one-instr : (levels : ℕ) → IsOne any (instr levels)
unfolding instr
one-instr zero = record {
  one = λ v w a b x y h k follows goes same.
      let both = one_layer {Body = λ body lines. ⊥} (record { one = λ p q c d e f no. absurd no }) (out-Instr v) (out-Instr w) a b x y h k same in
      (both.0, sym (roll-out-Instr v) ∙ ap roll-Instr both.1 ∙ roll-out-Instr w);
}
one-instr (suc levels) = record {
  one = λ v w a b x y h k follows goes same.
      let both = one_layer {Body = each (instr levels)} (one-each (one-instr levels) (instr-goes_on levels)) (out-Instr v) (out-Instr w) a b x y h k same in
      (both.0, sym (roll-out-Instr v) ∙ ap roll-Instr both.1 ∙ roll-out-Instr w);
}

one_expr : IsOne any expr
one_expr = one_body (one-each (one-instr max_nesting) (instr-goes_on max_nesting))

pub one-func : IsOne any listing.func
one-func = one-as {P = pair (λ (p : ℕ × List ValTy). line (word (codes "func") then u32 p.0 then listing.locals p.1)) expr} (λ (f : Func). ((f.ty, f.locals), f.body))
    (λ v w same. ap (λ (p : (ℕ × List ValTy) × List Instr). let f : Func = record { ty = p.0.0; locals = p.0.1; body = p.1 } in f) same)
    (λ v s h. h)
    (one-pair (one-line one-head) one_expr (λ v s x h follows. tt))
