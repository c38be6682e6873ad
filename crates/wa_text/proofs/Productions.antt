-- The productions: instructions, items and modules.
use Rattle.std.proofs.Common.{◌≡◌, ◌≢◌, ℕ, zero, suc, List, [], ◌∷◌, ◌++◌, Option, Some, None, Result, OnOk, refl, sym, ap, subst, ◌∙◌, append_assoc, replicate}
use Rattle.std.specs.Prelude.{codes, decimal}
use Rattle.hex.specs.Hex.{encode_lower}
use Rattle.std.proofs.lemmas.Result.{on_ok_weaker}
use Rattle.wa_syntax.specs.declared.instr.Instr.{Instr, out-Instr, out-roll-Instr, roll-Instr}
use Rattle.wa_syntax.specs.declared.instr.Instr.TheOpen.{Instr-F}
use Rattle.wa_syntax.specs.declared.instr.Instr.TheVariants as variant
use Rattle.wa_syntax.specs.declared.locals.LocalRun.{LocalRun}
use Rattle.wa_syntax.specs.declared.module.Module.{Module}
use Rattle.wa_syntax.specs.declared.module.ValTy.{ValTy}
use Rattle.wa_syntax.specs.Locals.{types_of_runs}
use Rattle.wa_text.specs.Forms.{Form, ◌then◌, each}
use Rattle.wa_text.specs.Instructions.{begin, else_end, end, instr, instr_over, named}
use Rattle.wa_text.specs.Mnemonics.{name_in}
use Rattle.wa_text.specs.Listing.{IsListing, locals, module_lines}
use Rattle.wa_text.specs.Words.{Word, Line, bytes, line, number, text_of, val, word}
use Rattle.wa_text.specs.Writing.{AddsWords, AddsLines}
use Rattle.wa_text.proofs.Adding.{Adds-as, Adds-then, Adds-word}

-- ---- names of opcodes

-- the one name of an opcode
pub only_name : (names : List (ℕ × Word)) (opcode : ℕ) (w : Word) → name_in names opcode ≡ Some w → (other : List Word) → named names opcode other → other ≡ w ∷ []
only_name names opcode w is other h =
    let same : Some h.0 ≡ Some w = sym h.1 ∙ is in
    let words : h.0 ≡ w = cc in
    h.2 ∙ ap (λ (v : Word). v ∷ []) words

pub no_name : (names : List (ℕ × Word)) (opcode : ℕ) → name_in names opcode ≡ None → (other : List Word) → named names opcode other → ⊥
no_name names opcode none other h =
    let same : Some h.0 ≡ None = sym h.1 ∙ none in
    cc

-- ---- instructions

-- one layer of an instruction
pub layer_of : (i made : Instr) (layer : Instr-F Instr) → i ≡ made → roll-Instr layer ≡ made → out-Instr i ≡ layer
layer_of i made layer is rolls = ap out-Instr (is ∙ sym rolls) ∙ out-roll-Instr layer

-- an instruction that holds no others
pub Adds-instr : (i : Instr) (layer : Instr-F Instr) (old new : List ℕ) → out-Instr i ≡ layer → ((Body : List Instr → Form Line) → AddsLines (instr_over Body layer) old new) → (levels : ℕ) → AddsLines (instr levels i) old new
unfolding instr
Adds-instr i layer old new is h zero = subst (λ (l : Instr-F Instr). AddsLines (instr_over (λ body lines. ⊥) l) old new) (sym is) (h (λ body lines. ⊥))
Adds-instr i layer old new is h (suc levels) = subst (λ (l : Instr-F Instr). AddsLines (instr_over (each (instr levels)) l) old new) (sym is) (h (each (instr levels)))

pub Ok-instr : {T E : Type 0} (r : Result T E) (F : Form Line) (i made : Instr) (layer : Instr-F Instr) (old new : List ℕ) → i ≡ made → roll-Instr layer ≡ made → ((Body : List Instr → Form Line) → AddsLines F old new → AddsLines (instr_over Body layer) old new) → OnOk r (AddsLines F old new) → OnOk r ((levels : ℕ) → AddsLines (instr levels i) old new)
Ok-instr r F i made layer old new is rolls over h =
    on_ok_weaker {P = AddsLines F old new} {Q = (levels : ℕ) → AddsLines (instr levels i) old new} r (λ k. Adds-instr i layer old new (layer_of i made layer is rolls) (λ Body. over Body k)) h

-- one that holds others, which none does where no block may be open
pub Adds-holding : (i : Instr) (layer : Instr-F Instr) (old new : List ℕ) → out-Instr i ≡ layer → ((other : List Line) → instr_over (λ body lines. ⊥) layer other → ⊥) → ((levels : ℕ) → AddsLines (instr_over (each (instr levels)) layer) old new) → (levels : ℕ) → AddsLines (instr levels i) old new
unfolding instr
Adds-holding i layer old new is never h zero = subst (λ (l : Instr-F Instr). AddsLines (instr_over (λ body lines. ⊥) l) old new) (sym is) (Adds-as {A = instr_over (each (instr 0)) layer} (instr_over (λ body lines. ⊥) layer) (λ other spelled. absurd (never other spelled)) (h 0))
Adds-holding i layer old new is never h (suc levels) = subst (λ (l : Instr-F Instr). AddsLines (instr_over (each (instr levels)) l) old new) (sym is) (h levels)

-- the answers of the calls
pub Ok-expression : {T E : Type 0} (r : Result T E) (body : List Instr) (old middle new : List ℕ) → ((levels : ℕ) → AddsLines (each (instr levels) body) old middle) → OnOk r (AddsLines end middle new) → OnOk r ((levels : ℕ) → AddsLines (each (instr levels) body then end) old new)
Ok-expression r body old middle new h =
    on_ok_weaker {P = AddsLines end middle new} {Q = (levels : ℕ) → AddsLines (each (instr levels) body then end) old new} r (λ last levels. Adds-then (h levels) last)

Adds-no_else : (Body : List Instr → Form Line) (branch : List Instr) (old new : List ℕ) → branch ≡ [] → AddsLines end old new → AddsLines (else_end Body branch) old new
Adds-no_else Body branch old new empty h = subst (λ (list : List Instr). AddsLines (else_end Body list) old new) (sym empty) h

pub Ok-no_else : {T E : Type 0} (r : Result T E) (branch : List Instr) (old new : List ℕ) → branch ≡ [] → OnOk r (AddsLines end old new) → OnOk r ((levels : ℕ) → AddsLines (else_end (each (instr levels)) branch) old new)
Ok-no_else r branch old new empty =
    on_ok_weaker {P = AddsLines end old new} {Q = (levels : ℕ) → AddsLines (else_end (each (instr levels)) branch) old new} r (λ last levels. Adds-no_else (each (instr levels)) branch old new empty last)

Adds-else : (Body : List Instr → Form Line) (branch : List Instr) (old middle new : List ℕ) → branch ≢ [] → AddsLines (line (word (codes "else"))) old middle → AddsLines (Body branch then end) middle new → AddsLines (else_end Body branch) old new
Adds-else Body [] old middle new some h k = absurd (some refl)
Adds-else Body (i ∷ is) old middle new some h k = Adds-then h k

pub Ok-else : {T E : Type 0} (r : Result T E) (branch : List Instr) (old middle new : List ℕ) → branch ≢ [] → AddsLines (line (word (codes "else"))) old middle → OnOk r ((levels : ℕ) → AddsLines (each (instr levels) branch then end) middle new) → OnOk r ((levels : ℕ) → AddsLines (else_end (each (instr levels)) branch) old new)
Ok-else r branch old middle new some h =
    on_ok_weaker {P = (levels : ℕ) → AddsLines (each (instr levels) branch then end) middle new} {Q = (levels : ℕ) → AddsLines (else_end (each (instr levels)) branch) old new} r (λ last levels. Adds-else (each (instr levels)) branch old middle new some h (last levels))

pub Ok-Block : {T E : Type 0} (r : Result T E) (i : Instr) (t : Option ValTy) (given body : List Instr) (old middle new : List ℕ) → i ≡ variant.Block t body → given ≡ body → AddsLines (begin (codes "block") t) old middle → OnOk r ((levels : ℕ) → AddsLines (each (instr levels) given then end) middle new) → OnOk r ((levels : ℕ) → AddsLines (instr levels i) old new)
Ok-Block r i t given body old middle new is same h =
    on_ok_weaker {P = (levels : ℕ) → AddsLines (each (instr levels) given then end) middle new} {Q = (levels : ℕ) → AddsLines (instr levels i) old new} r (λ last.
    Adds-holding i (Instr-F.Block t body) old new (layer_of i (variant.Block t body) (Instr-F.Block t body) is (variant.rolls-Block t body)) (λ other spelled. spelled.4.3)
    (λ levels. subst (λ (instrs : List Instr). AddsLines (begin (codes "block") t then each (instr levels) instrs then end) old new) same (Adds-then h (last levels))))

pub Ok-Loop : {T E : Type 0} (r : Result T E) (i : Instr) (t : Option ValTy) (given body : List Instr) (old middle new : List ℕ) → i ≡ variant.Loop t body → given ≡ body → AddsLines (begin (codes "loop") t) old middle → OnOk r ((levels : ℕ) → AddsLines (each (instr levels) given then end) middle new) → OnOk r ((levels : ℕ) → AddsLines (instr levels i) old new)
Ok-Loop r i t given body old middle new is same h =
    on_ok_weaker {P = (levels : ℕ) → AddsLines (each (instr levels) given then end) middle new} {Q = (levels : ℕ) → AddsLines (instr levels i) old new} r (λ last.
    Adds-holding i (Instr-F.Loop t body) old new (layer_of i (variant.Loop t body) (Instr-F.Loop t body) is (variant.rolls-Loop t body)) (λ other spelled. spelled.4.3)
    (λ levels. subst (λ (instrs : List Instr). AddsLines (begin (codes "loop") t then each (instr levels) instrs then end) old new) same (Adds-then h (last levels))))

pub Ok-If : {T E : Type 0} (r : Result T E) (i : Instr) (t : Option ValTy) (branches : List Instr × List Instr) (given other : List Instr) (old middle after new : List ℕ) → i ≡ variant.If t branches → given ≡ branches.0 → other ≡ branches.1 → AddsLines (begin (codes "if") t) old middle → ((levels : ℕ) → AddsLines (each (instr levels) given) middle after) → OnOk r ((levels : ℕ) → AddsLines (else_end (each (instr levels)) other) after new) → OnOk r ((levels : ℕ) → AddsLines (instr levels i) old new)
Ok-If r i t branches given other old middle after new is same same_branch h k =
    on_ok_weaker {P = (levels : ℕ) → AddsLines (else_end (each (instr levels)) other) after new} {Q = (levels : ℕ) → AddsLines (instr levels i) old new} r (λ last.
    Adds-holding i (Instr-F.If t branches) old new (layer_of i (variant.If t branches) (Instr-F.If t branches) is (variant.rolls-If t branches)) (λ lines spelled. spelled.4.3)
    (λ levels. subst (λ (instrs : List Instr). AddsLines (begin (codes "if") t then each (instr levels) branches.0 then else_end (each (instr levels)) instrs) old new) same_branch
    (subst (λ (instrs : List Instr). AddsLines (begin (codes "if") t then each (instr levels) instrs then else_end (each (instr levels)) other) old new) same (Adds-then h (Adds-then (k levels) (last levels))))))

-- ---- locals

-- values in two lists
each_append : {X V : Type 0} (F : V → Form X) (vs ws : List V) (xs : List X) → each F (vs ++ ws) xs → (each F vs then each F ws) xs
each_append F [] ws xs h = ([], xs, refl, refl, h)
each_append F (v ∷ vs) ws xs h =
    let rest = each_append F vs ws h.1 h.4 in
    (h.0 ++ rest.0, rest.1, h.2 ∙ ap (λ back. h.0 ++ back) rest.2 ∙ sym (append_assoc h.0 rest.0 rest.1), (h.0, rest.0, refl, h.3, rest.3), rest.4)

-- the types of a run, and after it those of others
pub each_run : (run : LocalRun) (runs : List LocalRun) (words : List Word) → each val (types_of_runs (run ∷ runs)) words → (each val (replicate run.count run.ty) then each val (types_of_runs runs)) words
each_run run runs words h = each_append val (replicate run.count run.ty) (types_of_runs runs) words h

-- runs as the types that they denote
runs_apart : (runs : List LocalRun) (words : List Word) → each val (types_of_runs runs) words → each (λ run. each val (replicate run.count run.ty)) runs words
runs_apart [] words h = h
runs_apart (run ∷ runs) words h =
    let apart = each_run run runs words h in
    (apart.0, apart.1, apart.2, apart.3, runs_apart runs apart.1 apart.4)

pub Adds-runs : (runs : List LocalRun) (types : List ValTy) (old new : List ℕ) → types_of_runs runs ≡ types → AddsWords (each (λ run. each val (replicate run.count run.ty)) runs) old new → AddsWords (each val types) old new
Adds-runs runs types old new same h =
    subst (λ (list : List ValTy). AddsWords (each val list) old new) same (Adds-as {A = each (λ (run : LocalRun). each val (replicate run.count run.ty)) runs} (each val (types_of_runs runs)) (runs_apart runs) h)

pub Adds-locals : (runs : List LocalRun) (types : List ValTy) (old new : List ℕ) → types_of_runs runs ≡ types → AddsWords (each (λ run. each val (replicate run.count run.ty)) runs) old new → AddsWords (locals types) old new
Adds-locals runs types old new same h = Adds-as {A = each val types} (locals types) (λ other spelled. spelled.1) (Adds-runs runs types old new same h)

pub replicate_more : (n m : ℕ) (ty : ValTy) → n ≡ suc m → replicate n ty ≡ ty ∷ replicate m ty
replicate_more n m ty is = ap (λ (count : ℕ). replicate count ty) is

pub replicate_none : (n : ℕ) (ty : ValTy) → n ≡ 0 → replicate n ty ≡ []
replicate_none n ty is = ap (λ (count : ℕ). replicate count ty) is

-- ---- words

pub Adds-number : (bits n : ℕ) (w : Word) (old new : List ℕ) → w ≡ decimal n → AddsWords (word w) old new → AddsWords (number bits n) old new
Adds-number bits n w old new same h = Adds-as {A = word w} (number bits n) (λ other spelled. spelled.1 ∙ ap (λ (v : Word). v ∷ []) (sym same)) h

pub Ok-number : {T E : Type 0} (r : Result T E) (n : ℕ) (w : Word) (old new : List ℕ) → w ≡ decimal n → OnOk r (AddsWords (word w) old new) → OnOk r ((bits : ℕ) → AddsWords (number bits n) old new)
Ok-number r n w old new same = on_ok_weaker {P = AddsWords (word w) old new} {Q = (bits : ℕ) → AddsWords (number bits n) old new} r (λ h bits. Adds-number bits n w old new same h)

pub Ok-bits : {T E : Type 0} (r : Result T E) (bits n : ℕ) (old new : List ℕ) → OnOk r ((all : ℕ) → AddsWords (number all n) old new) → OnOk r (AddsWords (number bits n) old new)
Ok-bits r bits n old new = on_ok_weaker {P = (all : ℕ) → AddsWords (number all n) old new} {Q = AddsWords (number bits n) old new} r (λ h. h bits)

pub named_line : (names : List (ℕ × Word)) (opcode : ℕ) (w : Word) (old new : List ℕ) → name_in names opcode ≡ Some w → AddsLines (line (word w)) old new → AddsLines (line (named names opcode)) old new
named_line names opcode w old new is h = Adds-as {A = line (word w)} (line (named names opcode)) (λ other spelled. (spelled.0, only_name names opcode w is spelled.0 spelled.1, spelled.2)) h

pub Adds-no_bytes : (bs : List ℕ) (old new : List ℕ) → bs ≡ [] → AddsWords (word (codes "-")) old new → AddsWords (bytes bs) old new
Adds-no_bytes bs old new empty h = subst (λ (list : List ℕ). AddsWords (bytes list) old new) (sym empty) (Adds-as {A = word (codes "-")} (bytes []) (λ other spelled. spelled.1) h)

pub Adds-bytes : (bs : List ℕ) (old begun new : List ℕ) → bs ≢ [] → begun ≡ old ++ 32 ∷ [] → new ≡ begun ++ encode_lower bs → AddsWords (bytes bs) old new
Adds-bytes [] old begun new some begins is = absurd (some refl)
Adds-bytes (b ∷ bs) old begun new some begins is =
    Adds-as {A = word (encode_lower (b ∷ bs))} (bytes (b ∷ bs)) (λ other spelled. spelled.1)
    (Adds-word (encode_lower (b ∷ bs)) old new (is ∙ ap (λ (text : List ℕ). text ++ encode_lower (b ∷ bs)) begins ∙ append_assoc old (32 ∷ []) (encode_lower (b ∷ bs))))

-- ---- the module

pub only_listing : (m : Module) (text other old : List ℕ) → old ≡ [] → AddsLines (module_lines m) old text → IsListing other m → other ≡ text
only_listing m text other old empty h listing =
    listing.3 ∙ ap text_of (h.only listing.0 listing.1) ∙ sym (h.is ∙ ap (λ (front : List ℕ). front ++ text_of h.items) empty)
