-- Instructions one after another, and what a block says.
use Rattle.std.proofs.Common.{◌≡◌, ℕ, ◌+◌, ◌<◌, ◌≤◌, List, [], ◌∷◌, ◌++◌, map, length, get_or, take, drop, refl, sym, ap, subst, ◌∙◌}
use Rattle.std.specs.Prelude.{Option, option_to_list, Result}
use Rattle.std.proofs.lemmas.List.{reverse-append, map-append, map_more, take-append-drop, drop_more, take_all}
use Rattle.wa_syntax.specs.declared.module.ValTy.{ValTy}
use Rattle.wa_syntax.specs.declared.module.ValTy.TheVariants.{I32}
use Rattle.wa_syntax.specs.declared.instr.Instr.{Instr}
use Rattle.wa_syntax.specs.declared.instr.Instr.TheVariants as i
use Rattle.wa_syntax.specs.Instructions.{Instruction, instruction, sequence, listed}
use Rattle.wa_syntax.specs.Validity.{Context, Gives, IsTyped, AreTyped, with_label}
use Rattle.wa_syntax.proofs.Instructions.{instruction-Block, instruction-Loop, instruction-If}
use Rattle.wa_valid.specs.declared.fault.Fault.{Fault}
use Rattle.wa_valid.specs.Names.{names_in}
use Rattle.wa_valid.specs.Operands.{Stack, no_operands, Fits, Leads, IsStuck, Answers}
use Rattle.wa_valid.specs.declared.instruction.Scope.{Scope}
use Rattle.wa_valid.proofs.Steps.{Leads-then, Leads-stays, IsStuck-then, IsStuck-first}
use Rattle.wa_valid.proofs.Typed.{typed-Block, typed-Loop, typed-If}

AreTyped-append : (c : Context) (xs ys : List Instruction) (before after : List ValTy) → AreTyped c (listed (xs ++ ys)) before after → (middle : List ValTy) × AreTyped c (listed xs) before middle × AreTyped c (listed ys) middle after
AreTyped-append c [] ys before after h = (before, refl, h)
AreTyped-append c (x ∷ xs) ys before after h =
    let rest = AreTyped-append c xs ys h.0 after h.2 in
    (rest.0, (h.0, h.1, rest.1), rest.2)

append-AreTyped : (c : Context) (xs ys : List Instruction) (before middle after : List ValTy) → AreTyped c (listed xs) before middle → AreTyped c (listed ys) middle after → AreTyped c (listed (xs ++ ys)) before after
append-AreTyped c [] ys before middle after h k = subst (λ (m : List ValTy). AreTyped c (listed ys) m after) h k
append-AreTyped c (x ∷ xs) ys before middle after h k = (h.0, h.1, append-AreTyped c xs ys h.0 middle after h.2 k)

-- no instructions, one more, and all of them
pub Leads-none : (c : Context) (instrs : List Instr) (s : Stack) → Leads (AreTyped c (sequence (take 0 instrs))) s s
Leads-none c instrs s = Leads-stays (AreTyped c (sequence (take 0 instrs))) s (λ b. refl) (λ b a h. h)

pub Leads-more : (c : Context) (instrs : List Instr) (i : ℕ) (d : Instr) (old mid new : Stack) → i < length instrs → Leads (AreTyped c (sequence (take i instrs))) old mid → Leads (IsTyped c (instruction (get_or instrs i d))) mid new → Leads (AreTyped c (sequence (take (i + 1) instrs))) old new
Leads-more c instrs i d old mid new within first h =
    let front = map instruction (take i instrs) in
    let next = instruction (get_or instrs i d) in
    subst (λ (all : List Instruction). Leads (AreTyped c (listed all)) old new) (sym (map_more instruction instrs i d within))
    (Leads-then (AreTyped c (listed front)) (IsTyped c next) (AreTyped c (listed (front ++ next ∷ []))) old mid new
    (λ b m a r q. append-AreTyped c front (next ∷ []) b m a r (a, q, refl))
    (λ b a s. (let p = AreTyped-append c front (next ∷ []) b a s in (p.0, p.1, subst (IsTyped c next p.0) (sym p.2.2) p.2.1)))
    first h)

pub Leads-all : (c : Context) (instrs : List Instr) (i : ℕ) (old new : Stack) → length instrs ≤ i → Leads (AreTyped c (sequence (take i instrs))) old new → Leads (AreTyped c (sequence instrs)) old new
Leads-all c instrs i old new end h = subst (λ (all : List Instr). Leads (AreTyped c (sequence all)) old new) (take_all i instrs end) h

-- an instruction that is ill typed after those before it
pub IsStuck-more : (c : Context) (instrs : List Instr) (i : ℕ) (d : Instr) (old mid : Stack) → i < length instrs → Leads (AreTyped c (sequence (take i instrs))) old mid → IsStuck (IsTyped c (instruction (get_or instrs i d))) mid → IsStuck (AreTyped c (sequence instrs)) old
IsStuck-more c instrs i d old mid within first h =
    let front = map instruction (take i instrs) in
    let next = instruction (get_or instrs i d) in
    let rest = map instruction (drop (i + 1) instrs) in
    let all : map instruction instrs ≡ front ++ next ∷ rest = ap (map instruction) (sym (take-append-drop i instrs) ∙ ap (λ (ys : List Instr). take i instrs ++ ys) (drop_more instrs i d within)) ∙ map-append instruction (take i instrs) (get_or instrs i d ∷ drop (i + 1) instrs) in
    subst (λ (is : List Instruction). IsStuck (AreTyped c (listed is)) old) (sym all)
    (IsStuck-then (AreTyped c (listed front)) (AreTyped c (listed (next ∷ rest))) (AreTyped c (listed (front ++ next ∷ rest))) old mid
    (λ b a s. AreTyped-append c front (next ∷ rest) b a s)
    first
    (IsStuck-first (IsTyped c next) (AreTyped c (listed (next ∷ rest))) mid (λ b a s. (s.0, s.1)) h))

-- ---- a block

pub names_in-push : (scope : Scope) (labels : List (Option ValTy)) (label : Option ValTy) → names_in scope (labels ++ label ∷ []) ≡ with_label (option_to_list label) (names_in scope labels)
names_in-push scope labels label =
    ap (λ (outwards : List (Option ValTy)). record (names_in scope labels) { labels = map option_to_list outwards }) (reverse-append labels (label ∷ []))

pub block-typed : (R : List ValTy → List ValTy → Type 0) (begin end : Stack) (types : List ValTy) → begin ≡ no_operands → Leads R begin end → Fits end types → R [] types
block-typed R begin end types is h f =
    let g = h.reached types f in
    let none : g.0 ≡ [] = subst (λ (s : Stack). Fits s g.0) is g.1 in
    subst (λ (b : List ValTy). R b types) none g.2

pub block-unfinished : (R : List ValTy → List ValTy → Type 0) (begin end : Stack) (types : List ValTy) → begin ≡ no_operands → Leads R begin end → ¬ Fits end types → ¬ R [] types
block-unfinished R begin end types is h not =
    λ r. not (h.kept [] types (subst (λ (s : Stack). Fits s []) (sym is) refl) r)

pub block-stuck : (R : List ValTy → List ValTy → Type 0) (begin : Stack) (types : List ValTy) → begin ≡ no_operands → IsStuck R begin → ¬ R [] types
block-stuck R begin types is h = λ r. h.none [] types (subst (λ (s : Stack). Fits s []) (sym is) refl) r

-- ---- as the code has them

pub Leads-next : (scope : Scope) (labels now : List (Option ValTy)) (instrs : List Instr) (i : ℕ) (item : Instr) (old mid new : Stack) → i < length instrs → item ≡ get_or instrs i item → now ≡ labels → Leads (AreTyped (names_in scope labels) (sequence (take i instrs))) old mid → Leads (IsTyped (names_in scope now) (instruction item)) mid new → Leads (AreTyped (names_in scope labels) (sequence (take (i + 1) instrs))) old new
Leads-next scope labels now instrs i item old mid new within is same first h =
    Leads-more (names_in scope labels) instrs i item old mid new within first
    (subst (λ (x : Instr). Leads (IsTyped (names_in scope labels) (instruction x)) mid new) is
    (subst (λ (ls : List (Option ValTy)). Leads (IsTyped (names_in scope ls) (instruction item)) mid new) same h))

pub IsStuck-next : (scope : Scope) (labels now : List (Option ValTy)) (instrs : List Instr) (i : ℕ) (item : Instr) (old mid : Stack) → i < length instrs → item ≡ get_or instrs i item → now ≡ labels → Leads (AreTyped (names_in scope labels) (sequence (take i instrs))) old mid → IsStuck (IsTyped (names_in scope now) (instruction item)) mid → IsStuck (AreTyped (names_in scope labels) (sequence instrs)) old
IsStuck-next scope labels now instrs i item old mid within is same first h =
    IsStuck-more (names_in scope labels) instrs i item old mid within first
    (subst (λ (x : Instr). IsStuck (IsTyped (names_in scope labels) (instruction x)) mid) is
    (subst (λ (ls : List (Option ValTy)). IsStuck (IsTyped (names_in scope ls) (instruction item)) mid) same h))

pub block-answers : (c : Context) (instr : Instr) (result : Option ValTy) (body slice : List Instr) (old new : Stack) (r : Result (Unit {0}) Fault) → instr ≡ i.Block result body → slice ≡ body → AreTyped (with_label (option_to_list result) c) (sequence slice) [] (option_to_list result) → Answers (Gives [] (option_to_list result)) old new r → Answers (IsTyped c (instruction instr)) old new r
block-answers c instr result body slice old new r is same typed h =
    subst (λ (x : Instruction). Answers (IsTyped c x) old new r) (sym (ap instruction is ∙ instruction-Block result body))
    (typed-Block c result (sequence body) old new r (subst (λ (bs : List Instr). AreTyped (with_label (option_to_list result) c) (sequence bs) [] (option_to_list result)) same typed) h)

pub loop-answers : (c : Context) (instr : Instr) (result : Option ValTy) (body slice : List Instr) (old new : Stack) (r : Result (Unit {0}) Fault) → instr ≡ i.Loop result body → slice ≡ body → AreTyped (with_label [] c) (sequence slice) [] (option_to_list result) → Answers (Gives [] (option_to_list result)) old new r → Answers (IsTyped c (instruction instr)) old new r
loop-answers c instr result body slice old new r is same typed h =
    subst (λ (x : Instruction). Answers (IsTyped c x) old new r) (sym (ap instruction is ∙ instruction-Loop result body))
    (typed-Loop c result (sequence body) old new r (subst (λ (bs : List Instr). AreTyped (with_label [] c) (sequence bs) [] (option_to_list result)) same typed) h)

pub if-answers : (c : Context) (instr : Instr) (result : Option ValTy) (arms : List Instr × List Instr) (slice slice' : List Instr) (old new : Stack) (r : Result (Unit {0}) Fault) → instr ≡ i.If result arms → slice ≡ arms.0 → slice' ≡ arms.1 → AreTyped (with_label (option_to_list result) c) (sequence slice) [] (option_to_list result) → AreTyped (with_label (option_to_list result) c) (sequence slice') [] (option_to_list result) → Answers (Gives (I32 ∷ []) (option_to_list result)) old new r → Answers (IsTyped c (instruction instr)) old new r
if-answers c instr result arms slice slice' old new r is same same' typed typed' h =
    subst (λ (x : Instruction). Answers (IsTyped c x) old new r) (sym (ap instruction is ∙ instruction-If result arms))
    (typed-If c result (sequence arms.0) (sequence arms.1) old new r
    (subst (λ (bs : List Instr). AreTyped (with_label (option_to_list result) c) (sequence bs) [] (option_to_list result)) same typed)
    (subst (λ (bs : List Instr). AreTyped (with_label (option_to_list result) c) (sequence bs) [] (option_to_list result)) same' typed')
    h)
