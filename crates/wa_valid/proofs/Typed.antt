-- What each instruction that holds no others takes and gives, where what it names is known; and that it is ill typed where what it
-- names is not there.
use Rattle.std.proofs.Common.{◌≡◌, ℕ, ◌<◌, ◌≤◌, List, [], ◌∷◌, ◌++◌, map, refl, sym, ap, subst, ◌∙◌, inl, inr}
use Rattle.std.specs.Prelude.{Option, Some, None, Result, All, slice_get, option_map, option_to_list, reverse, IsTrue}
use Rattle.std.proofs.lemmas.Option.{same_Some, none-some, slice_get-map}
use Rattle.std.proofs.lemmas.List.Elements.{All-cons, All-head, All-tail}
use Rattle.wa_syntax.specs.declared.module.ValTy.{ValTy}
use Rattle.wa_syntax.specs.declared.module.ValTy.TheVariants.{I32}
use Rattle.wa_syntax.specs.declared.module.FuncTy.{FuncTy}
use Rattle.wa_syntax.specs.declared.module.GlobalTy.{GlobalTy}
use Rattle.wa_syntax.specs.Instructions.{Access, Sequence, Unreachable, Nop, Return, Block, Loop, If, Br, BrIf, BrTable, Call, CallIndirect, LocalGet, LocalSet, LocalTee, GlobalGet, GlobalSet, Memory, MemorySize, MemoryGrow, Numeric, load_of, store_of, numeric_type}
use Rattle.wa_syntax.specs.Validity.{Context, Gives, Takes, HasLabel, IsTyped, AreTyped, with_label}
use Rattle.wa_valid.specs.declared.fault.Fault.{Fault}
use Rattle.wa_valid.specs.Operands.{Stack, any_operands, Fits, Leads, IsStuck, Answers}
use Rattle.wa_valid.proofs.Steps.{Gives-parts, Leads-same, Leads-stays, IsStuck-same, IsStuck-first, IsStuck-never, Answers-same, Leads-unreachable, IsStuck-unreachable}

-- ---- locals and globals (3.3.3)

pub typed-LocalGet : (c : Context) (local : ℕ) (t : ValTy) (old new : Stack) (r : Result (Unit {0}) Fault) → slice_get c.locals local ≡ Some t → Answers (Gives [] (t ∷ [])) old new r → Answers (IsTyped c (LocalGet local)) old new r
typed-LocalGet c local t old new r is = Answers-same (Gives [] (t ∷ [])) (IsTyped c (LocalGet local)) old new (λ b a g. (t, is, g)) (λ b a s. subst (λ (u : ValTy). Gives [] (u ∷ []) b a) (same_Some s.0 t (sym s.1 ∙ is)) s.2) r

pub typed-LocalSet : (c : Context) (local : ℕ) (t : ValTy) (old new : Stack) (r : Result (Unit {0}) Fault) → slice_get c.locals local ≡ Some t → Answers (Gives (t ∷ []) []) old new r → Answers (IsTyped c (LocalSet local)) old new r
typed-LocalSet c local t old new r is = Answers-same (Gives (t ∷ []) []) (IsTyped c (LocalSet local)) old new (λ b a g. (t, is, g)) (λ b a s. subst (λ (u : ValTy). Gives (u ∷ []) [] b a) (same_Some s.0 t (sym s.1 ∙ is)) s.2) r

pub typed-LocalTee : (c : Context) (local : ℕ) (t : ValTy) (old new : Stack) (r : Result (Unit {0}) Fault) → slice_get c.locals local ≡ Some t → Answers (Gives (t ∷ []) (t ∷ [])) old new r → Answers (IsTyped c (LocalTee local)) old new r
typed-LocalTee c local t old new r is = Answers-same (Gives (t ∷ []) (t ∷ [])) (IsTyped c (LocalTee local)) old new (λ b a g. (t, is, g)) (λ b a s. subst (λ (u : ValTy). Gives (u ∷ []) (u ∷ []) b a) (same_Some s.0 t (sym s.1 ∙ is)) s.2) r

pub untyped-LocalGet : (c : Context) (local : ℕ) (old : Stack) → slice_get c.locals local ≡ None → IsStuck (IsTyped c (LocalGet local)) old
untyped-LocalGet c local old is = IsStuck-never (IsTyped c (LocalGet local)) old (λ b a s. none-some s.0 (sym is ∙ s.1))

pub untyped-LocalSet : (c : Context) (local : ℕ) (old : Stack) → slice_get c.locals local ≡ None → IsStuck (IsTyped c (LocalSet local)) old
untyped-LocalSet c local old is = IsStuck-never (IsTyped c (LocalSet local)) old (λ b a s. none-some s.0 (sym is ∙ s.1))

pub untyped-LocalTee : (c : Context) (local : ℕ) (old : Stack) → slice_get c.locals local ≡ None → IsStuck (IsTyped c (LocalTee local)) old
untyped-LocalTee c local old is = IsStuck-never (IsTyped c (LocalTee local)) old (λ b a s. none-some s.0 (sym is ∙ s.1))

pub typed-GlobalGet : (c : Context) (global : ℕ) (g : GlobalTy) (old new : Stack) (r : Result (Unit {0}) Fault) → slice_get c.globals global ≡ Some g → Answers (Gives [] (g.val ∷ [])) old new r → Answers (IsTyped c (GlobalGet global)) old new r
typed-GlobalGet c global g old new r is = Answers-same (Gives [] (g.val ∷ [])) (IsTyped c (GlobalGet global)) old new (λ b a h. (g, is, h)) (λ b a s. subst (λ (u : GlobalTy). Gives [] (u.val ∷ []) b a) (same_Some s.0 g (sym s.1 ∙ is)) s.2) r

pub untyped-GlobalGet : (c : Context) (global : ℕ) (old : Stack) → slice_get c.globals global ≡ None → IsStuck (IsTyped c (GlobalGet global)) old
untyped-GlobalGet c global old is = IsStuck-never (IsTyped c (GlobalGet global)) old (λ b a s. none-some s.0 (sym is ∙ s.1))

pub typed-GlobalSet : (c : Context) (global : ℕ) (g : GlobalTy) (old new : Stack) (r : Result (Unit {0}) Fault) → slice_get c.globals global ≡ Some g → IsTrue g.mutable → Answers (Gives (g.val ∷ []) []) old new r → Answers (IsTyped c (GlobalSet global)) old new r
typed-GlobalSet c global g old new r is mutable = Answers-same (Gives (g.val ∷ []) []) (IsTyped c (GlobalSet global)) old new (λ b a h. (g, is, mutable, h)) (λ b a s. subst (λ (u : GlobalTy). Gives (u.val ∷ []) [] b a) (same_Some s.0 g (sym s.1 ∙ is)) s.3) r

pub untyped-GlobalSet : (c : Context) (global : ℕ) (old : Stack) → slice_get c.globals global ≡ None → IsStuck (IsTyped c (GlobalSet global)) old
untyped-GlobalSet c global old is = IsStuck-never (IsTyped c (GlobalSet global)) old (λ b a s. none-some s.0 (sym is ∙ s.1))

pub constant-GlobalSet : (c : Context) (global : ℕ) (g : GlobalTy) (old : Stack) → slice_get c.globals global ≡ Some g → ¬ IsTrue g.mutable → IsStuck (IsTyped c (GlobalSet global)) old
constant-GlobalSet c global g old is constant = IsStuck-never (IsTyped c (GlobalSet global)) old (λ b a s. constant (subst (λ (u : GlobalTy). IsTrue u.mutable) (same_Some s.0 g (sym s.1 ∙ is)) s.2))

-- ---- memory (3.3.4)

pub typed-load : (c : Context) (op align offset : ℕ) (a : Access) (old new : Stack) (r : Result (Unit {0}) Fault) → load_of op ≡ Some a → store_of op ≡ None → 0 < c.memories → align ≤ a.align → Answers (Gives (I32 ∷ []) (a.ty ∷ [])) old new r → Answers (IsTyped c (Memory op align offset)) old new r
typed-load c op align offset access old new r is apart memory aligned =
    Answers-same (Gives (I32 ∷ []) (access.ty ∷ [])) (IsTyped c (Memory op align offset)) old new
    (λ b a g. inl (access, is, (memory, aligned), g))
    (λ b a s. elim s [
      | inl l ↦ subst (λ (u : Access). Gives (I32 ∷ []) (u.ty ∷ []) b a) (same_Some l.0 access (sym l.1 ∙ is)) l.3
      | inr l ↦ absurd (none-some l.0 (sym apart ∙ l.1))
    ])
    r

pub typed-store : (c : Context) (op align offset : ℕ) (a : Access) (old new : Stack) (r : Result (Unit {0}) Fault) → store_of op ≡ Some a → load_of op ≡ None → 0 < c.memories → align ≤ a.align → Answers (Gives (I32 ∷ a.ty ∷ []) []) old new r → Answers (IsTyped c (Memory op align offset)) old new r
typed-store c op align offset access old new r is apart memory aligned =
    Answers-same (Gives (I32 ∷ access.ty ∷ []) []) (IsTyped c (Memory op align offset)) old new
    (λ b a g. inr (access, is, (memory, aligned), g))
    (λ b a s. elim s [
      | inl l ↦ absurd (none-some l.0 (sym apart ∙ l.1))
      | inr l ↦ subst (λ (u : Access). Gives (I32 ∷ u.ty ∷ []) [] b a) (same_Some l.0 access (sym l.1 ∙ is)) l.3
    ])
    r

pub unaligned-load : (c : Context) (op align offset : ℕ) (a : Access) (old : Stack) → load_of op ≡ Some a → store_of op ≡ None → ¬ ((0 < c.memories) × (align ≤ a.align)) → IsStuck (IsTyped c (Memory op align offset)) old
unaligned-load c op align offset access old is apart broken =
    IsStuck-never (IsTyped c (Memory op align offset)) old
    (λ b a s. elim s [
      | inl l ↦ broken (l.2.0, subst (λ (u : Access). align ≤ u.align) (same_Some l.0 access (sym l.1 ∙ is)) l.2.1)
      | inr l ↦ none-some l.0 (sym apart ∙ l.1)
    ])

pub unaligned-store : (c : Context) (op align offset : ℕ) (a : Access) (old : Stack) → store_of op ≡ Some a → load_of op ≡ None → ¬ ((0 < c.memories) × (align ≤ a.align)) → IsStuck (IsTyped c (Memory op align offset)) old
unaligned-store c op align offset access old is apart broken =
    IsStuck-never (IsTyped c (Memory op align offset)) old
    (λ b a s. elim s [
      | inl l ↦ none-some l.0 (sym apart ∙ l.1)
      | inr l ↦ broken (l.2.0, subst (λ (u : Access). align ≤ u.align) (same_Some l.0 access (sym l.1 ∙ is)) l.2.1)
    ])

pub untyped-Memory : (c : Context) (op align offset : ℕ) (old : Stack) → load_of op ≡ None → store_of op ≡ None → IsStuck (IsTyped c (Memory op align offset)) old
untyped-Memory c op align offset old load store =
    IsStuck-never (IsTyped c (Memory op align offset)) old
    (λ b a s. elim s [ inl l ↦ none-some l.0 (sym load ∙ l.1) | inr l ↦ none-some l.0 (sym store ∙ l.1) ])

pub typed-MemorySize : (c : Context) (old new : Stack) (r : Result (Unit {0}) Fault) → 0 < c.memories → Answers (Gives [] (I32 ∷ [])) old new r → Answers (IsTyped c MemorySize) old new r
typed-MemorySize c old new r memory = Answers-same (Gives [] (I32 ∷ [])) (IsTyped c MemorySize) old new (λ b a g. (memory, g)) (λ b a s. s.1) r

pub typed-MemoryGrow : (c : Context) (old new : Stack) (r : Result (Unit {0}) Fault) → 0 < c.memories → Answers (Gives (I32 ∷ []) (I32 ∷ [])) old new r → Answers (IsTyped c MemoryGrow) old new r
typed-MemoryGrow c old new r memory = Answers-same (Gives (I32 ∷ []) (I32 ∷ [])) (IsTyped c MemoryGrow) old new (λ b a g. (memory, g)) (λ b a s. s.1) r

pub untyped-MemorySize : (c : Context) (old : Stack) → ¬ (0 < c.memories) → IsStuck (IsTyped c MemorySize) old
untyped-MemorySize c old none = IsStuck-never (IsTyped c MemorySize) old (λ b a s. none s.0)

pub untyped-MemoryGrow : (c : Context) (old : Stack) → ¬ (0 < c.memories) → IsStuck (IsTyped c MemoryGrow) old
untyped-MemoryGrow c old none = IsStuck-never (IsTyped c MemoryGrow) old (λ b a s. none s.0)

-- ---- numeric instructions (3.3.1)

pub typed-Numeric : (c : Context) (op : ℕ) (ty : FuncTy) (old new : Stack) (r : Result (Unit {0}) Fault) → numeric_type op ≡ Some ty → Answers (Gives ty.params ty.results) old new r → Answers (IsTyped c (Numeric op)) old new r
typed-Numeric c op ty old new r is = Answers-same (Gives ty.params ty.results) (IsTyped c (Numeric op)) old new (λ b a g. (ty, is, g)) (λ b a s. subst (λ (u : FuncTy). Gives u.params u.results b a) (same_Some s.0 ty (sym s.1 ∙ is)) s.2) r

pub untyped-Numeric : (c : Context) (op : ℕ) (old : Stack) → numeric_type op ≡ None → IsStuck (IsTyped c (Numeric op)) old
untyped-Numeric c op old is = IsStuck-never (IsTyped c (Numeric op)) old (λ b a s. none-some s.0 (sym is ∙ s.1))

-- ---- control (3.3.5)

pub typed-Unreachable : (c : Context) (old new : Stack) → new ≡ any_operands → (some : (types : List ValTy) × Fits old types) → Leads (IsTyped c Unreachable) old new
typed-Unreachable c old new is some = record {
  reached = λ after f. (some.0, some.1, tt);
  kept = λ before after f s. subst (λ (s : Stack). Fits s after) (sym is) tt;
}

pub typed-Nop : (c : Context) (s : Stack) → Leads (IsTyped c Nop) s s
typed-Nop c s = Leads-stays (IsTyped c Nop) s (λ b. refl) (λ b a h. h)

pub typed-Return : (c : Context) (results : List ValTy) (old mid new : Stack) → c.results ≡ results → new ≡ any_operands → Leads (Gives results []) old mid → Leads (IsTyped c Return) old new
typed-Return c results old mid new is end h =
    Leads-same (λ b a. Takes results b) (IsTyped c Return) old new
    (λ b a t. subst (λ (types : List ValTy). Takes types b) (sym is) t)
    (λ b a t. subst (λ (types : List ValTy). Takes types b) is t)
    (Leads-unreachable results old mid new end h)

pub untyped-Return : (c : Context) (results : List ValTy) (old : Stack) → c.results ≡ results → IsStuck (Gives results []) old → IsStuck (IsTyped c Return) old
untyped-Return c results old is h =
    IsStuck-same (λ b a. Takes results b) (IsTyped c Return) old
    (λ b a t. subst (λ (types : List ValTy). Takes types b) is t)
    (IsStuck-unreachable results old h)

pub typed-Call : (c : Context) (func number : ℕ) (ty : FuncTy) (old new : Stack) (r : Result (Unit {0}) Fault) → slice_get c.funcs func ≡ Some number → slice_get c.types number ≡ Some ty → Answers (Gives ty.params ty.results) old new r → Answers (IsTyped c (Call func)) old new r
typed-Call c func number ty old new r there is =
    Answers-same (Gives ty.params ty.results) (IsTyped c (Call func)) old new
    (λ b a g. (ty, (number, there, is), g))
    (λ b a s. subst (λ (u : FuncTy). Gives u.params u.results b a) (same_Some s.0 ty (sym s.1.2 ∙ ap (slice_get c.types) (same_Some s.1.0 number (sym s.1.1 ∙ there)) ∙ is)) s.2)
    r

pub untyped-Call : (c : Context) (func : ℕ) (old : Stack) → slice_get c.funcs func ≡ None → IsStuck (IsTyped c (Call func)) old
untyped-Call c func old is = IsStuck-never (IsTyped c (Call func)) old (λ b a s. none-some s.1.0 (sym is ∙ s.1.1))

pub typeless-Call : (c : Context) (func number : ℕ) (old : Stack) → slice_get c.funcs func ≡ Some number → slice_get c.types number ≡ None → IsStuck (IsTyped c (Call func)) old
typeless-Call c func number old there is = IsStuck-never (IsTyped c (Call func)) old (λ b a s. none-some s.0 (sym is ∙ ap (slice_get c.types) (same_Some number s.1.0 (sym there ∙ s.1.1)) ∙ s.1.2))

pub typed-CallIndirect : (c : Context) (number : ℕ) (ty : FuncTy) (old new : Stack) (r : Result (Unit {0}) Fault) → 0 < c.tables → slice_get c.types number ≡ Some ty → Answers (Gives (ty.params ++ I32 ∷ []) ty.results) old new r → Answers (IsTyped c (CallIndirect number)) old new r
typed-CallIndirect c number ty old new r table is =
    Answers-same (Gives (ty.params ++ I32 ∷ []) ty.results) (IsTyped c (CallIndirect number)) old new
    (λ b a g. (ty, table, is, g))
    (λ b a s. subst (λ (u : FuncTy). Gives (u.params ++ I32 ∷ []) u.results b a) (same_Some s.0 ty (sym s.2 ∙ is)) s.3)
    r

pub untyped-CallIndirect : (c : Context) (number : ℕ) (old : Stack) → slice_get c.types number ≡ None → IsStuck (IsTyped c (CallIndirect number)) old
untyped-CallIndirect c number old is = IsStuck-never (IsTyped c (CallIndirect number)) old (λ b a s. none-some s.0 (sym is ∙ s.2))

pub tableless-CallIndirect : (c : Context) (number : ℕ) (old : Stack) → ¬ (0 < c.tables) → IsStuck (IsTyped c (CallIndirect number)) old
tableless-CallIndirect c number old none = IsStuck-never (IsTyped c (CallIndirect number)) old (λ b a s. none s.1)

-- ---- branches

option_to_list-same : (v w : Option ValTy) → option_to_list v ≡ option_to_list w → v ≡ w
option_to_list-same None None e = refl
option_to_list-same None (Some w) e = cc
option_to_list-same (Some v) None e = cc
option_to_list-same (Some v) (Some w) e = cc

-- a label of the code's list, which has the outermost first, in the context's
pub HasLabel-from : (c : Context) (labels : List (Option ValTy)) (label : ℕ) (w : Option ValTy) → c.labels ≡ map option_to_list (reverse labels) → slice_get (reverse labels) label ≡ Some w → HasLabel c (option_to_list w) label
HasLabel-from c labels label w is found =
    ap (λ (all : List (List ValTy)). slice_get all label) is ∙ slice_get-map option_to_list (reverse labels) label ∙ ap (option_map option_to_list) found

pub label_from-HasLabel : (c : Context) (labels : List (Option ValTy)) (label : ℕ) (w : Option ValTy) → c.labels ≡ map option_to_list (reverse labels) → HasLabel c (option_to_list w) label → slice_get (reverse labels) label ≡ Some w
label_from-HasLabel c labels label w is has =
    from (slice_get (reverse labels) label) (sym (slice_get-map option_to_list (reverse labels) label) ∙ sym (ap (λ (all : List (List ValTy)). slice_get all label) is) ∙ has)
  where
    from : (found : Option (Option ValTy)) → option_map option_to_list found ≡ Some (option_to_list w) → found ≡ Some w
    from None e = absurd (none-some (option_to_list w) e)
    from (Some v) e = ap Some (option_to_list-same v w (same_Some (option_to_list v) (option_to_list w) e))

pub no_label : (c : Context) (labels : List (Option ValTy)) (label : ℕ) → c.labels ≡ map option_to_list (reverse labels) → slice_get (reverse labels) label ≡ None → (wanted : List ValTy) → ¬ HasLabel c wanted label
no_label c labels label is none wanted has =
    none-some wanted (sym (ap (λ (all : List (List ValTy)). slice_get all label) is ∙ slice_get-map option_to_list (reverse labels) label ∙ ap (option_map option_to_list) none) ∙ has)

pub typed-Br : (c : Context) (label : ℕ) (wanted : List ValTy) (old mid new : Stack) → HasLabel c wanted label → new ≡ any_operands → Leads (Gives wanted []) old mid → Leads (IsTyped c (Br label)) old new
typed-Br c label wanted old mid new has end h =
    Leads-same (λ b a. Takes wanted b) (IsTyped c (Br label)) old new
    (λ b a t. (wanted, has, t))
    (λ b a s. subst (λ (types : List ValTy). Takes types b) (same_Some s.0 wanted (sym s.1 ∙ has)) s.2)
    (Leads-unreachable wanted old mid new end h)

pub untyped-Br : (c : Context) (label : ℕ) (wanted : List ValTy) (old : Stack) → HasLabel c wanted label → IsStuck (Gives wanted []) old → IsStuck (IsTyped c (Br label)) old
untyped-Br c label wanted old has h =
    IsStuck-same (λ b a. Takes wanted b) (IsTyped c (Br label)) old
    (λ b a s. subst (λ (types : List ValTy). Takes types b) (same_Some s.0 wanted (sym s.1 ∙ has)) s.2)
    (IsStuck-unreachable wanted old h)

pub labelless-Br : (c : Context) (label : ℕ) (old : Stack) → ((wanted : List ValTy) → ¬ HasLabel c wanted label) → IsStuck (IsTyped c (Br label)) old
labelless-Br c label old none = IsStuck-never (IsTyped c (Br label)) old (λ b a s. none s.0 s.1)

pub typed-BrIf : (c : Context) (label : ℕ) (wanted : List ValTy) (old new : Stack) (r : Result (Unit {0}) Fault) → HasLabel c wanted label → Answers (Gives (wanted ++ I32 ∷ []) wanted) old new r → Answers (IsTyped c (BrIf label)) old new r
typed-BrIf c label wanted old new r has =
    Answers-same (Gives (wanted ++ I32 ∷ []) wanted) (IsTyped c (BrIf label)) old new
    (λ b a g. (wanted, has, g))
    (λ b a s. subst (λ (types : List ValTy). Gives (types ++ I32 ∷ []) types b a) (same_Some s.0 wanted (sym s.1 ∙ has)) s.2)
    r

pub labelless-BrIf : (c : Context) (label : ℕ) (old : Stack) → ((wanted : List ValTy) → ¬ HasLabel c wanted label) → IsStuck (IsTyped c (BrIf label)) old
labelless-BrIf c label old none = IsStuck-never (IsTyped c (BrIf label)) old (λ b a s. none s.0 s.1)

pub typed-BrTable : (c : Context) (labels : List ℕ) (default : ℕ) (wanted : List ValTy) (old mid new : Stack) → HasLabel c wanted default → All (HasLabel c wanted) labels → new ≡ any_operands → Leads (Gives (wanted ++ I32 ∷ []) []) old mid → Leads (IsTyped c (BrTable labels default)) old new
typed-BrTable c labels default wanted old mid new has all end h =
    Leads-same (λ b a. Takes (wanted ++ I32 ∷ []) b) (IsTyped c (BrTable labels default)) old new
    (λ b a t. (wanted, All-cons (HasLabel c wanted) default labels has all, t))
    (λ b a s. subst (λ (types : List ValTy). Takes (types ++ I32 ∷ []) b) (same_Some s.0 wanted (sym (All-head (HasLabel c s.0) default labels s.1) ∙ has)) s.2)
    (Leads-unreachable (wanted ++ I32 ∷ []) old mid new end h)

pub untyped-BrTable : (c : Context) (labels : List ℕ) (default : ℕ) (wanted : List ValTy) (old : Stack) → HasLabel c wanted default → IsStuck (Gives (wanted ++ I32 ∷ []) []) old → IsStuck (IsTyped c (BrTable labels default)) old
untyped-BrTable c labels default wanted old has h =
    IsStuck-same (λ b a. Takes (wanted ++ I32 ∷ []) b) (IsTyped c (BrTable labels default)) old
    (λ b a s. subst (λ (types : List ValTy). Takes (types ++ I32 ∷ []) b) (same_Some s.0 wanted (sym (All-head (HasLabel c s.0) default labels s.1) ∙ has)) s.2)
    (IsStuck-unreachable (wanted ++ I32 ∷ []) old h)

pub labelless-BrTable : (c : Context) (labels : List ℕ) (default : ℕ) (old : Stack) → ((wanted : List ValTy) → ¬ HasLabel c wanted default) → IsStuck (IsTyped c (BrTable labels default)) old
labelless-BrTable c labels default old none =
    IsStuck-never (IsTyped c (BrTable labels default)) old (λ b a s. none s.0 (All-head (HasLabel c s.0) default labels s.1))

pub unlike-BrTable : (c : Context) (labels : List ℕ) (default : ℕ) (wanted : List ValTy) (old : Stack) → HasLabel c wanted default → ¬ All (HasLabel c wanted) labels → IsStuck (IsTyped c (BrTable labels default)) old
unlike-BrTable c labels default wanted old has unlike =
    IsStuck-never (IsTyped c (BrTable labels default)) old
    (λ b a s. unlike (subst (λ (types : List ValTy). All (HasLabel c types) labels) (same_Some s.0 wanted (sym (All-head (HasLabel c s.0) default labels s.1) ∙ has)) (All-tail (HasLabel c s.0) default labels s.1)))

-- ---- instructions that hold others

pub typed-Block : (c : Context) (result : Option ValTy) (body : Sequence) (old new : Stack) (r : Result (Unit {0}) Fault) → AreTyped (with_label (option_to_list result) c) body [] (option_to_list result) → Answers (Gives [] (option_to_list result)) old new r → Answers (IsTyped c (Block result body)) old new r
typed-Block c result body old new r typed = Answers-same (Gives [] (option_to_list result)) (IsTyped c (Block result body)) old new (λ b a g. (typed, g)) (λ b a s. s.1) r

pub untyped-Block : (c : Context) (result : Option ValTy) (body : Sequence) (old : Stack) → ¬ AreTyped (with_label (option_to_list result) c) body [] (option_to_list result) → IsStuck (IsTyped c (Block result body)) old
untyped-Block c result body old not = IsStuck-never (IsTyped c (Block result body)) old (λ b a s. not s.0)

pub typed-Loop : (c : Context) (result : Option ValTy) (body : Sequence) (old new : Stack) (r : Result (Unit {0}) Fault) → AreTyped (with_label [] c) body [] (option_to_list result) → Answers (Gives [] (option_to_list result)) old new r → Answers (IsTyped c (Loop result body)) old new r
typed-Loop c result body old new r typed = Answers-same (Gives [] (option_to_list result)) (IsTyped c (Loop result body)) old new (λ b a g. (typed, g)) (λ b a s. s.1) r

pub untyped-Loop : (c : Context) (result : Option ValTy) (body : Sequence) (old : Stack) → ¬ AreTyped (with_label [] c) body [] (option_to_list result) → IsStuck (IsTyped c (Loop result body)) old
untyped-Loop c result body old not = IsStuck-never (IsTyped c (Loop result body)) old (λ b a s. not s.0)

pub typed-If : (c : Context) (result : Option ValTy) (first other : Sequence) (old new : Stack) (r : Result (Unit {0}) Fault) → AreTyped (with_label (option_to_list result) c) first [] (option_to_list result) → AreTyped (with_label (option_to_list result) c) other [] (option_to_list result) → Answers (Gives (I32 ∷ []) (option_to_list result)) old new r → Answers (IsTyped c (If result first other)) old new r
typed-If c result first other old new r one two = Answers-same (Gives (I32 ∷ []) (option_to_list result)) (IsTyped c (If result first other)) old new (λ b a g. (one, two, g)) (λ b a s. s.2) r

pub untyped-If_first : (c : Context) (result : Option ValTy) (first other : Sequence) (old : Stack) → ¬ AreTyped (with_label (option_to_list result) c) first [] (option_to_list result) → IsStuck (IsTyped c (If result first other)) old
untyped-If_first c result first other old not = IsStuck-never (IsTyped c (If result first other)) old (λ b a s. not s.0)

pub untyped-If_other : (c : Context) (result : Option ValTy) (first other : Sequence) (old : Stack) → ¬ AreTyped (with_label (option_to_list result) c) other [] (option_to_list result) → IsStuck (IsTyped c (If result first other)) old
untyped-If_other c result first other old not = IsStuck-never (IsTyped c (If result first other)) old (λ b a s. not s.1)

pub operandless-CallIndirect : (c : Context) (number : ℕ) (old : Stack) → IsStuck (Gives (I32 ∷ []) []) old → IsStuck (IsTyped c (CallIndirect number)) old
operandless-CallIndirect c number old h =
    IsStuck-first (Gives (I32 ∷ []) []) (IsTyped c (CallIndirect number)) old
    (λ b a s. (let d = Gives-parts (I32 ∷ []) s.0.params s.0.results b a s.3 in (d.0, d.1)))
    h
