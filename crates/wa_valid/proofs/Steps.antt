-- How the answers of instructions one after another fit together, and what the operands that are taken and added say.
use Rattle.std.proofs.Common.{◌≡◌, ℕ, ◌+◌, ◌<◌, take, get_or, List, [], ◌∷◌, ◌++◌, length, Bool, true, false, true≢false, refl, sym, ap, subst, ◌∙◌, inl, inr, append_assoc}
use Rattle.std.specs.Prelude.{reverse, Option, Some, None, option_to_list, Result, Ok, Err, IsOk, OnOk, IfErr, is_ok}
use Rattle.std.proofs.lemmas.List.{reverse-append, append-nil, nil_from_length, take_more}
use Rattle.wa_syntax.specs.declared.module.ValTy.{ValTy}
use Rattle.wa_syntax.specs.declared.module.ValTy.TheVariants.{I32}
use Rattle.wa_syntax.specs.Instructions.{Drop, Select}
use Rattle.wa_syntax.specs.Validity.{Context, Gives, Takes, IsTyped}
use Rattle.wa_valid.specs.declared.fault.Fault.{Fault}
use Rattle.wa_valid.specs.declared.operands.Operand.{Operand}
use Rattle.wa_valid.specs.declared.operands.Operand.TheVariants.{Known, Unknown}
use Rattle.wa_valid.specs.Operands.{Stack, no_operands, any_operands, with_operand, IsOf, Fit, Fits, Leads, IsStuck, Answers, IsTaken, IsBoth, AreApart}

-- ---- rules

-- a rule that holds just where another does
pub Leads-same : (R S : List ValTy → List ValTy → Type 0) (old new : Stack) → ((b a : List ValTy) → R b a → S b a) → ((b a : List ValTy) → S b a → R b a) → Leads R old new → Leads S old new
Leads-same R S old new to from h = record {
  reached = λ after f. (let g = h.reached after f in (g.0, g.1, to g.0 after g.2));
  kept = λ before after f s. h.kept before after f (from before after s);
}

pub IsStuck-same : (R S : List ValTy → List ValTy → Type 0) (old : Stack) → ((b a : List ValTy) → S b a → R b a) → IsStuck R old → IsStuck S old
IsStuck-same R S old from h = record { none = λ before after f s. h.none before after f (from before after s) }

pub Answers-same : (R S : List ValTy → List ValTy → Type 0) (old new : Stack) → ((b a : List ValTy) → R b a → S b a) → ((b a : List ValTy) → S b a → R b a) → (r : Result (Unit {0}) Fault) → Answers R old new r → Answers S old new r
Answers-same R S old new to from r h = (λ ok. Leads-same R S old new to from (h.0 ok), λ is. IsStuck-same R S old from (h.1 is))

-- a rule that holds nowhere
pub IsStuck-never : (S : List ValTy → List ValTy → Type 0) (old : Stack) → ((b a : List ValTy) → ¬ S b a) → IsStuck S old
IsStuck-never S old h = record { none = λ before after f s. h before after s }

-- a rule that is one after another
pub Leads-then : (R Q S : List ValTy → List ValTy → Type 0) (old mid new : Stack) → ((b m a : List ValTy) → R b m → Q m a → S b a) → ((b a : List ValTy) → S b a → (m : List ValTy) × R b m × Q m a) → Leads R old mid → Leads Q mid new → Leads S old new
Leads-then R Q S old mid new to from first h = record {
  reached = λ after f.
      (let g = h.reached after f in
      let k = first.reached g.0 g.1 in
      (k.0, k.1, to k.0 g.0 after k.2 g.2));
  kept = λ before after f s.
      (let d = from before after s in
      h.kept d.0 after (first.kept before d.0 f d.1) d.2);
}

pub IsStuck-then : (R Q S : List ValTy → List ValTy → Type 0) (old mid : Stack) → ((b a : List ValTy) → S b a → (m : List ValTy) × R b m × Q m a) → Leads R old mid → IsStuck Q mid → IsStuck S old
IsStuck-then R Q S old mid from first h = record {
  none = λ before after f s.
      (let d = from before after s in
      h.none d.0 after (first.kept before d.0 f d.1) d.2);
}

pub IsStuck-first : (R S : List ValTy → List ValTy → Type 0) (old : Stack) → ((b a : List ValTy) → S b a → (m : List ValTy) × R b m) → IsStuck R old → IsStuck S old
IsStuck-first R S old from h = record { none = λ before after f s. (let d = from before after s in h.none before d.0 f d.1) }

-- a rule that leaves the operands as they are
pub Leads-stays : (R : List ValTy → List ValTy → Type 0) (s : Stack) → ((b : List ValTy) → R b b) → ((b a : List ValTy) → R b a → a ≡ b) → Leads R s s
Leads-stays R s to from = record {
  reached = λ after f. (after, f, to after);
  kept = λ before after f r. subst (Fits s) (sym (from before after r)) f;
}

-- ---- what is taken, and then what is taken below it, and what is given
pub Gives-both : (a b c : List ValTy) (before middle after : List ValTy) → Gives a [] before middle → Gives b c middle after → Gives (b ++ a) c before after
Gives-both a b c before middle after g h =
    (h.0, g.1 ∙ ap (λ (m : List ValTy). reverse a ++ m) (sym g.2 ∙ h.1) ∙ sym (append_assoc (reverse a) (reverse b) h.0) ∙ ap (λ (m : List ValTy). m ++ h.0) (sym (reverse-append b a)), h.2)

pub Gives-parts : (a b c : List ValTy) (before after : List ValTy) → Gives (b ++ a) c before after → (middle : List ValTy) × Gives a [] before middle × Gives b c middle after
Gives-parts a b c before after g =
    (reverse b ++ g.0, (reverse b ++ g.0, g.1 ∙ ap (λ (m : List ValTy). m ++ g.0) (reverse-append b a) ∙ append_assoc (reverse a) (reverse b) g.0, refl), (g.0, refl, g.2))

-- what is given, and then more on top
pub Gives-more : (a c : List ValTy) (before middle after : List ValTy) → Gives [] a before middle → Gives [] c middle after → Gives [] (a ++ c) before after
Gives-more a c before middle after g h =
    (g.0, g.1, h.2 ∙ ap (λ (m : List ValTy). reverse c ++ m) (sym h.1 ∙ g.2) ∙ sym (append_assoc (reverse c) (reverse a) g.0) ∙ ap (λ (m : List ValTy). m ++ g.0) (sym (reverse-append a c)))

pub Gives-less : (a c : List ValTy) (before after : List ValTy) → Gives [] (a ++ c) before after → (middle : List ValTy) × Gives [] a before middle × Gives [] c middle after
Gives-less a c before after g =
    (reverse a ++ g.0, (g.0, g.1, refl), (reverse a ++ g.0, refl, g.2 ∙ ap (λ (m : List ValTy). m ++ g.0) (reverse-append a c) ∙ append_assoc (reverse c) (reverse a) g.0))

pub Leads-takes : (a b c : List ValTy) (old mid new : Stack) → Leads (Gives a []) old mid → Leads (Gives b c) mid new → Leads (Gives (b ++ a) c) old new
Leads-takes a b c old mid new first h = Leads-then (Gives a []) (Gives b c) (Gives (b ++ a) c) old mid new (Gives-both a b c) (Gives-parts a b c) first h

pub IsStuck-takes : (a b c : List ValTy) (old mid : Stack) → Leads (Gives a []) old mid → IsStuck (Gives b c) mid → IsStuck (Gives (b ++ a) c) old
IsStuck-takes a b c old mid first h = IsStuck-then (Gives a []) (Gives b c) (Gives (b ++ a) c) old mid (Gives-parts a b c) first h

pub IsStuck-takes_first : (a b c : List ValTy) (old : Stack) → IsStuck (Gives a []) old → IsStuck (Gives (b ++ a) c) old
IsStuck-takes_first a b c old h = IsStuck-first (Gives a []) (Gives (b ++ a) c) old (λ before after s. (let d = Gives-parts a b c before after s in (d.0, d.1))) h

pub Leads-gives : (a c : List ValTy) (old mid new : Stack) → Leads (Gives [] a) old mid → Leads (Gives [] c) mid new → Leads (Gives [] (a ++ c)) old new
Leads-gives a c old mid new first h = Leads-then (Gives [] a) (Gives [] c) (Gives [] (a ++ c)) old mid new (Gives-more a c) (Gives-less a c) first h

pub IsStuck-gives : (a c : List ValTy) (old mid : Stack) → Leads (Gives [] a) old mid → IsStuck (Gives [] c) mid → IsStuck (Gives [] (a ++ c)) old
IsStuck-gives a c old mid first h = IsStuck-then (Gives [] a) (Gives [] c) (Gives [] (a ++ c)) old mid (Gives-less a c) first h

pub Leads-nothing : (s : Stack) → Leads (Gives [] []) s s
Leads-nothing s = Leads-stays (Gives [] []) s (λ b. (b, refl, refl)) (λ b a g. g.2 ∙ sym g.1)

-- ---- one operand

pub taken-back : (old new : Stack) (o : Operand) (t : ValTy) (types : List ValTy) → IsTaken old o new → IsOf o t → Fits new types → Fits old (t ∷ types)
taken-back old new o t types (inl e) of f = subst (λ (s : Stack). Fits s (t ∷ types)) (sym e) (of, f)
taken-back old new o t types (inr (e, same, unknown)) of f = subst (λ (s : Stack). Fits s (t ∷ types)) (sym e) tt

pub taken-on : (old new : Stack) (o : Operand) (t : ValTy) (types : List ValTy) → IsTaken old o new → Fits old (t ∷ types) → IsOf o t × Fits new types
taken-on old new o t types (inl e) f = subst (λ (s : Stack). Fits s (t ∷ types)) e f
taken-on old new o t types (inr (e, same, unknown)) f =
    (subst (λ (p : Operand). IsOf p t) (sym unknown) tt, subst (λ (s : Stack). Fits s types) (sym (same ∙ e)) tt)

pub some_type : (o : Operand) → (t : ValTy) × IsOf o t
some_type (Known t) = (t, refl)
some_type Unknown = (I32, tt)

some_fit : (unreachable : Bool) (own : List Operand) → (types : List ValTy) × Fit unreachable own types
some_fit true [] = ([], tt)
some_fit false [] = ([], refl)
some_fit unreachable (o ∷ own) =
    let rest = some_fit unreachable own in
    let t = some_type o in
    (t.0 ∷ rest.0, (t.1, rest.1))

pub some_fits : (s : Stack) → (types : List ValTy) × Fits s types
some_fits s = some_fit s.unreachable s.own

-- the last operand, of a type
pub Leads-pop : (old new : Stack) (o : Operand) (t : ValTy) → IsTaken old o new → IsOf o t → Leads (Gives (t ∷ []) []) old new
Leads-pop old new o t taken of = record {
  reached = λ after f. (t ∷ after, taken-back old new o t after taken of f, (after, refl, refl));
  kept = λ before after f g.
      (let top = taken-on old new o t g.0 taken (subst (Fits old) g.1 f) in
      subst (Fits new) (sym g.2) top.1);
}

pub IsStuck-pop : (old new : Stack) (o : Operand) (t : ValTy) → IsTaken old o new → ¬ IsOf o t → IsStuck (Gives (t ∷ []) []) old
IsStuck-pop old new o t taken other = record {
  none = λ before after f g. (let top = taken-on old new o t g.0 taken (subst (Fits old) g.1 f) in other top.0);
}

-- no operand is left
pub IsStuck-none : (S : List ValTy → List ValTy → Type 0) (old : Stack) → old ≡ no_operands → ((a : List ValTy) → ¬ S [] a) → IsStuck S old
IsStuck-none S old is none = record {
  none = λ before after f s.
      (let empty : before ≡ [] = subst (λ (s : Stack). Fits s before) is f in
      none after (subst (λ (b : List ValTy). S b after) empty s));
}

pub IsStuck-pop_none : (old : Stack) (t : ValTy) → old ≡ no_operands → IsStuck (Gives (t ∷ []) []) old
IsStuck-pop_none old t is = IsStuck-none (Gives (t ∷ []) []) old is (λ a g. cc)

-- one more operand
pub Leads-push : (old new : Stack) (t : ValTy) → new ≡ with_operand (Known t) old → Leads (Gives [] (t ∷ [])) old new
Leads-push old new t is = record {
  reached = λ after f. pushed after (subst (λ (s : Stack). Fits s after) is f);
  kept = λ before after f g. subst (λ (s : Stack). Fits s after) (sym is) (subst (Fits (with_operand (Known t) old)) (sym g.2) (refl, subst (Fits old) g.1 f));
}
  where
    pushed : (after : List ValTy) → Fits (with_operand (Known t) old) after → (before : List ValTy) × Fits old before × Gives [] (t ∷ []) before after
    pushed [] f = absurd f
    pushed (top ∷ rest) f = (rest, f.1, (rest, refl, ap (λ (x : ValTy). x ∷ rest) f.0))

-- ---- what control doesn't pass

pub Leads-unreachable : (taken : List ValTy) (old mid new : Stack) → new ≡ any_operands → Leads (Gives taken []) old mid → Leads (λ before after. Takes taken before) old new
Leads-unreachable taken old mid new is first = record {
  reached = λ after f.
      (let some = some_fits mid in
      let d = first.reached some.0 some.1 in
      (d.0, d.1, (d.2.0, d.2.1)));
  kept = λ before after f g. subst (λ (s : Stack). Fits s after) (sym is) tt;
}

pub IsStuck-unreachable : (taken : List ValTy) (old : Stack) → IsStuck (Gives taken []) old → IsStuck (λ before after. Takes taken before) old
IsStuck-unreachable taken old h = IsStuck-first (Gives taken []) (λ before after. Takes taken before) old (λ before after g. (g.0, (g.0, g.1, refl))) h

-- any operands are taken where any may be
pub Leads-any : (types : List ValTy) (s : Stack) → s ≡ any_operands → Leads (Gives types []) s s
Leads-any types s is = record {
  reached = λ after f. (reverse types ++ after, subst (λ (s : Stack). Fits s (reverse types ++ after)) (sym is) tt, (after, refl, refl));
  kept = λ before after f g. subst (λ (s : Stack). Fits s after) (sym is) tt;
}

-- what a block leaves: its result, and no more
Fit-none : (unreachable : Bool) (own : List Operand) → own ≡ [] → Fit unreachable own []
Fit-none unreachable own is = subst (λ (os : List Operand). Fit unreachable os []) (sym is) (bottom unreachable)
  where
    bottom : (u : Bool) → Fit u [] []
    bottom true = tt
    bottom false = refl

none-Fit : (unreachable : Bool) (own : List Operand) → Fit unreachable own [] → own ≡ []
none-Fit unreachable [] f = refl
none-Fit unreachable (o ∷ own) f = absurd f

reverse-option_to_list : (ty : Option ValTy) → reverse (option_to_list ty) ≡ option_to_list ty
reverse-option_to_list None = refl
reverse-option_to_list (Some t) = refl

pub Fits-finished : (s new : Stack) (ty : Option ValTy) → Leads (Gives (option_to_list ty) []) s new → new.own ≡ [] → Fits s (option_to_list ty)
Fits-finished s new ty h none =
    let types = option_to_list ty in
    let g = h.reached [] (Fit-none new.unreachable new.own none) in
    subst (Fits s) (g.2.1 ∙ ap (λ (m : List ValTy). reverse types ++ m) (sym g.2.2) ∙ append-nil (reverse types) ∙ reverse-option_to_list ty) g.1

pub finished-Fits : (s new : Stack) (ty : Option ValTy) → Leads (Gives (option_to_list ty) []) s new → Fits s (option_to_list ty) → new.own ≡ []
finished-Fits s new ty h f =
    let types = option_to_list ty in
    none-Fit new.unreachable new.own (h.kept types [] f ([], sym (append-nil (reverse types) ∙ reverse-option_to_list ty), refl))

pub unfinished : (s : Stack) (ty : Option ValTy) → IsStuck (Gives (option_to_list ty) []) s → ¬ Fits s (option_to_list ty)
unfinished s ty h =
    let types = option_to_list ty in
    λ f. h.none types [] f ([], sym (append-nil (reverse types) ∙ reverse-option_to_list ty), refl)

-- ---- the operands of a call, the last one first

pub pop_all-more : (types rest front taken : List ValTy) (last : ValTy) (old mid new : Stack) → types ≡ rest ++ taken → rest ≡ front ++ last ∷ [] → Leads (Gives taken []) old mid → Leads (Gives (last ∷ []) []) mid new → (more : List ValTy) × (types ≡ front ++ more) × Leads (Gives more []) old new
pop_all-more types rest front taken last old mid new all split h pop =
    (last ∷ taken, all ∙ ap (λ (m : List ValTy). m ++ taken) split ∙ append_assoc front (last ∷ []) taken, Leads-takes taken (last ∷ []) [] old mid new h pop)

pub pop_all-any : (types rest taken : List ValTy) (old mid : Stack) → types ≡ rest ++ taken → Leads (Gives taken []) old mid → mid ≡ any_operands → Leads (Gives types []) old mid
pop_all-any types rest taken old mid all h any =
    subst (λ (m : List ValTy). Leads (Gives m []) old mid) (sym all) (Leads-takes taken rest [] old mid mid h (Leads-any rest mid any))

pub pop_all-stuck : (types rest front taken : List ValTy) (last : ValTy) (old mid : Stack) → types ≡ rest ++ taken → rest ≡ front ++ last ∷ [] → Leads (Gives taken []) old mid → IsStuck (Gives (last ∷ []) []) mid → IsStuck (Gives types []) old
pop_all-stuck types rest front taken last old mid all split h stuck =
    subst (λ (m : List ValTy). IsStuck (Gives m []) old) (sym all)
    (IsStuck-takes taken rest [] old mid h
    (subst (λ (m : List ValTy). IsStuck (Gives m []) mid) (sym split) (IsStuck-takes_first (last ∷ []) front [] mid stuck)))

pub pop_all-end : (types rest taken : List ValTy) (old new : Stack) → types ≡ rest ++ taken → length rest ≡ 0 → Leads (Gives taken []) old new → Leads (Gives types []) old new
pop_all-end types rest taken old new all none h =
    subst (λ (m : List ValTy). Leads (Gives m []) old new) (sym (all ∙ ap (λ (m : List ValTy). m ++ taken) (nil_from_length rest none))) h

-- ---- the operands of `drop` and `select` (3.3.2)

pub Leads-drop : (c : Context) (old new : Stack) (o : Operand) → IsTaken old o new → Leads (IsTyped c Drop) old new
Leads-drop c old new o taken = record {
  reached = λ after f.
      (let t = some_type o in
      (t.0 ∷ after, taken-back old new o t.0 after taken t.1 f, (t.0, (after, refl, refl))));
  kept = λ before after f s.
      (let top = taken-on old new o s.0 s.1.0 taken (subst (Fits old) s.1.1 f) in
      subst (Fits new) (sym s.1.2) top.1);
}

-- what `select` finds below the i32
select-finds : (c : Context) (old s1 : Stack) → Leads (Gives (I32 ∷ []) []) old s1 → (before after : List ValTy) → Fits old before → IsTyped c Select before after → (t : ValTy) × (below : List ValTy) × Fits s1 (t ∷ t ∷ below) × (after ≡ t ∷ below)
select-finds c old s1 pop before after f s =
    (s.0, s.1.0, pop.kept before (s.0 ∷ s.0 ∷ s.1.0) f (s.0 ∷ s.0 ∷ s.1.0, s.1.1, refl), s.1.2)

pub Leads-select : (c : Context) (old s1 s2 s3 new : Stack) (one other kept : Operand) → Leads (Gives (I32 ∷ []) []) old s1 → IsTaken s1 one s2 → IsTaken s2 other s3 → IsBoth one other kept → new ≡ with_operand kept s3 → Leads (IsTyped c Select) old new
Leads-select c old s1 s2 s3 new one other kept pop first second both is = record {
  reached = λ after f. back after (subst (λ (s : Stack). Fits s after) is f);
  kept = λ before after f s.
      (let found = select-finds c old s1 pop before after f s in
      let top = taken-on s1 s2 one found.0 (found.0 ∷ found.1) first found.2 in
      let next = taken-on s2 s3 other found.0 found.1 second top.1 in
      subst (λ (s : Stack). Fits s after) (sym is) (subst (Fits (with_operand kept s3)) (sym found.3) (both.back found.0 top.0 next.0, next.1)));
}
  where
    back : (after : List ValTy) → Fits (with_operand kept s3) after → (before : List ValTy) × Fits old before × IsTyped c Select before after
    back [] f = absurd f
    back (t ∷ below) f =
        let next = taken-back s2 s3 other t below second (both.right t f.0) f.1 in
        let top = taken-back s1 s2 one t (t ∷ below) first (both.left t f.0) next in
        let g = pop.reached (t ∷ t ∷ below) top in
        (g.0, g.1, (t, (below, g.2.1 ∙ ap (λ (m : List ValTy). I32 ∷ m) (sym g.2.2), refl)))

pub IsStuck-select_first : (c : Context) (old : Stack) → IsStuck (Gives (I32 ∷ []) []) old → IsStuck (IsTyped c Select) old
IsStuck-select_first c old h =
    IsStuck-first (Gives (I32 ∷ []) []) (IsTyped c Select) old (λ b a s. (s.0 ∷ s.0 ∷ s.1.0, (s.0 ∷ s.0 ∷ s.1.0, s.1.1, refl))) h

no_operand : (s : Stack) (t : ValTy) (types : List ValTy) → s ≡ no_operands → ¬ Fits s (t ∷ types)
no_operand s t types is f =
    let empty : t ∷ types ≡ [] = subst (λ (p : Stack). Fits p (t ∷ types)) is f in
    cc

pub IsStuck-select_one : (c : Context) (old s1 : Stack) → Leads (Gives (I32 ∷ []) []) old s1 → s1 ≡ no_operands → IsStuck (IsTyped c Select) old
IsStuck-select_one c old s1 pop none = record {
  none = λ before after f s.
      (let found = select-finds c old s1 pop before after f s in
      no_operand s1 found.0 (found.0 ∷ found.1) none found.2);
}

pub IsStuck-select_other : (c : Context) (old s1 s2 : Stack) (one : Operand) → Leads (Gives (I32 ∷ []) []) old s1 → IsTaken s1 one s2 → s2 ≡ no_operands → IsStuck (IsTyped c Select) old
IsStuck-select_other c old s1 s2 one pop first none = record {
  none = λ before after f s.
      (let found = select-finds c old s1 pop before after f s in
      no_operand s2 found.0 found.1 none (taken-on s1 s2 one found.0 (found.0 ∷ found.1) first found.2).1);
}

pub IsStuck-select_apart : (c : Context) (old s1 s2 s3 : Stack) (one other : Operand) → Leads (Gives (I32 ∷ []) []) old s1 → IsTaken s1 one s2 → IsTaken s2 other s3 → AreApart one other → IsStuck (IsTyped c Select) old
IsStuck-select_apart c old s1 s2 s3 one other pop first second apart = record {
  none = λ before after f s.
      (let found = select-finds c old s1 pop before after f s in
      let top = taken-on s1 s2 one found.0 (found.0 ∷ found.1) first found.2 in
      let next = taken-on s2 s3 other found.0 found.1 second top.1 in
      apart.none found.0 top.0 next.0);
}

-- ---- the exit of a `?`

pub not_ok : {T : Type 0} (r : Result T Fault) (e : Fault) → r ≡ Err e → ¬ IsOk r
not_ok r e is ok = true≢false (sym ok ∙ ap is_ok is)

pub on_ok : {T : Type 0} (r : Result T Fault) (P : Type 0) → OnOk r P → IsOk r → P
on_ok (Ok x) P h ok = h
on_ok (Err e) P h ok = absurd (true≢false (sym ok))

-- want of memory is not that a rule is broken
pub not_invalid : {T : Type 0} (r : Result T Fault) → IfErr r (λ fault. fault ≡ Fault.NoMemory) → ¬ (r ≡ Err Fault.Invalid)
not_invalid {T = T} r h is =
    let same : Fault.Invalid ≡ Fault.NoMemory = subst (λ (q : Result T Fault). IfErr q (λ fault. fault ≡ Fault.NoMemory)) is h in
    cc

-- ---- one more result of a call

pub Leads-gives_more : (types : List ValTy) (i : ℕ) (d : ValTy) (old mid new : Stack) → i < length types → Leads (Gives [] (take i types)) old mid → Leads (Gives [] (get_or types i d ∷ [])) mid new → Leads (Gives [] (take (i + 1) types)) old new
Leads-gives_more types i d old mid new within first h =
    subst (λ (all : List ValTy). Leads (Gives [] all) old new) (sym (take_more types i d within)) (Leads-gives (take i types) (get_or types i d ∷ []) old mid new first h)

pub Answers-takes : (a c : List ValTy) (old mid new : Stack) (r : Result (Unit {0}) Fault) → Leads (Gives a []) old mid → Answers (Gives [] c) mid new r → Answers (Gives a c) old new r
Answers-takes a c old mid new r first h = (λ ok. Leads-takes a [] c old mid new first (h.0 ok), λ is. IsStuck-takes a [] c old mid first (h.1 is))

pub Answers-takes_more : (a b c : List ValTy) (old mid new : Stack) (r : Result (Unit {0}) Fault) → Leads (Gives a []) old mid → Answers (Gives b c) mid new r → Answers (Gives (b ++ a) c) old new r
Answers-takes_more a b c old mid new r first h = (λ ok. Leads-takes a b c old mid new first (h.0 ok), λ is. IsStuck-takes a b c old mid first (h.1 is))
