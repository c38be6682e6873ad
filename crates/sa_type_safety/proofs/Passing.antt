-- What is passed to a call and what is copied out: values of the types of parameters, through signatures and bound types.
use Rattle.std.proofs.Common.{◌≡◌, ℕ, ◌⊎◌, inl, inr, Bool, true, false, ◌==◌, List, [], ◌∷◌, Option, Some, None, slice_get, refl, sym, ap, subst, ◌∙◌, true≢false, eqb-true}
use Rattle.std.specs.Prelude.{IsTrue}
use Rattle.std.proofs.lemmas.Bool.{or_left, or_right, eq-eqb}
use Rattle.std.proofs.lemmas.Option.{none-some}
use Rattle.sa_ast.specs.declared.pos.Pos.{Pos}
use Rattle.sa_ast.specs.declared.ty.Mode.{Mode}
use Rattle.sa_ast.specs.declared.ty.Mode.TheVariants as mode
use Rattle.sa_ast.specs.TypeEquality.{same_mode}
use Rattle.sa_typing.specs.declared.expr_type.ParamType.{ParamType}
use Rattle.sa_typing.specs.Rows.{Rows, is_supertype, is_strict_supertype, is_abstract, is_immutable}
use Rattle.sa_typing.specs.Builtins.{str_type}
use Rattle.sa_typing.specs.Passing.{is_value_mode}
use Rattle.sa_typing.specs.Signatures.{param_conforms, type_conforms}
use Rattle.sa_semantics.specs.Program.{Program, feature_of}
use Rattle.sa_semantics.specs.Value.{Value, Void, Int, Truth, Char, Text, Ref, Imm, Bound, Boxed}
use Rattle.sa_semantics.specs.Calls.{box_value, boxed, boxed_if, boxed_where, boxed_back, copy_out, copy_back}
use Rattle.sa_type_safety.specs.Typing.{ObjectType, HeapExtends, CodeEnv, IsLocal, HasType, Conform}
use Rattle.sa_type_safety.proofs.Facts.{first_of, second_of, one_of}
use Rattle.sa_type_safety.proofs.ProgramFacts.{ProgramFacts, AreWide, AreTheWide}
use Rattle.sa_type_safety.proofs.Worlds.{type_later}
use Rattle.sa_type_safety.proofs.Safe.{Point, Safe, Any, safe_then, safe_before, safe_looking, safe_with, safe_if, safe_pure, safe_that, extends_trans}
use Rattle.sa_type_safety.proofs.SafeSteps.{safe_charge, safe_write}

pub same_modes : (a b : Mode) → same_mode a b ≡ true → a ≡ b
same_modes mode.In mode.In e = refl
same_modes mode.Out mode.Out e = refl
same_modes mode.Inout mode.Inout e = refl
same_modes mode.Once mode.Once e = refl
same_modes _ _ e = absurd (true≢false (sym e))

-- ---- by its mode, what is passed for a parameter

-- `out` arguments have no value. `once` arguments may lack at a resumption.
abbrev pub ArgThat : (Value → Type 0) → Bool → Mode → Option Value → Type 0
ArgThat Q again mode.Out None = Unit {0}
ArgThat Q again mode.Out (Some v) = ⊥
ArgThat Q true mode.Once None = Unit {0}
ArgThat Q false mode.Once None = ⊥
ArgThat Q again mode.Once (Some v) = Q v
ArgThat Q again mode.In None = ⊥
ArgThat Q again mode.In (Some v) = Q v
ArgThat Q again mode.Inout None = ⊥
ArgThat Q again mode.Inout (Some v) = Q v

abbrev pub GivenThat : (ParamType → Value → Type 0) → Bool → List ParamType → List (Option Value) → Type 0
GivenThat Q again [] [] = Unit {0}
GivenThat Q again [] (v ∷ given) = ⊥
GivenThat Q again (p ∷ params) [] = ⊥
GivenThat Q again (p ∷ params) (v ∷ given) = ArgThat (Q p) again p.mode v × GivenThat Q again params given

abbrev pub GivenWell : Rows → List ObjectType → Bool → List ParamType → List (Option Value) → Type 0
GivenWell w ks = GivenThat (λ p v. HasType w ks v p.ty)

-- a value of a subtype
abbrev pub IsBelow : Rows → List ObjectType → ℕ → Value → Type 0
IsBelow w ks ty v = (own : ℕ) × HasType w ks v own × (is_supertype w ty own ≡ true)

abbrev pub GivenBelow : Rows → List ObjectType → Bool → List ParamType → List (Option Value) → Type 0
GivenBelow w ks = GivenThat (λ p v. IsBelow w ks p.ty v)

pub some_arg : (Q R : Value → Type 0) (again : Bool) (m : Mode) (v u : Value) → ArgThat Q again m (Some v) → Q v × (R u → ArgThat R again m (Some u))
some_arg Q R again mode.Out v u h = absurd h
some_arg Q R true mode.Once v u h = (h, λ r. r)
some_arg Q R false mode.Once v u h = (h, λ r. r)
some_arg Q R again mode.In v u h = (h, λ r. r)
some_arg Q R again mode.Inout v u h = (h, λ r. r)

pub none_arg : (Q R : Value → Type 0) (again : Bool) (m : Mode) → ArgThat Q again m None → ArgThat R again m None
none_arg Q R again mode.Out h = tt
none_arg Q R true mode.Once h = tt
none_arg Q R false mode.Once h = h
none_arg Q R again mode.In h = h
none_arg Q R again mode.Inout h = h

pub arg_that : (Q R : Value → Type 0) (again : Bool) (m : Mode) (v : Option Value) → ((u : Value) → Q u → R u) → ArgThat Q again m v → ArgThat R again m v
arg_that Q R again m None f h = none_arg Q R again m h
arg_that Q R again m (Some v) f h = let both = some_arg Q R again m v v h in both.1 (f v both.0)

pub given_that : (Q R : ParamType → Value → Type 0) (again : Bool) (params : List ParamType) (given : List (Option Value)) → ((p : ParamType) (v : Value) → Q p v → R p v) → GivenThat Q again params given → GivenThat R again params given
given_that Q R again [] [] f h = tt
given_that Q R again [] (v ∷ given) f h = h
given_that Q R again (p ∷ params) [] f h = h
given_that Q R again (p ∷ params) (v ∷ given) f h = (arg_that (Q p) (R p) again p.mode v (f p) h.0, given_that Q R again params given f h.1)

module _ {w : Rows} {p : Program} (k : ProgramFacts w p) where
  -- ---- types

  pub above_loose : (upper lower : ℕ) → is_strict_supertype w upper lower ≡ true → is_immutable w upper ≡ false
  above_loose upper lower e =
      elim (k.above_is upper lower e) as (λ x. is_immutable w upper ≡ false) [ inl a ↦ k.abstract_loose upper a | inr b ↦ k.bound_loose upper b.1 b.3 ]

  -- an immutable type is a supertype of itself alone
  pub held_alone : (upper lower : ℕ) → is_supertype w upper lower ≡ true → is_immutable w upper ≡ true → upper ≡ lower
  held_alone upper lower e i =
      elim (one_of (upper == lower) (is_strict_supertype w upper lower) e) as (λ x. upper ≡ lower)
      [ inl a ↦ eqb-true upper lower a | inr b ↦ absurd (true≢false (sym i ∙ above_loose upper lower b)) ]

  holder_loose : (upper lower : ℕ) → is_supertype w upper lower ≡ true → is_immutable w lower ≡ false → is_immutable w upper ≡ false
  holder_loose upper lower e i =
      elim (one_of (upper == lower) (is_strict_supertype w upper lower) e) as (λ x. is_immutable w upper ≡ false)
      [ inl a ↦ subst (λ n. is_immutable w n ≡ false) (sym (eqb-true upper lower a)) i | inr b ↦ above_loose upper lower b ]

  pub holds_above : (upper lower : ℕ) → is_strict_supertype w upper lower ≡ true → is_supertype w upper lower ≡ true
  holds_above upper lower e = or_right (upper == lower) (is_strict_supertype w upper lower) e

  pub holds_itself : (ty : ℕ) → is_supertype w ty ty ≡ true
  holds_itself ty = or_left (ty == ty) (is_strict_supertype w ty ty) (eq-eqb ty ty refl)

  -- a supertype that isn't immutable is a proper supertype of each immutable subtype of the type
  above_both : (own ty low : ℕ) → is_supertype w ty own ≡ true → is_strict_supertype w own low ≡ true → is_immutable w low ≡ true → is_strict_supertype w ty low ≡ true
  above_both own ty low e b i =
      elim (one_of (ty == low) (is_strict_supertype w ty low) (k.above_above ty own low e (holds_above own low b))) as (λ x. is_strict_supertype w ty low ≡ true) [
        | inl same ↦ absurd (true≢false (sym (subst (λ n. is_immutable w n ≡ true) (sym (eqb-true ty low same)) i) ∙ holder_loose ty own e (above_loose own low b)))
        | inr is ↦ is
      ]

  -- a proper subtype of a type that isn't abstract is a bound type, and so is that type
  bound_below : (upper lower : ℕ) → is_abstract w upper ≡ false → is_strict_supertype w upper lower ≡ true → is_immutable w lower ≡ false
  bound_below upper lower a e =
      elim (k.above_is upper lower e) as (λ x. is_immutable w lower ≡ false)
      [ inl b ↦ absurd (true≢false (sym b ∙ a)) | inr b ↦ k.bound_loose lower b.0 b.2 ]

  -- a value that isn't one of an immutable class is of each supertype
  pub goes_up : (ks : List ObjectType) (v : Value) (own ty : ℕ) → is_immutable w own ≡ false → is_supertype w ty own ≡ true → HasType w ks v own → HasType w ks v ty
  goes_up ks Void own ty i e h = holder_loose ty own e i
  goes_up ks (Int z) own ty i e h = absurd (true≢false (sym (subst (λ n. is_immutable w n ≡ true) (sym h) k.int_immutable) ∙ i))
  goes_up ks (Truth b) own ty i e h = absurd (true≢false (sym (subst (λ n. is_immutable w n ≡ true) (sym h) k.bool_immutable) ∙ i))
  goes_up ks (Char byte) own ty i e h = absurd (true≢false (sym (subst (λ n. is_immutable w n ≡ true) (sym h) k.char_immutable) ∙ i))
  goes_up ks (Text bytes) own ty i e h = k.above_above ty own str_type e h
  goes_up ks (Ref number) own ty i e h = (h.0, h.1, h.2, k.above_above ty own h.0 e h.3)
  goes_up ks (Imm named inside) own ty i e h = absurd (true≢false (sym (subst (λ n. is_immutable w n ≡ true) h.0 (first_of (is_immutable w named) _ h.1)) ∙ i))
  goes_up ks (Bound number) own ty i e h = (h.0, h.1, h.2, h.3, k.above_above ty own h.0 e h.4)
  goes_up ks (Boxed v) own ty i e h = (h.0, h.1, h.2, above_both own ty h.0 e h.3 h.2)

  -- a value of a type is of each supertype that isn't abstract
  pub goes_on : (ks : List ObjectType) (v : Value) (own ty : ℕ) → is_abstract w ty ≡ false → is_supertype w ty own ≡ true → HasType w ks v own → HasType w ks v ty
  goes_on ks v own ty a e h =
      elim (one_of (ty == own) (is_strict_supertype w ty own) e) as (λ x. HasType w ks v ty)
      [ inl same ↦ subst (HasType w ks v) (sym (eqb-true ty own same)) h | inr b ↦ goes_up ks v own ty (bound_below ty own a b) e h ]

  -- ---- boxing

  above_low : (own ty : ℕ) → is_supertype w ty own ≡ true → is_immutable w own ≡ true → is_abstract w ty ≡ true → is_strict_supertype w ty own ≡ true
  above_low own ty e i a =
      elim (one_of (ty == own) (is_strict_supertype w ty own) e) as (λ x. is_strict_supertype w ty own ≡ true)
      [ inl same ↦ absurd (true≢false (sym (subst (λ n. is_immutable w n ≡ true) (sym (eqb-true ty own same)) i) ∙ k.abstract_loose ty a)) | inr is ↦ is ]

  -- a value of an immutable class is boxed
  safe_wide : {base : List ObjectType} {x : Point} (at : Pos) (attributes : ℕ) (v : Value) (own ty : ℕ) → is_supertype w ty own ≡ true → HasType w base v own → is_immutable w own ≡ true → is_abstract w ty ≡ true → Safe w base x Value (λ ks r. HasType w ks r ty) (box_value at attributes v)
  safe_wide at attributes v own ty e h i a =
      safe_before (safe_charge k.well at _) (λ ks f. safe_pure (Boxed v) (λ js g. (own, type_later w (extends_trans f g) v own h, i, above_low own ty e i a)))

  -- a value of a subtype of an abstract type is boxed to be one of that
  pub safe_widened : {base : List ObjectType} {x : Point} (at : Pos) (v : Value) (own ty : ℕ) → is_abstract w ty ≡ true → is_supertype w ty own ≡ true → HasType w base v own → Safe w base x Value (λ ks r. HasType w ks r ty) (boxed p at v)
  safe_widened at (Int z) own ty a e h = safe_wide at 1 (Int z) own ty e h (subst (λ n. is_immutable w n ≡ true) (sym h) k.int_immutable) a
  safe_widened at (Truth b) own ty a e h = safe_wide at 1 (Truth b) own ty e h (subst (λ n. is_immutable w n ≡ true) (sym h) k.bool_immutable) a
  safe_widened at (Char byte) own ty a e h = safe_wide at 1 (Char byte) own ty e h (subst (λ n. is_immutable w n ≡ true) (sym h) k.char_immutable) a
  safe_widened at (Imm named inside) own ty a e h =
      safe_wide at _ (Imm named inside) own ty e h (subst (λ n. is_immutable w n ≡ true) h.0 (first_of (is_immutable w named) _ h.1)) a
  safe_widened at Void own ty a e h = safe_pure Void (λ ks f. k.abstract_loose ty a)
  safe_widened at (Text bytes) own ty a e h = safe_pure (Text bytes) (λ ks f. k.above_above ty own str_type e h)
  safe_widened at (Ref number) own ty a e h =
      safe_pure (Ref number) (λ ks f. type_later w f (Ref number) ty (h.0, h.1, h.2, k.above_above ty own h.0 e h.3))
  safe_widened at (Bound number) own ty a e h =
      safe_pure (Bound number) (λ ks f. type_later w f (Bound number) ty (h.0, h.1, h.2, h.3, k.above_above ty own h.0 e h.4))
  safe_widened at (Boxed v) own ty a e h =
      safe_pure (Boxed v) (λ ks f. type_later w f (Boxed v) ty (h.0, h.1, h.2, above_both own ty h.0 e h.3 h.2))

  -- a value is assigned to a supertype, boxed where this is abstract
  pub safe_widened_if : {base : List ObjectType} {x : Point} (at : Pos) (wide : Bool) (v : Value) (own ty : ℕ) → wide ≡ is_abstract w ty → is_supertype w ty own ≡ true → HasType w base v own → Safe w base x Value (λ ks r. HasType w ks r ty) (boxed_if p at wide v)
  safe_widened_if at wide v own ty s e h =
      safe_if wide (λ b. safe_widened at v own ty (sym s ∙ b) e h) (λ b. safe_pure v (λ ks f. type_later w f v ty (goes_on _ v own ty (sym s ∙ b) e h)))

  -- ---- arguments

  below_later : {old new : List ObjectType} → HeapExtends old new → (again : Bool) (params : List ParamType) (given : List (Option Value)) → GivenBelow w old again params given → GivenBelow w new again params given
  below_later e again params given h = given_that _ _ again params given (λ q v b. (b.0, type_later w e v b.0 b.1, b.2)) h

  pub given_later : {old new : List ObjectType} → HeapExtends old new → (again : Bool) (params : List ParamType) (given : List (Option Value)) → GivenWell w old again params given → GivenWell w new again params given
  given_later e again params given h = given_that _ _ again params given (λ q v b. type_later w e v q.ty b) h

  -- some are boxed
  pub safe_widened_some : {base : List ObjectType} {x : Point} (at : Pos) (again : Bool) (params : List ParamType) (flags : List Bool) (given : List (Option Value)) → AreWide w params flags → GivenBelow w base again params given → Safe w base x (List (Option Value)) (λ ks r. GivenBelow w ks again params r) (boxed_where p at flags given)
  safe_widened_some at again [] [] given f h = safe_pure given (λ ks e. below_later e again [] given h)
  safe_widened_some at again [] (b ∷ flags) [] f h = safe_pure [] (λ ks e. tt)
  safe_widened_some at again [] (b ∷ flags) (v ∷ given) f h = absurd h
  safe_widened_some at again (q ∷ params) [] given f h = safe_pure given (λ ks e. below_later e again (q ∷ params) given h)
  safe_widened_some at again (q ∷ params) (b ∷ flags) [] f h = absurd h
  safe_widened_some {base} at again (q ∷ params) (b ∷ flags) (None ∷ given) f h =
      safe_then (safe_widened_some at again params flags given f.1 h.1)
      (λ ks vs e is. safe_pure (None ∷ vs) (λ js g. (none_arg (IsBelow w base q.ty) (IsBelow w js q.ty) again q.mode h.0, below_later g again params vs is)))
  safe_widened_some {base} at again (q ∷ params) (b ∷ flags) (Some v ∷ given) f h =
      let here = (some_arg (IsBelow w base q.ty) (IsBelow w base q.ty) again q.mode v v h.0).0 in
      safe_then {P = λ ks u. IsBelow w ks q.ty u}
      (safe_if b
      (λ is. safe_that (safe_widened at v here.0 q.ty (f.0 is) here.2 here.1) (λ ks u e t. (q.ty, t, holds_itself q.ty)))
      (λ is. safe_pure v (λ ks e. (here.0, type_later w e v here.0 here.1, here.2))))
      (λ ks u e t. safe_then (safe_widened_some at again params flags given f.1 (below_later e again params given h.1))
      (λ js us g is. safe_pure (Some u ∷ us) (λ is' i.
      ((some_arg (IsBelow w base q.ty) (IsBelow w is' q.ty) again q.mode v u h.0).1 (t.0, type_later w (extends_trans g i) u t.0 t.1, t.2), below_later i again params us is))))

  -- a list of values of subtypes of the parameters' types, where none of these is abstract
  below_plain : (base : List ObjectType) (again : Bool) (params : List ParamType) (given : List (Option Value)) → AreTheWide w params [] → GivenBelow w base again params given → GivenWell w base again params given
  below_plain base again [] [] f h = tt
  below_plain base again [] (v ∷ given) f h = h
  below_plain base again (q ∷ params) [] f h = h
  below_plain base again (q ∷ params) (v ∷ given) f h =
      (arg_that (IsBelow w base q.ty) (λ u. HasType w base u q.ty) again q.mode v (λ u b. goes_on base u b.0 q.ty f.0 b.2 b.1) h.0, below_plain base again params given f.1 h.1)

  -- all of them are boxed that have to be, and then they are of the parameters' types
  pub safe_widened_all : {base : List ObjectType} {x : Point} (at : Pos) (again : Bool) (params : List ParamType) (flags : List Bool) (given : List (Option Value)) → AreTheWide w params flags → GivenBelow w base again params given → Safe w base x (List (Option Value)) (λ ks r. GivenWell w ks again params r) (boxed_where p at flags given)
  safe_widened_all at again [] [] [] f h = safe_pure [] (λ ks e. tt)
  safe_widened_all at again [] [] (v ∷ given) f h = absurd h
  safe_widened_all at again [] (b ∷ flags) [] f h = safe_pure [] (λ ks e. tt)
  safe_widened_all at again [] (b ∷ flags) (v ∷ given) f h = absurd h
  safe_widened_all at again (q ∷ params) [] given f h = safe_pure given (λ ks e. given_later e again (q ∷ params) given (below_plain _ again (q ∷ params) given f h))
  safe_widened_all at again (q ∷ params) (b ∷ flags) [] f h = absurd h
  safe_widened_all {base} at again (q ∷ params) (b ∷ flags) (None ∷ given) f h =
      safe_then (safe_widened_all at again params flags given f.1 h.1)
      (λ ks vs e is. safe_pure (None ∷ vs) (λ js g. (none_arg (IsBelow w base q.ty) (λ u. HasType w js u q.ty) again q.mode h.0, given_later g again params vs is)))
  safe_widened_all {base} at again (q ∷ params) (b ∷ flags) (Some v ∷ given) f h =
      let here = (some_arg (IsBelow w base q.ty) (IsBelow w base q.ty) again q.mode v v h.0).0 in
      safe_then (safe_widened_if at b v here.0 q.ty f.0 here.2 here.1)
      (λ ks u e t. safe_then (safe_widened_all at again params flags given f.1 (below_later e again params given h.1))
      (λ js us g is. safe_pure (Some u ∷ us) (λ is' i.
      ((some_arg (IsBelow w base q.ty) (λ a. HasType w is' a q.ty) again q.mode v u h.0).1 (type_later w (extends_trans g i) u q.ty t), given_later i again params us is))))

  -- ---- parameters that conform

  arg_conforms : (ks : List ObjectType) (again : Bool) (m : Mode) (ty own : ℕ) (v : Option Value) → type_conforms w m ty own ≡ true → ArgThat (λ u. HasType w ks u ty) again m v → ArgThat (IsBelow w ks own) again m v
  arg_conforms ks again mode.In ty own v e h = arg_that _ _ again mode.In v (λ u b. (ty, b, e)) h
  arg_conforms ks again mode.Once ty own v e h = arg_that _ _ again mode.Once v (λ u b. (ty, b, e)) h
  arg_conforms ks again mode.Out ty own None e h = tt
  arg_conforms ks again mode.Out ty own (Some v) e h = h
  arg_conforms ks again mode.Inout ty own v e h = arg_that _ _ again mode.Inout v (λ u b. (ty, b, subst (λ n. is_supertype w n ty ≡ true) (sym (eqb-true own ty e)) (holds_itself ty))) h

  -- what is given by a signature's parameters is of subtypes of those of the implementation
  pub given_conforms : (ks : List ObjectType) (again : Bool) (params own : List ParamType) (given : List (Option Value)) → Conform w params own → GivenWell w ks again params given → GivenBelow w ks again own given
  given_conforms ks again [] [] [] c h = tt
  given_conforms ks again [] [] (v ∷ given) c h = h
  given_conforms ks again [] (o ∷ own) given c h = absurd c
  given_conforms ks again (q ∷ params) [] given c h = absurd c
  given_conforms ks again (q ∷ params) (o ∷ own) [] c h = h
  given_conforms ks again (q ∷ params) (o ∷ own) (v ∷ given) c h = (
    subst (λ m. ArgThat (IsBelow w ks o.ty) again m v) (sym (same_modes o.mode q.mode (first_of (same_mode o.mode q.mode) (type_conforms w q.mode q.ty o.ty) c.0))) (arg_conforms ks again q.mode q.ty o.ty v (second_of (same_mode o.mode q.mode) (type_conforms w q.mode q.ty o.ty) c.0) h.0),
    given_conforms ks again params own given c.1 h.1,
  )

-- ---- what is copied out

-- the callee's variables: each has a value, but for those of parameters that only go in
abbrev pub Came : Rows → List ObjectType → List ParamType → List Value → Type 0
Came w ks [] values = Unit {0}
Came w ks (o ∷ own) [] = IsTrue (is_value_mode o.mode) × Came w ks own []
Came w ks (o ∷ own) (v ∷ values) = HasType w ks v o.ty × Came w ks own values

-- where it is copied: a variable of a supertype, for what doesn't only go in
abbrev pub BackTo : Rows → List ℕ → ParamType → Option ℕ → Type 0
BackTo w vars q None = IsTrue (is_value_mode q.mode)
BackTo w vars q (Some var) = (is_value_mode q.mode ≡ false) × ((ty : ℕ) × (slice_get vars var ≡ Some ty) × (is_supertype w ty q.ty ≡ true))

abbrev pub BackWell : Rows → List ℕ → List ParamType → List (Option ℕ) → Type 0
BackWell w vars [] [] = Unit {0}
BackWell w vars [] (b ∷ back) = ⊥
BackWell w vars (q ∷ params) [] = ⊥
BackWell w vars (q ∷ params) (b ∷ back) = BackTo w vars q b × BackWell w vars params back

-- what a signature or a bound type boxes: what has an abstract type there, or nothing of what has the same type
abbrev pub WidensBack : Rows → List ParamType → List ParamType → List Bool → Type 0
WidensBack w [] [] [] = Unit {0}
WidensBack w (q ∷ params) (o ∷ own) (b ∷ flags) = ((b ≡ is_abstract w q.ty) ⊎ ((b ≡ false) × (q.ty ≡ o.ty))) × WidensBack w params own flags
WidensBack w _ _ _ = ⊥

-- of what is copied to variables the values are of the types of the parameters
abbrev pub Arrived : Rows → List ObjectType → List ParamType → List (Option ℕ) → List Value → Type 0
Arrived w ks [] back values = Unit {0}
Arrived w ks (q ∷ params) [] values = Unit {0}
Arrived w ks (q ∷ params) (None ∷ back) [] = Arrived w ks params back []
Arrived w ks (q ∷ params) (None ∷ back) (v ∷ values) = Arrived w ks params back values
Arrived w ks (q ∷ params) (Some var ∷ back) [] = ⊥
Arrived w ks (q ∷ params) (Some var ∷ back) (v ∷ values) = HasType w ks v q.ty × Arrived w ks params back values

module _ {w : Rows} {p : Program} (k : ProgramFacts w p) where
  pub came_later : {old new : List ObjectType} → HeapExtends old new → (own : List ParamType) (values : List Value) → Came w old own values → Came w new own values
  came_later e [] values h = tt
  came_later e (o ∷ own) [] h = (h.0, came_later e own [] h.1)
  came_later e (o ∷ own) (v ∷ values) h = (type_later w e v o.ty h.0, came_later e own values h.1)

  arrived_later : {old new : List ObjectType} → HeapExtends old new → (params : List ParamType) (back : List (Option ℕ)) (values : List Value) → Arrived w old params back values → Arrived w new params back values
  arrived_later e [] back values h = tt
  arrived_later e (q ∷ params) [] values h = tt
  arrived_later e (q ∷ params) (None ∷ back) [] h = arrived_later e params back [] h
  arrived_later e (q ∷ params) (None ∷ back) (v ∷ values) h = arrived_later e params back values h
  arrived_later e (q ∷ params) (Some var ∷ back) [] h = h
  arrived_later e (q ∷ params) (Some var ∷ back) (v ∷ values) h = (type_later w e v q.ty h.0, arrived_later e params back values h.1)

  -- what is copied out conforms: the type of the signature's parameter is a supertype of its type
  back_holds : (m : Mode) (ty own : ℕ) → is_value_mode m ≡ false → type_conforms w m ty own ≡ true → is_supertype w ty own ≡ true
  back_holds mode.In ty own g e = absurd (true≢false g)
  back_holds mode.Once ty own g e = absurd (true≢false g)
  back_holds mode.Out ty own g e = e
  back_holds mode.Inout ty own g e = subst (λ n. is_supertype w ty n ≡ true) (sym (eqb-true own ty e)) (holds_itself k ty)

  safe_one_back : {base : List ObjectType} {x : Point} (at : Pos) (q o : ParamType) (b : Bool) (v : Value) → is_value_mode q.mode ≡ false → param_conforms w q (Some o) ≡ true → (b ≡ is_abstract w q.ty) ⊎ ((b ≡ false) × (q.ty ≡ o.ty)) → HasType w base v o.ty → Safe w base x Value (λ ks u. HasType w ks u q.ty) (boxed_if p at b v)
  safe_one_back at q o b v g c (inl e) h = safe_widened_if k at b v o.ty q.ty e (back_holds q.mode q.ty o.ty g (second_of (same_mode o.mode q.mode) (type_conforms w q.mode q.ty o.ty) c)) h
  safe_one_back at q o b v g c (inr e) h =
      safe_if b (λ t. absurd (true≢false (sym t ∙ e.0))) (λ t. safe_pure v (λ ks f. type_later w f v q.ty (subst (HasType w _ v) (sym e.1) h)))

  -- what isn't given is copied out, by the signature as by the implementation
  not_both : (q o : ParamType) → param_conforms w q (Some o) ≡ true → is_value_mode o.mode ≡ true → is_value_mode q.mode ≡ false → ⊥
  not_both q o c g n =
      true≢false (sym (subst (λ m. is_value_mode m ≡ true) (same_modes o.mode q.mode (first_of (same_mode o.mode q.mode) (type_conforms w q.mode q.ty o.ty) c)) g) ∙ n)

  -- where the callee has no variables, nothing is copied out
  nothing_arrived : (ks : List ObjectType) (vars : List ℕ) (params own : List ParamType) (back : List (Option ℕ)) → Conform w params own → BackWell w vars params back → Came w ks own [] → Arrived w ks params back []
  nothing_arrived ks vars [] own back c t h = tt
  nothing_arrived ks vars (q ∷ params) [] back c t h = absurd c
  nothing_arrived ks vars (q ∷ params) (o ∷ own) [] c t h = tt
  nothing_arrived ks vars (q ∷ params) (o ∷ own) (None ∷ back) c t h = nothing_arrived ks vars params own back c.1 t.1 h.1
  nothing_arrived ks vars (q ∷ params) (o ∷ own) (Some var ∷ back) c t h = absurd (not_both q o c.0 h.0 t.0.0)

  safe_nothing_back : {base : List ObjectType} {x : Point} (at : Pos) (vars : List ℕ) (params own : List ParamType) (back : List (Option ℕ)) (flags : List Bool) → Conform w params own → BackWell w vars params back → WidensBack w params own flags → Came w base own [] → Safe w base x (List Value) (λ ks r. r ≡ []) (boxed_back p at back flags [])
  safe_nothing_back at vars [] [] [] [] c t f h = safe_pure [] (λ ks e. refl)
  safe_nothing_back at vars [] [] [] (b ∷ flags) c t f h = absurd f
  safe_nothing_back at vars [] [] (b ∷ back) flags c t f h = absurd t
  safe_nothing_back at vars [] (o ∷ own) back flags c t f h = absurd c
  safe_nothing_back at vars (q ∷ params) [] back flags c t f h = absurd c
  safe_nothing_back at vars (q ∷ params) (o ∷ own) [] flags c t f h = absurd t
  safe_nothing_back at vars (q ∷ params) (o ∷ own) (r ∷ back) [] c t f h = absurd f
  safe_nothing_back at vars (q ∷ params) (o ∷ own) (None ∷ back) (b ∷ flags) c t f h = safe_nothing_back at vars params own back flags c.1 t.1 f.1 h.1
  safe_nothing_back at vars (q ∷ params) (o ∷ own) (Some var ∷ back) (b ∷ flags) c t f h = absurd (not_both q o c.0 h.0 t.0.0)

  pub safe_widened_back : {base : List ObjectType} {x : Point} (at : Pos) (vars : List ℕ) (params own : List ParamType) (back : List (Option ℕ)) (flags : List Bool) (values : List Value) → Conform w params own → BackWell w vars params back → WidensBack w params own flags → Came w base own values → Safe w base x (List Value) (λ ks r. Arrived w ks params back r) (boxed_back p at back flags values)
  safe_widened_back at vars [] [] [] [] values c t f h = safe_pure values (λ ks e. tt)
  safe_widened_back at vars [] [] [] (b ∷ flags) values c t f h = absurd f
  safe_widened_back at vars [] [] (b ∷ back) flags values c t f h = absurd t
  safe_widened_back at vars [] (o ∷ own) back flags values c t f h = absurd c
  safe_widened_back at vars (q ∷ params) [] back flags values c t f h = absurd c
  safe_widened_back at vars (q ∷ params) (o ∷ own) [] flags values c t f h = absurd t
  safe_widened_back at vars (q ∷ params) (o ∷ own) (r ∷ back) [] values c t f h = absurd f
  safe_widened_back at vars (q ∷ params) (o ∷ own) (None ∷ back) (b ∷ flags) [] c t f h =
      safe_that (safe_nothing_back at vars params own back flags c.1 t.1 f.1 h.1)
      (λ ks r e is. subst (Arrived w ks (q ∷ params) (None ∷ back)) (sym is) (nothing_arrived ks vars params own back c.1 t.1 (came_later e own [] h.1)))
  safe_widened_back at vars (q ∷ params) (o ∷ own) (None ∷ back) (b ∷ flags) (v ∷ values) c t f h =
      safe_then (safe_widened_back at vars params own back flags values c.1 t.1 f.1 h.1) (λ ks vs e is. safe_pure (v ∷ vs) (λ js g. arrived_later g params back vs is))
  safe_widened_back at vars (q ∷ params) (o ∷ own) (Some var ∷ back) (b ∷ flags) [] c t f h =
      absurd (not_both q o c.0 h.0 t.0.0)
  safe_widened_back at vars (q ∷ params) (o ∷ own) (Some var ∷ back) (b ∷ flags) (v ∷ values) c t f h =
      safe_then (safe_one_back at q o b v t.0.0 c.0 f.0 h.0)
      (λ ks u e is. safe_then (safe_widened_back at vars params own back flags values c.1 t.1 f.1 (came_later e own values h.1))
      (λ js us g are. safe_pure (u ∷ us) (λ i j. (type_later w (extends_trans g j) u q.ty is, arrived_later j params back us are))))

  -- into a variable of the running feature
  safe_bring_back : {base : List ObjectType} {x : Point} (at : Pos) (var own ty : ℕ) (v : Value) → IsLocal w x.local → slice_get x.local.frame.vars var ≡ Some ty → is_supertype w ty own ≡ true → HasType w base v own → Safe w base x (Unit {0}) Any (copy_out p at var v)
  safe_bring_back {x = x} at var own ty v (inr l) e g h = absurd (none-some ty (subst (λ (i : CodeEnv). slice_get i.frame.vars var ≡ Some ty) l.1 e))
  safe_bring_back {x = x} at var own ty v (inl l) e g h =
      safe_looking _ (λ s f is. safe_with _ l.0 (is.here.feature ∙ ap (λ (i : CodeEnv). i.number) l.3)
      (safe_with _ (feature_of l.1) (k.feature_at l.0 l.1 l.2)
      (safe_with _ ty (subst (λ (i : CodeEnv). slice_get i.frame.vars var ≡ Some ty) l.3 e)
      (safe_then (safe_widened_if k at _ v own ty (k.abstract_is ty) g (type_later w f v own h)) (λ ks u i t. safe_write k.well var ty u e t)))))

  pub safe_copied_back : {base : List ObjectType} {x : Point} (at : Pos) (params : List ParamType) (back : List (Option ℕ)) (values : List Value) → IsLocal w x.local → BackWell w x.local.frame.vars params back → Arrived w base params back values → Safe w base x (Unit {0}) Any (copy_back p at back values)
  safe_copied_back at [] [] values l t h = safe_pure tt (λ ks e. tt)
  safe_copied_back at [] (r ∷ back) values l t h = absurd t
  safe_copied_back at (q ∷ params) [] values l t h = absurd t
  safe_copied_back at (q ∷ params) (None ∷ back) [] l t h = safe_copied_back at params back [] l t.1 h
  safe_copied_back at (q ∷ params) (None ∷ back) (v ∷ values) l t h = safe_copied_back at params back values l t.1 h
  safe_copied_back at (q ∷ params) (Some var ∷ back) [] l t h = absurd h
  safe_copied_back at (q ∷ params) (Some var ∷ back) (v ∷ values) l t h =
      safe_before (safe_bring_back at var q.ty t.0.1.0 v l t.0.1.1 t.0.1.2 h.0)
      (λ ks e. safe_copied_back at params back values l t.1 (arrived_later e params back values h.1))
