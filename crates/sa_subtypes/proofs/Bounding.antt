-- Each step of the test of two types that the code makes.
use Rattle.std.proofs.Common.{◌≡◌, ℕ, suc, ◌+◌, ◌<◌, ◌≤◌, Bool, true, false, ◌||◌, ◌&&◌, cond, List, [], ◌∷◌, length, get_or, drop, Option, Some, None, refl, sym, ap, subst, ◌∙◌, arith}
use Rattle.std.specs.Prelude.{not}
use Rattle.std.proofs.lemmas.List.{drop_more, drop_all}
use Rattle.sa_ast.specs.declared.pos.Pos.{Pos}
use Rattle.sa_ast.specs.declared.ty.ModeTy.{ModeTy}
use Rattle.sa_ast.specs.declared.ty.Ty.{Ty}
use Rattle.sa_ast.specs.declared.ty.Ty.TheVariants as ty
use Rattle.sa_ast.specs.Types.{BareTy, Rout, Iter, bare, bare_arg, all_bare_args, option_bare}
use Rattle.sa_ast.proofs.BareTypes.{bare-Named, bare-Same, bare-Rout, bare-Iter, bare_arg-parts, by_variants}
use Rattle.sa_ast.specs.TypeEquality.{same_mode, same_type}
use Rattle.sa_subtypes.specs.Bounds.{goes_by, rises, occurs_as, holds, args_hold, arg_holds, result_holds}

and_false : (a b : Bool) → false ≡ b → false ≡ (a && b)
and_false true b h = h
and_false false b h = refl

module _ (tops : BareTy → Bool) (climbs : BareTy → BareTy → Bool) (immutable : BareTy → Bool) where
  abbrev Rises : Ty → Ty → Bool → Bool
  Rises t u turned = rises tops climbs immutable (bare t) (bare u) turned

  abbrev Holds : Ty → Ty → Bool → Bool
  Holds t u turned = holds tops climbs immutable (bare t) (bare u) turned

  -- ---- types of which one is no bound type of the other's kind

  pub holds-Named : (t u : Ty) (name : List ℕ) (args : List Ty) (pos : Pos) (turned r : Bool) → t ≡ ty.Named name args pos → r ≡ Rises t u turned → r ≡ Holds t u turned
  unfolding holds
  holds-Named t u name args pos turned r e h =
      subst (λ x. r ≡ rises tops climbs immutable x (bare u) turned → r ≡ holds tops climbs immutable x (bare u) turned) (sym (ap bare e ∙ bare-Named name args pos)) (λ k. k) h

  pub holds-Same : (t u : Ty) (pos : Pos) (turned r : Bool) → t ≡ ty.Same pos → r ≡ Rises t u turned → r ≡ Holds t u turned
  unfolding holds
  holds-Same t u pos turned r e h =
      subst (λ x. r ≡ rises tops climbs immutable x (bare u) turned → r ≡ holds tops climbs immutable x (bare u) turned) (sym (ap bare e ∙ bare-Same pos)) (λ k. k) h

  abbrev Agree : BareTy → BareTy → Bool → Type 0
  Agree s u turned = rises tops climbs immutable s u turned ≡ holds tops climbs immutable s u turned

  -- the same of each variant of the second type but one
  agree-Rout : (xs : List ModeTy) (of : Option Ty) (turned : Bool) (u : Ty) → ((args : List ModeTy) (other : Option Ty) (pos : Pos) → u ≡ ty.Rout args other pos → ⊥) → Agree (Rout (all_bare_args xs) (option_bare of)) (bare u) turned
  unfolding holds
  agree-Rout xs of turned = by_variants (λ u. ((args : List ModeTy) (other : Option Ty) (pos : Pos) → u ≡ ty.Rout args other pos → ⊥) → Agree (Rout (all_bare_args xs) (option_bare of)) (bare u) turned)
      (λ name params pos h. subst (λ x. Agree (Rout (all_bare_args xs) (option_bare of)) x turned) (sym (bare-Named name params pos)) refl)
      (λ pos h. subst (λ x. Agree (Rout (all_bare_args xs) (option_bare of)) x turned) (sym (bare-Same pos)) refl)
      (λ args other pos h. absurd (h args other pos refl))
      (λ args other pos h. subst (λ x. Agree (Rout (all_bare_args xs) (option_bare of)) x turned) (sym (bare-Iter args other pos)) refl)

  agree-Iter : (xs : List ModeTy) (of : Option Ty) (turned : Bool) (u : Ty) → ((args : List ModeTy) (other : Option Ty) (pos : Pos) → u ≡ ty.Iter args other pos → ⊥) → Agree (Iter (all_bare_args xs) (option_bare of)) (bare u) turned
  unfolding holds
  agree-Iter xs of turned = by_variants (λ u. ((args : List ModeTy) (other : Option Ty) (pos : Pos) → u ≡ ty.Iter args other pos → ⊥) → Agree (Iter (all_bare_args xs) (option_bare of)) (bare u) turned)
      (λ name params pos h. subst (λ x. Agree (Iter (all_bare_args xs) (option_bare of)) x turned) (sym (bare-Named name params pos)) refl)
      (λ pos h. subst (λ x. Agree (Iter (all_bare_args xs) (option_bare of)) x turned) (sym (bare-Same pos)) refl)
      (λ args other pos h. subst (λ x. Agree (Iter (all_bare_args xs) (option_bare of)) x turned) (sym (bare-Rout args other pos)) refl)
      (λ args other pos h. absurd (h args other pos refl))

  pub other-Rout : (t u : Ty) (xs : List ModeTy) (of : Option Ty) (pos : Pos) (turned r : Bool) → t ≡ ty.Rout xs of pos → ((args : List ModeTy) (other : Option Ty) (pos : Pos) → u ≡ ty.Rout args other pos → ⊥) → r ≡ Rises t u turned → r ≡ Holds t u turned
  other-Rout t u xs of pos turned r e never h =
      h ∙ subst (λ s. Agree s (bare u) turned) (sym (ap bare e ∙ bare-Rout xs of pos)) (agree-Rout xs of turned u never)

  pub other-Iter : (t u : Ty) (xs : List ModeTy) (of : Option Ty) (pos : Pos) (turned r : Bool) → t ≡ ty.Iter xs of pos → ((args : List ModeTy) (other : Option Ty) (pos : Pos) → u ≡ ty.Iter args other pos → ⊥) → r ≡ Rises t u turned → r ≡ Holds t u turned
  other-Iter t u xs of pos turned r e never h =
      h ∙ subst (λ s. Agree s (bare u) turned) (sym (ap bare e ∙ bare-Iter xs of pos)) (agree-Iter xs of turned u never)

  -- ---- two bound types of one kind

  module _ (t u : Ty) (xs ys : List ModeTy) (of other : Option Ty) (turned : Bool) where
    abbrev Args : Bool
    Args = args_hold tops climbs immutable (all_bare_args xs) (all_bare_args ys) turned

    abbrev Results : Bool
    Results = result_holds tops climbs immutable (option_bare of) (option_bare other) turned

    pub Rout-is : (pos place : Pos) → t ≡ ty.Rout xs of pos → u ≡ ty.Rout ys other place → Holds t u turned ≡ (tops (cond turned (bare t) (bare u)) || (Args && Results))
    unfolding holds
    Rout-is pos place e f =
        let one : bare t ≡ Rout (all_bare_args xs) (option_bare of) = ap bare e ∙ bare-Rout xs of pos in
        let two : bare u ≡ Rout (all_bare_args ys) (option_bare other) = ap bare f ∙ bare-Rout ys other place in
        ap (λ x. holds tops climbs immutable x (bare u) turned) one ∙ ap (λ x. holds tops climbs immutable (Rout (all_bare_args xs) (option_bare of)) x turned) two ∙ ap (λ x. tops (cond turned x (Rout (all_bare_args ys) (option_bare other))) || (Args && Results)) (sym one) ∙ ap (λ x. tops (cond turned (bare t) x) || (Args && Results)) (sym two)

    pub Iter-is : (pos place : Pos) → t ≡ ty.Iter xs of pos → u ≡ ty.Iter ys other place → Holds t u turned ≡ (tops (cond turned (bare t) (bare u)) || (Args && Results))
    unfolding holds
    Iter-is pos place e f =
        let one : bare t ≡ Iter (all_bare_args xs) (option_bare of) = ap bare e ∙ bare-Iter xs of pos in
        let two : bare u ≡ Iter (all_bare_args ys) (option_bare other) = ap bare f ∙ bare-Iter ys other place in
        ap (λ x. holds tops climbs immutable x (bare u) turned) one ∙ ap (λ x. holds tops climbs immutable (Iter (all_bare_args xs) (option_bare of)) x turned) two ∙ ap (λ x. tops (cond turned x (Iter (all_bare_args ys) (option_bare other))) || (Args && Results)) (sym one) ∙ ap (λ x. tops (cond turned (bare t) x) || (Args && Results)) (sym two)

    -- the three ways in which the code answers
    pub bound-top : (whole b : Bool) → whole ≡ (tops (cond turned (bare t) (bare u)) || (Args && Results)) → b ≡ tops (cond turned (bare t) (bare u)) → b ≡ true → true ≡ whole
    bound-top whole b w h k = sym (w ∙ ap (λ x. x || (Args && Results)) (sym h ∙ k))

    pub bound-args : (whole b a : Bool) (s l : List ModeTy) → whole ≡ (tops (cond turned (bare t) (bare u)) || (Args && Results)) → b ≡ tops (cond turned (bare t) (bare u)) → b ≡ false → s ≡ xs → l ≡ ys → a ≡ args_hold tops climbs immutable (all_bare_args s) (all_bare_args l) turned → a ≡ false → false ≡ whole
    bound-args whole b a s l w h k e f g j =
        let args : Args ≡ false = sym (ap (λ x. args_hold tops climbs immutable (all_bare_args x) (all_bare_args l) turned) e ∙ ap (λ x. args_hold tops climbs immutable (all_bare_args xs) (all_bare_args x) turned) f) ∙ sym g ∙ j in
        sym (w ∙ ap (λ x. x || (Args && Results)) (sym h ∙ k) ∙ ap (λ x. x && Results) args)

    pub bound-result : (whole b a r : Bool) (s l : List ModeTy) → whole ≡ (tops (cond turned (bare t) (bare u)) || (Args && Results)) → b ≡ tops (cond turned (bare t) (bare u)) → b ≡ false → s ≡ xs → l ≡ ys → a ≡ args_hold tops climbs immutable (all_bare_args s) (all_bare_args l) turned → a ≡ true → r ≡ Results → r ≡ whole
    bound-result whole b a r s l w h k e f g j i =
        let args : Args ≡ true = sym (ap (λ x. args_hold tops climbs immutable (all_bare_args x) (all_bare_args l) turned) e ∙ ap (λ x. args_hold tops climbs immutable (all_bare_args xs) (all_bare_args x) turned) f) ∙ sym g ∙ j in
        i ∙ sym (w ∙ ap (λ x. x || (Args && Results)) (sym h ∙ k) ∙ ap (λ x. x && Results) args)

  module _ (t u : Ty) (xs ys : List ModeTy) (of other : Option Ty) (turned : Bool) (pos place : Pos) (e : t ≡ ty.Rout xs of pos) (f : u ≡ ty.Rout ys other place) where
    pub Rout-top : (b : Bool) → b ≡ tops (cond turned (bare t) (bare u)) → b ≡ true → true ≡ Holds t u turned
    Rout-top b h k = bound-top t u xs ys of other turned (Holds t u turned) b (Rout-is t u xs ys of other turned pos place e f) h k

    pub Rout-args : (b a : Bool) (s l : List ModeTy) → b ≡ tops (cond turned (bare t) (bare u)) → b ≡ false → s ≡ xs → l ≡ ys → a ≡ args_hold tops climbs immutable (all_bare_args s) (all_bare_args l) turned → a ≡ false → false ≡ Holds t u turned
    Rout-args b a s l h k g i j m = bound-args t u xs ys of other turned (Holds t u turned) b a s l (Rout-is t u xs ys of other turned pos place e f) h k g i j m

    pub Rout-result : (b a r : Bool) (s l : List ModeTy) → b ≡ tops (cond turned (bare t) (bare u)) → b ≡ false → s ≡ xs → l ≡ ys → a ≡ args_hold tops climbs immutable (all_bare_args s) (all_bare_args l) turned → a ≡ true → r ≡ result_holds tops climbs immutable (option_bare of) (option_bare other) turned → r ≡ Holds t u turned
    Rout-result b a r s l h k g i j m n = bound-result t u xs ys of other turned (Holds t u turned) b a r s l (Rout-is t u xs ys of other turned pos place e f) h k g i j m n

  module _ (t u : Ty) (xs ys : List ModeTy) (of other : Option Ty) (turned : Bool) (pos place : Pos) (e : t ≡ ty.Iter xs of pos) (f : u ≡ ty.Iter ys other place) where
    pub Iter-top : (b : Bool) → b ≡ tops (cond turned (bare t) (bare u)) → b ≡ true → true ≡ Holds t u turned
    Iter-top b h k = bound-top t u xs ys of other turned (Holds t u turned) b (Iter-is t u xs ys of other turned pos place e f) h k

    pub Iter-args : (b a : Bool) (s l : List ModeTy) → b ≡ tops (cond turned (bare t) (bare u)) → b ≡ false → s ≡ xs → l ≡ ys → a ≡ args_hold tops climbs immutable (all_bare_args s) (all_bare_args l) turned → a ≡ false → false ≡ Holds t u turned
    Iter-args b a s l h k g i j m = bound-args t u xs ys of other turned (Holds t u turned) b a s l (Iter-is t u xs ys of other turned pos place e f) h k g i j m

    pub Iter-result : (b a r : Bool) (s l : List ModeTy) → b ≡ tops (cond turned (bare t) (bare u)) → b ≡ false → s ≡ xs → l ≡ ys → a ≡ args_hold tops climbs immutable (all_bare_args s) (all_bare_args l) turned → a ≡ true → r ≡ result_holds tops climbs immutable (option_bare of) (option_bare other) turned → r ≡ Holds t u turned
    Iter-result b a r s l h k g i j m n = bound-result t u xs ys of other turned (Holds t u turned) b a r s l (Iter-is t u xs ys of other turned pos place e f) h k g i j m n

  -- ---- arguments

  module _ (list others : List ModeTy) (i : ℕ) (turned whole : Bool) where
    abbrev Left : Bool
    Left = args_hold tops climbs immutable (all_bare_args (drop i list)) (all_bare_args (drop i others)) turned

    args-step : (a b : ModeTy) → i < length list → i < length others → a ≡ get_or list i a → b ≡ get_or others i b → Left ≡ (arg_holds tops climbs immutable (bare_arg a) (bare_arg b) turned && args_hold tops climbs immutable (all_bare_args (drop (i + 1) list)) (all_bare_args (drop (i + 1) others)) turned)
    unfolding args_hold arg_holds
    args-step a b h k e f =
        ap (λ l. args_hold tops climbs immutable (all_bare_args l) (all_bare_args (drop i others)) turned) (drop_more list i a h ∙ ap (λ x. x ∷ drop (i + 1) list) (sym e)) ∙ ap (λ l. args_hold tops climbs immutable (all_bare_args (a ∷ drop (i + 1) list)) (all_bare_args l) turned) (drop_more others i b k ∙ ap (λ x. x ∷ drop (i + 1) others) (sym f))

    pub args-other : (a b : ModeTy) (r : Bool) → whole ≡ Left → i < length list → i < length others → a ≡ get_or list i a → b ≡ get_or others i b → r ≡ arg_holds tops climbs immutable (bare_arg a) (bare_arg b) turned → r ≡ false → false ≡ whole
    args-other a b r w h k e f g j = sym (w ∙ args-step a b h k e f ∙ ap (λ x. x && args_hold tops climbs immutable (all_bare_args (drop (i + 1) list)) (all_bare_args (drop (i + 1) others)) turned) (sym g ∙ j))

    pub args-next : (a b : ModeTy) (r : Bool) → whole ≡ Left → i < length list → i < length others → a ≡ get_or list i a → b ≡ get_or others i b → r ≡ arg_holds tops climbs immutable (bare_arg a) (bare_arg b) turned → r ≡ true → whole ≡ args_hold tops climbs immutable (all_bare_args (drop (i + 1) list)) (all_bare_args (drop (i + 1) others)) turned
    args-next a b r w h k e f g j = w ∙ args-step a b h k e f ∙ ap (λ x. x && args_hold tops climbs immutable (all_bare_args (drop (i + 1) list)) (all_bare_args (drop (i + 1) others)) turned) (sym g ∙ j)

    pub args-end : whole ≡ Left → length list ≤ i → length others ≤ i → true ≡ whole
    unfolding args_hold
    args-end w h k = sym (w ∙ ap (λ l. args_hold tops climbs immutable (all_bare_args l) (all_bare_args (drop i others)) turned) (drop_all i list h) ∙ ap (λ l. args_hold tops climbs immutable (all_bare_args []) (all_bare_args l) turned) (drop_all i others k))

  pub args-done : (list others : List ModeTy) (i n m : ℕ) (turned whole : Bool) → whole ≡ args_hold tops climbs immutable (all_bare_args (drop i list)) (all_bare_args (drop i others)) turned → length list ≤ i → n ≡ length list → m ≡ length others → n ≡ m → true ≡ whole
  args-done list others i n m turned whole h end e f g = let last : length others ≤ i = omega (arith, end, e, f, g) in args-end list others i turned whole h end last

  module _ (list others : List ModeTy) (i : ℕ) (turned : Bool) (so_far : args_hold tops climbs immutable (all_bare_args list) (all_bare_args others) turned ≡ args_hold tops climbs immutable (all_bare_args (drop i list)) (all_bare_args (drop i others)) turned) (same : length list ≡ length others) where
    pub args-refused : (a b : ModeTy) (r : Bool) → i < length list → a ≡ get_or list i a → b ≡ get_or others i b → r ≡ arg_holds tops climbs immutable (bare_arg a) (bare_arg b) turned → r ≡ false → false ≡ args_hold tops climbs immutable (all_bare_args list) (all_bare_args others) turned
    args-refused a b r h e f g j = let k : i < length others = omega (arith, h, same) in args-other list others i turned (args_hold tops climbs immutable (all_bare_args list) (all_bare_args others) turned) a b r so_far h k e f g j

    pub args-finished : length list ≤ i → true ≡ args_hold tops climbs immutable (all_bare_args list) (all_bare_args others) turned
    args-finished h = args-done list others i (length list) (length others) turned (args_hold tops climbs immutable (all_bare_args list) (all_bare_args others) turned) so_far h refl refl same

  pub args-length : (list others : List ModeTy) (turned : Bool) → (length list ≡ length others → ⊥) → false ≡ args_hold tops climbs immutable (all_bare_args list) (all_bare_args others) turned
  unfolding args_hold arg_holds
  args-length [] [] turned h = absurd (h refl)
  args-length [] (b ∷ others) turned h = refl
  args-length (a ∷ list) [] turned h = refl
  args-length (a ∷ list) (b ∷ others) turned h = and_false (arg_holds tops climbs immutable (bare_arg a) (bare_arg b) turned) (args_hold tops climbs immutable (all_bare_args list) (all_bare_args others) turned) (args-length list others turned (λ e. h (ap suc e)))

  -- ---- one argument

  module _ (a b : ModeTy) (turned : Bool) where
    abbrev Goes : Bool
    Goes = goes_by a.mode (same_type (bare a.ty) (bare b.ty)) (holds tops climbs immutable (bare a.ty) (bare b.ty) turned) (holds tops climbs immutable (bare a.ty) (bare b.ty) (not turned))

    arg-is : arg_holds tops climbs immutable (bare_arg a) (bare_arg b) turned ≡ (same_mode a.mode b.mode && occurs_as tops climbs immutable (bare a.ty) (bare b.ty) Goes)
    unfolding arg_holds
    arg-is = ap (λ x. arg_holds tops climbs immutable x (bare_arg b) turned) (bare_arg-parts a) ∙ ap (λ x. arg_holds tops climbs immutable (a.mode, bare a.ty) x turned) (bare_arg-parts b)

    pub arg-modes : (m : Bool) → m ≡ same_mode a.mode b.mode → m ≡ false → false ≡ arg_holds tops climbs immutable (bare_arg a) (bare_arg b) turned
    arg-modes m h k = sym (arg-is ∙ ap (λ x. x && occurs_as tops climbs immutable (bare a.ty) (bare b.ty) Goes) (sym h ∙ k))

    pub arg-fixed : (m f r : Bool) → m ≡ same_mode a.mode b.mode → m ≡ true → f ≡ (immutable (bare a.ty) || immutable (bare b.ty)) → f ≡ true → r ≡ same_type (bare a.ty) (bare b.ty) → r ≡ arg_holds tops climbs immutable (bare_arg a) (bare_arg b) turned
    arg-fixed m f r h k e g j = j ∙ sym (arg-is ∙ ap (λ x. x && occurs_as tops climbs immutable (bare a.ty) (bare b.ty) Goes) (sym h ∙ k) ∙ ap (λ x. cond x (same_type (bare a.ty) (bare b.ty)) Goes) (sym e ∙ g))

    pub arg-free : (m f r : Bool) → m ≡ same_mode a.mode b.mode → m ≡ true → f ≡ (immutable (bare a.ty) || immutable (bare b.ty)) → f ≡ false → r ≡ Goes → r ≡ arg_holds tops climbs immutable (bare_arg a) (bare_arg b) turned
    arg-free m f r h k e g j = j ∙ sym (arg-is ∙ ap (λ x. x && occurs_as tops climbs immutable (bare a.ty) (bare b.ty) Goes) (sym h ∙ k) ∙ ap (λ x. cond x (same_type (bare a.ty) (bare b.ty)) Goes) (sym e ∙ g))

  -- ---- the results

  pub result-both_None : (of other : Option Ty) (turned : Bool) → of ≡ None → other ≡ None → true ≡ result_holds tops climbs immutable (option_bare of) (option_bare other) turned
  unfolding result_holds
  result-both_None of other turned e f = sym (ap (λ x. result_holds tops climbs immutable (option_bare x) (option_bare other) turned) e ∙ ap (λ x. result_holds tops climbs immutable (option_bare None) (option_bare x) turned) f)

  pub result-first : (of other : Option Ty) (t : Ty) (turned : Bool) → of ≡ Some t → other ≡ None → false ≡ result_holds tops climbs immutable (option_bare of) (option_bare other) turned
  unfolding result_holds
  result-first of other t turned e f = sym (ap (λ x. result_holds tops climbs immutable (option_bare x) (option_bare other) turned) e ∙ ap (λ x. result_holds tops climbs immutable (option_bare (Some t)) (option_bare x) turned) f)

  pub result-second : (of other : Option Ty) (t : Ty) (turned : Bool) → of ≡ None → other ≡ Some t → false ≡ result_holds tops climbs immutable (option_bare of) (option_bare other) turned
  unfolding result_holds
  result-second of other t turned e f = sym (ap (λ x. result_holds tops climbs immutable (option_bare x) (option_bare other) turned) e ∙ ap (λ x. result_holds tops climbs immutable (option_bare None) (option_bare x) turned) f)

  pub result-both : (of other : Option Ty) (t u : Ty) (turned f r : Bool) → of ≡ Some t → other ≡ Some u → f ≡ (immutable (bare t) || immutable (bare u)) → r ≡ cond f (same_type (bare t) (bare u)) (holds tops climbs immutable (bare t) (bare u) turned) → r ≡ result_holds tops climbs immutable (option_bare of) (option_bare other) turned
  unfolding result_holds
  result-both of other t u turned f r e g h k =
      k ∙ ap (λ x. cond x (same_type (bare t) (bare u)) (holds tops climbs immutable (bare t) (bare u) turned)) h ∙ sym (ap (λ x. result_holds tops climbs immutable (option_bare x) (option_bare other) turned) e ∙ ap (λ x. result_holds tops climbs immutable (option_bare (Some t)) (option_bare x) turned) g)

module _ (tops : BareTy → Bool) (climbs : BareTy → BareTy → Bool) (immutable : BareTy → Bool) where
  pub result-fixed : (of other : Option Ty) (t u g h : Ty) (turned f r : Bool) → of ≡ Some t → other ≡ Some u → g ≡ t → h ≡ u → f ≡ (immutable (bare g) || immutable (bare h)) → f ≡ true → r ≡ same_type (bare g) (bare h) → r ≡ result_holds tops climbs immutable (option_bare of) (option_bare other) turned
  unfolding result_holds
  result-fixed of other t u g h turned f r e k a b i j m =
      result-both tops climbs immutable of other g h turned f r (e ∙ ap Some (sym a)) (k ∙ ap Some (sym b)) i (m ∙ ap (λ x. cond x (same_type (bare g) (bare h)) (holds tops climbs immutable (bare g) (bare h) turned)) (sym j))

  pub result-free : (of other : Option Ty) (t u g h : Ty) (turned f r : Bool) → of ≡ Some t → other ≡ Some u → g ≡ t → h ≡ u → f ≡ (immutable (bare g) || immutable (bare h)) → f ≡ false → r ≡ holds tops climbs immutable (bare g) (bare h) turned → r ≡ result_holds tops climbs immutable (option_bare of) (option_bare other) turned
  unfolding result_holds
  result-free of other t u g h turned f r e k a b i j m =
      result-both tops climbs immutable of other g h turned f r (e ∙ ap Some (sym a)) (k ∙ ap Some (sym b)) i (m ∙ ap (λ x. cond x (same_type (bare g) (bare h)) (holds tops climbs immutable (bare g) (bare h) turned)) (sym j))

pub ruleset holding = (holds-Named, holds-Same, other-Rout, other-Iter, Rout-top, Rout-args, Rout-result, Iter-top, Iter-args, Iter-result)

pub ruleset arguments = (args-length, args-other, args-next, args-end, args-done)

pub ruleset argument = (arg-modes, arg-fixed, arg-free)

pub ruleset results = (result-both_None, result-first, result-second, result-fixed, result-free)
