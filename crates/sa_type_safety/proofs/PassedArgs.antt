-- Calls pass values of the parameters' types, and copy out values of the types that the caller sees: through a signature or a bound type
-- too.
use Rattle.std.proofs.Common.{◌≡◌, ℕ, suc, ◌⊎◌, inl, inr, Bool, true, false, ◌==◌, List, [], ◌∷◌, map, drop, Option, Some, None, slice_get, option_map, refl, sym, ap, ap₂, subst, ◌∙◌, true≢false}
use Rattle.std.proofs.lemmas.Bool.{and_from, or_left, eq-eqb}
use Rattle.std.proofs.lemmas.Option.{same_Some, none-some}
use Rattle.sa_ast.specs.declared.pos.Pos.{Pos}
use Rattle.sa_ast.specs.declared.ty.Mode.{Mode}
use Rattle.sa_ast.specs.declared.ty.Mode.TheVariants as mode
use Rattle.sa_ast.specs.TypeEquality.{same_mode}
use Rattle.sa_typed.specs.declared.feature.TypedCallee.{TypedCallee}
use Rattle.sa_typed.specs.declared.feature.TypedCallee.TheVariants as called
use Rattle.sa_typed.specs.declared.feature.Target.{Target}
use Rattle.sa_typed.specs.declared.feature.Target.TheVariants as target
use Rattle.sa_typing.specs.declared.expr_type.ParamType.{ParamType}
use Rattle.sa_typing.specs.declared.call_type.CallType.{CallType}
use Rattle.sa_typing.specs.Rows.{Rows, is_supertype, is_strict_supertype, is_abstract, call_type_at}
use Rattle.sa_typing.specs.Passing.{is_value_mode}
use Rattle.sa_typing.specs.Signatures.{param_conforms, type_conforms, result_conforms}
use Rattle.sa_typing.specs.Targets.{target_result}
use Rattle.sa_semantics.specs.Program.{Program, signature_of, type_row}
use Rattle.sa_semantics.specs.Value.{Value}
use Rattle.sa_semantics.specs.State.{Binding, Object}
use Rattle.sa_semantics.specs.Calls.{ResolvedCall, PassedArgs, boxed_if, boxed_for, pass_args, copy_results, interleave, wide_once, wide_arguments}
use Rattle.sa_type_safety.specs.Typing.{ObjectType, object_type_of, HeapExtends, IsLocal, HasType, HasTypeIf, Takes, Conform, AreBound, IsBoundTo, FieldsWell, ObjectWell, IsCallee}
use Rattle.sa_type_safety.proofs.ProgramFacts.{ProgramFacts, AreWide, AreTheWide, wide_of, wide_result}
use Rattle.sa_type_safety.proofs.Worlds.{type_later, type_if_later}
use Rattle.sa_type_safety.proofs.Safe.{Point, Safe, safe_then, safe_before, safe_with, safe_if, safe_pure, extends_trans}
use Rattle.sa_type_safety.proofs.SafeSteps.{safe_object_at}
use Rattle.sa_type_safety.proofs.Passing.{GivenWell, GivenBelow, ArgThat, safe_widened_if, safe_widened_some, safe_widened_all, given_later, given_conforms, Came, BackWell, WidensBack, came_later, safe_widened_back, safe_copied_back}

-- ---- what is passed, as the callee takes it

-- what a call gives, of this type, is of the type that the caller sees, boxed where that is abstract
abbrev pub GoesBack : Rows → Option ℕ → Option ℕ → Bool → Type 0
GoesBack w (Some own) (Some ty) wide = ((wide ≡ is_abstract w ty) × (is_supertype w ty own ≡ true)) ⊎ ((wide ≡ false) × (own ≡ ty))
GoesBack w None None wide = wide ≡ false
GoesBack w _ _ wide = ⊥

pub record PassedArgsWell (w : Rows) (ks : List ObjectType) (vars : List ℕ) (again : Bool) (class : ℕ) (t : Target) (own : List ParamType) (seen : Option ℕ) (h : PassedArgs) : Type 0 where
  pub given : GivenWell w ks again own h.given
  pub params : List ParamType
  pub conform : Conform w params own
  pub back : BackWell w vars params h.back
  pub widens : WidensBack w params own h.wide_back
  pub gives : GoesBack w (target_result w class t) seen h.wide

module _ {w : Rows} {p : Program} (k : ProgramFacts w p) where
  -- ---- the result

  safe_result : {base : List ObjectType} {x : Point} (at : Pos) (own seen : Option ℕ) (wide : Bool) (v : Value) → GoesBack w own seen wide → HasTypeIf w base own v → Safe w base x Value (λ ks u. HasTypeIf w ks seen u) (boxed_if p at wide v)
  safe_result at (Some own) (Some ty) wide v (inl g) h = safe_widened_if k at wide v own ty g.0 g.1 h
  safe_result at (Some own) (Some ty) wide v (inr g) h =
      safe_if wide (λ t. absurd (true≢false (sym t ∙ g.0))) (λ t. safe_pure v (λ ks f. type_later w f v ty (subst (HasType w _ v) g.1 h)))
  safe_result at (Some own) None wide v g h = absurd g
  safe_result at None (Some ty) wide v g h = absurd g
  safe_result at None None wide v g h = safe_if wide (λ t. absurd (true≢false (sym t ∙ g))) (λ t. safe_pure v (λ ks f. tt))

  -- the result of a call is of the type that the caller sees, and so are the variables that get a value back
  pub safe_brought : {base : List ObjectType} {x : Point} (at : Pos) (again : Bool) (class : ℕ) (t : Target) (own : List ParamType) (seen : Option ℕ) (h : PassedArgs) (r : Value × List Value) → IsLocal w x.local → PassedArgsWell w base x.local.frame.vars again class t own seen h → HasTypeIf w base (target_result w class t) r.0 → Came w base own r.1 → Safe w base x Value (λ ks v. HasTypeIf w ks seen v) (copy_results p at h r)
  safe_brought at again class t own seen h r l well is came =
      safe_then (safe_result at (target_result w class t) seen h.wide r.0 well.gives is)
      (λ ks v e given. safe_then (safe_widened_back k at _ well.params own h.back h.wide_back r.1 well.conform well.back well.widens (came_later k e own r.1 came))
      (λ js vs f are. safe_before (safe_copied_back k at well.params h.back vs l well.back are)
      (λ is' g. safe_pure v (λ hs i. type_if_later w (extends_trans f (extends_trans g i)) seen v given))))

-- ---- parameters that conform, one by one

module _ (w : Rows) where
  pub same_mode_itself : (m : Mode) → same_mode m m ≡ true
  same_mode_itself mode.In = refl
  same_mode_itself mode.Out = refl
  same_mode_itself mode.Inout = refl
  same_mode_itself mode.Once = refl

  type_conforms_itself : (m : Mode) (ty : ℕ) → type_conforms w m ty ty ≡ true
  type_conforms_itself mode.In ty = or_left (ty == ty) (is_strict_supertype w ty ty) (eq-eqb ty ty refl)
  type_conforms_itself mode.Once ty = or_left (ty == ty) (is_strict_supertype w ty ty) (eq-eqb ty ty refl)
  type_conforms_itself mode.Out ty = or_left (ty == ty) (is_strict_supertype w ty ty) (eq-eqb ty ty refl)
  type_conforms_itself mode.Inout ty = eq-eqb ty ty refl

  pub param_conforms_itself : (q : ParamType) → param_conforms w q (Some q) ≡ true
  param_conforms_itself q = and_from _ _ (same_mode_itself q.mode) (type_conforms_itself q.mode q.ty)

  pub conform_itself : (own : List ParamType) → Conform w own own
  conform_itself [] = tt
  conform_itself (o ∷ own) = (param_conforms_itself o, conform_itself own)

  -- nothing of a call that isn't dispatched is boxed
  static_widens : (vars : List ℕ) (own : List ParamType) (back : List (Option ℕ)) → BackWell w vars own back → WidensBack w own own (map (λ var. false) back)
  static_widens vars [] [] h = tt
  static_widens vars [] (b ∷ back) h = absurd h
  static_widens vars (o ∷ own) [] h = absurd h
  static_widens vars (o ∷ own) (b ∷ back) h = (inr (refl, refl), static_widens vars own back h.1)

  -- what is of abstract types is boxed
  wide_widens : (params own : List ParamType) → Conform w params own → WidensBack w params own (wide_of w params)
  wide_widens [] [] c = tt
  wide_widens [] (o ∷ own) c = absurd c
  wide_widens (q ∷ params) [] c = absurd c
  wide_widens (q ∷ params) (o ∷ own) c = (inl refl, wide_widens params own c.1)

  goes_back : (own seen : Option ℕ) → result_conforms w seen own ≡ true → GoesBack w own seen (wide_result w seen)
  goes_back (Some own) (Some ty) e = inl (refl, e)
  goes_back (Some own) None e = absurd (true≢false (sym e))
  goes_back None (Some ty) e = absurd (true≢false (sym e))
  goes_back None None e = refl

  goes_itself : (own : Option ℕ) → GoesBack w own own false
  goes_itself (Some ty) = inr (refl, refl)
  goes_itself None = refl

  -- ---- the arguments of what a bound value calls, by the caller's parameters at the open arguments

  abbrev pub mixed : List ParamType → List Bool → List ParamType → List ParamType
  mixed (o ∷ own) (true ∷ free) (q ∷ params) = q ∷ mixed own free params
  mixed (o ∷ own) (false ∷ free) params = o ∷ mixed own free params
  mixed _ _ params = []

  bound_conforms : (ks : List ObjectType) (own : List ParamType) (free : List Bool) (kept : List Value) (params : List ParamType) → AreBound w ks own free kept params → Conform w (mixed own free params) own
  bound_conforms ks [] [] [] [] h = tt
  bound_conforms ks (o ∷ own) (true ∷ free) kept (q ∷ params) h = (h.0, bound_conforms ks own free kept params h.1)
  bound_conforms ks (o ∷ own) (false ∷ free) (v ∷ kept) params h = (param_conforms_itself o, bound_conforms ks own free kept params h.2)
  bound_conforms ks [] [] [] (q ∷ params) h = absurd h
  bound_conforms ks [] [] (v ∷ kept) params h = absurd h
  bound_conforms ks [] (b ∷ free) kept params h = absurd h
  bound_conforms ks (o ∷ own) [] kept params h = absurd h
  bound_conforms ks (o ∷ own) (true ∷ free) kept [] h = absurd h
  bound_conforms ks (o ∷ own) (false ∷ free) [] params h = absurd h

  pub given_arg : (Q : Value → Type 0) (again : Bool) (m : Mode) (v : Value) → is_value_mode m ≡ true → Q v → ArgThat Q again m (Some v)
  given_arg Q again mode.In v g h = h
  given_arg Q true mode.Once v g h = h
  given_arg Q false mode.Once v g h = h
  given_arg Q again mode.Out v g h = absurd (true≢false (sym g))
  given_arg Q again mode.Inout v g h = h

  bound_given : (ks : List ObjectType) (again : Bool) (own : List ParamType) (free : List Bool) (kept : List Value) (params : List ParamType) (given : List (Option Value)) → AreBound w ks own free kept params → GivenWell w ks again params given → (all : List (Option Value)) × (interleave free given (map Some kept) ≡ Some all) × GivenWell w ks again (mixed own free params) all
  bound_given ks again [] [] [] [] [] h g = ([], refl, tt)
  bound_given ks again [] [] [] [] (v ∷ given) h g = absurd g
  bound_given ks again (o ∷ own) (true ∷ free) kept (q ∷ params) (v ∷ given) h g =
      let rest = bound_given ks again own free kept params given h.1 g.1 in
      (v ∷ rest.0, ap (option_map (λ all. v ∷ all)) rest.1, (g.0, rest.2))
  bound_given ks again (o ∷ own) (true ∷ free) kept (q ∷ params) [] h g = absurd g
  bound_given ks again (o ∷ own) (false ∷ free) (v ∷ kept) params given h g =
      let rest = bound_given ks again own free kept params given h.2 g in
      (Some v ∷ rest.0, ap (option_map (λ all. Some v ∷ all)) rest.1, (given_arg (λ u. HasType w ks u o.ty) again o.mode v h.0 h.1, rest.2))
  bound_given ks again [] [] [] (q ∷ params) given h g = absurd h
  bound_given ks again [] [] (v ∷ kept) params given h g = absurd h
  bound_given ks again [] (b ∷ free) kept params given h g = absurd h
  bound_given ks again (o ∷ own) [] kept params given h g = absurd h
  bound_given ks again (o ∷ own) (true ∷ free) kept [] given h g = absurd h
  bound_given ks again (o ∷ own) (false ∷ free) [] params given h g = absurd h

  bound_back : (ks : List ObjectType) (vars : List ℕ) (own : List ParamType) (free : List Bool) (kept : List Value) (params : List ParamType) (back : List (Option ℕ)) → AreBound w ks own free kept params → BackWell w vars params back → (all : List (Option ℕ)) × (interleave free back (map (λ v. None) kept) ≡ Some all) × BackWell w vars (mixed own free params) all
  bound_back ks vars [] [] [] [] [] h g = ([], refl, tt)
  bound_back ks vars [] [] [] [] (v ∷ back) h g = absurd g
  bound_back ks vars (o ∷ own) (true ∷ free) kept (q ∷ params) (v ∷ back) h g =
      let rest = bound_back ks vars own free kept params back h.1 g.1 in
      (v ∷ rest.0, ap (option_map (λ all. v ∷ all)) rest.1, (g.0, rest.2))
  bound_back ks vars (o ∷ own) (true ∷ free) kept (q ∷ params) [] h g = absurd g
  bound_back ks vars (o ∷ own) (false ∷ free) (v ∷ kept) params back h g =
      let rest = bound_back ks vars own free kept params back h.2 g in
      (None ∷ rest.0, ap (option_map (λ all. None ∷ all)) rest.1, (h.0, rest.2))
  bound_back ks vars [] [] [] (q ∷ params) back h g = absurd h
  bound_back ks vars [] [] (v ∷ kept) params back h g = absurd h
  bound_back ks vars [] (b ∷ free) kept params back h g = absurd h
  bound_back ks vars (o ∷ own) [] kept params back h g = absurd h
  bound_back ks vars (o ∷ own) (true ∷ free) kept [] back h g = absurd h
  bound_back ks vars (o ∷ own) (false ∷ free) [] params back h g = absurd h

  bound_widens : (ks : List ObjectType) (own : List ParamType) (free : List Bool) (kept : List Value) (params : List ParamType) → AreBound w ks own free kept params → (all : List Bool) × (interleave free (wide_of w params) (map (λ v. false) kept) ≡ Some all) × WidensBack w (mixed own free params) own all
  bound_widens ks [] [] [] [] h = ([], refl, tt)
  bound_widens ks (o ∷ own) (true ∷ free) kept (q ∷ params) h =
      let rest = bound_widens ks own free kept params h.1 in
      (is_abstract w q.ty ∷ rest.0, ap (option_map (λ all. is_abstract w q.ty ∷ all)) rest.1, (inl refl, rest.2))
  bound_widens ks (o ∷ own) (false ∷ free) (v ∷ kept) params h =
      let rest = bound_widens ks own free kept params h.2 in
      (false ∷ rest.0, ap (option_map (λ all. false ∷ all)) rest.1, (inr (refl, refl), rest.2))
  bound_widens ks [] [] [] (q ∷ params) h = absurd h
  bound_widens ks [] [] (v ∷ kept) params h = absurd h
  bound_widens ks [] (b ∷ free) kept params h = absurd h
  bound_widens ks (o ∷ own) [] kept params h = absurd h
  bound_widens ks (o ∷ own) (true ∷ free) kept [] h = absurd h
  bound_widens ks (o ∷ own) (false ∷ free) [] params h = absurd h

-- ---- the parameters of a target are always the same

pub same_lists : (a b : List ParamType) → ((place : ℕ) → slice_get a place ≡ slice_get b place) → a ≡ b
same_lists [] [] e = refl
same_lists [] (y ∷ b) e = absurd (none-some y (e 0))
same_lists (x ∷ a) [] e = absurd (none-some x (sym (e 0)))
same_lists (x ∷ a) (y ∷ b) e = ap₂ (λ q r. q ∷ r) (same_Some x y (e 0)) (same_lists a b (λ n. e (suc n)))

pub same_takes : {w : Rows} {class : ℕ} {t : Target} (a b : List ParamType) → Takes w class t a → Takes w class t b → a ≡ b
same_takes a b x y = same_lists a b (λ n. sym (x.each n) ∙ y.each n)

-- ---- passing

-- the target of a callee, and its class unless it is a feature
abbrev pub IsFor : ResolvedCall → ℕ → Target → Type 0
IsFor c class t = (c.target ≡ t) × ((c.class ≡ Some class) ⊎ ((j : ℕ) × (t ≡ target.Feature j)))

-- what the caller sees: the parameters and the result of the target, of the signature or of the bound type
abbrev pub IsSeen : Rows → List ObjectType → TypedCallee → ℕ → Target → List ParamType → Option ℕ → List ParamType → Option ℕ → Type 0
IsSeen w ks (called.Static t of) class target own through params seen = (params ≡ own) × (seen ≡ target_result w class target)
IsSeen w ks (called.Dispatch n) class target own through params seen =
    (shape : CallType) × (call_type_at w.shapes n ≡ Some shape) × (params ≡ shape.params) × (seen ≡ shape.result)
IsSeen w ks called.Bound class target own through params seen =
    (object : ℕ) × (ty : ℕ) × (b : Binding) × (shape : CallType) × (through ≡ Some object)
    × (slice_get ks object ≡ Some (record { ty = ty; binding = Some b })) × (call_type_at w.bound ty ≡ Some shape)
    × (params ≡ shape.params) × (seen ≡ shape.result)

module _ {w : Rows} {p : Program} (k : ProgramFacts w p) where
  pub all_wide_of : (c : ResolvedCall) (class : ℕ) (t : Target) (own : List ParamType) → IsFor c class t → Takes w class t own → AreTheWide w own (wide_arguments p c.class c.target)
  all_wide_of c class t own (is, inl e) takes =
      subst (λ of. AreTheWide w own (wide_arguments p of c.target)) (sym e) (subst (λ u. AreTheWide w own (wide_arguments p (Some class) u)) (sym is) (k.all_wide class t own takes))
  all_wide_of c class t own (is, inr e) takes =
      subst (λ u. AreTheWide w own (wide_arguments p c.class u)) (sym (is ∙ e.1))
      (subst (λ u. AreTheWide w own (wide_arguments p (Some class) u)) e.1 (k.all_wide class t own takes))

  -- values of subtypes of the parameters' types are boxed to be of these
  safe_widened_for : {base : List ObjectType} {x : Point} (at : Pos) (again : Bool) (c : ResolvedCall) (class : ℕ) (t : Target) (own : List ParamType) (given : List (Option Value)) → IsFor c class t → Takes w class t own → GivenBelow w base again own given → Safe w base x (List (Option Value)) (λ ks r. GivenWell w ks again own r) (boxed_for p at c given)
  safe_widened_for at again c class t own given is takes h =
      safe_then (safe_widened_some k at again own _ given (subst (λ u. AreWide w own (wide_once p u)) (sym is.0) (k.once_wide class t own takes)) h)
      (λ ks values e g. safe_widened_all k at again own _ values (all_wide_of c class t own is takes) g)

  bound_fields : (ks : List ObjectType) (ty : ℕ) (b : Binding) (values : List Value) → FieldsWell w ks ty (Some b) values → (receiver : Value) × (kept : List Value) × (values ≡ receiver ∷ kept) × IsBoundTo w ks ty b receiver kept
  bound_fields ks ty b [] h = absurd h
  bound_fields ks ty b (receiver ∷ kept) h = (receiver, kept, refl, h)

  -- a bound value in the heap typing has an object that is well typed
  pub bound_object : (ks : List ObjectType) (o : Object) (ty : ℕ) (b : Binding) → object_type_of o ≡ record { ty = ty; binding = Some b } → ObjectWell w ks o → (receiver : Value) × (kept : List Value) × (o.fields ≡ receiver ∷ kept) × IsBoundTo w ks ty b receiver kept
  bound_object ks o ty b e h = bound_fields ks ty b o.fields (subst (λ (n : ObjectType). FieldsWell w ks n.ty n.binding o.fields) e h.0)

  -- ---- passing, by what is called

  -- by the parameters and the result that the caller sees, what is passed is well typed
  abbrev Hands : List ObjectType → Point → Pos → Bool → TypedCallee → ResolvedCall → ℕ → Target → List ParamType → Option ℕ → List (Option Value) → List (Option ℕ) → Type 0
  Hands base x at again called c class t own seen given back =
      Safe w base x PassedArgs (λ ks h. PassedArgsWell w ks x.local.frame.vars again class t own seen h) (pass_args p at called c given back)

  handed_static : {base : List ObjectType} {x : Point} (at : Pos) (again : Bool) (u : Target) (of : ℕ) (c : ResolvedCall) (class : ℕ) (t : Target) (own : List ParamType) (given : List (Option Value)) (back : List (Option ℕ)) → GivenWell w base again own given → BackWell w x.local.frame.vars own back → Hands base x at again (called.Static u of) c class t own (target_result w class t) given back
  handed_static at again u of c class t own given back g b =
      safe_pure _ (λ ks e. record {
        given = given_later k e again own given g;
        params = own;
        conform = conform_itself w own;
        back = b;
        widens = static_widens w _ own back b;
        gives = goes_itself w (target_result w class t);
      })

  handed_dispatch : {base : List ObjectType} {x : Point} (at : Pos) (again : Bool) (n : ℕ) (c : ResolvedCall) (class : ℕ) (t : Target) (own : List ParamType) (s : _) (shape : CallType) (given : List (Option Value)) (back : List (Option ℕ)) → IsFor c class t → Takes w class t own → slice_get w.signatures n ≡ Some s → call_type_at w.shapes n ≡ Some shape → Conform w shape.params own → result_conforms w shape.result (target_result w class t) ≡ true → GivenWell w base again shape.params given → BackWell w x.local.frame.vars shape.params back → Hands base x at again (called.Dispatch n) c class t own shape.result given back
  handed_dispatch at again n c class t own s shape given back is takes e f conform gives g b =
      let wide = k.signature_wide n s shape e f in
      safe_with _ (signature_of s) (k.signature_at n s e)
      (safe_then (safe_widened_for at again c class t own given is takes (given_conforms k _ again shape.params own given conform g))
      (λ ks values h i. safe_pure _ (λ js l. record {
        given = given_later k l again own values i;
        params = shape.params;
        conform = conform;
        back = b;
        widens = subst (WidensBack w shape.params own) (sym wide.0) (wide_widens w shape.params own conform);
        gives = subst (GoesBack w (target_result w class t) shape.result) (sym wide.1) (goes_back w (target_result w class t) shape.result gives);
      })))

  -- what a bound value binds, by the target and the call type that are known
  record Binds (ks : List ObjectType) (ty : ℕ) (b : Binding) (class : ℕ) (t : Target) (own : List ParamType) (shape : CallType) (o : Object) : Type 0 where
    kept : List Value
    fields : drop 1 o.fields ≡ kept
    binding : o.binding ≡ Some b
    type : o.ty ≡ ty
    arguments : AreBound w ks own b.is_open kept shape.params
    gives : result_conforms w shape.result (target_result w class t) ≡ true

  binds_of : (ks : List ObjectType) (ty : ℕ) (b : Binding) (class : ℕ) (t : Target) (own : List ParamType) (shape : CallType) (o : Object) → Takes w class t own → b.target ≡ t → b.class ≡ class → call_type_at w.bound ty ≡ Some shape → object_type_of o ≡ record { ty = ty; binding = Some b } → ObjectWell w ks o → Binds ks ty b class t own shape o
  binds_of ks ty b class t own shape o takes to of shaped known well =
      let found = bound_object ks o ty b known well in
      let same_shape : found.3.shape ≡ shape = same_Some found.3.shape shape (sym found.3.is ∙ shaped) in
      let taken : Takes w class t found.3.own = subst (λ n. Takes w n t found.3.own) of (subst (λ u. Takes w b.class u found.3.own) to found.3.takes) in
      let same_own : found.3.own ≡ own = same_takes found.3.own own taken takes in
      record {
        kept = found.1;
        fields = ap (drop 1) found.2;
        binding = ap (λ (n : ObjectType). n.binding) known;
        type = ap (λ (n : ObjectType). n.ty) known;
        arguments =
            subst (λ ps. AreBound w ks ps b.is_open found.1 shape.params) same_own
            (subst (λ (i : CallType). AreBound w ks found.3.own b.is_open found.1 i.params) same_shape found.3.arguments);
        gives =
            subst (λ n. result_conforms w shape.result (target_result w n t) ≡ true) of
            (subst (λ u. result_conforms w shape.result (target_result w b.class u) ≡ true) to
            (subst (λ (i : CallType). result_conforms w i.result (target_result w b.class b.target) ≡ true) same_shape found.3.gives));
      }

  handed_bound : {base : List ObjectType} {x : Point} (at : Pos) (again : Bool) (c : ResolvedCall) (class : ℕ) (t : Target) (own : List ParamType) (object ty : ℕ) (bd : Binding) (shape : CallType) (given : List (Option Value)) (back : List (Option ℕ)) → IsFor c class t → Takes w class t own → c.through ≡ Some object → slice_get base object ≡ Some (record { ty = ty; binding = Some bd }) → bd.target ≡ t → bd.class ≡ class → call_type_at w.bound ty ≡ Some shape → GivenWell w base again shape.params given → BackWell w x.local.frame.vars shape.params back → Hands base x at again called.Bound c class t own shape.result given back
  handed_bound {x = x} at again c class t own object ty bd shape given back is takes through known to of shaped g b =
      let there = k.bound_there ty shape shaped in
      let wide = k.bound_wide ty there.0 shape there.1 shaped in
      safe_with _ object through
      (safe_then (safe_object_at k.well object _ known)
      (λ ks o e found.
      let binds = binds_of ks ty bd class t own shape o takes to of shaped found.0 found.1 in
      let all = bound_given w ks again own bd.is_open binds.kept shape.params given binds.arguments (given_later k e again shape.params given g) in
      let backs = bound_back w ks x.local.frame.vars own bd.is_open binds.kept shape.params back binds.arguments b in
      let flags = bound_widens w ks own bd.is_open binds.kept shape.params binds.arguments in
      let conform = bound_conforms w ks own bd.is_open binds.kept shape.params binds.arguments in
      safe_with _ bd binds.binding
      (safe_with _ (type_row there.0) (ap (slice_get p.types) binds.type ∙ k.type_at ty there.0 there.1)
      (safe_with _ all.0 (ap (λ vs. interleave bd.is_open given (map (λ v. Some v) vs)) binds.fields ∙ all.1)
      (safe_then (safe_widened_for at again c class t own all.0 is takes (given_conforms k ks again (mixed w own bd.is_open shape.params) own all.0 conform all.2))
      (λ js values f i.
      safe_with _ backs.0 (ap (λ vs. interleave bd.is_open back (map (λ v. None) vs)) binds.fields ∙ backs.1)
      (safe_with _ flags.0
      (ap (λ wides. interleave bd.is_open wides (map (λ v. false) (drop 1 o.fields))) wide.0 ∙ ap (λ vs. interleave bd.is_open (wide_of w shape.params) (map (λ v. false) vs)) binds.fields ∙ flags.1)
      (safe_pure _ (λ hs l. record {
        given = given_later k l again own values i;
        params = mixed w own bd.is_open shape.params;
        conform = conform;
        back = backs.2;
        widens = flags.2;
        gives = subst (GoesBack w (target_result w class t) shape.result) (sym wide.1) (goes_back w (target_result w class t) shape.result binds.gives);
      })))))))))

  -- a call passes values of the parameters' types
  pub safe_handed : {base : List ObjectType} {x : Point} (at : Pos) (again : Bool) (of : TypedCallee) (bound : Option ℕ) (c : ResolvedCall) (class : ℕ) (t : Target) (own params : List ParamType) (seen : Option ℕ) (given : List (Option Value)) (back : List (Option ℕ)) → IsFor c class t → Takes w class t own → IsCallee w base of bound class t own c.through → IsSeen w base of class t own c.through params seen → GivenWell w base again params given → BackWell w x.local.frame.vars params back → Hands base x at again of c class t own seen given back
  safe_handed {base} {x} at again (called.Static u of) bound c class t own params seen given back is takes reached sees g b =
      subst (λ r. Hands base x at again (called.Static u of) c class t own r given back) (sym sees.1)
      (handed_static at again u of c class t own given back (subst (λ ps. GivenWell w base again ps given) sees.0 g) (subst (λ ps. BackWell w x.local.frame.vars ps back) sees.0 b))
  safe_handed {base} {x} at again (called.Dispatch n) bound c class t own params seen given back is takes reached sees g b =
      let same : reached.1 ≡ sees.0 = same_Some reached.1 sees.0 (sym reached.3 ∙ sees.1) in
      subst (λ r. Hands base x at again (called.Dispatch n) c class t own r given back) (sym sees.3)
      (handed_dispatch at again n c class t own reached.0 sees.0 given back is takes reached.2 sees.1
      (subst (λ (i : CallType). Conform w i.params own) same reached.4) (subst (λ (i : CallType). result_conforms w i.result (target_result w class t) ≡ true) same reached.5)
      (subst (λ ps. GivenWell w base again ps given) sees.2 g) (subst (λ ps. BackWell w x.local.frame.vars ps back) sees.2 b))
  safe_handed {base} {x} at again called.Bound bound c class t own params seen given back is takes reached sees g b =
      let same_object : reached.0 ≡ sees.0 = same_Some reached.0 sees.0 (sym reached.3 ∙ sees.4) in
      let known : ◌≡◌ {A = ObjectType} (record { ty = reached.1; binding = Some reached.2 }) (record { ty = sees.1; binding = Some sees.2 }) =
      same_Some _ _ (sym reached.4 ∙ ap (slice_get base) same_object ∙ sees.5) in
      let same_binding : reached.2 ≡ sees.2 = same_Some reached.2 sees.2 (ap (λ (n : ObjectType). n.binding) known) in
      subst (λ r. Hands base x at again called.Bound c class t own r given back) (sym sees.8)
      (handed_bound at again c class t own sees.0 sees.1 sees.2 sees.3 given back is takes sees.4 sees.5
      (ap (λ (b : Binding). b.target) (sym same_binding) ∙ reached.5) (ap (λ (b : Binding). b.class) (sym same_binding) ∙ reached.6) sees.6
      (subst (λ ps. GivenWell w base again ps given) sees.7 g) (subst (λ ps. BackWell w x.local.frame.vars ps back) sees.7 b))

  pub hands_later : {old new : List ObjectType} {vars : List ℕ} {again : Bool} {class : ℕ} {t : Target} {own : List ParamType} {seen : Option ℕ} {h : PassedArgs} → HeapExtends old new → PassedArgsWell w old vars again class t own seen h → PassedArgsWell w new vars again class t own seen h
  hands_later e h = record {
    given = given_later k e _ _ _ h.given;
    params = h.params;
    conform = h.conform;
    back = h.back;
    widens = h.widens;
    gives = h.gives;
  }
