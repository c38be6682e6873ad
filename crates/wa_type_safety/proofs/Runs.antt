-- Runs from a well-typed state, and whole runs.
use Rattle.std.proofs.Common.{◌≡◌, ℕ, zero, suc, ◌≤◌, true, false, List, [], ◌∷◌, ◌++◌, length, slice_get, Option, Some, None, refl, sym, ap, subst, ◌∙◌, inl, inr, append-nil, arith}
use Rattle.std.specs.Prelude.{◌≢◌, ◌⊎◌, nat_le, reverse, option_map, option_to_list, option_and_then, IfSome}
use Rattle.std.proofs.lemmas.List.{length-reverse}
use Rattle.wa_syntax.specs.declared.module.ValTy.{ValTy}
use Rattle.wa_syntax.specs.declared.module.ValTy.TheVariants.{I32}
use Rattle.wa_syntax.specs.declared.module.FuncTy.{FuncTy}
use Rattle.wa_syntax.specs.declared.module.Module.{Module}
use Rattle.wa_syntax.specs.Instructions.{Instruction}
use Rattle.wa_syntax.specs.ValidModule.{IsValid, IsStart, context_of}
use Rattle.wa_syntax.specs.Machine.{Input, State, Halt, Ended, Stuck, Out, Gives, Leaves, as_i32, outside}
use Rattle.wa_syntax.specs.Hosts.{is_type, from_to, type_of}
use Rattle.wa_syntax.specs.Steps.{execute, call, Next, At, Over, next, Ran, Finished, Halted, Unfinished, at_next, after, run}
use Rattle.wa_syntax.specs.Runs.{IsLinked, main_of, is_main, first_state, functions_of, run_from, run_all, outcome, machine_run}
use Rattle.wa_type_safety.specs.Typing.{Setting, EachIsOf, AreOf, IsStore, BodyContext, IsState}
use Rattle.wa_type_safety.specs.Law.{results_of, main_results}
use Rattle.wa_type_safety.proofs.Values.{AreOf-none, AreOf-length}
use Rattle.wa_type_safety.proofs.Rules.{IsLeft, Holds}
use Rattle.wa_type_safety.proofs.Linked.{and-right, or-cases, is_type-some, has-main, function-type}
use Rattle.wa_type_safety.proofs.Calls.{call-safe}
use Rattle.wa_type_safety.proofs.Steps.{IsAt, IsNext, execute-safe, next-safe}
use Rattle.wa_type_safety.proofs.First.{store-first}

-- ---- runs of so many instructions

-- a run isn't stuck, ends outside all functions with values of the types that are left, and goes on from what is typed
abbrev pub IsRun : Setting → Ran → Type 0
IsRun r (Finished left results s) = (s ≡ outside s) × AreOf r r.ends results × IsStore r s.globals s.memory s.input
IsRun r (Halted halt left s) = IsLeft halt
IsRun r (Unfinished s) = IsState r s

after-safe : (r : Setting) (left : ℕ) (more : State → Ran) (o : Out (Unit {0})) → ((s : State) → IsState r s → IsRun r (more s)) → Holds (λ u. IsState r) o → IsRun r (after left more o)
after-safe r left more (Gives u s) goes_on h = goes_on s h
after-safe r left more (Leaves halt s) goes_on h = h

next-run : (r : Setting) (from : State) (left : ℕ) (step : Instruction → State → Ran) (n : Next) → IsStore r from.globals from.memory from.input → IsNext r from n → ((i : Instruction) (s : State) → IsAt r i s → IsRun r (step i s)) → IsRun r (at_next left step n)
next-run r from left step (At i s) store h steps = steps i s h
next-run r from left step (Over results s) store h steps = subst (λ (t : State). IsRun r (Finished left results t)) (sym h.0) (refl, h.1, store)

module _ (r : Setting) (valid : IsValid r.program) (linked : IsLinked r.program) where
  run-safe : (n : ℕ) (s : State) → IsState r s → IsRun r (run r.program n s)
  run-safe zero s h = next-run r s zero (λ i t. Unfinished s) (next s) h.store (next-safe r s h) (λ i t a. h)
  run-safe (suc n) s h = next-run r s (suc n) (λ i t. after n (run r.program n) (execute r.program i t)) (next s) h.store (next-safe r s h)
      (λ i t a. after-safe r n (run r.program n) (execute r.program i t) (run-safe n) ((execute-safe r a.place valid linked i a.before a.after a.typed a.constants).holds t a.finds))

  run_from-safe : (left : ℕ) (o : Out (Unit {0})) → Holds (λ u. IsState r) o → IsRun r (run_from r.program left o)
  run_from-safe left (Gives u s) h = run-safe left s h
  run_from-safe left (Leaves halt s) h = h

-- ---- the functions that are run one after another (4.5.5)

-- a function that takes no arguments
abbrev TakesNothing : Module → ℕ → Type 0
TakesNothing m func = (ty : FuncTy) × (type_of m func ≡ Some ty) × (ty.params ≡ [])

abbrev EachTakesNothing : Module → List ℕ → Type 0
EachTakesNothing m [] = Unit {0}
EachTakesNothing m (func ∷ more) = TakesNothing m func × EachTakesNothing m more

both-take : (m : Module) (funcs more : List ℕ) → EachTakesNothing m funcs → EachTakesNothing m more → EachTakesNothing m (funcs ++ more)
both-take m [] more h k = k
both-take m (func ∷ funcs) more h k = (h.0, both-take m funcs more h.1 k)

-- outside all functions
abbrev nowhere : BodyContext
nowhere = record { locals = []; labels = []; results = [] }

-- the type of `main`
abbrev IsMainType : Module → ℕ → Type 0
IsMainType m func = (type_of m func ≡ Some (from_to [] [])) ⊎ (type_of m func ≡ Some (from_to [] (I32 ∷ [])))

main-type : (m : Module) (func : ℕ) → (is_type (from_to [] []) (type_of m func) ≡ true) ⊎ (is_type (from_to [] (I32 ∷ [])) (type_of m func) ≡ true) → IsMainType m func
main-type m func (inl is) = inl (is_type-some (from_to [] []) (type_of m func) is)
main-type m func (inr is) = inr (is_type-some (from_to [] (I32 ∷ [])) (type_of m func) is)

main-takes : (m : Module) (func : ℕ) → IsMainType m func → TakesNothing m func
main-takes m func (inl is) = (from_to [] [], is, refl)
main-takes m func (inr is) = (from_to [] (I32 ∷ []), is, refl)

-- `main` is there
main-there : (m : Module) (o : Option ℕ) → is_main m o ≡ true → (func : ℕ) × (o ≡ Some func) × IsMainType m func
main-there m None is = cc
main-there m (Some func) is =
    (func, refl, main-type m func (or-cases (is_type (from_to [] []) (type_of m func)) (is_type (from_to [] (I32 ∷ [])) (type_of m func)) (and-right (nat_le (length m.imports) func) _ is)))

module _ (m : Module) (input : Input) where
  abbrev setting : List ValTy → Setting
  setting ends = record { program = m; input = input; ends = ends }

  -- the types of what a function leaves, the top one first
  abbrev ends_of : ℕ → List ValTy
  ends_of func = reverse (results_of (type_of m func))

  -- those of the last of these functions
  abbrev last_ends : List ValTy → List ℕ → List ValTy
  last_ends ends [] = ends
  last_ends ends (func ∷ more) = last_ends (ends_of func) more

  each-other : (a b : List ValTy) (types : List ValTy) (values : List ℕ) → EachIsOf (setting a) types values → EachIsOf (setting b) types values
  each-other a b [] [] h = tt
  each-other a b [] (n ∷ ns) h = absurd h
  each-other a b (t ∷ ts) [] h = absurd h
  each-other a b (t ∷ ts) (n ∷ ns) h = (h.0, each-other a b ts ns h.1)

  store-other : (a b : List ValTy) (globals memory : List ℕ) (left : Input) → IsStore (setting a) globals memory left → IsStore (setting b) globals memory left
  store-other a b globals memory left h = record { globals_are = record { each = each-other a b _ globals h.globals_are.each }; bytes = h.bytes; pages = h.pages; input_is = h.input_is }

  -- the run of one of the functions, or of what follows it
  abbrev IsRunTo : List ValTy → Ran → Type 0
  IsRunTo ends (Finished left results s) = IsRun (setting ends) (Finished left results s)
  IsRunTo ends (Halted halt left s) = IsLeft halt
  IsRunTo ends (Unfinished s) = (some : List ValTy) × IsState (setting some) s

  run-to : (ends : List ValTy) (ran : Ran) → IsRun (setting ends) ran → IsRunTo ends ran
  run-to ends (Finished left results s) h = h
  run-to ends (Halted halt left s) h = h
  run-to ends (Unfinished s) h = (ends, h)

  module _ (valid : IsValid m) (linked : IsLinked m) where
    call-run : (left : ℕ) (func : ℕ) (s : State) → TakesNothing m func → s ≡ outside s → IsStore (setting (ends_of func)) s.globals s.memory s.input → IsRun (setting (ends_of func)) (run_from m left (call m func s))
    call-run left func s (ty, is, none) same store =
        subst (λ (t : State). IsRun (setting (ends_of func)) (run_from m left (call m func t))) (sym same)
        (run_from-safe (setting (ends_of func)) valid linked left (call m func (outside s))
        ((call-safe false (setting (ends_of func)) nowhere [] valid linked func ty is).holds (outside s) (record {
          operands = subst (λ (ts : List ValTy). AreOf (setting (ends_of func)) (reverse ts ++ []) []) (sym none) AreOf-none;
          locals = AreOf-none;
          store = store;
          within = inl (refl, refl, append-nil (reverse ty.results) ∙ ap (λ (o : Option FuncTy). reverse (results_of o)) (sym is));
        })))

    run_all-safe : (funcs : List ℕ) (ends : List ValTy) (ran : Ran) → EachTakesNothing m funcs → IsRunTo ends ran → IsRunTo (last_ends ends funcs) (run_all m funcs ran)
    run_all-safe [] ends ran each h = h
    run_all-safe (func ∷ more) ends (Finished left results s) each h =
        run_all-safe more (ends_of func) (run_from m left (call m func s)) each.1
        (run-to (ends_of func) (run_from m left (call m func s)) (call-run left func s each.0 h.0 (store-other ends (ends_of func) s.globals s.memory s.input h.2)))
    run_all-safe (func ∷ more) ends (Halted halt left s) each h = h
    run_all-safe (func ∷ more) ends (Unfinished s) each h = h

    start-takes : (o : Option ℕ) → IfSome o (IsStart (context_of m)) → EachTakesNothing m (option_to_list o)
    start-takes None is = tt
    start-takes (Some func) is = ((from_to [] [], function-type m linked func (from_to [] []) is, refl), tt)

    last-main : (o : Option ℕ) (func : ℕ) → last_ends [] (option_to_list o ++ func ∷ []) ≡ ends_of func
    last-main None func = refl
    last-main (Some start) func = refl

    whole-run : (func : ℕ) (most : ℕ) → main_of m.exports ≡ Some func → IsMainType m func → IsRunTo (ends_of func) (run_all m (functions_of m) (Finished most [] (first_state m input)))
    whole-run func most there is =
        subst (λ (o : Option ℕ). IsRunTo (ends_of func) (run_all m (option_to_list m.start ++ option_to_list o) (Finished most [] (first_state m input)))) (sym there)
        (subst (λ (ends : List ValTy). IsRunTo ends (run_all m (option_to_list m.start ++ func ∷ []) (Finished most [] (first_state m input)))) (last-main m.start func)
        (run_all-safe (option_to_list m.start ++ func ∷ []) [] (Finished most [] (first_state m input))
        (both-take m (option_to_list m.start) (func ∷ []) (start-takes m.start valid.outside.start) (main-takes m func is, tt))
        (refl, AreOf-none, store-first (setting []) valid linked)))

  -- ---- what a run leaves

  not-stuck : (most : ℕ) (ends : List ValTy) (ran : Ran) → IsRunTo ends ran → (outcome most ran).halt ≢ Stuck
  not-stuck most ends (Finished left results s) h e = cc
  not-stuck most ends (Halted halt left s) h e = subst IsLeft e h
  not-stuck most ends (Unfinished s) h e = cc

  -- a run that ends has ended with its first result
  abbrev ended-value : Halt → Option ℕ
  ended-value (Ended value) = value
  ended-value halt = None

  ended-with : (most : ℕ) (ends : List ValTy) (ran : Ran) (value : Option ℕ) → IsRunTo ends ran → (outcome most ran).halt ≡ Ended value → (results : List ℕ) × AreOf (setting ends) ends results × (option_map as_i32 (slice_get results 0) ≡ value)
  ended-with most ends (Finished left results s) value h e = (results, h.1, ap ended-value e)
  ended-with most ends (Halted halt left s) value h e = absurd (subst IsLeft e h)
  ended-with most ends (Unfinished s) value h e = cc

first-or-none : (results : List ℕ) → length results ≤ 1 → length (option_to_list (option_map as_i32 (slice_get results 0))) ≡ length results
first-or-none [] h = refl
first-or-none (n ∷ []) h = refl
first-or-none (n ∷ k ∷ more) h = absurd (omega (arith, h))

module _ (m : Module) (valid : IsValid m) (linked : IsLinked m) where
  abbrev the_main : (func : ℕ) × (main_of m.exports ≡ Some func) × IsMainType m func
  the_main = main-there m (main_of m.exports) (has-main m linked)

  pub never-stuck : (input : Input) (most : ℕ) → (machine_run m input most).halt ≢ Stuck
  unfolding machine_run
  never-stuck input most = not-stuck m input most (ends_of m input the_main.0) (run_all m (functions_of m) (Finished most [] (first_state m input))) (whole-run m input valid linked the_main.0 most the_main.1 the_main.2)

  pub stays-typed : (input : Input) (most : ℕ) (s : State) → run_all m (functions_of m) (Finished most [] (first_state m input)) ≡ Unfinished s → (ends : List ValTy) × IsState (setting m input ends) s
  stays-typed input most s e = subst (IsRunTo m input (ends_of m input the_main.0)) e (whole-run m input valid linked the_main.0 most the_main.1 the_main.2)

  few-results : (func : ℕ) → IsMainType m func → length (results_of (type_of m func)) ≤ 1
  few-results func (inl is) = subst (λ (o : Option FuncTy). length (results_of o) ≤ 1) (sym is) (omega arith)
  few-results func (inr is) = subst (λ (o : Option FuncTy). length (results_of o) ≤ 1) (sym is) (omega arith)

  pub ends-as-main : (input : Input) (most : ℕ) (value : Option ℕ) → (machine_run m input most).halt ≡ Ended value → length (option_to_list value) ≡ length (main_results m)
  unfolding machine_run
  ends-as-main input most value e =
      let ended = ended-with m input most (ends_of m input the_main.0) (run_all m (functions_of m) (Finished most [] (first_state m input))) value (whole-run m input valid linked the_main.0 most the_main.1 the_main.2) e in
      let long : length ended.0 ≡ length (results_of (type_of m the_main.0)) = AreOf-length (ends_of m input the_main.0) ended.0 ended.1 ∙ length-reverse (results_of (type_of m the_main.0)) in
      let few : length (results_of (type_of m the_main.0)) ≤ 1 = few-results the_main.0 the_main.2 in
      ap (λ (o : Option ℕ). length (option_to_list o)) (sym ended.2)
      ∙ first-or-none ended.0 (omega (arith, long, few))
      ∙ long
      ∙ ap (λ (o : Option ℕ). length (results_of (option_and_then (type_of m) o))) (sym the_main.1)
