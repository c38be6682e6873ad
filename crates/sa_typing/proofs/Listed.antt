-- Lists from an index on.
use Rattle.std.proofs.Common.{◌≡◌, ℕ, ◌+◌, ◌<◌, ◌≤◌, ◌&&◌, ◌||◌, ◌==◌, Bool, true, false, cond, List, [], ◌∷◌, Option, Some, length, get_or, drop, nat_eq, nat_lt, refl, sym, ap, arith, ◌-◌, ◌∙◌, add-one, drop-cons, append_assoc}
use Rattle.std.proofs.Math.ListN.{drop_of_length-le}
use Rattle.std.proofs.Math.Seq.{drop-length}
use Rattle.std.proofs.lemmas.Option.{slice_get_past, slice_get_read}
use Rattle.std.specs.List.{list_all}
use Rattle.std.specs.Option.{option_map_or}
use Rattle.std.specs.Prelude.{slice_get}
use Rattle.sa_typed.specs.declared.program.TypedImplementation.{TypedImplementation}
use Rattle.sa_typed.specs.declared.program.TypedSignature.{TypedSignature}
use Rattle.sa_typed.specs.declared.program.TypeDef.{TypeDef}
use Rattle.sa_typed.specs.declared.stmt.TypedStmt.{TypedStmt}
use Rattle.sa_typed.specs.Copy.{stmt_of}
use Rattle.sa_typing.specs.declared.expr_type.ParamType.{ParamType}
use Rattle.sa_typing.specs.declared.call_type.CallType.{CallType}
use Rattle.sa_typing.specs.Signatures.{all_implement, is_implementation, param_conforms, params_conform, rise_from, well_signature, well_signatures}
use Rattle.sa_typing.specs.Targets.{target_parameter}
use Rattle.sa_typing.specs.Features.{ends_in_stop, is_stop}
use Rattle.sa_typing.specs.Rows.{Rows}
use Rattle.sa_typing.specs.Types.{have_supertypes_in, are_valid_supertypes, has_next, is_after, has_supertypes_in, is_next, is_part, is_valid_supertype, put_in, rises_from, well_type, well_types}

pub drop-step : {X : Type 0} (xs : List X) (i : ℕ) (x : X) → i < length xs → x ≡ get_or xs i x → drop i xs ≡ x ∷ drop (i + 1) xs
drop-step xs i x h e = rw (add-one, drop-cons xs i x, ← e)

pub list_all-drop : {X : Type 0} (test : X → Bool) (xs : List X) (i : ℕ) (x : X) → i < length xs → x ≡ get_or xs i x → list_all test (drop i xs) ≡ (test x && list_all test (drop (i + 1) xs))
list_all-drop test xs i x h e = rw (add-one, drop-cons xs i x, ← e)

-- one that fails the test, and one that passes it
pub list_all-fails : {X : Type 0} (test : X → Bool) (xs : List X) (i : ℕ) (x : X) → i < length xs → x ≡ get_or xs i x → false ≡ test x → list_all test (drop i xs) ≡ false
list_all-fails test xs i x h e fails = list_all-drop test xs i x h e ∙ ap (λ (b : Bool). b && list_all test (drop (i + 1) xs)) (sym fails)

pub list_all-goes : {X : Type 0} (test : X → Bool) (xs : List X) (i : ℕ) (x : X) → i < length xs → x ≡ get_or xs i x → true ≡ test x → list_all test (drop i xs) ≡ list_all test (drop (i + 1) xs)
list_all-goes test xs i x h e goes = list_all-drop test xs i x h e ∙ ap (λ (b : Bool). b && list_all test (drop (i + 1) xs)) (sym goes)

pub rises_from-drop : (last : Option ℕ) (xs : List ℕ) (i x : ℕ) → i < length xs → x ≡ get_or xs i x → rises_from last (drop i xs) ≡ (is_after last x && rises_from (Some x) (drop (i + 1) xs))
rises_from-drop last xs i x h e = rw (add-one, drop-cons xs i x, ← e)

module _ (w : Rows) where
  pub well_types-drop : (xs : List TypeDef) (i : ℕ) (x : TypeDef) → i < length xs → x ≡ get_or xs i x → well_types w i (drop i xs) ≡ (well_type w i x && well_types w (i + 1) (drop (i + 1) xs))
  well_types-drop xs i x h e = ap (well_types w i) (drop-step xs i x h e)

  pub are_uppers-drop : (n : ℕ) (xs : List ℕ) (i x : ℕ) → i < length xs → x ≡ get_or xs i x → are_valid_supertypes w n (drop i xs) ≡ (is_valid_supertype w n x && are_valid_supertypes w n (drop (i + 1) xs))
  are_uppers-drop n xs i x h e = rw (add-one, drop-cons xs i x, ← e)

  pub are_held-drop : (holders xs : List ℕ) (i x : ℕ) → i < length xs → x ≡ get_or xs i x → have_supertypes_in w holders (drop i xs) ≡ (has_supertypes_in w holders x && have_supertypes_in w holders (drop (i + 1) xs))
  are_held-drop holders xs i x h e = rw (add-one, drop-cons xs i x, ← e)

  pub has_next-drop : (above xs : List ℕ) (i x : ℕ) → i < length xs → x ≡ get_or xs i x → has_next w above (drop i xs) ≡ (is_next w above x || has_next w above (drop (i + 1) xs))
  has_next-drop above xs i x h e = rw (add-one, drop-cons xs i x, ← e)

pub is_part-step : (part whole : List ℕ) (j i a b : ℕ) → j < length part → i < length whole → a ≡ get_or part j a → b ≡ get_or whole i b → is_part (drop j part) (drop i whole) ≡ cond (nat_eq a b) (is_part (drop (j + 1) part) (drop (i + 1) whole)) (is_part (drop j part) (drop (i + 1) whole))
is_part-step part whole j i a b h k e f =
    ap (λ (p : List ℕ). is_part p (drop i whole)) (drop-step part j a h e)
    ∙ ap (is_part (a ∷ drop (j + 1) part)) (drop-step whole i b k f)
    ∙ ap (λ (p : List ℕ). cond (nat_eq a b) (is_part (drop (j + 1) part) (drop (i + 1) whole)) (is_part p (drop (i + 1) whole))) (sym (drop-step part j a h e))

pub is_part-done : (part whole : List ℕ) (j : ℕ) → length part ≤ j → is_part (drop j part) whole ≡ true
is_part-done part whole j h = ap (λ (p : List ℕ). is_part p whole) (drop_of_length-le part h)

pub is_part-left : (part whole : List ℕ) (j i : ℕ) → j < length part → length whole ≤ i → is_part (drop j part) (drop i whole) ≡ false
is_part-left part whole j i h k =
    ap (is_part (drop j part)) (drop_of_length-le whole k) ∙ ap (λ (p : List ℕ). is_part p []) (drop-cons part j 0 h)

pub put_in-before : (n : ℕ) (xs : List ℕ) (i x : ℕ) → i < length xs → x ≡ get_or xs i x → put_in n (drop i xs) ≡ cond (nat_lt n x) (n ∷ x ∷ drop (i + 1) xs) (x ∷ put_in n (drop (i + 1) xs))
put_in-before n xs i x h e = rw (add-one, drop-cons xs i x, ← e)

pub put_in-following : (n : ℕ) (xs : List ℕ) (i : ℕ) → length xs ≤ i → put_in n (drop i xs) ≡ n ∷ []
put_in-following n xs i h = ap (put_in n) (drop_of_length-le xs h)

pub rise_from-drop : (last : Option ℕ) (xs : List TypedImplementation) (i : ℕ) (x : TypedImplementation) → i < length xs → x ≡ get_or xs i x → rise_from last (drop i xs) ≡ (is_after last x.ty && rise_from (Some x.ty) (drop (i + 1) xs))
rise_from-drop last xs i x h e = rw (add-one, drop-cons xs i x, ← e)

module _ (w : Rows) where
  pub well_signatures-drop : (xs : List TypedSignature) (i : ℕ) (x : TypedSignature) → i < length xs → x ≡ get_or xs i x → well_signatures w i (drop i xs) ≡ (well_signature w i x && well_signatures w (i + 1) (drop (i + 1) xs))
  well_signatures-drop xs i x h e = ap (well_signatures w i) (drop-step xs i x h e)

  pub well_signatures-fails : (xs : List TypedSignature) (i : ℕ) (x : TypedSignature) → i < length xs → x ≡ get_or xs i x → false ≡ well_signature w i x → well_signatures w i (drop i xs) ≡ false
  well_signatures-fails xs i x h e fails =
      well_signatures-drop xs i x h e ∙ ap (λ (b : Bool). b && well_signatures w (i + 1) (drop (i + 1) xs)) (sym fails)

  pub well_signatures-goes : (xs : List TypedSignature) (i : ℕ) (x : TypedSignature) → i < length xs → x ≡ get_or xs i x → true ≡ well_signature w i x → well_signatures w i (drop i xs) ≡ well_signatures w (i + 1) (drop (i + 1) xs)
  well_signatures-goes xs i x h e goes =
      well_signatures-drop xs i x h e ∙ ap (λ (b : Bool). b && well_signatures w (i + 1) (drop (i + 1) xs)) (sym goes)

  pub all_implement-drop : (shape : CallType) (upper : ℕ) (xs : List TypedImplementation) (i : ℕ) (x : TypedImplementation) → i < length xs → x ≡ get_or xs i x → all_implement w shape upper (drop i xs) ≡ (is_implementation w shape upper x && all_implement w shape upper (drop (i + 1) xs))
  all_implement-drop shape upper xs i x h e = rw (add-one, drop-cons xs i x, ← e)

  pub params_conform-drop : (found : TypedImplementation) (xs : List ParamType) (i : ℕ) (x : ParamType) → i < length xs → x ≡ get_or xs i x → params_conform w found i (drop i xs) ≡ (param_conforms w x (target_parameter w found.ty found.target i) && params_conform w found (i + 1) (drop (i + 1) xs))
  params_conform-drop found xs i x h e = ap (params_conform w found i) (drop-step xs i x h e)

-- a parameter that doesn't conform
module _ (w : Rows) where
  pub params_conform-fails : (found : TypedImplementation) (xs : List ParamType) (i : ℕ) (other : ParamType) → i < length xs → false ≡ param_conforms w (get_or xs i other) (target_parameter w found.ty found.target i) → params_conform w found i (drop i xs) ≡ false
  params_conform-fails found xs i other h fails =
      let step : drop i xs ≡ get_or xs i other ∷ drop (i + 1) xs = rw (add-one, drop-cons xs i other) in
      ap (params_conform w found i) step ∙ ap (λ (b : Bool). b && params_conform w found (i + 1) (drop (i + 1) xs)) (sym fails)

-- no last statement, and the last one
pub ends-nowhere : (body : List TypedStmt) → length body ≡ 0 → ends_in_stop body ≡ false
ends-nowhere body h = ap (λ (o : Option TypedStmt). option_map_or (λ s. is_stop (stmt_of s)) o false) (slice_get_past body (length body - 1) (omega arith))

pub ends-there : (body : List TypedStmt) (i : ℕ) (x : TypedStmt) → i + 1 ≡ length body → x ≡ get_or body i x → ends_in_stop body ≡ is_stop (stmt_of x)
ends-there body i x h e =
    let at : length body - 1 ≡ i = omega arith in
    ap (λ (o : Option TypedStmt). option_map_or (λ s. is_stop (stmt_of s)) o false)
    (ap (slice_get body) at ∙ slice_get_read body (length body) i x refl (omega arith) e)

pub ruleset last = (ends-nowhere, ends-there)

pub ruleset all = (list_all-drop, drop-length)

pub ruleset rising = (rises_from-drop, rise_from-drop, drop-length)

pub ruleset types = (well_types-drop, drop-length)

pub ruleset uppers = (are_uppers-drop, are_held-drop, has_next-drop, drop-length)

pub ruleset holders = (put_in-before, put_in-following, drop-step, append_assoc)

pub ruleset signatures = (well_signatures-drop, drop-length)

pub ruleset implementations = (all_implement-drop, params_conform-drop, drop-length)

pub ruleset parts = (is_part-step, is_part-done, is_part-left)
