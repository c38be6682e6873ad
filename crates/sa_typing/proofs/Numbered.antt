-- The numbers of types, filled from the last type on; call types and parameters, from an index on.
use Rattle.std.proofs.Common.{◌≡◌, ◌≢◌, ◌↔◌, true≢false, ℕ, ◌+◌, ◌<◌, ◌≤◌, ◌++◌, ◌&&◌, Bool, List, [], ◌∷◌, Option, None, Some, cond, nat_eq, length, get_or, drop, map, refl, sym, ap, ◌∙◌, add-one, drop-cons, suc, arith, append_assoc}
use Rattle.std.proofs.Math.Dec.{eqb-suc-zero}
use Rattle.std.proofs.Math.ListN.{drop_of_length-le}
use Rattle.std.proofs.Math.Seq.{drop-length}
use Rattle.std.specs.HashMap.{HashMap, get}
use Rattle.std.specs.Ordering.{on}
use Rattle.std.specs.Prelude.{IsTrue, bytes_eq, codes, false, option_map, option_and_then, true}
use Rattle.sa_ast.specs.declared.ty.ModeTy.{ModeTy}
use Rattle.sa_ast.specs.declared.ty.Mode.{Mode}
use Rattle.sa_ast.specs.declared.ty.Ty.{Ty}
use Rattle.sa_ast.specs.TypeEquality.{same_type}
use Rattle.sa_ast.specs.Types.{BareTy, Named, all_bare, arg, all_bare_args, bare, bare_arg}
use Rattle.sa_ast.proofs.BareTypes.{bare_arg-parts}
use Rattle.sa_typed.specs.declared.program.TypeDef.{TypeDef}
use Rattle.sa_typing.specs.declared.expr_type.ParamType.{ParamType}
use Rattle.sa_typing.proofs.Listed.{drop-step}
use Rattle.sa_typing.specs.CallTypes.{HasNumbers, characters_in, is_char, is_char_alone, is_char_array, number_in, number_of, parameters_of}

-- one more type at the front, which is put into the table
pub has_numbers-more : {S : Type 0} (table more : HashMap Ty ℕ S) (types : List TypeDef) (i : ℕ) (t : TypeDef) → i < length types → t ≡ get_or types i t → HasNumbers table types (i + 1) → ((ty : Ty) → get (on bare same_type) more ty ≡ cond (on bare same_type t.ty ty) (Some i) (get (on bare same_type) table ty)) → HasNumbers more types i
has_numbers-more table more types i t h e known put ty =
    put ty ∙ ap (cond (on bare same_type t.ty ty) (Some i)) (known ty) ∙ sym (first ty)
  where
    first : (ty : Ty) → number_in (drop i types) i (bare ty) ≡ cond (on bare same_type t.ty ty) (Some i) (number_in (drop (i + 1) types) (i + 1) (bare ty))
    first ty =
        let same : i + 1 ≡ suc i = omega arith in
        rw (add-one, drop-cons types i t h, ← e) (ap (λ k. cond (on bare same_type t.ty ty) (Some i) (number_in (drop (suc i) types) k (bare ty))) same)

-- the parameters so far, and those of the remaining arguments
abbrev pub with_front : List ParamType → Option (List ParamType) → Option (List ParamType)
with_front front None = None
with_front front (Some more) = Some (front ++ more)

-- one more parameter after those so far
pub with_front-more : (front : List ParamType) (p : ParamType) (more : Option (List ParamType)) → with_front front (option_map (λ rest. p ∷ rest) more) ≡ with_front (front ++ p ∷ []) more
with_front-more front p None = refl
with_front-more front p (Some more) = ap Some (sym (append_assoc front (p ∷ []) more))

module _ (types : List TypeDef) where
  pub parameters-found : (front : List ParamType) (xs : List ModeTy) (i : ℕ) (x : ModeTy) (n : ℕ) → i < length xs → x ≡ get_or xs i x → number_of types (bare x.ty) ≡ Some n → with_front front (parameters_of types (all_bare_args (drop i xs))) ≡ with_front (front ++ record { mode = x.mode; ty = n } ∷ []) (parameters_of types (all_bare_args (drop (i + 1) xs)))
  parameters-found front xs i x n h e found =
      let step : parameters_of types (all_bare_args (drop i xs)) ≡ parameters_of types (arg (bare_arg x).0 (bare_arg x).1 (all_bare_args (drop (i + 1) xs))) =
      rw (add-one, drop-cons xs i x, ← e) in
      ap (with_front front) (step
      ∙ ap (λ (a : Mode × BareTy). parameters_of types (arg a.0 a.1 (all_bare_args (drop (i + 1) xs)))) (bare_arg-parts x)
      ∙ ap (option_and_then (λ n. option_map (λ rest. record { mode = x.mode; ty = n } ∷ rest) (parameters_of types (all_bare_args (drop (i + 1) xs))))) found)
      ∙ with_front-more front (record { mode = x.mode; ty = n }) (parameters_of types (all_bare_args (drop (i + 1) xs)))

  pub parameters-missing : (front : List ParamType) (xs : List ModeTy) (i : ℕ) (x : ModeTy) → i < length xs → x ≡ get_or xs i x → number_of types (bare x.ty) ≡ None → with_front front (parameters_of types (all_bare_args (drop i xs))) ≡ None
  parameters-missing front xs i x h e missing =
      let step : parameters_of types (all_bare_args (drop i xs)) ≡ parameters_of types (arg (bare_arg x).0 (bare_arg x).1 (all_bare_args (drop (i + 1) xs))) =
      rw (add-one, drop-cons xs i x, ← e) in
      ap (with_front front) (step
      ∙ ap (λ (a : Mode × BareTy). parameters_of types (arg a.0 a.1 (all_bare_args (drop (i + 1) xs)))) (bare_arg-parts x)
      ∙ ap (option_and_then (λ n. option_map (λ rest. record { mode = x.mode; ty = n } ∷ rest) (parameters_of types (all_bare_args (drop (i + 1) xs))))) missing)

pub parameters-all : (types : List TypeDef) (front : List ParamType) (xs : List ModeTy) (i : ℕ) → length xs ≤ i → with_front front (parameters_of types (all_bare_args (drop i xs))) ≡ Some (front ++ [])
parameters-all types front xs i h = ap (λ (rest : List ModeTy). with_front front (parameters_of types (all_bare_args rest))) (drop_of_length-le xs h)

pub characters_in-drop : (xs : List TypeDef) (i : ℕ) (x : TypeDef) → i < length xs → x ≡ get_or xs i x → characters_in i (drop i xs) ≡ cond (is_char_array (bare x.ty)) (Some i) (characters_in (i + 1) (drop (i + 1) xs))
characters_in-drop xs i x h e = ap (characters_in i) (drop-step xs i x h e)

and-true : (b : Bool) → b ≡ (b && true)
and-true true = refl
and-true false = refl

and-false : (b : Bool) → false ≡ (b && false)
and-false true = refl
and-false false = refl

-- CHAR has no type arguments, and ARRAY one
pub is_char-given : (name : List ℕ) (given : List Ty) → is_char (Named name (all_bare given)) ≡ (bytes_eq name (codes "CHAR") && nat_eq (length given) 0)
is_char-given name [] = and-true (bytes_eq name (codes "CHAR"))
is_char-given name (t ∷ more) =
    and-false (bytes_eq name (codes "CHAR")) ∙ ap (λ (b : Bool). bytes_eq name (codes "CHAR") && b) (sym (eqb-suc-zero (length more)))

pub is_char-alone : (name : List ℕ) (given : List Ty) (empty : Bool) → IsTrue empty ↔ (given ≡ []) → bytes_eq name (codes "CHAR") ≡ true → empty ≡ is_char (Named name (all_bare given))
is_char-alone name [] true h named = sym named
is_char-alone name [] false h named = absurd (true≢false (sym (h.1 refl)))
is_char-alone name (t ∷ more) true h named = let e : (t ∷ more) ≡ [] = h.0 refl in cc
is_char-alone name (t ∷ more) false h named = refl

pub is_char_alone-one : (given : List Ty) (only : Ty) → length given ≡ 1 → only ≡ get_or given 0 only → is_char_alone (all_bare given) ≡ is_char (bare only)
is_char_alone-one [] only h e = absurd (omega arith)
is_char_alone-one (t ∷ []) only h e = ap (λ (x : Ty). is_char (bare x)) (sym e)
is_char_alone-one (t ∷ u ∷ more) only h e = absurd (omega arith)

pub is_char_alone-other : (given : List Ty) → length given ≢ 1 → is_char_alone (all_bare given) ≡ false
is_char_alone-other [] h = refl
is_char_alone-other (t ∷ []) h = absurd (h refl)
is_char_alone-other (t ∷ u ∷ more) h = refl

pub map-drop : {X Y : Type 0} (f : X → Y) (xs : List X) (i : ℕ) (x : X) → i < length xs → x ≡ get_or xs i x → map f (drop i xs) ≡ f x ∷ map f (drop (i + 1) xs)
map-drop f xs i x h e = rw (add-one, drop-cons xs i x, ← e)

pub ruleset numbers = (has_numbers-more)

pub ruleset shapes = (map-drop, drop-length, append_assoc)

pub ruleset parameters = (parameters-found, parameters-missing, parameters-all)

pub ruleset arrays = (characters_in-drop, drop-length)

pub ruleset named = (is_char-given, is_char_alone-one, is_char_alone-other)
