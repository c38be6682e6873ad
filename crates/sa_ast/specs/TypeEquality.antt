-- The test that `==` computes of two types. It is true exactly where they are the same, so it is an equivalence.
use Rattle.std.specs.Prelude.{◌≡◌, Bool, true, false, ◌&&◌, nat_eq, refl}
use Rattle.std.specs.Bool.{Decides, one_answer}
use Rattle.std.specs.Cmp.{IsEquivalence, first_so, second_so}
use Rattle.std.specs.Cmp.Lexicographic.{pointwise, bytes_decides}
use Rattle.std.proofs.Common.{ap, subst, sym}
use Rattle.sa_ast.specs.declared.ty.Mode.{Mode}
use Rattle.sa_ast.specs.declared.ty.Mode.TheVariants.{In, Out, Inout, Once}
use Rattle.sa_ast.specs.Types.{BareTy, Named, Same, Rout, Iter, BareTys, no_types, type}
use Rattle.sa_ast.specs.Types.{BareArgs, no_args, arg, BareResult, no_result, gives}

-- whether two modes are equal
abbrev pub same_mode : Mode → Mode → Bool
same_mode In In = true
same_mode Out Out = true
same_mode Inout Inout = true
same_mode Once Once = true
same_mode _ _ = false

-- whether two types are of one variant and agree in all its fields
abbrev mutual
  pub same_type : BareTy → BareTy → Bool
  same_type (Named m ts) (Named n us) = pointwise nat_eq m n && same_types ts us
  same_type Same Same = true
  same_type (Rout xs a) (Rout ys b) = same_args xs ys && same_result a b
  same_type (Iter xs a) (Iter ys b) = same_args xs ys && same_result a b
  same_type _ _ = false

  pub same_types : BareTys → BareTys → Bool
  same_types no_types no_types = true
  same_types (type t ts) (type u us) = same_type t u && same_types ts us
  same_types _ _ = false

  pub same_args : BareArgs → BareArgs → Bool
  same_args no_args no_args = true
  same_args (arg m t xs) (arg n u ys) = same_mode m n && same_type t u && same_args xs ys
  same_args _ _ = false

  pub same_result : BareResult → BareResult → Bool
  same_result no_result no_result = true
  same_result (gives t) (gives u) = same_type t u
  same_result _ _ = false

-- whether two arguments agree in mode and type
abbrev pub same_arg : Mode × BareTy → Mode × BareTy → Bool
same_arg a b = same_mode a.0 b.0 && same_type a.1 b.1

-- ---- where the test is true, the two are equal

equal_modes : (m n : Mode) → same_mode m n ≡ true → m ≡ n
equal_modes In In h = refl
equal_modes Out Out h = refl
equal_modes Inout Inout h = refl
equal_modes Once Once h = refl
equal_modes _ _ h = cc

mutual
  equal_types : (a b : BareTy) → same_type a b ≡ true → a ≡ b
  equal_types (Named m ts) (Named n us) h =
      let names = (bytes_decides m n).0 (first_so (pointwise nat_eq m n) (same_types ts us) h) in
      let params = equal_lists ts us (second_so (pointwise nat_eq m n) (same_types ts us) h) in
      cc
  equal_types Same Same h = refl
  equal_types (Rout xs a) (Rout ys b) h =
      let args = equal_args xs ys (first_so (same_args xs ys) (same_result a b) h) in
      let results = equal_results a b (second_so (same_args xs ys) (same_result a b) h) in
      cc
  equal_types (Iter xs a) (Iter ys b) h =
      let args = equal_args xs ys (first_so (same_args xs ys) (same_result a b) h) in
      let results = equal_results a b (second_so (same_args xs ys) (same_result a b) h) in
      cc
  equal_types _ _ h = cc

  equal_lists : (ts us : BareTys) → same_types ts us ≡ true → ts ≡ us
  equal_lists no_types no_types h = refl
  equal_lists (type t ts) (type u us) h =
      let first = equal_types t u (first_so (same_type t u) (same_types ts us) h) in
      let more = equal_lists ts us (second_so (same_type t u) (same_types ts us) h) in
      cc
  equal_lists _ _ h = cc

  equal_args : (xs ys : BareArgs) → same_args xs ys ≡ true → xs ≡ ys
  equal_args no_args no_args h = refl
  equal_args (arg m t xs) (arg n u ys) h =
      let first = first_so (same_mode m n && same_type t u) (same_args xs ys) h in
      let modes = equal_modes m n (first_so (same_mode m n) (same_type t u) first) in
      let types = equal_types t u (second_so (same_mode m n) (same_type t u) first) in
      let more = equal_args xs ys (second_so (same_mode m n && same_type t u) (same_args xs ys) h) in
      cc
  equal_args _ _ h = cc

  equal_results : (a b : BareResult) → same_result a b ≡ true → a ≡ b
  equal_results no_result no_result h = refl
  equal_results (gives t) (gives u) h = ap gives (equal_types t u h)
  equal_results _ _ h = cc

-- ---- the test is true of two that are one

both : (a b : Bool) → a ≡ true → b ≡ true → a && b ≡ true
both true b h k = k
both false b h k = h

mode_itself : (m : Mode) → same_mode m m ≡ true
mode_itself In = refl
mode_itself Out = refl
mode_itself Inout = refl
mode_itself Once = refl

mutual
  type_itself : (a : BareTy) → same_type a a ≡ true
  type_itself (Named n ts) = both _ _ ((bytes_decides n n).1 refl) (list_itself ts)
  type_itself Same = refl
  type_itself (Rout xs a) = both _ _ (args_itself xs) (result_itself a)
  type_itself (Iter xs a) = both _ _ (args_itself xs) (result_itself a)

  list_itself : (ts : BareTys) → same_types ts ts ≡ true
  list_itself no_types = refl
  list_itself (type t ts) = both _ _ (type_itself t) (list_itself ts)

  args_itself : (xs : BareArgs) → same_args xs xs ≡ true
  args_itself no_args = refl
  args_itself (arg m t xs) = both _ _ (both _ _ (mode_itself m) (type_itself t)) (args_itself xs)

  result_itself : (a : BareResult) → same_result a a ≡ true
  result_itself no_result = refl
  result_itself (gives t) = type_itself t

-- ---- the laws of `PartialEq`, `Eq` and `Hash`

-- a test that decides equality is an equivalence
decided_equiv : {K : Type 0} (E : K → K → Bool) → ((a b : K) → Decides (E a b) (a ≡ b)) → IsEquivalence E
decided_equiv E d = record {
  refl = λ a. (d a a).1 refl;
  symm = λ a b. one_answer _ _ (d a b) (λ h. sym ((d b a).0 h), λ e. (d b a).1 (sym e));
  congr = λ a b c h. ap (λ x. E x c) ((d a b).0 h);
}

pub same_type_Decides : (a b : BareTy) → Decides (same_type a b) (a ≡ b)
same_type_Decides a b = (equal_types a b, λ e. subst (λ c. same_type a c ≡ true) e (type_itself a))

pub same_type_equiv : IsEquivalence same_type
same_type_equiv = decided_equiv same_type same_type_Decides

pub same_arg_Decides : (a b : Mode × BareTy) → Decides (same_arg a b) (a ≡ b)
same_arg_Decides a b = (
  λ h i. (modes h i, types h i),
  λ e. subst (λ c. same_arg a c ≡ true) e (both _ _ (mode_itself a.0) (type_itself a.1)),
)
  where
    modes : same_arg a b ≡ true → a.0 ≡ b.0
    modes h = equal_modes a.0 b.0 (first_so (same_mode a.0 b.0) (same_type a.1 b.1) h)

    types : same_arg a b ≡ true → a.1 ≡ b.1
    types h = equal_types a.1 b.1 (second_so (same_mode a.0 b.0) (same_type a.1 b.1) h)

pub same_arg_equiv : IsEquivalence same_arg
same_arg_equiv = decided_equiv same_arg same_arg_Decides
