-- Signatures as keys of a table, in which two are equal if they conflict: conflict is an equivalence, and the hashes of two that
-- conflict are equal.
use Rattle.std.specs.Prelude.{◌≡◌, ◌++◌, ◌&&◌, ◌||◌, Bool, true, false, Option, Some, None, cond, refl, is_some}
use Rattle.std.specs.Bool.{Decides, beq}
use Rattle.std.specs.Cmp.{IsEquivalence, and_equiv, on_equiv, bool_eq_equiv, booleans_Decides, equiv}
use Rattle.std.specs.Cmp.Lexicographic.{bytes_decides, lists_equiv, nat_list_eq_equiv, options_equiv}
use Rattle.std.specs.Hash as fed
use Rattle.std.specs.Hash.{Alike, HashWrites, and-Alike, items_Alike, on_Alike, same_Alike}
use Rattle.std.specs.Option.{option_eq}
use Rattle.std.proofs.Common.{ap, subst, sym, ◌∙◌}
use Rattle.sa_ast.specs.declared.ty.Mode.{Mode}
use Rattle.sa_ast.specs.declared.ty.Mode.TheVariants.{In, Out, Inout, Once}
use Rattle.sa_ast.specs.declared.ty.ModeTy.{ModeTy}
use Rattle.sa_ast.specs.declared.ty.Ty.{Ty}
use Rattle.sa_ast.specs.Names.{name_writes}
use Rattle.sa_ast.specs.TypeEquality.{same_mode, same_type, same_type_Decides, same_type_equiv}
use Rattle.sa_ast.specs.TypeHash.{mode_writes, type_writes}
use Rattle.sa_ast.specs.Types.{BareTy, bare}
use Rattle.sa_subst.specs.Abstract.{is_abstract_bare, is_abstract_type}
use Rattle.sa_subst.specs.declared.sig.Sig.{Sig}
use Rattle.sa_overload.specs.Conflict.{args_clash, do_conflict, types_clash}

-- ---- what is hashed

-- what a conflict sees of a type: abstract ones are all alike
abbrev pub seen : Ty → Option BareTy
seen t = cond (is_abstract_type t) None (Some (bare t))

abbrev pub seen_writes : Option BareTy → HashWrites
seen_writes None = fed.u8 0
seen_writes (Some t) = fed.u8 1 ++ type_writes t

abbrev pub argument_writes : ModeTy → HashWrites
argument_writes a = mode_writes a.mode ++ seen_writes (seen a.ty)

abbrev pub sig_writes : Sig → HashWrites
sig_writes s = name_writes s.name ++ fed.bool (is_some s.result) ++ fed.slice argument_writes s.args

-- ---- modes

mode_decides : (m n : Mode) → Decides (same_mode m n) (m ≡ n)
mode_decides In In = (λ e. refl, λ e. refl)
mode_decides Out Out = (λ e. refl, λ e. refl)
mode_decides Inout Inout = (λ e. refl, λ e. refl)
mode_decides Once Once = (λ e. refl, λ e. refl)
mode_decides _ _ = (λ e. cc, λ e. cc)

mode_equiv : IsEquivalence same_mode
mode_equiv = record {
  refl = λ m. (mode_decides m m).1 refl;
  symm = λ m n. symm m n;
  congr = λ m n o e. ap (λ x. same_mode x o) ((mode_decides m n).0 e);
}
  where
    symm : (m n : Mode) → same_mode m n ≡ same_mode n m
    symm In In = refl
    symm In Out = refl
    symm In Inout = refl
    symm In Once = refl
    symm Out In = refl
    symm Out Out = refl
    symm Out Inout = refl
    symm Out Once = refl
    symm Inout In = refl
    symm Inout Out = refl
    symm Inout Inout = refl
    symm Inout Once = refl
    symm Once In = refl
    symm Once Out = refl
    symm Once Inout = refl
    symm Once Once = refl

-- ---- types

-- types that are the same are both abstract or both aren't
alike_abstract : (f g : Ty) (a b : Bool) → is_abstract_type f ≡ a → is_abstract_type g ≡ b → same_type (bare f) (bare g) ≡ true → a ≡ b
unfolding is_abstract_type
alike_abstract f g a b p q r = sym p ∙ ap is_abstract_bare ((same_type_Decides (bare f) (bare g)).0 r) ∙ q

clash_seen : (f g : Ty) → types_clash f g ≡ option_eq same_type (seen f) (seen g)
clash_seen f g = by (is_abstract_type f) (is_abstract_type g) (same_type (bare f) (bare g)) refl refl refl
  where
    by : (a b s : Bool) → is_abstract_type f ≡ a → is_abstract_type g ≡ b → same_type (bare f) (bare g) ≡ s
        → (s || a && b) ≡ option_eq same_type (cond a None (Some (bare f))) (cond b None (Some (bare g)))
    by true true true p q r = refl
    by true true false p q r = refl
    by true false true p q r = alike_abstract f g true false p q r
    by true false false p q r = refl
    by false true true p q r = sym (alike_abstract f g false true p q r)
    by false true false p q r = refl
    by false false true p q r = sym r
    by false false false p q r = sym r

types_equiv : IsEquivalence types_clash
types_equiv = subst IsEquivalence (λ i f g. sym (clash_seen f g) i) (on_equiv seen (options_equiv same_type_equiv))

seen_fed : (f g : Option BareTy) → option_eq same_type f g ≡ true → seen_writes f ≡ seen_writes g
seen_fed None None h = refl
seen_fed None (Some t) h = cc
seen_fed (Some t) None h = cc
seen_fed (Some t) (Some u) h = ap (λ x. fed.u8 1 ++ type_writes x) ((same_type_Decides t u).0 h)

types_Alike : Alike types_clash (λ t. seen_writes (seen t))
types_Alike = record { fed = λ f g h. seen_fed (seen f) (seen g) (sym (clash_seen f g) ∙ h) }

-- ---- arguments and signatures

args_equiv : IsEquivalence args_clash
args_equiv = and_equiv (on_equiv (λ a. a.mode) mode_equiv) (on_equiv (λ a. a.ty) types_equiv)

args_Alike : Alike args_clash argument_writes
args_Alike = and-Alike (on_Alike (λ a. a.mode) (same_Alike mode_writes mode_decides)) (on_Alike (λ a. a.ty) types_Alike)

pub conflict_equiv : IsEquivalence do_conflict
conflict_equiv =
    and_equiv (and_equiv (on_equiv (λ s. s.name) nat_list_eq_equiv) (on_equiv (λ s. is_some s.result) bool_eq_equiv))
    (on_equiv (λ s. s.args) (lists_equiv args_equiv))

pub conflict_Alike : Alike do_conflict sig_writes
conflict_Alike =
    and-Alike
    (and-Alike (on_Alike (λ s. s.name) (same_Alike name_writes bytes_decides))
    (on_Alike (λ s. is_some s.result) (same_Alike fed.bool booleans_Decides)))
    (on_Alike (λ s. s.args) (items_Alike args_Alike))
