-- What the features of a class have of one that an include clause contributes: itself, or one that conflicts with it.
use Rattle.std.specs.Prelude.{◌≡◌, ◌||◌, Bool, false, ℕ, List, flat_map, map}
use Rattle.std.specs.List.{list_any}
use Rattle.std.specs.Option.{option_map_or}
use Rattle.sa_ast.specs.declared.class.Feature.{Feature}
use Rattle.sa_ast.specs.declared.ty.ModeTy.{ModeTy}
use Rattle.sa_ast.specs.declared.ty.Ty.{Ty}
use Rattle.sa_subst.specs.declared.sig.Sig.{Sig}
use Rattle.sa_overload.specs.Conflict.{do_conflict}
use Rattle.sa_include_conflicts.specs.declared.apart.KnownSignatures.{KnownSignatures}
use Rattle.sa_include_conflicts.specs.KnownSignatures.{signatures_of}
use Rattle.sa_include_conflicts.specs.Signatures.{own_signature, writer_signature}

pub record HasSignatures (immutable : Bool) (features : List Feature) (known : KnownSignatures) : Type 0 where
  pub keys : known.shapes.keys ≡ flat_map (signatures_of immutable) features

abbrev pub inherited_argument : (Ty → Ty) → ModeTy → ModeTy
inherited_argument put a = record { mode = a.mode; ty = put a.ty }

module _ (put : Ty → Ty) (name : List ℕ) where
  -- a signature under this name, with the type of each argument changed
  abbrev pub inherited : Sig → Sig
  inherited s = record { name = name; args = map (inherited_argument put) s.args; result = s.result }

  -- whether it conflicts with one of these
  abbrev pub is_met : List Sig → Sig → Bool
  is_met known s = list_any (do_conflict (inherited s)) known

  -- whether a signature of a feature does, as those of the feature itself do
  abbrev pub has_included : Bool → List Sig → Feature → Bool
  has_included immutable known f = is_met known (own_signature f) || option_map_or (is_met known) (writer_signature immutable f) false
