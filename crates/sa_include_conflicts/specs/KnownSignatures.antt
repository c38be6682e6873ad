-- The signatures of features, while they are checked one by one.
use Rattle.std.specs.Prelude.{◌≡◌, ◌++◌, Bool, false, true, ℕ, List, [], ◌∷◌, flat_map, take}
use Rattle.std.specs.List.{list_any, position_or_len}
use Rattle.std.specs.Option.{option_map, option_map_or, option_to_list}
use Rattle.sa_ast.specs.declared.class.Feature.{Feature}
use Rattle.sa_subst.specs.declared.sig.Sig.{Sig}
use Rattle.sa_overload.specs.Conflict.{do_conflict}
use Rattle.sa_include_conflicts.specs.Clashes.{NoneClash}
use Rattle.sa_include_conflicts.specs.declared.groups.Groups.{Groups}
use Rattle.sa_include_conflicts.specs.Signatures.{own_signature, writer_signature}

-- a signature is after the others, and conflicts with none of them
pub record AddsSignature (s : Sig) (old new : List Sig) : Type 0 where
  pub apart : list_any (do_conflict s) old ≡ false
  pub added : new ≡ old ++ s ∷ []

module _ (immutable : Bool) where
  abbrev pub signatures_of : Feature → List Sig
  signatures_of f = own_signature f ∷ option_to_list (writer_signature immutable f)

  -- so do those of a feature
  pub record AddsFeature (f : Feature) (old new : List Sig) : Type 0 where
    pub own : list_any (do_conflict (own_signature f)) old ≡ false
    pub writer : option_map_or (λ w. list_any (do_conflict w) old) (writer_signature immutable f) false ≡ false
    pub added : new ≡ old ++ signatures_of f

  -- the known signatures are those of the features, no two of which conflict
  pub record AreApart (features : List Feature) (known : List Sig) : Type 0 where
    pub listed : known ≡ flat_map signatures_of features
    pub none_clash : NoneClash immutable features

-- ---- signatures in groups, of which these are the first ones

abbrev pub group_number : List Sig → Sig → ℕ
group_number firsts s = position_or_len (do_conflict s) firsts

-- the group of a signature is that of the first one with which it conflicts, after the others if it conflicts with none
pub record IsGroupOf (s : Sig) (old new : List Sig) (group : ℕ) : Type 0 where
  pub more : List Sig
  pub grown : new ≡ old ++ more
  pub known : list_any (do_conflict s) new ≡ true
  pub is : group ≡ group_number new s

module _ (immutable : Bool) where
  -- the signatures of a feature have groups, which are these
  pub record IsGrouped (firsts : List Sig) (f : Feature) (groups : Groups) : Type 0 where
    pub known : list_any (do_conflict (own_signature f)) firsts ≡ true
    pub own : groups.own ≡ group_number firsts (own_signature f)
    pub writer_known : option_map_or (λ w. list_any (do_conflict w) firsts) (writer_signature immutable f) true ≡ true
    pub writer : groups.writer ≡ option_map (group_number firsts) (writer_signature immutable f)

  -- and they are found among the old ones, or are after these
  pub record IsGroupedBy (old new : List Sig) (f : Feature) (groups : Groups) : Type 0 where
    pub more : List Sig
    pub grown : new ≡ old ++ more
    pub grouped : IsGrouped new f groups
