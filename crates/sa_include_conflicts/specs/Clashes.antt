-- Which features of a class conflict: those of which two signatures do. `immutable` is whether the class is.
use Rattle.std.specs.Prelude.{◌≡◌, ◌||◌, Bool, true, false, List}
use Rattle.std.specs.List.{AllPairs}
use Rattle.std.specs.Option.{option_map_or}
use Rattle.sa_ast.specs.declared.class.Feature.{Feature}
use Rattle.sa_subst.specs.declared.sig.Sig.{Sig}
use Rattle.sa_overload.specs.Conflict.{do_conflict}
use Rattle.sa_include_conflicts.specs.Signatures.{own_signature, writer_signature}

module _ (immutable : Bool) where
  -- whether a signature of f conflicts with this one
  abbrev pub meets : Feature → Sig → Bool
  meets f s = do_conflict (own_signature f) s || option_map_or (λ w. do_conflict w s) (writer_signature immutable f) false

  -- whether two features conflict
  abbrev pub do_clash : Feature → Feature → Bool
  do_clash f g = meets f (own_signature g) || option_map_or (meets f) (writer_signature immutable g) false

  -- no two of the features conflict
  abbrev pub NoneClash : List Feature → Type 0
  NoneClash features = AllPairs (λ f g. do_clash f g ≡ false) features
