-- Which programs are well typed.
use Rattle.std.specs.Prelude.{ℕ, IsTrue, map}
use Rattle.std.specs.List.{list_all}
use Rattle.sa_typed.specs.declared.program.TypedProgram.{TypedProgram}
use Rattle.sa_typing.specs.Rows.{Rows}
use Rattle.sa_typing.specs.CallTypes.{characters_in, signature_call_type, call_type_of_bound}
use Rattle.sa_typing.specs.Types.{well_base_types, well_types}
use Rattle.sa_typing.specs.Layout.{IsAcyclic}
use Rattle.sa_typing.specs.Signatures.{well_signatures}
use Rattle.sa_typing.specs.Features.{well_feature, well_main, well_shared}

-- the tables of a program
abbrev pub rows_of : TypedProgram → Rows
rows_of core = record {
  types = core.types;
  features = core.features;
  shareds = core.shareds;
  signatures = core.sigs;
  bound = map (call_type_of_bound core.types) core.types;
  shapes = map (signature_call_type core.types) core.sigs;
  characters = characters_in 0 core.types;
}

-- with these tables, where the feature with this number is run
pub record AreWellTyped (w : Rows) (number : ℕ) : Type 0 where
  -- BOOL, INT, CHAR, STR, FAULT and $OB are what they have to be
  pub given : IsTrue (well_base_types w)
  -- each type has the kind of its name, attributes of types of the program, and supertypes that it may have
  pub types : IsTrue (well_types w 0 w.types)
  -- no immutable class contains itself
  pub flat : IsAcyclic w
  -- each signature has its implementations
  pub signatures : IsTrue (well_signatures w 0 w.signatures)
  pub shareds : IsTrue (list_all (well_shared w) w.shareds)
  pub features : IsTrue (list_all (well_feature w) w.features)
  pub main : IsTrue (well_main w number)

abbrev pub IsWellTyped : TypedProgram → Type 0
IsWellTyped core = AreWellTyped (rows_of core) core.main
