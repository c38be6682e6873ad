-- A well-typed AST and the program of its semantics have the facts that the lemmas on runs ask for.
use Rattle.sa_typed.specs.declared.program.TypedProgram.{TypedProgram}
use Rattle.sa_typing.specs.WellTyped.{rows_of, IsWellTyped}
use Rattle.sa_semantics.specs.Program.{program_of}
use Rattle.sa_type_safety.proofs.ArraysOfTrees as arrays
use Rattle.sa_type_safety.proofs.Above as above
use Rattle.sa_type_safety.proofs.Facts as facts
use Rattle.sa_type_safety.proofs.ExprType as types
use Rattle.sa_type_safety.proofs.Implementations as implementations
use Rattle.sa_type_safety.proofs.SiteTypes as sites
use Rattle.sa_type_safety.proofs.Taken as parameters
use Rattle.sa_type_safety.proofs.Voids as voids
use Rattle.sa_type_safety.proofs.Wide as wide
use Rattle.sa_type_safety.proofs.Widened as widened
use Rattle.sa_type_safety.proofs.ProgramFacts.{ProgramFacts}

pub setting : (core : TypedProgram) → IsWellTyped core → ProgramFacts (rows_of core) (program_of core)
setting core well = record {
  number = core.main;
  well = well;
  type_at = facts.program_type core;
  feature_at = facts.program_feature core;
  signature_at = facts.program_signature core;
  shared_at = facts.program_shared core;
  abstract_is = facts.same_abstract core;
  immutable_is = facts.same_immutable core;
  attributes_are = facts.same_attributes core;
  element_is = facts.same_element core;
  holds_is = facts.same_holds core;
  above_above = above.above_above well;
  above_is = above.above_is well;
  abstract_loose = types.abstract_loose core well;
  abstract_unbound = types.abstract_unbound core well;
  bound_loose = types.bound_loose core well;
  int_immutable = (types.int_is core well).immutable;
  bool_immutable = (types.bool_is core well).immutable;
  char_immutable = (types.char_is core well).immutable;
  str_loose = (types.str_is core well).loose;
  int_plain = (types.int_is core well).plain;
  bool_plain = (types.bool_is core well).plain;
  char_plain = (types.char_is core well).plain;
  str_plain = (types.str_is core well).plain;
  object_plain = types.object_plain core well;
  bound_plain = types.bound_plain core well;
  immutable_plain = types.immutable_plain core well;
  attributed = types.attributed core well;
  array_unbound = arrays.array_unbound core well;
  signature_abstract = types.signature_abstract core well;
  void_is = voids.void_is core well;
  implemented = implementations.implemented well;
  signature_wide = wide.signature_wide core well;
  bound_wide = wide.bound_wide core well;
  bound_there = types.bound_there core well;
  taken = parameters.taken well;
  once_wide = widened.once_wide core well;
  all_wide = widened.all_wide core well;
  agreed = sites.agreed well;
}
