-- The name of each invariant, as the line of an internal error has it.
use Rattle.std.specs.Prelude.{ℕ, List, codes}
use Rattle.failure.specs.declared.invariant.Invariant.{Invariant}
use Rattle.failure.specs.declared.invariant.Invariant.TheVariants as invariant

abbrev pub invariant_name : Invariant → List ℕ
invariant_name invariant.GraphNode = codes "graph node"
invariant_name invariant.SubtypeTable = codes "subtype table"
invariant_name invariant.HierarchyTable = codes "hierarchy table"
invariant_name invariant.IncludeTable = codes "include table"
invariant_name invariant.ConflictTable = codes "conflict table"
invariant_name invariant.ClassTable = codes "class table"
invariant_name invariant.InstanceTable = codes "instance table"
invariant_name invariant.SignatureTable = codes "signature table"
invariant_name invariant.ConstantTable = codes "constant table"
invariant_name invariant.CheckedNumber = codes "checked number"
invariant_name invariant.CheckedCount = codes "checked count"
invariant_name invariant.RefusalPosition = codes "refusal position"
invariant_name invariant.RefusalPhase = codes "refusal phase"
invariant_name invariant.IllTyped = codes "ill typed"
invariant_name invariant.RuleDenied = codes "rule denied"
invariant_name invariant.PositionMissing = codes "position missing"
invariant_name invariant.BlockMissing = codes "block missing"
invariant_name invariant.CfgNumber = codes "CFG number"
invariant_name invariant.LabelDepth = codes "label depth"
invariant_name invariant.TableIndex = codes "table index"
invariant_name invariant.ModuleInvalid = codes "module invalid"
invariant_name invariant.ModuleUnlinked = codes "module unlinked"
invariant_name invariant.SegmentsDontFit = codes "segments don't fit"
invariant_name invariant.ModuleNotConfined = codes "module not confined"
invariant_name invariant.DispatchLeft = codes "dispatch left"
invariant_name invariant.ExcludedForm = codes "excluded form"
