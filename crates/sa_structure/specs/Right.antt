-- What is promised of the structured regions of a body.
use Rattle.std.specs.Prelude.{IsTrue}
use Rattle.sa_cfg.specs.declared.body.CfgBody.{CfgBody}
use Rattle.sa_structure.specs.declared.structured_body.StructuredBody.{StructuredBody}
use Rattle.sa_structure.specs.Numbering.{AreNumbered}
use Rattle.sa_structure.specs.Regions.{pieces}
use Rattle.sa_structure.specs.Stands.{occurs}

-- its list stands for the body, whose entries and blocks that are reached again are those that it names, by their numbers
pub record StandsFor (b : CfgBody) (shaped : StructuredBody) : Type 0 where
  pub list : IsTrue (occurs b shaped.entries shaped.again (pieces shaped.list))
  pub numbers : AreNumbered shaped.entries shaped.numbers shaped.again
