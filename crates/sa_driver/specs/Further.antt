-- The refusals that are reported after the first one.
use Rattle.std.specs.Prelude.{◌≡◌, ◌≢◌, ◌⊎◌, ⊤, ℕ, List, [], IsTrue, flat_map}
use Rattle.std.specs.List.{All}
use Rattle.sa_ast.specs.Rules.{rule_text}
use Rattle.sa_ast.specs.declared.pos.Sources.{Sources}
use Rattle.sa_ast.specs.declared.refusal.Refusal.{Refusal}
use Rattle.sa_cli.specs.declared.command.Extent.{Extent}
use Rattle.sa_cli.specs.declared.command.Extent.TheVariants as extent
use Rattle.sa_driver.specs.Files.{IsPlaceIn, is_of_checker}
use Rattle.sa_driver.specs.Internal.{IsInternal}
use Rattle.sa_driver.specs.Lines.{about_place}
use Rattle.sa_driver.specs.declared.cause.Cause.{Cause}
use Rattle.sa_driver.specs.declared.cause.Cause.TheVariants as cause
use Rattle.sa_driver.specs.declared.outcome.Outcome.{Outcome}

-- the refusal is by a rule that the checker decides, at a position in one of the texts
pub record IsFurther (sources : Sources) (refusal : Refusal) : Type 0 where
  pub by_checker : IsTrue (is_of_checker refusal.rule)
  pub place : IsPlaceIn sources.texts refusal.pos

-- the line of a refusal
abbrev pub refusal_line : Sources → Refusal → List ℕ
refusal_line sources refusal = about_place sources refusal.pos (rule_text refusal.rule)

-- the lines of refusals
abbrev pub refusal_lines : Sources → List Refusal → List ℕ
refusal_lines sources refusals = flat_map (refusal_line sources) refusals

-- the refusal that is the cause is followed by the lines of these others
pub record ReportsFurther (outcome : Outcome) : Type 0 where
  pub first : Refusal
  pub cause : outcome.cause ≡ cause.Refused first
  pub refusals : List Refusal
  pub further : All (IsFurther outcome.sources) refusals
  pub lines : outcome.further.items ≡ refusal_lines outcome.sources refusals

-- others are reported, or none; and none where only the first one is asked for
abbrev pub MayReportFurther : Extent → Outcome → Type 0
MayReportFurther extent.Needed outcome = outcome.further.items ≡ []
MayReportFurther extent.All outcome = (outcome.further.items ≡ []) ⊎ ReportsFurther outcome

-- behind a refusal each of these is told where all are asked for, unless the end is internal
abbrev pub ReportsEach : Extent → Cause → List Refusal → Outcome → Type 0
ReportsEach extent.All (cause.Refused first) refusals outcome =
    (IsInternal outcome.cause → ⊥) → outcome.further.items ≡ refusal_lines outcome.sources refusals
ReportsEach _ _ refusals outcome = ⊤
