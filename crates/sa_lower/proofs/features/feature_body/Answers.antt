-- The statements of the feature are well typed in its environment.
use Rattle.sa_typing.specs.Rows.{rows}
use Rattle.sa_lower.proofs.Parts.{body_there}
use Rattle.sa_lower.proofs.features.feature_body.Goals as goal

pub lower_body-requires : goal.lower_body-requires
lower_body-requires c =
    body_there (rows c.args.view.now) c.args.feature.now _ _ c.env_of-scope.ensures.env c.as_slice.ensures c.requires.body
