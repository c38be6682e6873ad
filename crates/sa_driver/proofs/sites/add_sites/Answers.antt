use Rattle.std.proofs.Common.{◌∙◌, ◌++◌, take, flat_map, get_or, ap, sym}
use Rattle.std.proofs.lemmas.List.{flat_map_more, take_more}
use Rattle.std.proofs.lemmas.List.Elements.{All-more}
use Rattle.sa_ast.specs.declared.pos.Pos.{Pos}
use Rattle.sa_driver.specs.Files.{IsPlaceIn}
use Rattle.sa_driver.specs.Sites.{site_tokens}
use Rattle.sa_driver.proofs.sites.add_sites.Goals as goal

-- the value for a position that isn't there
abbrev none : Pos
none = record { file = 0; at = 0 }

pub loop-pos-preserved : goal.loop-pos-preserved
loop-pos-preserved c =
    let tokens_of = site_tokens c.args.sources.now in
    let before = take c.loop-pos.pos-index c.args.positions.now in
    let pos = get_or c.args.positions.now c.loop-pos.pos-index none in (
      c.in_ok-add_site.ensures.tokens
          ∙ ap (λ tokens. tokens ++ tokens_of pos) c.loop-pos.invariant.0
          ∙ flat_map_more tokens_of c.args.writer.now.tokens before pos
          ∙ ap (λ more. c.args.writer.now.tokens ++ flat_map tokens_of more) (sym (take_more c.args.positions.now c.loop-pos.pos-index none c.loop-pos-test.true)),
      c.in_ok-add_site.ensures.before ∙ c.loop-pos.invariant.1,
      All-more (IsPlaceIn c.args.sources.now.texts) c.args.positions.now c.loop-pos.pos-index none c.loop-pos-test.true c.loop-pos.invariant.2 c.in_ok-add_site.ensures.placed,
    )
