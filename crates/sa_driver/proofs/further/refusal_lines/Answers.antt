use Rattle.std.proofs.Common.{◌≡◌, ◌∙◌, ◌+◌, ◌<◌, ◌++◌, ℕ, List, [], length, take, flat_map, get_or, ap, sym}
use Rattle.std.proofs.lemmas.List.{flat_map_more, take_more}
use Rattle.std.proofs.lemmas.List.Elements.{All-more}
use Rattle.sa_ast.specs.declared.refusal.Refusal.{Refusal}
use Rattle.sa_ast.specs.declared.rule.Rule.TheVariants.{BadByte}
use Rattle.sa_driver.specs.Further.{IsFurther, refusal_line}
use Rattle.sa_driver.proofs.further.refusal_lines.Goals as goal

-- what one item more adds
one_more : {X : Type 0} (f : X → List ℕ) (xs : List X) (i : ℕ) (d : X) → i < length xs → flat_map f (take i xs) ++ f (get_or xs i d) ≡ flat_map f (take (i + 1) xs)
one_more f xs i d less = flat_map_more f [] (take i xs) (get_or xs i d) ∙ ap (flat_map f) (sym (take_more xs i d less))

-- the value for an item that isn't there
abbrev none : Refusal
none = record { rule = BadByte; pos = record { file = 0; at = 0 } }

pub loop-refusal-preserved : goal.loop-refusal-preserved
loop-refusal-preserved c =
    let line = refusal_line c.args.sources.now (get_or c.args.refusals.now c.loop-refusal.refusal-index none) in (
      c.in_ok-add_line.ensures.line
          ∙ ap (λ lines. lines ++ line) c.loop-refusal.invariant.0
          ∙ one_more (refusal_line c.args.sources.now) c.args.refusals.now c.loop-refusal.refusal-index none c.loop-refusal-test.true,
      All-more (IsFurther c.args.sources.now) c.args.refusals.now c.loop-refusal.refusal-index none c.loop-refusal-test.true c.loop-refusal.invariant.1 c.in_ok-add_line.ensures.further,
    )
