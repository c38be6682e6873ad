use Rattle.std.proofs.Common.{◌≡◌, ◌∙◌, List, [], ◌∷◌, length, subst, sym, arith}
use Rattle.std.proofs.lemmas.Grind.{common_steps}
use Rattle.std.specs.Prelude.{codes}
use Rattle.wa_syntax.specs.declared.module.FuncTy.{FuncTy}
use Rattle.wa_text.specs.Forms.{◌then◌, each}
use Rattle.wa_text.specs.Reading.{texts}
use Rattle.wa_text.specs.Words.{Line, Word, val, word}
use Rattle.wa_text.proofs.NoWords.{behind_params, no_length, no_texts, params_results, tail_is, vals_whole}
use Rattle.wa_text.proofs.Refusals.{refuses_as, returned}
use Rattle.wa_text.proofs.reader.types.TypeItemLineForm.read.Goals as goal

pub returns-in_err-following : goal.returns-in_err-following
returns-in_err-following c =
    let words = texts c.args.words.now in
    let params = c.in_ok-params.ensures in
    returned _ _ _ c.from_residual-in_err-following.ensures.1 (refuses_as (λ (rest line : Line). line ≡ codes "->" ∷ rest) (λ (t : FuncTy). each val t.params then word (codes "->") then each val t.results) words (texts c.in_ok-params.rest.now) c.in_err-following.field-0.0 (λ t h. let k = behind_params c.in_ok-params.params t words (texts c.in_ok-params.rest.now) params.found params.stops h in (k.0, k.1)) c.in_err-following.ensures)

pub returns-then-is_empty : goal.returns-then-is_empty
returns-then-is_empty c =
    let short : length c.in_ok-results.rest.now ≡ 0 = grind (arith, common_steps) in
    let none : texts c.in_ok-results.rest.now ≡ [] = no_texts c.in_ok-results.rest.now short in
    params_results c.in_ok-params.params c.in_ok-results.results (texts c.args.words.now) (texts c.in_ok-params.rest.now) (texts c.in_ok-following.field-0.now) (texts c.in_ok-results.rest.now) c.in_ok-params.ensures.found c.in_ok-following.ensures c.in_ok-results.ensures.found none

pub returns-else-is_empty : goal.returns-else-is_empty
returns-else-is_empty c = λ t h.
    let words = texts c.args.words.now in
    let rest = texts c.in_ok-params.rest.now in
    let back = texts c.in_ok-following.field-0.now in
    let k = behind_params c.in_ok-params.params t words rest c.in_ok-params.ensures.found c.in_ok-params.ensures.stops h in
    let same : k.0 ≡ back = tail_is (sym k.1 ∙ c.in_ok-following.ensures) in
    let none = vals_whole c.in_ok-results.results t.results back (texts c.in_ok-results.rest.now) c.in_ok-results.ensures.found c.in_ok-results.ensures.stops (subst (λ (l : List Word). each val t.results l) same k.2) in
    let short : length c.in_ok-results.rest.now ≡ 0 = no_length c.in_ok-results.rest.now none in
    grind (arith, common_steps)
