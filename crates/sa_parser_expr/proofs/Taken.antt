-- One more token after those that are taken.
use Rattle.std.proofs.Common.{◌≡◌, ℕ, ◌+◌, ◌<◌, ◌≤◌, false, true, List, [], ◌∷◌, ◌++◌, length, take, get_or, sym, ap, ◌∙◌, subst, inl, inr, refl, arith}
use Rattle.std.proofs.Math.Nat.{eq-or-lt_of_le}
use Rattle.std.proofs.lemmas.List.{take_more}
use Rattle.std.proofs.lemmas.List.Sums.{fold_more}
use Rattle.std.proofs.lemmas.List.Elements.{All-nil, All-more}
use Rattle.std.proofs.lemmas.Option.{slice_get_read}
use Rattle.sa_lexer.specs.declared.token.Token.{Token}
use Rattle.sa_ast.specs.declared.rule.Rule.TheVariants.{NestedTooDeep, WordNotTaken}
use Rattle.sa_parser_expr.specs.declared.levels.Counter.{Counter}
use Rattle.sa_parser_expr.specs.declared.levels.Step.{Step}
use Rattle.sa_parser_expr.specs.Level.{counters_after, level_after, level_of, after, step_of, is_refused, IsTaken, AreTaken, IsFirstBreach}

pub counters_behind-none : counters_after [] ≡ []
unfolding counters_after
counters_behind-none = refl

pub AreTaken-none : (tokens : List Token) → AreTaken tokens 0
AreTaken-none tokens = record {
  words = All-nil IsTaken;
  levels = λ k h.
      let none : k ≡ 0 = omega arith in
      let zero : level_after (take k tokens) ≡ 0 = ap (λ (n : ℕ). level_after (take n tokens)) none ∙ ap level_of counters_behind-none in
      omega (arith, zero);
}

module _ (tokens : List Token) (i : ℕ) (t : Token) (lt : i < length tokens) (is : t ≡ get_or tokens i t) where
  -- the counters after one more token
  counters_behind-more : counters_after (take (i + 1) tokens) ≡ after (step_of t.kind) (counters_after (take i tokens))
  unfolding counters_after
  counters_behind-more =
      fold_more (λ (cs : List Counter) (token : Token). after (step_of token.kind) cs) [] tokens i t lt
      ∙ ap (λ (u : Token). after (step_of u.kind) (counters_after (take i tokens))) (sym is)

  -- a step from the counters after i tokens makes those after one more
  pub counters_behind-step : (step : Step) (before counters : List Counter) → step ≡ step_of t.kind → counters ≡ after step before → before ≡ counters_after (take i tokens) → counters ≡ counters_after (take (i + 1) tokens)
  counters_behind-step step before counters e made old =
      made ∙ ap (λ (s : Step). after s before) e ∙ ap (after (step_of t.kind)) old ∙ sym counters_behind-more

  take-more : take (i + 1) tokens ≡ take i tokens ++ t ∷ []
  take-more = take_more tokens i t lt ∙ ap (λ (u : Token). take i tokens ++ u ∷ []) (sym is)

  -- the levels after the first i + 1 tokens
  levels-more : AreTaken tokens i → level_after (take (i + 1) tokens) ≤ 200 → (k : ℕ) → k ≤ i + 1 → level_after (take k tokens) ≤ 200
  levels-more taken level k h = elim (eq-or-lt_of_le h) [
    | inl e ↦ subst (λ (n : ℕ). level_after (take n tokens) ≤ 200) (sym e) level
    | inr less ↦ taken.levels k (omega arith)
  ]

  pub AreTaken-more : (level : ℕ) (counters : List Counter) → AreTaken tokens i → is_refused t.kind ≡ false → counters ≡ counters_after (take (i + 1) tokens) → level ≡ level_of counters → level ≤ 200 → AreTaken tokens (i + 1)
  AreTaken-more level counters taken word following sum small =
      let same : level_after (take (i + 1) tokens) ≡ level = sym (sum ∙ ap level_of following) in
      record {
        words = All-more IsTaken tokens i t lt taken.words (subst IsTaken is word);
        levels = levels-more taken (omega (arith, same, small));
      }

  -- a refused word
  pub IsFirstBreach-word : (file : ℕ) → AreTaken tokens i → is_refused t.kind ≡ true → IsFirstBreach tokens (record { rule = WordNotTaken; pos = record { file = file; at = t.start } })
  IsFirstBreach-word file taken word = record {
    place = i;
    token = t;
    occurs = slice_get_read tokens (length tokens) i t refl lt is;
    taken = taken;
    breaks = inl (refl, word);
    at = refl;
  }

  -- a token at which the level passes 200
  pub IsFirstBreach-level : (file level : ℕ) (counters : List Counter) → AreTaken tokens i → counters ≡ counters_after (take (i + 1) tokens) → level ≡ level_of counters → 200 < level → IsFirstBreach tokens (record { rule = NestedTooDeep; pos = record { file = file; at = t.start } })
  IsFirstBreach-level file level counters taken following sum large =
      let same : level_after (take i tokens ++ t ∷ []) ≡ level = sym (sum ∙ ap level_of following ∙ ap level_after take-more) in
      record {
        place = i;
        token = t;
        occurs = slice_get_read tokens (length tokens) i t refl lt is;
        taken = taken;
        breaks = inr (refl, omega (arith, same, large));
        at = refl;
      }
