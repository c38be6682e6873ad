-- The levels of nesting of a file's tokens.
use Rattle.std.specs.Prelude.{◌≡◌, ◌⊎◌, ℕ, ◌+◌, ◌<◌, ◌≤◌, Bool, true, false, List, [], ◌∷◌, ◌++◌}
use Rattle.std.specs.Prelude.{take, drop, fold, sum_by, slice_get, Some, if◌then◌else◌, All, ⊤}
use Rattle.sa_lexer.specs.declared.token.Token.{Token}
use Rattle.sa_lexer.specs.declared.token.TokenKind.{TokenKind}
use Rattle.sa_lexer.specs.declared.token.TokenKind.TheVariants as token
use Rattle.sa_lexer.specs.declared.sign.Sign.{Sign}
use Rattle.sa_lexer.specs.declared.word.Word.{Word}
use Rattle.sa_lexer.specs.Words.{is_refused_word}
use Rattle.sa_lexer.specs.declared.sign.Sign.TheVariants as sign
use Rattle.sa_lexer.specs.declared.word.Word.TheVariants as word
use Rattle.sa_ast.specs.declared.refusal.Refusal.{Refusal}
use Rattle.sa_ast.specs.declared.refusal.Rejection.{Rejection}
use Rattle.sa_ast.specs.declared.refusal.Rejection.TheVariants.{Refused, Failed}
use Rattle.sa_ast.specs.declared.rule.Rule.{Rule}
use Rattle.sa_ast.specs.declared.rule.Rule.TheVariants.{NestedTooDeep, WordNotTaken}
use Rattle.sa_parser_expr.specs.declared.levels.Counter.{Counter}
use Rattle.sa_parser_expr.specs.declared.levels.Opener.{Opener}
use Rattle.sa_parser_expr.specs.declared.levels.Opener.TheVariants as opener
use Rattle.sa_parser_expr.specs.declared.levels.Step.{Step}
use Rattle.sa_parser_expr.specs.declared.levels.Step.TheVariants as step

-- what a sign does to the counters
abbrev pub step_of_sign : Sign → Step
step_of_sign sign.LeftParen = step.Open
step_of_sign sign.LeftBrace = step.Open
step_of_sign sign.LeftBracket = step.AddAndOpen
step_of_sign sign.RightParen = step.Close
step_of_sign sign.RightBracket = step.Close
step_of_sign sign.RightBrace = step.Close
step_of_sign sign.Bar = step.Bar
step_of_sign sign.Plus = step.Add
step_of_sign sign.Minus = step.Add
step_of_sign sign.Star = step.Add
step_of_sign sign.Slash = step.Add
step_of_sign sign.Percent = step.Add
step_of_sign sign.Caret = step.Add
step_of_sign sign.Tilde = step.Add
step_of_sign sign.Equal = step.Add
step_of_sign sign.NotEqual = step.Add
step_of_sign sign.Less = step.Add
step_of_sign sign.LessEqual = step.Add
step_of_sign sign.Greater = step.Add
step_of_sign sign.GreaterEqual = step.Add
step_of_sign sign.Dot = step.Add
step_of_sign sign.DoubleColon = step.Add
step_of_sign sign.Hash = step.Add
step_of_sign sign.Comma = step.Reset
step_of_sign sign.Semicolon = step.Reset
step_of_sign sign.Assign = step.Reset
step_of_sign sign.Declare = step.Reset
step_of_sign _ = step.Keep

-- what a word does to them
abbrev pub step_of_word : Word → Step
step_of_word word.Is = step.Open
step_of_word word.If = step.Open
step_of_word word.Loop = step.Open
step_of_word word.Case = step.Open
step_of_word word.Typecase = step.Open
step_of_word word.Protect = step.Open
step_of_word word.End = step.Close
step_of_word word.And = step.Add
step_of_word word.Or = step.Add
step_of_word word.Rout = step.Add
step_of_word word.Iter = step.Add
step_of_word word.Then = step.Reset
step_of_word word.Else = step.Reset
step_of_word word.Elsif = step.Reset
step_of_word word.When = step.Reset
step_of_word word.Class = step.Clear
step_of_word _ = step.Keep

-- what a token does to them: names, numbers and texts do nothing
abbrev pub step_of : TokenKind → Step
step_of (token.Sign s) = step_of_sign s
step_of (token.Word w) = step_of_word w
step_of _ = step.Keep

-- a counter that has just been opened
abbrev pub opened : Opener → Counter
opened o = record { level = 1; opener = o }

-- 1 is added to the innermost counter. Where none is open, one is opened
abbrev pub added : List Counter → List Counter
added [] = opened opener.Other ∷ []
added (c ∷ cs) = record { level = c.level + 1; opener = c.opener } ∷ cs

-- the innermost counter is set to 1, if there is one
abbrev pub set_to_one : List Counter → List Counter
set_to_one [] = []
set_to_one (c ∷ cs) = record { level = 1; opener = c.opener } ∷ cs

-- a `|` opened it
abbrev is_of_bar : Opener → Bool
is_of_bar opener.Bar = true
is_of_bar opener.Other = false

-- a `|` closes the counter that a `|` opened, and opens another one elsewhere
abbrev pub at_bar : List Counter → List Counter
at_bar [] = opened opener.Bar ∷ []
at_bar (c ∷ cs) = if is_of_bar c.opener then cs else opened opener.Bar ∷ c ∷ cs

-- the counters, the innermost one first, after a step
abbrev pub after : Step → List Counter → List Counter
after step.Open counters = opened opener.Other ∷ counters
after step.Close counters = drop 1 counters
after step.Add counters = added counters
after step.AddAndOpen counters = opened opener.Other ∷ added counters
after step.Reset counters = set_to_one counters
after step.Bar counters = at_bar counters
after step.Clear counters = []
after step.Keep counters = counters

-- the counters that are open after these tokens of a file, the innermost one first
unfoldable pub counters_after : List Token → List Counter
counters_after tokens = fold (λ counters (token : Token). after (step_of token.kind) counters) [] tokens

-- the sum of these counters
abbrev pub level_of : List Counter → ℕ
level_of counters = sum_by (λ (c : Counter). c.level) counters

-- the level after these tokens of a file
abbrev pub level_after : List Token → ℕ
level_after tokens = level_of (counters_after tokens)

-- a word that the profile refuses
abbrev pub is_refused : TokenKind → Bool
is_refused (token.Word w) = is_refused_word w
is_refused _ = false

abbrev pub IsTaken : Token → Type 0
IsTaken token = is_refused token.kind ≡ false

-- among the first tokens, so many of them, is no refused word, and after none of them the level passes 200
pub record AreTaken (tokens : List Token) (count : ℕ) : Type 0 where
  pub words : All IsTaken (take count tokens)
  pub levels : (k : ℕ) → k ≤ count → level_after (take k tokens) ≤ 200

-- the rule that a token breaks after others: it is a refused word (E08), or the level passes 200 there (E07)
abbrev pub Breaks : List Token → Token → Rule → Type 0
Breaks before token rule =
    ((rule ≡ WordNotTaken) × (is_refused token.kind ≡ true))
    ⊎ ((rule ≡ NestedTooDeep) × (200 < level_after (before ++ token ∷ [])))

-- the first token that breaks a rule
pub record IsFirstBreach (tokens : List Token) (refusal : Refusal) : Type 0 where
  pub place : ℕ
  pub token : Token
  pub occurs : slice_get tokens place ≡ Some token
  pub taken : AreTaken tokens place
  pub breaks : Breaks (take place tokens) token refusal.rule
  pub at : refusal.pos.at ≡ token.start

-- a refusal names the first token of the file that breaks a rule, and the rule
abbrev pub RefusesTokens : List Token → ℕ → Rejection → Type 0
RefusesTokens tokens file (Refused refusal) = IsFirstBreach tokens refusal × (refusal.pos.file ≡ file)
RefusesTokens tokens file (Failed why) = ⊤
