-- The words of the language.
use Rattle.std.specs.Prelude.{ℕ, Bool, true, false, List, [], ◌∷◌, Option, codes}
use Rattle.std.specs.List.{find}
use Rattle.std.specs.Str.{bytes_eq}
use Rattle.sa_lexer.specs.declared.word.Word.{Word}
use Rattle.sa_lexer.specs.declared.word.Word.TheVariants as word

-- how a word is spelled
abbrev pub word_text : Word → List ℕ
word_text word.Abstract = codes "abstract"
word_text word.And = codes "and"
word_text word.Assert = codes "assert"
word_text word.Attr = codes "attr"
word_text word.Bind = codes "bind"
word_text word.Builtin = codes "builtin"
word_text word.Case = codes "case"
word_text word.Class = codes "class"
word_text word.Const = codes "const"
word_text word.Else = codes "else"
word_text word.Elsif = codes "elsif"
word_text word.End = codes "end"
word_text word.Exception = codes "exception"
word_text word.False = codes "false"
word_text word.If = codes "if"
word_text word.Immutable = codes "immutable"
word_text word.In = codes "in"
word_text word.Include = codes "include"
word_text word.Inout = codes "inout"
word_text word.Is = codes "is"
word_text word.Loop = codes "loop"
word_text word.New = codes "new"
word_text word.Once = codes "once"
word_text word.Or = codes "or"
word_text word.Out = codes "out"
word_text word.Partial = codes "partial"
word_text word.Private = codes "private"
word_text word.Protect = codes "protect"
word_text word.Quit = codes "quit"
word_text word.Raise = codes "raise"
word_text word.Readonly = codes "readonly"
word_text word.Return = codes "return"
word_text word.SelfWord = codes "self"
word_text word.Shared = codes "shared"
word_text word.Stub = codes "stub"
word_text word.Then = codes "then"
word_text word.True = codes "true"
word_text word.Typecase = codes "typecase"
word_text word.Void = codes "void"
word_text word.When = codes "when"
word_text word.Yield = codes "yield"
word_text word.Iter = codes "ITER"
word_text word.Rout = codes "ROUT"
word_text word.Same = codes "SAME"
word_text word.Pre = codes "pre"
word_text word.Post = codes "post"
word_text word.Initial = codes "initial"
word_text word.Result = codes "result"
word_text word.Invariant = codes "invariant"
word_text word.External = codes "external"
word_text word.Spread = codes "spread"
word_text word.Fork = codes "fork"
word_text word.Par = codes "par"
word_text word.Parloop = codes "parloop"
word_text word.Lock = codes "lock"
word_text word.Unlock = codes "unlock"
word_text word.Guard = codes "guard"
word_text word.Cohort = codes "cohort"
word_text word.Sync = codes "sync"
word_text word.Near = codes "near"
word_text word.Far = codes "far"

-- the words that the profile refuses
abbrev pub is_refused_word : Word → Bool
is_refused_word word.External = true
is_refused_word word.Spread = true
is_refused_word word.Fork = true
is_refused_word word.Par = true
is_refused_word word.Parloop = true
is_refused_word word.Lock = true
is_refused_word word.Unlock = true
is_refused_word word.Guard = true
is_refused_word word.Cohort = true
is_refused_word word.Sync = true
is_refused_word word.Near = true
is_refused_word word.Far = true
is_refused_word _ = false

-- all words
abbrev pub words : List Word
words =
    word.Abstract ∷ word.And ∷ word.Assert ∷ word.Attr ∷ word.Bind ∷ word.Builtin ∷ word.Case ∷ word.Class
    ∷ word.Const ∷ word.Else ∷ word.Elsif ∷ word.End ∷ word.Exception ∷ word.False ∷ word.If ∷ word.Immutable
    ∷ word.In ∷ word.Include ∷ word.Inout ∷ word.Is ∷ word.Loop ∷ word.New ∷ word.Once ∷ word.Or ∷ word.Out
    ∷ word.Partial ∷ word.Private ∷ word.Protect ∷ word.Quit ∷ word.Raise ∷ word.Readonly ∷ word.Return
    ∷ word.SelfWord ∷ word.Shared ∷ word.Stub ∷ word.Then ∷ word.True ∷ word.Typecase ∷ word.Void ∷ word.When
    ∷ word.Yield ∷ word.Iter ∷ word.Rout ∷ word.Same ∷ word.Pre ∷ word.Post ∷ word.Initial ∷ word.Result
    ∷ word.Invariant ∷ word.External ∷ word.Spread ∷ word.Fork ∷ word.Par ∷ word.Parloop ∷ word.Lock
    ∷ word.Unlock ∷ word.Guard ∷ word.Cohort ∷ word.Sync ∷ word.Near ∷ word.Far ∷ []

-- the word of this spelling, if there is one
abbrev pub word_spelled : List ℕ → Option Word
word_spelled name = find (λ (w : Word). bytes_eq name (word_text w)) words
