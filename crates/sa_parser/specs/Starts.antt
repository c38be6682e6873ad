-- Which token begins a statement, a member of a class or a class. The end of the file begins nothing.
use Rattle.std.specs.Prelude.{Bool, true, false, not, ◌&&◌, ◌||◌, Option, Some, is_none}
use Rattle.sa_lexer.specs.declared.token.TokenKind.{TokenKind}
use Rattle.sa_lexer.specs.declared.token.TokenKind.TheVariants as token
use Rattle.sa_lexer.specs.declared.word.Word.{Word}
use Rattle.sa_lexer.specs.declared.word.Word.TheVariants as word
use Rattle.sa_ast.specs.declared.contract.Condition.{Condition}
use Rattle.sa_ast.specs.declared.class.ClassKind.{ClassKind}
use Rattle.sa_ast.specs.declared.class.ClassKind.TheVariants.{Partial}
use Rattle.sa_parser_expr.specs.Starts.{begins_expression}
use Rattle.sa_parser.specs.declared.file.FileKind.{FileKind}
use Rattle.sa_parser.specs.declared.file.FileKind.TheVariants.{Prelude}

-- a word that begins a statement and no expression
abbrev pub word_begins_statement : Word → Bool
word_begins_statement word.Assert = true
word_begins_statement word.Case = true
word_begins_statement word.If = true
word_begins_statement word.Loop = true
word_begins_statement word.Protect = true
word_begins_statement word.Quit = true
word_begins_statement word.Raise = true
word_begins_statement word.Return = true
word_begins_statement word.Typecase = true
word_begins_statement word.Yield = true
word_begins_statement _ = false

abbrev pub begins_statement : Option TokenKind → Bool
begins_statement (Some (token.Word w)) = word_begins_statement w || begins_expression (Some (token.Word w))
begins_statement other = begins_expression other

abbrev pub is_partial : ClassKind → Bool
is_partial Partial = true
is_partial _ = false

abbrev pub is_prelude : FileKind → Bool
is_prelude Prelude = true
is_prelude _ = false

-- stubs are allowed in partial classes alone, built-in features in the prelude alone, and an invariant in the program alone, where
-- the class has none yet
abbrev pub word_begins_member : ClassKind → FileKind → Option Condition → Word → Bool
word_begins_member kind file_kind invariant word.Attr = true
word_begins_member kind file_kind invariant word.Const = true
word_begins_member kind file_kind invariant word.Include = true
word_begins_member kind file_kind invariant word.Private = true
word_begins_member kind file_kind invariant word.Readonly = true
word_begins_member kind file_kind invariant word.Shared = true
word_begins_member kind file_kind invariant word.Invariant = not (is_prelude file_kind) && is_none invariant
word_begins_member kind file_kind invariant word.Stub = is_partial kind
word_begins_member kind file_kind invariant word.Builtin = is_prelude file_kind
word_begins_member kind file_kind invariant _ = false

abbrev pub begins_member : ClassKind → FileKind → Option Condition → Option TokenKind → Bool
begins_member kind file_kind invariant (Some (token.Word w)) = word_begins_member kind file_kind invariant w
begins_member kind file_kind invariant (Some token.Lower) = true
begins_member kind file_kind invariant (Some token.IterName) = true
begins_member kind file_kind invariant _ = false

abbrev pub word_begins_class : Word → Bool
word_begins_class word.Abstract = true
word_begins_class word.Class = true
word_begins_class word.Immutable = true
word_begins_class word.Partial = true
word_begins_class _ = false

abbrev pub begins_class : Option TokenKind → Bool
begins_class (Some (token.Word w)) = word_begins_class w
begins_class _ = false
