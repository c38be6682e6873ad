-- Expressions: a relation for each production of their grammar, with a case for each of its alternatives.
use Rattle.std.specs.Prelude.{◌≡◌, ℕ, true, false, List, [], ◌∷◌, ◌++◌, Option, Some, None}
use Rattle.sa_lexer.specs.declared.token.TokenKind.TheVariants as token
use Rattle.sa_lexer.specs.declared.sign.Sign.TheVariants as sign
use Rattle.sa_lexer.specs.declared.word.Word.TheVariants as word
use Rattle.sa_ast.specs.declared.ty.Ty.{Ty}
use Rattle.sa_ast.specs.declared.ty.Mode.{Mode}
use Rattle.sa_ast.specs.declared.ty.Mode.TheVariants.{In, Out, Inout}
use Rattle.sa_ast.specs.declared.expr.Operator.{Operator}
use Rattle.sa_ast.specs.declared.expr.Operator.TheVariants.{Plus, Minus, Times, Div, Pow, Mod, Lt, Leq, Gt, Geq, Eq, Neq, And, Or, Negate, Not}
use Rattle.sa_ast.specs.declared.expr.ExprReceiver.{ExprReceiver}
use Rattle.sa_ast.specs.declared.expr.ExprReceiver.TheVariants.{Implied, Of, OfClass}
use Rattle.sa_ast.specs.declared.expr.ExprArg.{ExprArg}
use Rattle.sa_ast.specs.declared.expr.ExprArg.TheVariants.{Value, Unbound}
use Rattle.sa_ast.specs.declared.expr.Expr.{Expr}
use Rattle.sa_ast.specs.declared.expr.Expr.TheVariants as tree
use Rattle.sa_parser_expr.specs.declared.grammar.Enclosure.{Enclosure}
use Rattle.sa_parser_expr.specs.declared.grammar.Enclosure.TheVariants as around
use Rattle.sa_parser_expr.specs.declared.grammar.Form.{Form}
use Rattle.sa_parser_expr.specs.declared.grammar.Form.TheVariants as form
use Rattle.sa_parser_expr.specs.declared.grammar.ConditionScope.{ConditionScope}
use Rattle.sa_parser_expr.specs.declared.grammar.ConditionScope.TheVariants.{Plain, PostClause}
use Rattle.sa_parser_expr.specs.declared.operators.Precedence.{Precedence}
use Rattle.sa_parser_expr.specs.declared.operators.Precedence.TheVariants.{Logical, Comparing, Adding, Multiplying}
use Rattle.sa_parser_expr.specs.Lexemes.{Lexeme, IsWord, IsSign, IsFeature}
use Rattle.sa_parser_expr.specs.Types.{IsType}

-- ---- the operators of each precedence

-- "and" | "or"
pub data IsLogical : Operator → Lexeme → Type 0 where
  and_word : {l : Lexeme} → IsWord word.And l → IsLogical And l
  or_word : {l : Lexeme} → IsWord word.Or l → IsLogical Or l

-- "=" | "/=" | "<" | "<=" | ">" | ">="
pub data IsComparing : Operator → Lexeme → Type 0 where
  equal : {l : Lexeme} → IsSign sign.Equal l → IsComparing Eq l
  not_equal : {l : Lexeme} → IsSign sign.NotEqual l → IsComparing Neq l
  less : {l : Lexeme} → IsSign sign.Less l → IsComparing Lt l
  less_equal : {l : Lexeme} → IsSign sign.LessEqual l → IsComparing Leq l
  greater : {l : Lexeme} → IsSign sign.Greater l → IsComparing Gt l
  greater_equal : {l : Lexeme} → IsSign sign.GreaterEqual l → IsComparing Geq l

-- "+" | "-"
pub data IsAdding : Operator → Lexeme → Type 0 where
  plus : {l : Lexeme} → IsSign sign.Plus l → IsAdding Plus l
  minus : {l : Lexeme} → IsSign sign.Minus l → IsAdding Minus l

-- "*" | "/" | "%"
pub data IsMultiplying : Operator → Lexeme → Type 0 where
  star : {l : Lexeme} → IsSign sign.Star l → IsMultiplying Times l
  slash : {l : Lexeme} → IsSign sign.Slash l → IsMultiplying Div l
  percent : {l : Lexeme} → IsSign sign.Percent l → IsMultiplying Mod l

-- the operators of a precedence
pub data IsOperator : Precedence → Operator → Lexeme → Type 0 where
  logical : {op : Operator} {l : Lexeme} → IsLogical op l → IsOperator Logical op l
  comparing : {op : Operator} {l : Lexeme} → IsComparing op l → IsOperator Comparing op l
  adding : {op : Operator} {l : Lexeme} → IsAdding op l → IsOperator Adding op l
  multiplying : {op : Operator} {l : Lexeme} → IsMultiplying op l → IsOperator Multiplying op l

-- "-" | "~" before an operand
pub data IsPrefix : Operator → Lexeme → Type 0 where
  negate : {l : Lexeme} → IsSign sign.Minus l → IsPrefix Negate l
  not_sign : {l : Lexeme} → IsSign sign.Tilde l → IsPrefix Not l

-- ---- parts without expressions

-- text {text}: the bytes of all
pub data IsTexts : List Lexeme → List ℕ → Type 0 where
  last_text : {l : Lexeme} {bytes : List ℕ} → l.kind ≡ token.Text bytes → IsTexts (l ∷ []) bytes
  more_texts : {l : Lexeme} {ls : List Lexeme} {bytes others : List ℕ} → l.kind ≡ token.Text bytes → IsTexts ls others
      → IsTexts (l ∷ ls) (bytes ++ others)

-- {text} after a first text: all bytes are these
abbrev pub ContinuesTexts : List ℕ → List Lexeme → List ℕ → Type 0
ContinuesTexts first ls bytes = (l : Lexeme) → l.kind ≡ token.Text first → IsTexts (l ∷ ls) bytes

-- optional_type = [type]
pub data IsOptionalType : List Lexeme → Option Ty → Type 0 where
  no_type : IsOptionalType [] None
  of_type : {ls : List Lexeme} {t : Ty} → IsType ls t → IsOptionalType ls (Some t)

-- ---- expressions. The scope says whether `result` and `initial` are allowed, and what is directly around them whether a `|`
-- begins an array literal

mutual
  -- expr = an operation of the weakest operators
  pub data IsExpr : ConditionScope → Enclosure → List Lexeme → Expr → Type 0 where
    logical_operation : {s : ConditionScope} {x : Enclosure} {ls : List Lexeme} {e : Expr} → IsOperation s Logical x ls e → IsExpr s x ls e

  -- operation = operand {operator operand}, left-associative
  pub data IsOperation : ConditionScope → Precedence → Enclosure → List Lexeme → Expr → Type 0 where
    operand : {s : ConditionScope} {p : Precedence} {x : Enclosure} {ls : List Lexeme} {e : Expr} → IsOperand s p x ls e → IsOperation s p x ls e
    operation : {s : ConditionScope} {p : Precedence} {x : Enclosure} {ls ms : List Lexeme} {o : Lexeme} {op : Operator} {a b : Expr}
        → IsOperation s p x ls a → IsOperator p op o → IsOperand s p x ms b
        → IsOperation s p x (ls ++ o ∷ ms) (tree.Binary op a b o.pos)

  -- an operand of operators of a precedence: an operation of the next stronger ones, or a unary
  pub data IsOperand : ConditionScope → Precedence → Enclosure → List Lexeme → Expr → Type 0 where
    of_logical : {s : ConditionScope} {x : Enclosure} {ls : List Lexeme} {e : Expr} → IsOperation s Comparing x ls e → IsOperand s Logical x ls e
    of_comparing : {s : ConditionScope} {x : Enclosure} {ls : List Lexeme} {e : Expr} → IsOperation s Adding x ls e → IsOperand s Comparing x ls e
    of_adding : {s : ConditionScope} {x : Enclosure} {ls : List Lexeme} {e : Expr} → IsOperation s Multiplying x ls e → IsOperand s Adding x ls e
    of_multiplying : {s : ConditionScope} {x : Enclosure} {ls : List Lexeme} {e : Expr} → IsUnary s x ls e → IsOperand s Multiplying x ls e

  -- unary = ("-" | "~") unary | power
  pub data IsUnary : ConditionScope → Enclosure → List Lexeme → Expr → Type 0 where
    prefix : {s : ConditionScope} {x : Enclosure} {ls : List Lexeme} {o : Lexeme} {op : Operator} {e : Expr} → IsPrefix op o → IsUnary s x ls e
        → IsUnary s x (o ∷ ls) (tree.Unary op e o.pos)
    power : {s : ConditionScope} {x : Enclosure} {ls : List Lexeme} {e : Expr} → IsPower s x ls e → IsUnary s x ls e

  -- power = post ["^" power]
  pub data IsPower : ConditionScope → Enclosure → List Lexeme → Expr → Type 0 where
    post : {s : ConditionScope} {x : Enclosure} {ls : List Lexeme} {e : Expr} → IsPost s x ls e → IsPower s x ls e
    raised : {s : ConditionScope} {x : Enclosure} {ls ms : List Lexeme} {o : Lexeme} {a b : Expr}
        → IsPost s x ls a → IsSign sign.Caret o → IsPower s x ms b
        → IsPower s x (ls ++ o ∷ ms) (tree.Binary Pow a b o.pos)

  -- post = first {"." F [args] | index}. An index has the position of the first token of the whole form
  pub data IsPost : ConditionScope → Enclosure → List Lexeme → Expr → Type 0 where
    first : {s : ConditionScope} {x : Enclosure} {ls : List Lexeme} {e : Expr} → IsFirst s x ls e → IsPost s x ls e
    call_on : {s : ConditionScope} {x : Enclosure} {ls ms : List Lexeme} {dot : Lexeme} {a e : Expr}
        → IsPost s x ls a → IsSign sign.Dot dot → IsCall s (Of a) ms e
        → IsPost s x (ls ++ dot ∷ ms) e
    index_of : {s : ConditionScope} {x : Enclosure} {l : Lexeme} {ls ms : List Lexeme} {a : Expr} {places : List Expr}
        → IsPost s x (l ∷ ls) a → IsIndex s ms places
        → IsPost s x ((l ∷ ls) ++ ms) (tree.Index (Some a) places l.pos)

  -- index = "[" expr {"," expr} "]"
  pub data IsIndex : ConditionScope → List Lexeme → List Expr → Type 0 where
    places : {s : ConditionScope} {opening closing : Lexeme} {ls : List Lexeme} {places : List Expr}
        → IsSign sign.LeftBracket opening → IsExprs s around.Open ls places → IsSign sign.RightBracket closing
        → IsIndex s (opening ∷ ls ++ closing ∷ []) places

  -- F [args]: the call has the position of its name
  pub data IsCall : ConditionScope → ExprReceiver → List Lexeme → Expr → Type 0 where
    named : {s : ConditionScope} {on : ExprReceiver} {f : Lexeme} {ls : List Lexeme} {given : List ExprArg} → IsFeature f → IsArgs s ls given
        → IsCall s on (f ∷ ls) (tree.Call on f.bytes given f.pos)

  -- [args], with args = "(" arg {"," arg} ")"
  pub data IsArgs : ConditionScope → List Lexeme → List ExprArg → Type 0 where
    no_args : {s : ConditionScope} → IsArgs s [] []
    args : {s : ConditionScope} {opening closing : Lexeme} {ls : List Lexeme} {given : List ExprArg}
        → IsSign sign.LeftParen opening → IsArgList s ls given → IsSign sign.RightParen closing
        → IsArgs s (opening ∷ ls ++ closing ∷ []) given

  -- arg {"," arg}
  pub data IsArgList : ConditionScope → List Lexeme → List ExprArg → Type 0 where
    last_arg : {s : ConditionScope} {ls : List Lexeme} {arg : ExprArg} → IsArg s ls arg → IsArgList s ls (arg ∷ [])
    more_args : {s : ConditionScope} {ls ms : List Lexeme} {comma : Lexeme} {arg : ExprArg} {given : List ExprArg}
        → IsArg s ls arg → IsSign sign.Comma comma → IsArgList s ms given
        → IsArgList s (ls ++ comma ∷ ms) (arg ∷ given)

  -- arg = ["out" | "inout"] expr | "_" [":" type]
  pub data IsArg : ConditionScope → List Lexeme → ExprArg → Type 0 where
    in_value : {s : ConditionScope} {ls : List Lexeme} {e : Expr} → IsExpr s around.Open ls e → IsArg s ls (Value In e)
    out_value : {s : ConditionScope} {w : Lexeme} {ls : List Lexeme} {e : Expr} → IsWord word.Out w → IsExpr s around.Open ls e
        → IsArg s (w ∷ ls) (Value Out e)
    inout_value : {s : ConditionScope} {w : Lexeme} {ls : List Lexeme} {e : Expr} → IsWord word.Inout w → IsExpr s around.Open ls e
        → IsArg s (w ∷ ls) (Value Inout e)
    left : {s : ConditionScope} {l : Lexeme} → IsSign sign.Underscore l → IsArg s (l ∷ []) (Unbound None l.pos)
    left_of_type : {s : ConditionScope} {l colon : Lexeme} {ls : List Lexeme} {t : Ty}
        → IsSign sign.Underscore l → IsSign sign.Colon colon → IsType ls t
        → IsArg s (l ∷ colon ∷ ls) (Unbound (Some t) l.pos)

  -- expr {"," expr}
  pub data IsExprs : ConditionScope → Enclosure → List Lexeme → List Expr → Type 0 where
    last_expr : {s : ConditionScope} {x : Enclosure} {ls : List Lexeme} {e : Expr} → IsExpr s x ls e → IsExprs s x ls (e ∷ [])
    more_exprs : {s : ConditionScope} {x : Enclosure} {ls ms : List Lexeme} {comma : Lexeme} {e : Expr} {es : List Expr}
        → IsExpr s x ls e → IsSign sign.Comma comma → IsExprs s x ms es
        → IsExprs s x (ls ++ comma ∷ ms) (e ∷ es)

  -- "(" expr ")"
  pub data IsParenthesised : ConditionScope → List Lexeme → Expr → Type 0 where
    in_parentheses : {s : ConditionScope} {opening closing : Lexeme} {ls : List Lexeme} {e : Expr}
        → IsSign sign.LeftParen opening → IsExpr s around.Open ls e → IsSign sign.RightParen closing
        → IsParenthesised s (opening ∷ ls ++ closing ∷ []) e

  -- first = number | char | text {text} | "true" | "false" | "self" | "exception" | "(" expr ")"
  --       | "void" ["(" expr ")"] | "new" ["(" expr ")"] | F [args] | type "::" F [args]
  --       | "#" [type] [args] | "|" exprs "|" | "bind" "(" post ")" | "[" exprs "]"
  --       | "result" | "initial" "(" expr ")", both in a `post` alone and not inside an `initial`
  pub data IsFirst : ConditionScope → Enclosure → List Lexeme → Expr → Type 0 where
    number : {s : ConditionScope} {x : Enclosure} {l : Lexeme} {value : ℕ} → l.kind ≡ token.Int value → IsFirst s x (l ∷ []) (tree.Int value l.pos)
    character : {s : ConditionScope} {x : Enclosure} {l : Lexeme} {byte : ℕ} → l.kind ≡ token.Char byte → IsFirst s x (l ∷ []) (tree.Char byte l.pos)
    texts : {s : ConditionScope} {x : Enclosure} {l : Lexeme} {ls : List Lexeme} {bytes : List ℕ} → IsTexts (l ∷ ls) bytes
        → IsFirst s x (l ∷ ls) (tree.Text bytes l.pos)
    true_word : {s : ConditionScope} {x : Enclosure} {w : Lexeme} → IsWord word.True w → IsFirst s x (w ∷ []) (tree.Bool true w.pos)
    false_word : {s : ConditionScope} {x : Enclosure} {w : Lexeme} → IsWord word.False w → IsFirst s x (w ∷ []) (tree.Bool false w.pos)
    self_word : {s : ConditionScope} {x : Enclosure} {w : Lexeme} → IsWord word.SelfWord w → IsFirst s x (w ∷ []) (tree.SelfRef w.pos)
    exception_word : {s : ConditionScope} {x : Enclosure} {w : Lexeme} → IsWord word.Exception w → IsFirst s x (w ∷ []) (tree.Exception w.pos)
    parenthesised : {s : ConditionScope} {x : Enclosure} {ls : List Lexeme} {e : Expr} → IsParenthesised s ls e → IsFirst s x ls e
    void_word : {s : ConditionScope} {x : Enclosure} {w : Lexeme} → IsWord word.Void w → IsFirst s x (w ∷ []) (tree.Void w.pos)
    void_of : {s : ConditionScope} {x : Enclosure} {w : Lexeme} {ls : List Lexeme} {e : Expr} → IsWord word.Void w → IsParenthesised s ls e
        → IsFirst s x (w ∷ ls) (tree.IsVoid e w.pos)
    new_word : {s : ConditionScope} {x : Enclosure} {w : Lexeme} → IsWord word.New w → IsFirst s x (w ∷ []) (tree.New None w.pos)
    new_of : {s : ConditionScope} {x : Enclosure} {w : Lexeme} {ls : List Lexeme} {e : Expr} → IsWord word.New w → IsParenthesised s ls e
        → IsFirst s x (w ∷ ls) (tree.New (Some e) w.pos)
    implied_call : {s : ConditionScope} {x : Enclosure} {ls : List Lexeme} {e : Expr} → IsCall s Implied ls e → IsFirst s x ls e
    class_call : {s : ConditionScope} {x : Enclosure} {ls ms : List Lexeme} {colons : Lexeme} {t : Ty} {e : Expr}
        → IsType ls t → IsSign sign.DoubleColon colons → IsCall s (OfClass t) ms e
        → IsFirst s x (ls ++ colons ∷ ms) e
    create : {s : ConditionScope} {x : Enclosure} {hash : Lexeme} {ls ms : List Lexeme} {of : Option Ty} {given : List ExprArg}
        → IsSign sign.Hash hash → IsOptionalType ls of → IsArgs s ms given
        → IsFirst s x (hash ∷ ls ++ ms) (tree.Create of given hash.pos)
    items : {s : ConditionScope} {opening closing : Lexeme} {ls : List Lexeme} {es : List Expr}
        → IsSign sign.Bar opening → IsExprs s around.Items ls es → IsSign sign.Bar closing
        → IsFirst s around.Open (opening ∷ ls ++ closing ∷ []) (tree.Items es opening.pos)
    bind : {s : ConditionScope} {x : Enclosure} {w opening closing : Lexeme} {ls : List Lexeme} {e : Expr}
        → IsWord word.Bind w → IsSign sign.LeftParen opening → IsPost s around.Open ls e → IsSign sign.RightParen closing
        → IsFirst s x (w ∷ opening ∷ ls ++ closing ∷ []) (tree.Bind e w.pos)
    index_on_self : {s : ConditionScope} {x : Enclosure} {l : Lexeme} {ls : List Lexeme} {places : List Expr} → IsIndex s (l ∷ ls) places
        → IsFirst s x (l ∷ ls) (tree.Index None places l.pos)
    result_word : {x : Enclosure} {w : Lexeme} → IsWord word.Result w → IsFirst PostClause x (w ∷ []) (tree.Call Implied w.bytes [] w.pos)
    initial_of : {x : Enclosure} {w : Lexeme} {ls : List Lexeme} {e : Expr} → IsWord word.Initial w → IsParenthesised Plain ls e
        → IsFirst PostClause x (w ∷ ls) (tree.Call Implied w.bytes (Value In e ∷ []) w.pos)

-- a form that nests in others
abbrev pub IsForm : ConditionScope → Form → List Lexeme → Expr → Type 0
IsForm s (form.Expr x) = IsExpr s x
IsForm s form.Post = IsPost s around.Open

-- what gives the value after it this mode, in an argument
abbrev pub GivesMode : List Lexeme → Mode → Type 0
GivesMode ls mode = (s : ConditionScope) (ms : List Lexeme) (e : Expr) → IsExpr s around.Open ms e → IsArg s (ls ++ ms) (Value mode e)
