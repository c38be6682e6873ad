-- Expressions, as they are read: a lemma for each case of their productions.
use Rattle.std.proofs.Common.{◌≡◌, ℕ, ◌+◌, ◌<◌, ◌≤◌, ◌⊎◌, List, [], ◌∷◌, ◌++◌, Option, Some, None, Result, Ok, Err, IfOk, refl, subst, append_assoc, inl, inr, arith}
use Rattle.sa_lexer.specs.declared.token.TokenKind.{TokenKind}
use Rattle.sa_lexer.specs.declared.token.TokenKind.TheVariants as token
use Rattle.sa_lexer.specs.declared.sign.Sign.TheVariants as sign
use Rattle.sa_lexer.specs.declared.word.Word.{Word}
use Rattle.sa_lexer.specs.declared.word.Word.TheVariants as word
use Rattle.sa_ast.specs.declared.pos.Pos.{Pos}
use Rattle.sa_ast.specs.declared.refusal.Rejection.{Rejection}
use Rattle.sa_ast.specs.declared.ty.Ty.{Ty}
use Rattle.sa_ast.specs.declared.ty.Mode.{Mode}
use Rattle.sa_ast.specs.declared.ty.Mode.TheVariants.{In, Out, Inout}
use Rattle.sa_ast.specs.declared.expr.Operator.{Operator}
use Rattle.sa_ast.specs.declared.expr.Operator.TheVariants.{Pow}
use Rattle.sa_ast.specs.declared.expr.ExprReceiver.{ExprReceiver}
use Rattle.sa_ast.specs.declared.expr.ExprReceiver.TheVariants.{Implied, Of, OfClass}
use Rattle.sa_ast.specs.declared.expr.ExprArg.{ExprArg}
use Rattle.sa_ast.specs.declared.expr.ExprArg.TheVariants.{Value, Unbound}
use Rattle.sa_ast.specs.declared.expr.Expr.{Expr}
use Rattle.sa_ast.specs.declared.expr.Expr.TheVariants as tree
use Rattle.sa_parser_expr.specs.declared.tokens.Tokens.{Tokens}
use Rattle.sa_parser_expr.specs.declared.grammar.Enclosure.{Enclosure}
use Rattle.sa_parser_expr.specs.declared.grammar.Enclosure.TheVariants as around
use Rattle.sa_parser_expr.specs.declared.grammar.ConditionScope.{ConditionScope}
use Rattle.sa_parser_expr.specs.declared.grammar.ConditionScope.TheVariants.{Plain, PostClause}
use Rattle.sa_parser_expr.specs.declared.operators.Precedence.{Precedence}
use Rattle.sa_parser_expr.specs.Lexemes.{Lexeme, IsSign, IsFeature, lower_name, iter_name, IsLexemeAt, lexeme_at, between}
use Rattle.sa_parser_expr.specs.Positions.{IsAfter, kind_at, bytes_at}
use Rattle.sa_parser_expr.specs.Types.{IsType}
use Rattle.sa_parser_expr.specs.Expressions as exprs
use Rattle.sa_parser_expr.specs.Expressions.{GivesMode, IsOperator, IsPrefix, IsTexts, ContinuesTexts, IsOptionalType, IsExpr, IsOperation, IsOperand, IsUnary, IsPower, IsPost, IsIndex, IsCall, IsArgs, IsArgList, IsArg, IsExprs, IsParenthesised, IsFirst}
use Rattle.sa_parser_expr.proofs.Stretches.{pos_at, none, join, front, alone, front_join, parted, ended, enclosed}

-- one more argument, expression and text, after those before
IsArgList-more : {s : ConditionScope} {ls ms : List Lexeme} {comma : Lexeme} {args : List ExprArg} {arg : ExprArg} → IsArgList s ls args → IsSign sign.Comma comma → IsArg s ms arg → IsArgList s (ls ++ comma ∷ ms) (args ++ arg ∷ [])
IsArgList-more (exprs.last_arg first) comma more = exprs.more_args first comma (exprs.last_arg more)
IsArgList-more {s = s} {ms = ms} {comma = c} {arg = arg} (exprs.more_args {ls = before} {ms = following} {comma = d} first parting rest) comma more =
    rw (append_assoc before (d ∷ following) (c ∷ ms)) (exprs.more_args first parting (IsArgList-more rest comma more))

IsExprs-more : {s : ConditionScope} {x : Enclosure} {ls ms : List Lexeme} {comma : Lexeme} {es : List Expr} {e : Expr} → IsExprs s x ls es → IsSign sign.Comma comma → IsExpr s x ms e → IsExprs s x (ls ++ comma ∷ ms) (es ++ e ∷ [])
IsExprs-more (exprs.last_expr first) comma more = exprs.more_exprs first comma (exprs.last_expr more)
IsExprs-more {s = s} {ms = ms} {comma = c} {e = e} (exprs.more_exprs {ls = before} {ms = following} {comma = d} first parting rest) comma more =
    rw (append_assoc before (d ∷ following) (c ∷ ms)) (exprs.more_exprs first parting (IsExprs-more rest comma more))

IsTexts-more : {ls : List Lexeme} {bytes others : List ℕ} (l : Lexeme) → IsTexts ls bytes → l.kind ≡ token.Text others → IsTexts (ls ++ l ∷ []) (bytes ++ others)
IsTexts-more l (exprs.last_text is) more = exprs.more_texts is (exprs.last_text more)
IsTexts-more {others = others} l (exprs.more_texts {bytes = before} {others = rest} is following) more =
    rw (append_assoc before rest others) (exprs.more_texts is (IsTexts-more l following more))

-- what is there is of another kind too
pub occurs_as : {P Q : Lexeme → Type 0} {t : Tokens} {at : ℕ} → IsLexemeAt P t at → ((l : Lexeme) → P l → Q l) → IsLexemeAt Q t at
occurs_as s further = record { kind = s.kind; there = s.there; is = further _ s.is }

module _ (t : Tokens) where
  -- ---- operators

  pub operation : (s : ConditionScope) (p : Precedence) (x : Enclosure) (from mid next : ℕ) (op : Operator) (a b e : Expr)
      → IsOperation s p x (between t from mid) a → IsLexemeAt (IsOperator p op) t mid → IsOperand s p x (between t (mid + 1) next) b
      → from ≤ mid → mid < next → e ≡ tree.Binary op a b (pos_at t mid) → IsOperation s p x (between t from next) e
  operation s p x from mid next op a b e first o second before following made =
      rw (parted t from mid next o.kind o.there before following, made) (exprs.operation first o.is second)

  pub prefix : (s : ConditionScope) (x : Enclosure) (from next : ℕ) (op : Operator) (e boxed : Expr) (pos : Pos)
      → IsLexemeAt (IsPrefix op) t from → IsUnary s x (between t (from + 1) next) e → from < next → boxed ≡ e → pos ≡ pos_at t from
      → IsUnary s x (between t from next) (tree.Unary op boxed pos)
  prefix s x from next op e boxed pos o inside before same occurs =
      rw (front t from next o.kind o.there before, same, occurs) (exprs.prefix o.is inside)

  pub raised : (s : ConditionScope) (x : Enclosure) (from mid next : ℕ) (a b e : Expr)
      → IsPost s x (between t from mid) a → kind_at t.list.now mid ≡ Some (token.Sign sign.Caret) → IsPower s x (between t (mid + 1) next) b
      → from ≤ mid → mid < next → e ≡ tree.Binary Pow a b (pos_at t mid) → IsPower s x (between t from next) e
  raised s x from mid next a b e base caret second before following made =
      rw (parted t from mid next (token.Sign sign.Caret) caret before following, made) (exprs.raised base (record { kind = refl }) second)

  -- ---- what follows a first

  pub call_on : (s : ConditionScope) (x : Enclosure) (from mid next : ℕ) (a boxed e : Expr)
      → IsPost s x (between t from mid) a → kind_at t.list.now mid ≡ Some (token.Sign sign.Dot) → IsCall s (Of boxed) (between t (mid + 1) next) e
      → from ≤ mid → mid < next → boxed ≡ a → IsPost s x (between t from next) e
  call_on s x from mid next a boxed e base dot second before following same =
      rw (parted t from mid next (token.Sign sign.Dot) dot before following)
      (exprs.call_on base (record { kind = refl }) (subst (λ (on : Expr). IsCall s (Of on) (between t (mid + 1) next) e) same second))

  pub index_of : (s : ConditionScope) (x : Enclosure) (from mid next : ℕ) (kind : TokenKind) (a boxed : Expr) (places : List Expr) (pos : Pos)
      → kind_at t.list.now from ≡ Some kind → IsPost s x (between t from mid) a → IsIndex s (between t mid next) places
      → from < mid → mid ≤ next → boxed ≡ a → pos ≡ pos_at t from → IsPost s x (between t from next) (tree.Index (Some boxed) places pos)
  index_of s x from mid next kind a boxed places pos there base second before following same occurs =
      rw (front_join t from mid next kind there before following, same, occurs)
      (exprs.index_of (subst (λ (ls : List Lexeme). IsPost s x ls a) (front t from mid kind there before) base) second)

  pub places : (s : ConditionScope) (from mid next : ℕ) (es : List Expr)
      → kind_at t.list.now from ≡ Some (token.Sign sign.LeftBracket) → kind_at t.list.now mid ≡ Some (token.Sign sign.RightBracket)
      → IsExprs s around.Open (between t (from + 1) mid) es → from < mid → next ≡ mid + 1 → IsIndex s (between t from next) es
  places s from mid next es opens closes inside before ends =
      rw (ends, enclosed t from mid (token.Sign sign.LeftBracket) (token.Sign sign.RightBracket) opens closes before)
      (exprs.places (record { kind = refl }) inside (record { kind = refl }))

  pub call : (s : ConditionScope) (on : ExprReceiver) (from next : ℕ) (name : List ℕ) (given : List ExprArg) (pos : Pos)
      → IsLexemeAt IsFeature t from → IsArgs s (between t (from + 1) next) given
      → from < next → name ≡ bytes_at t.src.now t.list.now from → pos ≡ pos_at t from
      → IsCall s on (between t from next) (tree.Call on name given pos)
  call s on from next name given pos f inside before called occurs =
      rw (front t from next f.kind f.there before, called, occurs) (exprs.named f.is inside)

  pub feature_stands : (place : ℕ) → (kind_at t.list.now place ≡ Some token.Lower) ⊎ (kind_at t.list.now place ≡ Some token.IterName) → IsLexemeAt IsFeature t place
  feature_stands place (inl there) = record { kind = token.Lower; there = there; is = lower_name refl }
  feature_stands place (inr there) = record { kind = token.IterName; there = there; is = iter_name refl }

  pub no_args : (s : ConditionScope) (place : ℕ) (given : List ExprArg) → given ≡ [] → IsArgs s (between t place place) given
  no_args s place given empty = rw (none t place, empty) exprs.no_args

  pub args : (s : ConditionScope) (from mid next : ℕ) (given : List ExprArg)
      → kind_at t.list.now from ≡ Some (token.Sign sign.LeftParen) → kind_at t.list.now mid ≡ Some (token.Sign sign.RightParen)
      → IsArgList s (between t (from + 1) mid) given → from < mid → next ≡ mid + 1 → IsArgs s (between t from next) given
  args s from mid next given opens closes inside before ends =
      rw (ends, enclosed t from mid (token.Sign sign.LeftParen) (token.Sign sign.RightParen) opens closes before)
      (exprs.args (record { kind = refl }) inside (record { kind = refl }))

  pub more_args : (s : ConditionScope) (from mid next : ℕ) (given all : List ExprArg) (arg : ExprArg)
      → kind_at t.list.now mid ≡ Some (token.Sign sign.Comma) → IsArgList s (between t from mid) given → IsArg s (between t (mid + 1) next) arg
      → from ≤ mid → mid < next → all ≡ given ++ arg ∷ [] → IsArgList s (between t from next) all
  more_args s from mid next given all arg comma first second before following pushed =
      rw (parted t from mid next (token.Sign sign.Comma) comma before following, pushed) (IsArgList-more first (record { kind = refl }) second)

  pub more_exprs : (s : ConditionScope) (x : Enclosure) (from mid next : ℕ) (es all : List Expr) (e : Expr)
      → kind_at t.list.now mid ≡ Some (token.Sign sign.Comma) → IsExprs s x (between t from mid) es → IsExpr s x (between t (mid + 1) next) e
      → from ≤ mid → mid < next → all ≡ es ++ e ∷ [] → IsExprs s x (between t from next) all
  more_exprs s x from mid next es all e comma first second before following pushed =
      rw (parted t from mid next (token.Sign sign.Comma) comma before following, pushed) (IsExprs-more first (record { kind = refl }) second)

  -- and the same lists where they are passed on
  pub all_args : (s : ConditionScope) (from next : ℕ) (given all : List ExprArg) → IsArgList s (between t from next) given → all ≡ given → IsArgList s (between t from next) all
  all_args s from next given all is same = rw same is

  pub all_exprs : (s : ConditionScope) (x : Enclosure) (from next : ℕ) (es all : List Expr) → IsExprs s x (between t from next) es → all ≡ es → IsExprs s x (between t from next) all
  all_exprs s x from next es all is same = rw same is

  pub in_mode : (place : ℕ) → GivesMode (between t place place) In
  in_mode place s ms e value = rw (none t place) (exprs.in_value value)

  pub out_mode : (place : ℕ) → kind_at t.list.now place ≡ Some (token.Word word.Out) → GivesMode (between t place (place + 1)) Out
  out_mode place there s ms e value = rw (alone t place (token.Word word.Out) there) (exprs.out_value (record { kind = refl }) value)

  pub inout_mode : (place : ℕ) → kind_at t.list.now place ≡ Some (token.Word word.Inout) → GivesMode (between t place (place + 1)) Inout
  inout_mode place there s ms e value = rw (alone t place (token.Word word.Inout) there) (exprs.inout_value (record { kind = refl }) value)

  pub valued : (s : ConditionScope) (from mid next : ℕ) (mode : Mode) (e : Expr)
      → GivesMode (between t from mid) mode → IsExpr s around.Open (between t mid next) e → from ≤ mid → mid ≤ next
      → IsArg s (between t from next) (Value mode e)
  valued s from mid next mode e gives value before following = rw (join t from mid next before following) (gives s (between t mid next) e value)

  pub left : (s : ConditionScope) (from : ℕ) (pos : Pos) → kind_at t.list.now from ≡ Some (token.Sign sign.Underscore) → pos ≡ pos_at t from
      → IsArg s (between t from (from + 1)) (Unbound None pos)
  left s from pos there occurs = rw (alone t from (token.Sign sign.Underscore) there, occurs) (exprs.left (record { kind = refl }))

  pub left_of_type : (s : ConditionScope) (from next : ℕ) (one : Ty) (pos : Pos)
      → kind_at t.list.now from ≡ Some (token.Sign sign.Underscore) → kind_at t.list.now (from + 1) ≡ Some (token.Sign sign.Colon)
      → IsType (between t (from + 2) next) one → from + 1 < next → pos ≡ pos_at t from
      → IsArg s (between t from next) (Unbound (Some one) pos)
  left_of_type s from next one pos there colon inside before occurs =
      let two : from + 1 + 1 ≡ from + 2 = omega arith in
      rw (front t from next (token.Sign sign.Underscore) there (omega arith), front t (from + 1) next (token.Sign sign.Colon) colon before, two, occurs)
      (exprs.left_of_type (record { kind = refl }) (record { kind = refl }) inside)

  -- ---- firsts

  pub in_parentheses : (s : ConditionScope) (from mid next : ℕ) (e : Expr)
      → kind_at t.list.now from ≡ Some (token.Sign sign.LeftParen) → kind_at t.list.now mid ≡ Some (token.Sign sign.RightParen)
      → IsExpr s around.Open (between t (from + 1) mid) e → from < mid → next ≡ mid + 1 → IsParenthesised s (between t from next) e
  in_parentheses s from mid next e opens closes inside before ends =
      rw (ends, enclosed t from mid (token.Sign sign.LeftParen) (token.Sign sign.RightParen) opens closes before)
      (exprs.in_parentheses (record { kind = refl }) inside (record { kind = refl }))

  pub number : (s : ConditionScope) (x : Enclosure) (from value : ℕ) (pos : Pos) → kind_at t.list.now from ≡ Some (token.Int value) → pos ≡ pos_at t from
      → IsFirst s x (between t from (from + 1)) (tree.Int value pos)
  number s x from value pos there occurs = rw (alone t from (token.Int value) there, occurs) (exprs.number refl)

  pub character : (s : ConditionScope) (x : Enclosure) (from byte : ℕ) (pos : Pos) → kind_at t.list.now from ≡ Some (token.Char byte) → pos ≡ pos_at t from
      → IsFirst s x (between t from (from + 1)) (tree.Char byte pos)
  character s x from byte pos there occurs = rw (alone t from (token.Char byte) there, occurs) (exprs.character refl)

  pub texts : (s : ConditionScope) (x : Enclosure) (from next : ℕ) (first bytes : List ℕ) (pos : Pos)
      → ContinuesTexts first (between t (from + 1) next) bytes → kind_at t.list.now from ≡ Some (token.Text first)
      → from < next → pos ≡ pos_at t from → IsFirst s x (between t from next) (tree.Text bytes pos)
  texts s x from next first bytes pos following there before occurs =
      rw (front t from next (token.Text first) there before, occurs) (exprs.texts (following (lexeme_at t from (token.Text first)) refl))

  pub one_text : (first : List ℕ) (place : ℕ) → ContinuesTexts first (between t place place) first
  one_text first place l is = rw (none t place) (exprs.last_text is)

  pub more_text : (first bytes more all : List ℕ) (from mid : ℕ) → kind_at t.list.now mid ≡ Some (token.Text more) → from ≤ mid
      → ContinuesTexts first (between t from mid) bytes → all ≡ bytes ++ more → ContinuesTexts first (between t from (mid + 1)) all
  more_text first bytes more all from mid there before following extended l is =
      rw (ended t from mid (token.Text more) there before, extended) (IsTexts-more (lexeme_at t mid (token.Text more)) (following l is) refl)

  pub all_texts : (first bytes all : List ℕ) (from next : ℕ) → ContinuesTexts first (between t from next) bytes → all ≡ bytes → ContinuesTexts first (between t from next) all
  all_texts first bytes all from next is same l begins = rw same (is l begins)

  -- a form that is a word alone
  pub word_alone : (s : ConditionScope) (x : Enclosure) (from : ℕ) (w : Word) (form : Pos → Expr) (pos : Pos)
      → kind_at t.list.now from ≡ Some (token.Word w) → pos ≡ pos_at t from
      → IsFirst s x (lexeme_at t from (token.Word w) ∷ []) (form (pos_at t from)) → IsFirst s x (between t from (from + 1)) (form pos)
  word_alone s x from w form pos there occurs is = rw (alone t from (token.Word w) there, occurs) is

  pub void_of : (s : ConditionScope) (x : Enclosure) (from next : ℕ) (e boxed : Expr) (pos : Pos)
      → kind_at t.list.now from ≡ Some (token.Word word.Void) → IsParenthesised s (between t (from + 1) next) e
      → from < next → boxed ≡ e → pos ≡ pos_at t from → IsFirst s x (between t from next) (tree.IsVoid boxed pos)
  void_of s x from next e boxed pos there inside before same occurs =
      rw (front t from next (token.Word word.Void) there before, same, occurs) (exprs.void_of (record { kind = refl }) inside)

  pub new_of : (s : ConditionScope) (x : Enclosure) (from next : ℕ) (e boxed : Expr) (pos : Pos)
      → kind_at t.list.now from ≡ Some (token.Word word.New) → IsParenthesised s (between t (from + 1) next) e
      → from < next → boxed ≡ e → pos ≡ pos_at t from → IsFirst s x (between t from next) (tree.New (Some boxed) pos)
  new_of s x from next e boxed pos there inside before same occurs =
      rw (front t from next (token.Word word.New) there before, same, occurs) (exprs.new_of (record { kind = refl }) inside)

  class_call : (s : ConditionScope) (x : Enclosure) (from mid next : ℕ) (of : Ty) (e : Expr)
      → IsType (between t from mid) of → kind_at t.list.now mid ≡ Some (token.Sign sign.DoubleColon) → IsCall s (OfClass of) (between t (mid + 1) next) e
      → from ≤ mid → mid < next → IsFirst s x (between t from next) e
  class_call s x from mid next of e class colons call before following =
      rw (parted t from mid next (token.Sign sign.DoubleColon) colons before following) (exprs.class_call class (record { kind = refl }) call)

  -- where it is read after the `::`
  pub class_called : (s : ConditionScope) (x : Enclosure) (from mid following : ℕ) (of : Ty) (r : Result (Expr × ℕ) Rejection)
      → IsType (between t from mid) of → kind_at t.list.now mid ≡ Some (token.Sign sign.DoubleColon) → from ≤ mid → following ≡ mid + 1
      → IfOk r (λ read. IsAfter t.list.now following read.1) → IfOk r (λ read. IsCall s (OfClass of) (between t following read.1) read.0)
      → IfOk r (λ read. IsFirst s x (between t from read.1) read.0)
  class_called s x from mid following of (Ok read) class colons before next within call =
      class_call s x from mid read.1 of read.0 class colons (rw next at call) before (omega (arith, within.0))
  class_called s x from mid following of (Err fault) class colons before next within call = call

  pub no_type : (place : ℕ) → IsOptionalType (between t place place) None
  no_type place = rw (none t place) exprs.no_type

  pub create : (s : ConditionScope) (x : Enclosure) (from mid next : ℕ) (of : Option Ty) (given : List ExprArg) (pos : Pos)
      → kind_at t.list.now from ≡ Some (token.Sign sign.Hash) → IsOptionalType (between t (from + 1) mid) of → IsArgs s (between t mid next) given
      → from < mid → mid ≤ next → pos ≡ pos_at t from → IsFirst s x (between t from next) (tree.Create of given pos)
  create s x from mid next of given pos hash first second before following occurs =
      rw (front_join t from mid next (token.Sign sign.Hash) hash before following, occurs) (exprs.create (record { kind = refl }) first second)

  pub items : (s : ConditionScope) (from mid next : ℕ) (es : List Expr) (pos : Pos)
      → kind_at t.list.now from ≡ Some (token.Sign sign.Bar) → kind_at t.list.now mid ≡ Some (token.Sign sign.Bar)
      → IsExprs s around.Items (between t (from + 1) mid) es → from < mid → next ≡ mid + 1 → pos ≡ pos_at t from
      → IsFirst s around.Open (between t from next) (tree.Items es pos)
  items s from mid next es pos opens closes inside before ends occurs =
      rw (ends, enclosed t from mid (token.Sign sign.Bar) (token.Sign sign.Bar) opens closes before, occurs)
      (exprs.items (record { kind = refl }) inside (record { kind = refl }))

  pub bind : (s : ConditionScope) (x : Enclosure) (from mid next : ℕ) (e boxed : Expr) (pos : Pos)
      → kind_at t.list.now from ≡ Some (token.Word word.Bind) → kind_at t.list.now (from + 1) ≡ Some (token.Sign sign.LeftParen)
      → kind_at t.list.now mid ≡ Some (token.Sign sign.RightParen)
      → IsPost s around.Open (between t (from + 1 + 1) mid) e → from + 1 < mid → next ≡ mid + 1 → boxed ≡ e → pos ≡ pos_at t from
      → IsFirst s x (between t from next) (tree.Bind boxed pos)
  bind s x from mid next e boxed pos there opens closes inside before ends same occurs =
      rw (ends, front t from (mid + 1) (token.Word word.Bind) there (omega arith), enclosed t (from + 1) mid (token.Sign sign.LeftParen) (token.Sign sign.RightParen) opens closes before, same, occurs)
      (exprs.bind (record { kind = refl }) (record { kind = refl }) inside (record { kind = refl }))

  pub index_on_self : (s : ConditionScope) (x : Enclosure) (from next : ℕ) (places : List Expr) (pos : Pos) → kind_at t.list.now from ≡ Some (token.Sign sign.LeftBracket)
      → IsIndex s (between t from next) places → from < next → pos ≡ pos_at t from → IsFirst s x (between t from next) (tree.Index None places pos)
  index_on_self s x from next places pos there inside before occurs =
      let parts = front t from next (token.Sign sign.LeftBracket) there before in
      rw (parts, occurs) (exprs.index_on_self (subst (λ (ls : List Lexeme). IsIndex s ls places) parts inside))

  pub result_word : (s : ConditionScope) (x : Enclosure) (from : ℕ) (name : List ℕ) (given : List ExprArg) (pos : Pos)
      → s ≡ PostClause → kind_at t.list.now from ≡ Some (token.Word word.Result)
      → name ≡ bytes_at t.src.now t.list.now from → given ≡ [] → pos ≡ pos_at t from
      → IsFirst s x (between t from (from + 1)) (tree.Call Implied name given pos)
  result_word s x from name given pos scope there called empty occurs =
      rw (scope, alone t from (token.Word word.Result) there, called, empty, occurs) (exprs.result_word (record { kind = refl }))

  pub initial_of : (s : ConditionScope) (x : Enclosure) (from next : ℕ) (e : Expr) (name : List ℕ) (given : List ExprArg) (pos : Pos)
      → s ≡ PostClause → kind_at t.list.now from ≡ Some (token.Word word.Initial) → IsParenthesised Plain (between t (from + 1) next) e
      → from < next → given ≡ Value In e ∷ [] → name ≡ bytes_at t.src.now t.list.now from → pos ≡ pos_at t from
      → IsFirst s x (between t from next) (tree.Call Implied name given pos)
  initial_of s x from next e name given pos scope there inside before gives called occurs =
      rw (scope, front t from next (token.Word word.Initial) there before, gives, called, occurs) (exprs.initial_of (record { kind = refl }) inside)
