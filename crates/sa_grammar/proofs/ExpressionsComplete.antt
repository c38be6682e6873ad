-- The forms of expressions are complete.
use Rattle.std.proofs.Common.{◌≡◌, ℕ, zero, suc, ◌+◌, ◌<◌, true, false, List, [], ◌∷◌, ◌++◌, length, refl, ap, ◌∙◌, append_assoc, arith, length-append, Option, Some, None}
use Rattle.sa_lexer.specs.declared.token.TokenKind.TheVariants as token
use Rattle.sa_lexer.specs.declared.sign.Sign.TheVariants as sign
use Rattle.sa_lexer.specs.declared.word.Word.TheVariants as word
use Rattle.sa_ast.specs.declared.ty.Ty.{Ty}
use Rattle.sa_ast.specs.declared.ty.Mode.TheVariants.{In}
use Rattle.sa_ast.specs.declared.expr.ExprReceiver.{ExprReceiver}
use Rattle.sa_ast.specs.declared.expr.ExprReceiver.TheVariants.{Implied, OfClass}
use Rattle.sa_ast.specs.declared.expr.ExprArg.{ExprArg}
use Rattle.sa_ast.specs.declared.expr.ExprArg.TheVariants.{Value}
use Rattle.sa_ast.specs.declared.expr.Expr.{Expr}
use Rattle.sa_ast.specs.declared.expr.Expr.TheVariants as tree
use Rattle.sa_parser_expr.specs.declared.grammar.ConditionScope.{ConditionScope}
use Rattle.sa_parser_expr.specs.declared.grammar.ConditionScope.TheVariants.{Plain, PostClause}
use Rattle.sa_parser_expr.specs.Lexemes.{Lexeme, IsSign, IsWord, class_name, abstract_name, lower_name, iter_name}
use Rattle.sa_parser_expr.specs.Types as types
use Rattle.sa_parser_expr.specs.Types.{IsType}
use Rattle.sa_parser_expr.specs.Expressions as exprs
use Rattle.sa_parser_expr.specs.Expressions.{IsTexts, IsOptionalType, IsArg, IsArgs, IsCall, IsExpr, IsExprs, IsIndex, IsParenthesised, IsFirst, IsPost}
use Rattle.sa_parser_expr.specs.Enclosures.{Enclosure, Where, outside, in_array, enclosure_of}
use Rattle.sa_parser_expr.specs.Readings.{Read}
use Rattle.sa_parser_expr.specs.Tests.{is_sign, is_word, is_sign_kind, is_text, text_of, is_text_kind}
use Rattle.sa_parser_expr.specs.Forms.{Form, give, refuse, shift, follow, list, make, until, nest, type, expr, unary, power, post, stmts, opens}
use Rattle.sa_parser_expr.specs.Forms.{Reader, following, repeated, run, Nested, Ast}
use Rattle.sa_parser_expr.specs.TypeForms.{type_form}
use Rattle.sa_parser_expr.specs.ExpressionForms.{arg_form, args_form, named_form, call_form, indices_form, inside_form, optional_form, texts_form}
use Rattle.sa_parser_expr.specs.ExpressionForms.{items_or, result_or, class_call_form, optional_type_form, first_form}
use Rattle.sa_parser_expr.proofs.BehindNames.{with_kind}
use Rattle.sa_parser_expr.proofs.Tested.{sign_met, word_met, feature_met, other_sign, other_word}
use Rattle.sa_parser_expr.proofs.Shifts.{Shut, Meets, shifted_met, shifted_shut}
use Rattle.sa_grammar.proofs.Complete.{Reads, reads-give, reads-met, reads-other, reads-first, reads-second, reads-follow, reads-make, reads-kind, reads-known}
use Rattle.sa_grammar.proofs.Complete.{reads-joined, reads-until, reads-list}
use Rattle.sa_grammar.proofs.TypeForms.{EndsType, sign_ends, type_read}
use Rattle.sa_grammar.proofs.ExpressionStarts.{begins_expr, meets_front, expr_starts}
use Rattle.sa_grammar.proofs.ExpressionStarts.{sign_shut, word_shut}
use Rattle.sa_grammar.proofs.ExpressionEnds.{Ends, begins_type, after_type, after_name, after_first, after_post, after_power, after_expr}
use Rattle.sa_grammar.proofs.ExpressionEnds.{ends_left, ends_right, kind_ends, first_ends_name, first_shuts_paren, ends_type, ends_optional_type, expr_ends_type, expr_shuts_colon}
use Rattle.sa_grammar.proofs.StatementEnds.{after_stmts}
use Rattle.sa_grammar.proofs.ExpressionsSound.{Spells, exprs_separated, args_separated}

-- what doesn't continue the productions that nest
abbrev pub EndsOf : Nested → List Lexeme → Type 0
EndsOf type rest = EndsType rest
EndsOf (expr s x) rest = Ends after_expr rest
EndsOf (unary s x) rest = Ends after_power rest
EndsOf (power s x) rest = Ends after_power rest
EndsOf (post s x) rest = Ends after_post rest
EndsOf stmts rest = Ends after_stmts rest

pub comma_ends : (l : Lexeme) (rest : List Lexeme) → IsSign sign.Comma l → Ends after_expr (l ∷ rest)
comma_ends l rest is = kind_ends after_expr l rest is.kind refl

-- arguments, or what comes after them, begin no type, and continue none
args_end_type : {s : ConditionScope} {ls : List Lexeme} {given : List ExprArg} (rest : List Lexeme) → IsArgs s ls given → Ends after_name rest → Ends after_type (ls ++ rest)
args_end_type rest exprs.no_args h = ends_right (is_sign_kind sign.LeftParen) after_type rest h
args_end_type rest (exprs.args {opening = begun} {closing = closed} {ls = ls} entered among closes) h = kind_ends after_type begun ((ls ++ closed ∷ []) ++ rest) entered.kind refl

type_opens : {ls : List Lexeme} {t : Ty} → IsType ls t → Meets (opens type_form) ls
unfolding type_form
type_opens (types.named (class_name e) among) = ap begins_type e
type_opens (types.named (abstract_name e) among) = ap begins_type e
type_opens (types.same is) = ap begins_type is.kind
type_opens (types.rout is first second) = ap begins_type is.kind
type_opens (types.iter is first second) = ap begins_type is.kind

-- after "initial" and "bind"
abbrev initial_form : Lexeme → Form Expr
initial_form w = shift (is_sign sign.LeftParen) (λ _. make (λ e. tree.Call Implied w.bytes (Value In e ∷ []) w.pos) (inside_form Plain)) refuse

abbrev bind_form : ConditionScope → Lexeme → Form Expr
bind_form s w = shift (is_sign sign.LeftParen) (λ _. make (λ e. tree.Bind e w.pos) (until sign.RightParen (nest (post s outside)))) refuse

type_shut : (rest : List Lexeme) → Ends begins_type rest → Shut (opens type_form) rest
unfolding type_form
type_shut rest h = h

module _ (level : ℕ) (nested : (n : Nested) → Reader (Ast n))
    (inside : (n : Nested) (ls : List Lexeme) (t : Ast n) (rest : List Lexeme) → Spells n ls t → length ls < level → EndsOf n rest → nested n (ls ++ rest) ≡ Read t rest) where
  pub nest_read : (n : Nested) (ls : List Lexeme) (t : Ast n) (rest : List Lexeme) → Spells n ls t → length ls < level → EndsOf n rest → Reads level nested (nest n) (ls ++ rest) t rest
  nest_read n ls t rest h small ends = record { is = inside n ls t rest h small ends }

  -- ---- arguments and indexes

  arg_read : (s : ConditionScope) (ls : List Lexeme) (arg : ExprArg) (rest : List Lexeme) → IsArg s ls arg → length ls < level → Ends after_expr rest → Reads level nested (arg_form s) (ls ++ rest) arg rest
  unfolding arg_form
  arg_read s ls _ rest (exprs.in_value {e = e} h) small ends =
      reads-other (sign_shut (begins_expr s) sign.Underscore refl ls rest (expr_starts h))
      (reads-other (word_shut (begins_expr s) word.Out refl ls rest (expr_starts h))
      (reads-other (word_shut (begins_expr s) word.Inout refl ls rest (expr_starts h))
      (reads-make (nest_read (expr s outside) ls e rest h small ends))))
  arg_read s _ _ rest (exprs.out_value {ls = ls} {e = e} is h) small ends =
      reads-other (ap (is_sign_kind sign.Underscore) is.kind) (reads-met (word_met is) (reads-make (nest_read (expr s outside) ls e rest h (omega arith) ends)))
  arg_read s _ _ rest (exprs.inout_value {ls = ls} {e = e} is h) small ends =
      reads-other (ap (is_sign_kind sign.Underscore) is.kind)
      (reads-other (other_word word.Out refl is) (reads-met (word_met is) (reads-make (nest_read (expr s outside) ls e rest h (omega arith) ends))))
  arg_read s _ _ rest (exprs.left is) small ends = reads-met (sign_met is) (reads-other (expr_shuts_colon rest ends) reads-give)
  arg_read s _ _ rest (exprs.left_of_type {ls = ls} {t = t} is colon one) small ends =
      reads-met (sign_met is) (reads-met (sign_met colon) (reads-make (nest_read type ls t rest one (omega arith) (expr_ends_type rest ends))))

  args_read : {s : ConditionScope} {ls : List Lexeme} {given : List ExprArg} (rest : List Lexeme) → IsArgs s ls given → length ls < level → Ends (is_sign_kind sign.LeftParen) rest
      → Reads level nested (args_form s) (ls ++ rest) given rest
  unfolding args_form
  args_read rest exprs.no_args small shut = reads-other shut reads-give
  args_read {s = s} rest (exprs.args {closing = closed} {ls = ls} entered among closes) small shut =
      let sum : length (ls ++ closed ∷ []) ≡ length ls + 1 = length-append ls (closed ∷ []) in
      reads-met (sign_met entered)
      (reads-until ls
      (reads-list level nested (IsArg s) (Ends after_expr) (arg_form s) (arg_read s) comma_ends (closed ∷ rest) (args_separated among) (omega arith)
      (kind_ends after_expr closed rest closes.kind refl) (other_sign sign.Comma refl closes))
      closes)

  named_read : {s : ConditionScope} (on : ExprReceiver) (f : Lexeme) {ls : List Lexeme} {given : List ExprArg} (rest : List Lexeme) → IsArgs s ls given → length ls < level
      → Ends (is_sign_kind sign.LeftParen) rest → Reads level nested (named_form s on f) (ls ++ rest) (tree.Call on f.bytes given f.pos) rest
  unfolding named_form
  named_read on f rest among small shut = reads-make (args_read rest among small shut)

  pub call_read : {s : ConditionScope} {on : ExprReceiver} {ls : List Lexeme} {e : Expr} (rest : List Lexeme) → IsCall s on ls e → length ls < suc level
      → Ends (is_sign_kind sign.LeftParen) rest → Reads level nested (call_form s on) (ls ++ rest) e rest
  unfolding call_form
  call_read {on = on} rest (exprs.named {f = f} is among) small shut = reads-met (feature_met is) (named_read on f rest among (omega arith) shut)

  pub places_read : {s : ConditionScope} {ls : List Lexeme} {es : List Expr} (closed : Lexeme) (rest : List Lexeme) → IsExprs s (enclosure_of outside) ls es → IsSign sign.RightBracket closed
      → length (ls ++ closed ∷ []) < level → Reads level nested (indices_form s) ((ls ++ closed ∷ []) ++ rest) es rest
  unfolding indices_form
  places_read {s = s} {ls = ls} closed rest among closes small =
      let sum : length (ls ++ closed ∷ []) ≡ length ls + 1 = length-append ls (closed ∷ []) in
      reads-until ls
      (reads-list level nested (IsExpr s (enclosure_of outside)) (Ends after_expr) (nest (expr s outside)) (nest_read (expr s outside)) comma_ends
      (closed ∷ rest) (exprs_separated among) (omega arith) (kind_ends after_expr closed rest closes.kind refl) (other_sign sign.Comma refl closes))
      closes

  inside_read : {s : ConditionScope} {ls : List Lexeme} {e : Expr} (closed : Lexeme) (rest : List Lexeme) → IsExpr s (enclosure_of outside) ls e → IsSign sign.RightParen closed
      → length (ls ++ closed ∷ []) < level → Reads level nested (inside_form s) ((ls ++ closed ∷ []) ++ rest) e rest
  unfolding inside_form
  inside_read {s = s} {ls = ls} {e = e} closed rest h closes small =
      let sum : length (ls ++ closed ∷ []) ≡ length ls + 1 = length-append ls (closed ∷ []) in
      reads-until ls (nest_read (expr s outside) ls e (closed ∷ rest) h (omega arith) (kind_ends after_expr closed rest closes.kind refl)) closes

  absent_read : (s : ConditionScope) (absent : Expr) (of : Expr → Expr) (rest : List Lexeme) → Ends (is_sign_kind sign.LeftParen) rest
      → Reads level nested (optional_form s absent of) rest absent rest
  unfolding optional_form
  absent_read s absent of rest shut = reads-other shut reads-give

  optional_read : {s : ConditionScope} (absent : Expr) (of : Expr → Expr) {ls : List Lexeme} {e : Expr} (rest : List Lexeme) → IsParenthesised s ls e → length ls < level
      → Reads level nested (optional_form s absent of) (ls ++ rest) (of e) rest
  unfolding optional_form
  optional_read absent of rest (exprs.in_parentheses {closing = closed} entered h closes) small =
      reads-met (sign_met entered) (reads-make (inside_read closed rest h closes (omega arith)))

  -- ---- what an expression begins with

  implied_read : {s : ConditionScope} (x : Where) {ls : List Lexeme} {e : Expr} (rest : List Lexeme) → IsCall s Implied ls e → length ls < suc level → Ends (is_sign_kind sign.LeftParen) rest
      → Reads level nested (first_form s x) (ls ++ rest) e rest
  unfolding first_form named_form
  implied_read {s = s} x rest (exprs.named {f = f} (lower_name e) among) small shut =
      reads-kind {other = make (λ given. tree.Call Implied f.bytes given f.pos) (args_form s)} e refl (reads-make (args_read rest among (omega arith) shut))
  implied_read {s = s} x rest (exprs.named {f = f} (iter_name e) among) small shut =
      reads-kind {other = make (λ given. tree.Call Implied f.bytes given f.pos) (args_form s)} e refl (reads-make (args_read rest among (omega arith) shut))

  -- {text} after a first one
  abbrev turns : ℕ → List ℕ → Reader (List ℕ)
  turns fuel bytes = repeated fuel is_text (λ bytes l. run level nested (give (bytes ++ text_of l))) bytes

  one_turn : (fuel : ℕ) (before : List ℕ) {bytes : List ℕ} (l : Lexeme) (rest : List Lexeme) → l.kind ≡ token.Text bytes → turns (suc fuel) before (l ∷ rest) ≡ turns fuel (before ++ bytes) rest
  one_turn fuel before l rest e =
      let step = λ (bytes : List ℕ) (l : Lexeme). run level nested (give (bytes ++ text_of l)) in
      shifted_met is_text (λ l more. following (repeated fuel is_text step) (step before l more)) (λ more. Read before more) l rest (ap is_text_kind e)
      ∙ ap (λ kind. turns fuel (before ++ text_of (with_kind kind l)) rest) e

  last_turn : (fuel : ℕ) (bytes : List ℕ) (rest : List Lexeme) → Ends is_text_kind rest → turns (suc fuel) bytes rest ≡ Read bytes rest
  last_turn fuel bytes rest shut =
      let step = λ (bytes : List ℕ) (l : Lexeme). run level nested (give (bytes ++ text_of l)) in
      shifted_shut is_text (λ l more. following (repeated fuel is_text step) (step bytes l more)) (λ more. Read bytes more) rest shut

  all_turns : (fuel : ℕ) (before : List ℕ) {ls : List Lexeme} {bytes : List ℕ} (rest : List Lexeme) → IsTexts ls bytes → length ls < fuel → Ends is_text_kind rest
      → turns fuel before (ls ++ rest) ≡ Read (before ++ bytes) rest
  all_turns zero before rest h small shut = absurd (omega arith)
  all_turns (suc zero) before rest (exprs.last_text e) small shut = absurd (omega arith)
  all_turns (suc (suc fuel)) before rest (exprs.last_text {l = l} {bytes = bytes} e) small shut =
      one_turn (suc fuel) before l rest e ∙ last_turn fuel (before ++ bytes) rest shut
  all_turns (suc fuel) before rest (exprs.more_texts {l = l} {ls = ls} {bytes = bytes} {others = others} e h) small shut =
      one_turn fuel before l (ls ++ rest) e ∙ all_turns fuel (before ++ bytes) rest h (omega arith) shut
      ∙ ap (λ all. Read all rest) (append_assoc before bytes others)

  texts_read : {l : Lexeme} {ls : List Lexeme} {bytes : List ℕ} (s : ConditionScope) (x : Where) (rest : List Lexeme) → IsTexts (l ∷ ls) bytes → length ls < suc level → Ends is_text_kind rest
      → Reads level nested (first_form s x) (l ∷ (ls ++ rest)) (tree.Text bytes l.pos) rest
  unfolding first_form texts_form
  texts_read {l = l} s x rest (exprs.last_text {bytes = bytes} e) small shut =
      reads-kind {other = make (λ all. tree.Text all l.pos) (texts_form bytes)} e refl (reads-make (record { is = last_turn level bytes rest shut }))
  texts_read {l = l} {ls = ls} s x rest (exprs.more_texts {bytes = bytes} e h) small shut =
      reads-kind {other = make (λ all. tree.Text all l.pos) (texts_form bytes)} e refl (reads-make (record { is = all_turns (suc level) bytes rest h small shut }))

  optional_type_read : {ls : List Lexeme} {of : Option Ty} (rest : List Lexeme) → IsOptionalType ls of → length ls < suc level → Ends after_type rest
      → Reads level nested optional_type_form (ls ++ rest) of rest
  unfolding optional_type_form
  optional_type_read rest exprs.no_type small ends = reads-second (type_shut rest (ends_optional_type rest ends)) reads-give
  optional_type_read rest (exprs.of_type {ls = ls} one) small ends =
      reads-first (meets_front (opens type_form) ls rest (type_opens one)) (reads-make (type_read level nested (inside type) rest one small (ends_type rest ends)))

  create_read : {s : ConditionScope} {ls ms : List Lexeme} {of : Option Ty} {given : List ExprArg} (hash : Lexeme) (rest : List Lexeme) → IsOptionalType ls of → IsArgs s ms given
      → length (ls ++ ms) < level → Ends after_name rest
      → Reads level nested (follow optional_type_form (λ of. make (λ given. tree.Create of given hash.pos) (args_form s))) ((ls ++ ms) ++ rest) (tree.Create of given hash.pos) rest
  create_read {ls = ls} {ms = ms} hash rest one among small ends =
      let sum : length (ls ++ ms) ≡ length ls + length ms = length-append ls ms in
      reads-joined ls ms rest
      (reads-follow (optional_type_read (ms ++ rest) one (omega arith) (args_end_type rest among ends))
      (reads-make (args_read rest among (omega arith) (ends_left (is_sign_kind sign.LeftParen) after_type rest ends))))

  class_call_read : {s : ConditionScope} {ls ms : List Lexeme} {t : Ty} {e : Expr} (colons : Lexeme) (rest : List Lexeme) → IsType ls t → IsSign sign.DoubleColon colons → IsCall s (OfClass t) ms e
      → length (ls ++ colons ∷ ms) < suc level → Ends (is_sign_kind sign.LeftParen) rest → Reads level nested (class_call_form s) (ls ++ colons ∷ (ms ++ rest)) e rest
  unfolding class_call_form
  class_call_read {ls = ls} {ms = ms} colons rest one parting called small shut =
      let sum : length (ls ++ colons ∷ ms) ≡ length ls + suc (length ms) = length-append ls (colons ∷ ms) in
      reads-follow (type_read level nested (inside type) (colons ∷ (ms ++ rest)) one (omega arith) (sign_ends sign.DoubleColon refl refl colons (ms ++ rest) parting))
      (reads-met (sign_met parting) (call_read rest called (omega arith) shut))

  -- what is allowed in some contexts alone is skipped where another lexeme is
  passed : (s : ConditionScope) (x : Where) {other : Form Expr} {ls : List Lexeme} {e : Expr} {rest : List Lexeme} → Shut (is_sign sign.Bar) ls → Shut (is_word word.Result) ls
      → Shut (is_word word.Initial) ls → Reads level nested other ls e rest → Reads level nested (items_or s x (result_or s other)) ls e rest
  unfolding items_or result_or
  passed Plain in_array bar result initial r = r
  passed Plain outside bar result initial r = reads-other bar r
  passed PostClause in_array bar result initial r = reads-other result (reads-other initial r)
  passed PostClause outside bar result initial r = reads-other bar (reads-other result (reads-other initial r))

  -- where a type begins
  at_type : (s : ConditionScope) (x : Where) {ls : List Lexeme} {t : Ty} {e : Expr} (more : List Lexeme) {rest : List Lexeme} → IsType ls t → Reads level nested (class_call_form s) (ls ++ more) e rest
      → Reads level nested (first_form s x) (ls ++ more) e rest
  unfolding first_form
  at_type s x more (types.named (class_name e) among) r =
      reads-kind {other = items_or s x (result_or s (class_call_form s))} e refl (passed s x refl refl refl (reads-known e r))
  at_type s x more (types.named (abstract_name e) among) r =
      reads-kind {other = items_or s x (result_or s (class_call_form s))} e refl (passed s x refl refl refl (reads-known e r))
  at_type s x more (types.same is) r =
      reads-kind {other = items_or s x (result_or s (class_call_form s))} is.kind refl (passed s x refl refl refl (reads-known is.kind r))
  at_type s x more (types.rout is first second) r =
      reads-kind {other = items_or s x (result_or s (class_call_form s))} is.kind refl (passed s x refl refl refl (reads-known is.kind r))
  at_type s x more (types.iter is first second) r =
      reads-kind {other = items_or s x (result_or s (class_call_form s))} is.kind refl (passed s x refl refl refl (reads-known is.kind r))

  items_read : (s : ConditionScope) (x : Where) {ls : List Lexeme} {es : List Expr} (begun closed : Lexeme) (rest : List Lexeme) → enclosure_of outside ≡ enclosure_of x
      → IsSign sign.Bar begun → IsExprs s (enclosure_of in_array) ls es → IsSign sign.Bar closed → length (ls ++ closed ∷ []) < level
      → Reads level nested (first_form s x) (begun ∷ ((ls ++ closed ∷ []) ++ rest)) (tree.Items es begun.pos) rest
  unfolding first_form items_or
  items_read s in_array begun closed rest e entered among closes small = absurd (cc)
  items_read s outside {ls = ls} begun closed rest e entered among closes small =
      let sum : length (ls ++ closed ∷ []) ≡ length ls + 1 = length-append ls (closed ∷ []) in
      reads-kind {other = make (λ es. tree.Items es begun.pos) (until sign.Bar (list (nest (expr s in_array))))} entered.kind refl
      (reads-make (reads-until ls
      (reads-list level nested (IsExpr s (enclosure_of in_array)) (Ends after_expr) (nest (expr s in_array)) (nest_read (expr s in_array)) comma_ends
      (closed ∷ rest) (exprs_separated among) (omega arith) (kind_ends after_expr closed rest closes.kind refl) (other_sign sign.Comma refl closes))
      closes))

  result_read : (x : Where) (w : Lexeme) (rest : List Lexeme) → IsWord word.Result w
      → Reads level nested (first_form PostClause x) (w ∷ rest) (tree.Call Implied w.bytes [] w.pos) rest
  unfolding first_form items_or result_or
  result_read outside w rest is = reads-kind {other = give (tree.Call Implied w.bytes [] w.pos)} is.kind refl reads-give
  result_read in_array w rest is = reads-kind {other = give (tree.Call Implied w.bytes [] w.pos)} is.kind refl reads-give

  old_read : {ls : List Lexeme} {e : Expr} (w : Lexeme) (rest : List Lexeme) → IsParenthesised Plain ls e → length ls < level
      → Reads level nested (initial_form w) (ls ++ rest) (tree.Call Implied w.bytes (Value In e ∷ []) w.pos) rest
  old_read w rest (exprs.in_parentheses {closing = closed} entered h closes) small = reads-met (sign_met entered) (reads-make (inside_read closed rest h closes (omega arith)))

  initial_read : (x : Where) {ls : List Lexeme} {e : Expr} (w : Lexeme) (rest : List Lexeme) → IsWord word.Initial w → IsParenthesised Plain ls e → length ls < level
      → Reads level nested (first_form PostClause x) (w ∷ (ls ++ rest)) (tree.Call Implied w.bytes (Value In e ∷ []) w.pos) rest
  unfolding first_form items_or result_or
  initial_read outside w rest is h small = reads-kind {other = initial_form w} is.kind refl (old_read w rest h small)
  initial_read in_array w rest is h small = reads-kind {other = initial_form w} is.kind refl (old_read w rest h small)

  bind_read : {s : ConditionScope} {ls : List Lexeme} {e : Expr} (w begun closed : Lexeme) (rest : List Lexeme) → IsSign sign.LeftParen begun → IsPost s (enclosure_of outside) ls e
      → IsSign sign.RightParen closed → length (ls ++ closed ∷ []) < level
      → Reads level nested (bind_form s w) (begun ∷ ((ls ++ closed ∷ []) ++ rest)) (tree.Bind e w.pos) rest
  bind_read {s = s} {ls = ls} {e = e} w begun closed rest entered h closes small =
      let sum : length (ls ++ closed ∷ []) ≡ length ls + 1 = length-append ls (closed ∷ []) in
      reads-met (sign_met entered) (reads-make (reads-until ls (nest_read (post s outside) ls e (closed ∷ rest) h (omega arith) (kind_ends after_post closed rest closes.kind refl)) closes))

  pub first_read : (s : ConditionScope) (x : Where) (y : Enclosure) → y ≡ enclosure_of x → {ls : List Lexeme} {e : Expr} (rest : List Lexeme) → IsFirst s y ls e → length ls < suc level → Ends after_first rest
      → Reads level nested (first_form s x) (ls ++ rest) e rest
  unfolding first_form
  first_read s x y same rest (exprs.number {l = l} {value = value} e) small ends = reads-kind {other = give (tree.Int value l.pos)} e refl reads-give
  first_read s x y same rest (exprs.character {l = l} {byte = byte} e) small ends = reads-kind {other = give (tree.Char byte l.pos)} e refl reads-give
  first_read s x y same rest (exprs.texts h) small ends = texts_read s x rest h (omega arith) (ends_left is_text_kind after_name rest ends)
  first_read s x y same rest (exprs.true_word {w = w} is) small ends = reads-kind {other = give (tree.Bool true w.pos)} is.kind refl reads-give
  first_read s x y same rest (exprs.false_word {w = w} is) small ends = reads-kind {other = give (tree.Bool false w.pos)} is.kind refl reads-give
  first_read s x y same rest (exprs.self_word {w = w} is) small ends = reads-kind {other = give (tree.SelfRef w.pos)} is.kind refl reads-give
  first_read s x y same rest (exprs.exception_word {w = w} is) small ends = reads-kind {other = give (tree.Exception w.pos)} is.kind refl reads-give
  first_read s x y same rest (exprs.parenthesised (exprs.in_parentheses {closing = closed} entered h closes)) small ends =
      reads-kind entered.kind refl (inside_read closed rest h closes (omega arith))
  first_read s x y same rest (exprs.void_word {w = w} is) small ends =
      reads-kind is.kind refl (absent_read s (tree.Void w.pos) (λ e. tree.IsVoid e w.pos) rest (first_shuts_paren rest ends))
  first_read s x y same rest (exprs.void_of {w = w} is h) small ends =
      reads-kind is.kind refl (optional_read (tree.Void w.pos) (λ e. tree.IsVoid e w.pos) rest h (omega arith))
  first_read s x y same rest (exprs.new_word {w = w} is) small ends =
      reads-kind is.kind refl (absent_read s (tree.New None w.pos) (λ e. tree.New (Some e) w.pos) rest (first_shuts_paren rest ends))
  first_read s x y same rest (exprs.new_of {w = w} is h) small ends =
      reads-kind is.kind refl (optional_read (tree.New None w.pos) (λ e. tree.New (Some e) w.pos) rest h (omega arith))
  first_read s x y same rest (exprs.implied_call h) small ends = implied_read x rest h small (first_shuts_paren rest ends)
  first_read s x y same rest (exprs.class_call {ls = ls} {ms = ms} {colons = colons} one parting called) small ends =
      reads-joined ls (colons ∷ ms) rest (at_type s x (colons ∷ (ms ++ rest)) one (class_call_read colons rest one parting called small (first_shuts_paren rest ends)))
  first_read s x y same rest (exprs.create {hash = hash} is one among) small ends =
      reads-kind is.kind refl (create_read hash rest one among (omega arith) (first_ends_name rest ends))
  first_read s x y same rest (exprs.items {opening = begun} {closing = closed} entered among closes) small ends =
      items_read s x begun closed rest same entered among closes (omega arith)
  first_read s x y same rest (exprs.bind {w = w} {opening = begun} {closing = closed} is entered h closes) small ends =
      reads-kind is.kind refl (bind_read w begun closed rest entered h closes (omega arith))
  first_read s x y same rest (exprs.index_on_self {l = l} (exprs.places {closing = closed} entered among closes)) small ends =
      reads-kind {other = make (λ places. tree.Index None places l.pos) (indices_form s)} entered.kind refl (reads-make (places_read closed rest among closes (omega arith)))
  first_read s x y same rest (exprs.result_word {w = w} is) small ends = result_read x w rest is
  first_read s x y same rest (exprs.initial_of {w = w} is h) small ends = initial_read x w rest is h (omega arith)
