use Rattle.std.proofs.Common.{◌≡◌, ◌∙◌, List, [], OnOk, length, slice_index_or, ap, subst, sym, arith}
use Rattle.sa_lexer.proofs.TokenLists.{within}
use Rattle.sa_lexer.specs.declared.token.Token.{Token}
use Rattle.sa_parser_expr.specs.Level.{AreTaken}
use Rattle.sa_parser.specs.Files.{Parses}
use Rattle.sa_read.specs.Front.{file_kind_of}
use Rattle.sa_read.specs.SourceFiles.{at}
use Rattle.sa_read.proofs.FileLemmas.{of_program, parsed_at, text_spelled, text_refused}
use Rattle.sa_read.proofs.FrontLemmas.{of_text, text_at, tokens_at}
use Rattle.sa_read.proofs.front.parse_text.Goals as goal
use Rattle.sa_read.proofs.front.parse_text.Goals.{then-number-eq0, else-number-eq0}

pub parse-requires-clause-within : goal.parse-requires-clause-within
parse-requires-clause-within c =
    let text = c.as_slice-text.ensures ∙ c.index-texts-number.is in
    let tokens = c.as_slice-tokens.ensures ∙ c.index-lists-number.is in
    within _ _ (of_text c.args.texts.now c.args.lists.now c.args.number _ _ _ _ c.requires.tokens c.requires.there text tokens)

pub parse-requires-clause-few : goal.parse-requires-clause-few
parse-requires-clause-few c =
    let tokens = c.as_slice-tokens.ensures ∙ c.index-lists-number.is in
    let same = tokens_at c.args.texts.now c.args.lists.now c.args.number _ _ c.requires.tokens c.requires.there tokens in
    omega (arith, ap length same, c.requires.places)

abbrev the_list : goal.After-parse → List Token
the_list c = slice_index_or c.args.lists.now c.args.number []

text_is : (c : goal.After-parse) → c.as_slice-text.result.now ≡ at c.args.texts.now c.args.number
text_is c = text_at c.args.texts.now c.args.number _ _ c.requires.there (c.as_slice-text.ensures ∙ c.index-texts-number.is)

tokens_are : (c : goal.After-parse) → c.as_slice-tokens.result.now ≡ the_list c
tokens_are c =
    let tokens = c.as_slice-tokens.ensures ∙ c.index-lists-number.is in
    tokens_at c.args.texts.now c.args.lists.now c.args.number _ _ c.requires.tokens c.requires.there tokens

kind_is : (c : goal.After-parse) → c.if-number-eq0.file_kind ≡ file_kind_of c.args.number
kind_is c = elim c.if-number-eq0.branch [
  | then-number-eq0 w ↦ w.file_kind-is ∙ ap file_kind_of (sym w.if-number-eq0.true)
  | else-number-eq0 w ↦ w.file_kind-is ∙ sym (of_program c.args.number w.if-number-eq0.false)
]

parsed : (c : goal.After-parse)
    → Parses c.args.number (at c.args.texts.now c.args.number) (the_list c) (file_kind_of c.args.number) c.args.first c.parse.result
parsed c = parsed_at c.args.number c.args.first _ _ _ _ _ _ c.parse.result (text_is c) (tokens_are c) (kind_is c) c.parse.ensures.exact

pub returns-clause-classes : goal.returns-clause-classes
returns-clause-classes c =
    let of_text = c.requires.tokens.1 c.args.number c.requires.there in
    let taken = subst (λ tokens. OnOk c.parse.result (AreTaken tokens (length tokens))) (tokens_are c) c.parse.ensures.taken in
    text_spelled c.args.texts.now c.args.number c.args.first (the_list c) c.parse.result of_text taken (parsed c)

pub returns-clause-refused : goal.returns-clause-refused
returns-clause-refused c = text_refused c.args.texts.now c.args.number c.args.first (the_list c) c.parse.result (parsed c)
