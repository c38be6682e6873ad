-- Types are read exactly, and lists of them.
use Rattle.std.proofs.Common.{ℕ, ◌<◌, List, [], ◌++◌, length, refl}
use Rattle.sa_lexer.specs.declared.sign.Sign.TheVariants as sign
use Rattle.sa_ast.specs.declared.ty.Ty.{Ty}
use Rattle.sa_parser_expr.specs.Lexemes.{Lexeme}
use Rattle.sa_parser_expr.specs.Types.{IsType, IsTypes}
use Rattle.sa_parser_expr.specs.Forms.{list, nest, type}
use Rattle.sa_parser_expr.specs.Grammar.{nested_to}
use Rattle.sa_grammar.specs.Law.{OneType, TypesAreRead, OneListOfTypes, ListsOfTypesAreRead}
use Rattle.sa_grammar.proofs.Sound.{IsSound, sound-list}
use Rattle.sa_grammar.proofs.Complete.{Reads, reads-list}
use Rattle.sa_grammar.proofs.FormsExact.{form_unique, form_exact}
use Rattle.sa_grammar.proofs.TypeForms.{EndsType, sign_ends, separated_types, types_separated}
use Rattle.sa_grammar.proofs.ExpressionsComplete.{nest_read}
use Rattle.sa_grammar.proofs.Nesting.{all_complete, nest_sound, nest_reads}

end_ends : EndsType []
end_ends = record { brace = tt; colon = tt }

list_sound : (n : ℕ) → IsSound n (nested_to n) IsTypes (list (nest type))
list_sound n = sound-list (nest_sound type n) (λ ls ts. separated_types)

list_reads : (n : ℕ) (ls : List Lexeme) (ts : List Ty) → IsTypes ls ts → length ls < n → Reads n (nested_to n) (list (nest type)) (ls ++ []) ts []
list_reads n ls ts all small =
    reads-list n (nested_to n) IsType EndsType (nest type) (nest_read n (nested_to n) (all_complete n) type) (sign_ends sign.Comma refl refl)
    [] (types_separated all) small end_ends tt

pub one_type : OneType
one_type = form_unique IsType (nest type) (nest_sound type) (nest_reads type end_ends)

pub types_are_read : TypesAreRead
types_are_read = form_exact IsType (nest type) (nest_sound type) (nest_reads type end_ends)

pub one_list_of_types : OneListOfTypes
one_list_of_types = form_unique IsTypes (list (nest type)) list_sound list_reads

pub lists_of_types_are_read : ListsOfTypesAreRead
lists_of_types_are_read = form_exact IsTypes (list (nest type)) list_sound list_reads
